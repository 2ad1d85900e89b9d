use Rattle.quil_grammar.proofs.Only.{some_answer}
use Rattle.quil_grammar.proofs.laws.expression_or_fault.Goals as goal

pub returns : goal.returns
returns c = some_answer
