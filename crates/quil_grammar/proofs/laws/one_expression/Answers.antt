use Rattle.quil_grammar.proofs.Only.{one_expression, one_fault, not_both}
use Rattle.quil_grammar.proofs.laws.one_expression.Goals as goal

pub returns-clause-expression : goal.returns-clause-expression
returns-clause-expression c = one_expression

pub returns-clause-fault : goal.returns-clause-fault
returns-clause-fault c = one_fault

pub returns-clause-not_both : goal.returns-clause-not_both
returns-clause-not_both c = not_both
