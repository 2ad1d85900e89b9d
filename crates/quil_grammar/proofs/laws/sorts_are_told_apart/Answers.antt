use Rattle.quil_grammar.proofs.Sorts.{same_sort}
use Rattle.quil_grammar.proofs.laws.sorts_are_told_apart.Goals as goal

pub returns-clause-same : goal.returns-clause-same
returns-clause-same c = same_sort c.args.a c.args.b
