use Rattle.quil_code.proofs.Matrices.{told_entry, told_within}
use Rattle.quil_code.proofs.matrix.Matrix.entry.Goals as goal

pub returns-clause-value : goal.returns-clause-value
returns-clause-value c =
    told_entry c.self.inside.entries c.self.inside.arity c.self.inside.root_twos c.args.row c.args.column c.place_of.result c.args.self.now c.self.view_is c.place_of.ensures.value

pub returns-clause-bound : goal.returns-clause-bound
returns-clause-bound c =
    told_within c.self.inside.entries c.self.inside.arity c.self.inside.root_twos c.args.row c.args.column c.place_of.result c.args.self.now c.self.view_is c.place_of.ensures.value
    c.self.invariant c.requires.row c.requires.column
