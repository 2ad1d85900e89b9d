use Rattle.quil_code.proofs.Matrices.{is_matrix_of_square}
use Rattle.quil_code.proofs.matrix.Matrix.new.Goals as goal

pub invariant_of-result : goal.invariant_of-result
invariant_of-result c =
    is_matrix_of_square c.args.arity c.args.root_twos c.args.entries c.requires.few c.requires.light c.requires.small (c.is_unitary.ensures.yes c.if-not-is_unitary.false)
