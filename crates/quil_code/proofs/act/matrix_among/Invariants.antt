use Rattle.std.proofs.Common.{◌≡◌, length}
use Rattle.quil_code.specs.Acts.{matrix_at}
use Rattle.quil_code.proofs.act.matrix_among.Given as goal

abbrev pub invariant-loop-pieces : goal.invariant-loop-pieces
invariant-loop-pieces l = matrix_at l.pieces l.pattern ≡ matrix_at l.initial.pieces l.pattern

abbrev pub decreases-loop-pieces : goal.decreases-loop-pieces
decreases-loop-pieces l = length l.pieces
