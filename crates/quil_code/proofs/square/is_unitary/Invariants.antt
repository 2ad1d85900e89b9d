use Rattle.std.proofs.Common.{ℕ, ◌<◌}
use Rattle.quil_code.specs.Squares.{square_gate, AreRowProducts}
use Rattle.quil_code.proofs.square.is_unitary.Given as goal

abbrev pub invariant-loop-row : goal.invariant-loop-row
invariant-loop-row l = (k : ℕ) → k < l.row → AreRowProducts (square_gate l.square) k
