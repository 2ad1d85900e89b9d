use Rattle.std.proofs.Common.{ℕ, ◌<◌}
use Rattle.quil_code.specs.Squares.{square_gate, AreProducts}
use Rattle.quil_code.proofs.square.are_row_products.Given as goal

abbrev pub invariant-loop-column : goal.invariant-loop-column
invariant-loop-column l = (k : ℕ) → k < l.column → AreProducts (square_gate l.square) l.row k
