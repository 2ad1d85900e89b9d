use Rattle.std.proofs.Common.{◌≡◌, ◌*◌, ◌^◌}
use Rattle.qvm_ring.specs.Gate.{summed}
use Rattle.qvm_ring.specs.Views.{wide_element}
use Rattle.qvm_ring.specs.Multiply.{IsWithin}
use Rattle.quil_code.specs.Squares.{square_gate}
use Rattle.quil_code.proofs.Squares.{column_part}
use Rattle.quil_code.proofs.square.column_product.Given as goal

-- the sum so far
abbrev pub invariant-loop-place : goal.invariant-loop-place
invariant-loop-place l = (wide_element l.so_far ≡ summed l.place (column_part (square_gate l.square) l.row l.column)) × IsWithin (l.place * 2 ^ 44) (wide_element l.so_far)
