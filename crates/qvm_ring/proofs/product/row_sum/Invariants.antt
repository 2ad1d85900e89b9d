use Rattle.std.proofs.Common.{◌≡◌, ◌*◌, ◌^◌}
use Rattle.qvm_ring.specs.Gate.{summed}
use Rattle.qvm_ring.specs.Views.{wide_element, elements_of, map_of}
use Rattle.qvm_ring.specs.Multiply.{IsWithin}
use Rattle.qvm_ring.specs.Table.{table_gate}
use Rattle.qvm_ring.proofs.Products.{term}
use Rattle.qvm_ring.proofs.product.row_sum.Given as goal

-- the sum over the columns so far
abbrev pub invariant-loop-column : goal.invariant-loop-column
invariant-loop-column l = (wide_element l.so_far ≡ summed l.column (term (table_gate l.table) (map_of (elements_of l.amplitudes)) l.qubits l.basis)) × IsWithin (l.column * 2 ^ 71) (wide_element l.so_far)
