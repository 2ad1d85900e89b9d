use Rattle.qvm_ring.specs.Gate.{product_at}
use Rattle.qvm_ring.specs.Views.{elements_of, map_of}
use Rattle.qvm_ring.specs.Table.{table_gate}
use Rattle.qvm_ring.proofs.WideLists.{HasValues}
use Rattle.qvm_ring.proofs.product.product.Given as goal

-- the sums so far
abbrev pub invariant-loop-basis : goal.invariant-loop-basis
invariant-loop-basis l = HasValues (product_at (table_gate l.table) l.qubits (map_of (elements_of l.amplitudes))) l.sums.items l.basis
