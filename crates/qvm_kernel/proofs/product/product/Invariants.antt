use Rattle.qvm_ring.specs.Gate.{product_at}
use Rattle.qvm_ring.proofs.WideLists.{HasValues}
use Rattle.quil_code.specs.Acts.{act_gate, qubits_of}
use Rattle.qvm_kernel.proofs.product.product.Given as goal

-- the sums so far
abbrev pub invariant-loop-basis : goal.invariant-loop-basis
invariant-loop-basis l = HasValues (product_at (act_gate l.act) (qubits_of l.act) l.ray.amplitudes) l.sums.items l.basis
