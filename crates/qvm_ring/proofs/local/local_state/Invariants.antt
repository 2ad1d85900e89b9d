use Rattle.std.proofs.Common.{◌≡◌, ◌<◌, ◌^◌}
use Rattle.qvm_ring.specs.Gate.{local_state}
use Rattle.qvm_ring.proofs.LocalLoops.{read_so_far}
use Rattle.qvm_ring.proofs.local.local_state.Given as goal

-- what has been read, above the bits to come, is the whole; and it has as many bits as qubits were read
abbrev pub invariant-loop-qubit : goal.invariant-loop-qubit
invariant-loop-qubit l = (read_so_far l.qubits l.basis l.qubit-index l.state ≡ local_state l.qubits l.basis) × (l.state < 2 ^ l.qubit-index)
