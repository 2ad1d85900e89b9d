use Rattle.std.proofs.Common.{ℕ, ◌-◌, ◌^◌, ◌<◌, ◌≤◌}
use Rattle.qvm_ring.proofs.ray.amplitudes.qubits_of.Given as goal

-- every smaller power of 2 is below the count
abbrev pub invariant-loop-qubits : goal.invariant-loop-qubits
invariant-loop-qubits l = (l.qubits ≤ 16) × ((k : ℕ) → k < l.qubits → 2 ^ k < l.count)

abbrev pub decreases-loop-qubits : goal.decreases-loop-qubits
decreases-loop-qubits l = 17 - l.qubits
