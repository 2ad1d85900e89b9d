use Rattle.std.proofs.Common.{◌≡◌, take}
use Rattle.quil_gate.proofs.acts.listed.Given as goal

abbrev pub invariant-loop-qubit : goal.invariant-loop-qubit
invariant-loop-qubit g l = l.list.items ≡ take l.qubit-index l.qubits
