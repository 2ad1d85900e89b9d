use Rattle.std.proofs.Common.{◌<◌, All, take}
use Rattle.qvm_kernel.proofs.tests.are_below.Given as goal

abbrev pub invariant-loop-qubit : goal.invariant-loop-qubit
invariant-loop-qubit l = All (λ q. q < l.count) (take l.qubit-index l.qubits)
