use Rattle.std.proofs.Common.{◌≢◌, All, take}
use Rattle.qvm_kernel.proofs.tests.is_other.Given as goal

abbrev pub invariant-loop-q : goal.invariant-loop-q
invariant-loop-q l = All (λ q. l.qubit ≢ q) (take l.q-index l.qubits)
