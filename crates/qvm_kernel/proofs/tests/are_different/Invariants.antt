use Rattle.std.proofs.Common.{length}
use Rattle.qvm_ring.proofs.LocalStates.{AreDifferent}
use Rattle.qvm_kernel.proofs.tests.are_different.Given as goal

-- what is left is different only where all is
abbrev pub invariant-loop-qubits : goal.invariant-loop-qubits
invariant-loop-qubits l = AreDifferent l.qubits → AreDifferent l.fn.qubits

abbrev pub decreases-loop-qubits : goal.decreases-loop-qubits
decreases-loop-qubits l = length l.qubits
