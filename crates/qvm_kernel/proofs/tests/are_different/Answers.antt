use Rattle.std.proofs.Common.{refl, rules, ◌≡◌, true}
use Rattle.qvm_kernel.proofs.Qubits.{different_first}
use Rattle.qvm_kernel.proofs.tests.are_different.Goals as goal

pub loop-qubits-preserved : goal.loop-qubits-preserved
loop-qubits-preserved c =
    let other : c.is_other.result ≡ true = search rules in
    λ h. c.loop-qubits.invariant (different_first c.loop-qubits.qubits.now _ _ c.in-len1-up.len_at_least refl (c.is_other.ensures other) h)
