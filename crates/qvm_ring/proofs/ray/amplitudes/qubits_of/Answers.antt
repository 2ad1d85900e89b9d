use Rattle.std.proofs.Common.{subst, ℕ, ◌<◌, ◌≤◌, arith}
use Rattle.std.proofs.lemmas.Nat.{one_shl}
use Rattle.qvm_ring.proofs.Powers.{first_power}
use Rattle.qvm_ring.proofs.ray.amplitudes.qubits_of.Goals as goal

pub returns-clause-exact : goal.returns-clause-exact
returns-clause-exact c =
    let few : c.loop-qubits.qubits < 64 = omega (arith, c.loop-qubits.invariant.0) in
    first_power _ _ c.requires.0 c.requires.2 c.loop-qubits.invariant.1
    (subst (λ (n : ℕ). c.args.count ≤ n) (one_shl c.loop-qubits.qubits 64 few) c.loop-qubits-test.false)
