use Rattle.std.proofs.Common.{sym, ◌∙◌, subst, ℕ, ◌^◌, ◌<◌, arith}
use Rattle.qvm_ring.proofs.LocalLoops.{with_local_done}
use Rattle.qvm_ring.proofs.LocalStates.{with_local_below}
use Rattle.qvm_ring.proofs.local.with_local.Goals as goal

pub returns-clause-bound : goal.returns-clause-bound
returns-clause-bound c = λ n h l.
    subst (λ (y : ℕ). y < 2 ^ n)
    (sym (c.loop-place.invariant ∙ with_local_done c.args.qubits.now c.args.local c.args.basis c.loop-place.place (omega (arith, c.loop-place-test.false, c.loop-place.auto.place-end))))
    (with_local_below n c.args.qubits.now c.args.local c.args.basis h l)
