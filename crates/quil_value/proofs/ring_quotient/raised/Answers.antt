use Rattle.std.proofs.Common.{◌≡◌, ◌∙◌, sym, ap, ℕ, ◌^◌, true, false, arith}
use Rattle.qvm_ring.specs.Ring.{times}
use Rattle.qvm_ring.specs.Views.{wide_element}
use Rattle.quil_value.specs.Exact.{root_power}
use Rattle.quil_value.proofs.QuotientBounds.{raised_first, raised_next, raised_none}
use Rattle.quil_value.proofs.ring_quotient.raised.Goals as goal

pub loop-turn-init : goal.loop-turn-init
loop-turn-init c = raised_first (wide_element c.args.z) c.requires

pub rooted-number-requires : goal.rooted-number-requires
rooted-number-requires c = c.loop-turn.invariant.bound

pub returns-then-not-is_all_near-clause-none : goal.returns-then-not-is_all_near-clause-none
returns-then-not-is_all_near-clause-none c = λ e.
    raised_none (wide_element c.args.z) (wide_element c.loop-turn.number) (wide_element c.rooted-number.result) c.loop-turn._turn c.args.k c.rooted-number.ensures.value
    (λ h. let f : true ≡ false = sym (c.is_all_near.ensures.1 h) ∙ c.if-not-is_all_near.true in absurd (cc f)) c.loop-turn-test.true c.loop-turn.invariant

pub loop-turn-preserved : goal.loop-turn-preserved
loop-turn-preserved c =
    raised_next (wide_element c.args.z) (wide_element c.loop-turn.number) (wide_element c.rooted-number.result) c.loop-turn._turn c.rooted-number.ensures.value
    (c.is_all_near.ensures.0 c.if-not-is_all_near.false) c.loop-turn.invariant

pub returns-clause-value : goal.returns-clause-value
returns-clause-value c =
    let e : c.loop-turn._turn ≡ c.args.k = omega (arith, c.loop-turn-test.false, c.loop-turn.auto._turn-end) in
    c.loop-turn.invariant.value ∙ ap (λ (n : ℕ). times (wide_element c.args.z) (root_power n)) e

pub returns-clause-bound : goal.returns-clause-bound
returns-clause-bound c = c.loop-turn.invariant.bound
