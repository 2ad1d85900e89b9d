use Rattle.std.proofs.Common.{◌≡◌, sym, ◌∙◌, subst, ◌-◌, arith}
use Rattle.std.specs.Option.{IfSome}
use Rattle.qvm_ring.specs.Ring.{Element}
use Rattle.qvm_ring.specs.Views.{element_of, wide_element}
use Rattle.quil_gate.proofs.Numbers.{raised_first, raised_next, raised_last, raised_great, within_if_small, great_unless_small}
use Rattle.quil_gate.proofs.numerators.raised.Goals as goal

pub loop-turn-init : goal.loop-turn-init
loop-turn-init c = raised_first (c.args.m - c.args.entry.m) (wide_element c.args.entry.num)

pub returns-then-not-is_moderate-clause-none : goal.returns-then-not-is_moderate-clause-none
returns-then-not-is_moderate-clause-none c = λ e.
    raised_great (c.args.m - c.args.entry.m) c.loop-turn._turn (wide_element c.loop-turn.number) _
    (great_unless_small (wide_element c.loop-turn.number) (sym c.is_moderate.ensures ∙ c.if-not-is_moderate.true)) c.loop-turn.invariant

pub rooted-number-requires : goal.rooted-number-requires
rooted-number-requires c = within_if_small (wide_element c.loop-turn.number) (sym c.is_moderate.ensures ∙ c.if-not-is_moderate.false)

pub loop-turn-preserved : goal.loop-turn-preserved
loop-turn-preserved c =
    raised_next (c.args.m - c.args.entry.m) c.loop-turn._turn (wide_element c.loop-turn.number) (wide_element c.rooted-number.result) _
    (omega (arith, c.loop-turn-test.true, c.saturating_sub-turn-end.ensures)) c.rooted-number.ensures c.loop-turn.invariant

pub returns-clause-some : goal.returns-clause-some
returns-clause-some c =
    subst (λ (x : Element). IfSome c.narrow.result (λ w. element_of w ≡ x))
    (raised_last (c.args.m - c.args.entry.m) c.loop-turn._turn (wide_element c.loop-turn.number) _ (omega (arith, c.loop-turn-test.false, c.saturating_sub-turn-end.ensures)) c.loop-turn.invariant)
    c.narrow.ensures.some

pub returns-clause-none : goal.returns-clause-none
returns-clause-none c = λ e.
    raised_great (c.args.m - c.args.entry.m) c.loop-turn._turn (wide_element c.loop-turn.number) _ (c.narrow.ensures.none e) c.loop-turn.invariant
