use Rattle.std.proofs.Common.{rules, ◌≡◌, ◌∙◌, ap, subst, ℕ, suc, ◌-◌}
use mathlib.Core.Logic.{∥∥₁_map}
use Rattle.qvm_ring.specs.Ring.{Element, plus}
use Rattle.qvm_ring.specs.Views.{wide_element}
use Rattle.quil_value.specs.Views.{digits_of}
use Rattle.quil_value.specs.Division.{double, product_with, IsSpanned}
use Rattle.quil_value.proofs.Turns.{quotient_fixed}
use Rattle.quil_value.proofs.Steps.{nothing_up, nothing_last, far_up, appended_answer, same_if, other_if}
use Rattle.quil_value.proofs.low_end.+quotient.Goals as goal

pub returns-then-eq : goal.returns-then-eq
returns-then-eq t c = (
  quotient_fixed (wide_element c.args.x) (digits_of c.turned-turn.result.digits) (wide_element c.args.w) (wide_element c.all_below.result)
      (c.turned-turn.ensures.value ∙ ap (λ (y : Element). plus (product_with (digits_of c.turned-turn.result.digits) (wide_element c.args.w)) (double y)) (same_if (wide_element c.turned-turn.result.rest) (wide_element c.args.x) c.if-eq.ensures))
      c.all_below.ensures.value,
  c.all_below.ensures.bound,
)

pub returns-then-turns-eq0 : goal.returns-then-turns-eq0
returns-then-turns-eq0 t c = λ z s q.
    nothing_last c.turned-turn.result.digits (wide_element c.args.x) (wide_element c.args.w) (wide_element c.turned-turn.result.rest) c.turned-turn.ensures.value
    (other_if (wide_element c.turned-turn.result.rest) (wide_element c.args.x) c.if-eq.ensures)
    z (subst (λ (n : ℕ). IsSpanned n z) (let e : c.args.turns ≡ 0 = search rules in e) s) q

pub returns-in-Exact : goal.returns-in-Exact
returns-in-Exact t c =
    appended_answer c.turned-turn.result.digits (wide_element c.args.x) (wide_element c.args.w) (wide_element c.turned-turn.result.rest) (wide_element c.in-Exact.z) c.args.turns c.appended.result
    c.turned-turn.ensures.value c.in-Exact.ensures.0 c.appended.ensures

pub returns-in-TooWide : goal.returns-in-TooWide
returns-in-TooWide t c =
    ∥∥₁_map c.in-TooWide.ensures (λ f. far_up c.turned-turn.result.digits (wide_element c.args.x) (wide_element c.args.w) (wide_element c.turned-turn.result.rest) c.turned-turn.ensures.value f)

pub returns-in-Nothing : goal.returns-in-Nothing
returns-in-Nothing t c = λ z s q.
    nothing_up c.turned-turn.result.digits (wide_element c.args.x) (wide_element c.args.w) (wide_element c.turned-turn.result.rest) (c.args.turns - 1) c.turned-turn.ensures.value
    c.in-Nothing.ensures
    z (subst (λ (n : ℕ). IsSpanned n z) (let e : c.args.turns ≡ suc (c.args.turns - 1) = search rules in e) s) q
