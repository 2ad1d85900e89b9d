use Rattle.std.proofs.Common.{◌∙◌, sym, ap, subst, ◌^◌, true, false}
use Rattle.qvm_ring.specs.Ring.{Element, times, root_two, unit}
use Rattle.qvm_ring.specs.Views.{wide_element}
use Rattle.qvm_ring.specs.Multiply.{IsWithin}
use Rattle.quil_value.specs.Views.{is_odd}
use Rattle.quil_value.proofs.Stripped.{digits_within, level_divisible, level_odd, level_value, quotient_bound}
use Rattle.quil_value.proofs.odd_multiple.leveled.Goals as goal

pub halved-odd-requires-clause-divisible : goal.halved-odd-requires-clause-divisible
halved-odd-requires-clause-divisible c =
    level_divisible (wide_element c.args.y) (wide_element c.digit_product.result) c.digit_product.ensures.value (sym c.is_odd.ensures ∙ c.if-is_odd.false)

pub returns-else-is_odd-clause-value : goal.returns-else-is_odd-clause-value
returns-else-is_odd-clause-value c =
    let even = sym c.is_odd.ensures ∙ c.if-is_odd.false in
    let divisible = level_divisible (wide_element c.args.y) (wide_element c.digit_product.result) c.digit_product.ensures.value even in
    level_value (wide_element c.args.y) (wide_element c.digit_product.result) c.digit_product.ensures.value divisible
    ∙ ap (λ (t : Element). times t (times root_two unit)) (sym c.halved-odd.ensures.value)

pub returns-else-is_odd-clause-odd : goal.returns-else-is_odd-clause-odd
returns-else-is_odd-clause-odd c =
    ap is_odd c.halved-odd.ensures.value
    ∙ level_odd (wide_element c.args.y) (wide_element c.digit_product.result) c.digit_product.ensures.value (sym c.is_odd.ensures ∙ c.if-is_odd.false) c.requires.least

pub returns-else-is_odd-clause-bound : goal.returns-else-is_odd-clause-bound
returns-else-is_odd-clause-bound c =
    let even = sym c.is_odd.ensures ∙ c.if-is_odd.false in
    let divisible = level_divisible (wide_element c.args.y) (wide_element c.digit_product.result) c.digit_product.ensures.value even in
    subst (IsWithin (2 ^ 64)) (sym c.halved-odd.ensures.value)
    (quotient_bound (2 ^ 64) (wide_element c.digit_product.result) divisible
    (subst (IsWithin (2 ^ 64)) (sym c.digit_product.ensures.value) (digits_within (2 ^ 62) (record { a = true; b = true; c = false; d = false }) (wide_element c.args.y) c.requires.bound)))
