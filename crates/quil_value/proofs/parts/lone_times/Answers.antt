use Rattle.std.proofs.Common.{rules, ◌≡◌, ◌∙◌, ap, true, false, ℤ}
use Rattle.std.specs.Int.{w128}
use Rattle.std.proofs.lemmas.Int.{to_z-of_z}
use Rattle.qvm_ring.specs.Ring.{Element, times}
use Rattle.qvm_ring.specs.Views.{wide_element}
use Rattle.quil_value.specs.Exact.{is_rational}
use Rattle.quil_value.specs.RealNumbers.{real_number, imaginary_number}
use Rattle.quil_value.proofs.LoneProducts.{real_is, imaginary_if}
use Rattle.quil_value.proofs.parts.lone_times.Goals as goal

pub returns-then-is_rational-clause-value : goal.returns-then-is_rational-clause-value
returns-then-is_rational-clause-value c =
    let h : is_rational (wide_element c.args.w) ≡ true = search rules in
    c.scaled.ensures.value
    ∙ ap (λ (p : ℤ). times (real_number p) (wide_element c.args.z)) (to_z-of_z w128 c.args.w.a (search rules))
    ∙ ap (λ (t : Element). times t (wide_element c.args.z)) (real_is (wide_element c.args.w) h)

pub returns-else-is_rational-clause-value : goal.returns-else-is_rational-clause-value
returns-else-is_rational-clause-value c =
    let h : is_rational (wide_element c.args.w) ≡ false = search rules in
    c.turned.ensures.value
    ∙ ap (λ (p : ℤ). times (imaginary_number p) (wide_element c.args.z)) (to_z-of_z w128 c.args.w.c (search rules))
    ∙ ap (λ (t : Element). times t (wide_element c.args.z)) (imaginary_if (wide_element c.args.w) c.requires.lone h)
