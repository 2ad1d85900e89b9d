use Rattle.std.proofs.Common.{rules, ◌≡◌, ◌∙◌, ap, subst, ◌*◌, ◌<◌, refl, ℕ, pos, ◌*ℤ◌, neg_ℤ, nat_abs, false}
use Rattle.qvm_ring.specs.Ring.{Element, times}
use Rattle.qvm_ring.specs.Views.{wide_element}
use Rattle.quil_value.specs.Exact.{is_rational}
use Rattle.quil_value.specs.RealNumbers.{imaginary_number}
use Rattle.quil_value.specs.Views.{is_lone}
use Rattle.quil_value.proofs.LoneProducts.{imaginary_inverse, imaginary_lone, imaginary_positive}
use Rattle.quil_value.proofs.value_quotient.inverse.Goals as goal

pub returns-else-is_rational-clause-product : goal.returns-else-is_rational-clause-product
returns-else-is_rational-clause-product c =
    let w = wide_element c.args.x.num in
    let r = c.signed-else-is_rational.result in
    let d = c.unsigned_abs-else-is_rational.result in
    let other : is_rational w ≡ false = search rules in
    let top : wide_element c.imaginary.result ≡ imaginary_number (neg_ℤ r) = search rules in
    let whole : r *ℤ w.c ≡ pos (d * c.args.x.den) = search rules in
    ap (λ (t : Element). times t w) top ∙ imaginary_inverse w.c r w d c.args.x.den c.requires.lone other refl whole

pub returns-else-is_rational-clause-lone : goal.returns-else-is_rational-clause-lone
returns-else-is_rational-clause-lone c =
    let r = neg_ℤ c.signed-else-is_rational.result in
    let top : wide_element c.imaginary.result ≡ imaginary_number r = search rules in
    ap is_lone top ∙ imaginary_lone r

pub returns-else-is_rational-clause-positive : goal.returns-else-is_rational-clause-positive
returns-else-is_rational-clause-positive c =
    let w = wide_element c.args.x.num in
    let other : is_rational w ≡ false = search rules in
    let size : nat_abs w.c ≡ c.unsigned_abs-else-is_rational.result = search rules in
    subst (λ (n : ℕ). 0 < n) size (imaginary_positive w c.requires.lone other)
