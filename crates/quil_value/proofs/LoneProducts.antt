-- Products with a rational, and with a rational times i.
use Rattle.std.proofs.Common.{◌≡◌, refl, sym, ◌∙◌, ap, ℕ, suc, ◌*◌, ◌^◌, ◌<◌, ◌≤◌, ◌==◌, inl, inr, eq-eqb, Bool, true, false, ◌&&◌, ◌||◌, ℤ, pos, negsuc, ◌<ℤ◌, nat_abs, neg_ℤ, ◌+ℤ◌, ◌*ℤ◌, to_z, of_z, arith}
use Rattle.std.specs.Int.{w128}
use Rattle.std.proofs.lemmas.Int.{ints, to_z-of_z, fits_signed_mul, unsigned_abs-mul}
use Rattle.std.proofs.lemmas.Bool.{cases_lt}
use Rattle.std.proofs.Math.Nat.{mul-le-mul, mul_comm}
use Rattle.std.proofs.Math.IntN.{neg_ℤ-neg_ℤ}
use borrow.Author.Differences.{same_in}
use mir.Val.{SFits}
use Rattle.qvm_ring.specs.Ring.{Element, times, whole_number}
use Rattle.qvm_ring.proofs.RingLemmas.{same_element, neg_product, product_neg}
use Rattle.qvm_ring.proofs.Elements.{nought_if_zero}
use Rattle.quil_value.specs.Exact.{is_rational, is_imaginary}
use Rattle.quil_value.specs.RealNumbers.{real_number, imaginary_number}
use Rattle.quil_value.specs.Views.{is_lone}

pub product_value : (x y : ℤ) → SFits w128 x → SFits w128 y → nat_abs x ≤ 2 ^ 63 → nat_abs y ≤ 2 ^ 63 → to_z w128 (of_z w128 (to_z w128 (of_z w128 x) *ℤ to_z w128 (of_z w128 y))) ≡ x *ℤ y
product_value x y f g h k = rw (to_z-of_z w128 x f, to_z-of_z w128 y g) (to_z-of_z w128 (x *ℤ y) (fits_signed_mul w128 x y (2 ^ 63) (2 ^ 63) h k (omega arith)))

pub product_bound : (x y : ℤ) → nat_abs y ≤ 2 ^ 63 → nat_abs (x *ℤ y) ≤ 2 ^ 63 * nat_abs x
product_bound x y k =
    let l : nat_abs x * nat_abs y ≤ nat_abs x * 2 ^ 63 = mul-le-mul (let r : nat_abs x ≤ nat_abs x = omega arith in r) k in
    omega (arith, unsigned_abs-mul x y, l)

pub real_times : (p : ℤ) (z : Element) → times (real_number p) z ≡ record { a = p *ℤ z.a; b = p *ℤ z.b; c = p *ℤ z.c; d = p *ℤ z.d }
real_times p z = same_element _ _ (same_in _ _ (omega (arith, ints))) (same_in _ _ (omega (arith, ints))) (same_in _ _ (omega (arith, ints))) (same_in _ _ (omega (arith, ints)))

pub imaginary_times : (p : ℤ) (z : Element) → times (imaginary_number p) z ≡ record { a = neg_ℤ (p *ℤ z.c); b = neg_ℤ (p *ℤ z.d); c = p *ℤ z.a; d = p *ℤ z.b }
imaginary_times p z = same_element _ _ (same_in _ _ (omega (arith, ints))) (same_in _ _ (omega (arith, ints))) (same_in _ _ (omega (arith, ints))) (same_in _ _ (omega (arith, ints)))

-- z i from the coordinates of z
pub turned_is : (p : ℤ) (z w : Element) → w ≡ times (real_number p) z → record { a = neg_ℤ w.c; b = neg_ℤ w.d; c = w.a; d = w.b } ≡ times (imaginary_number p) z
turned_is p z w e =
    ap (λ (t : Element). let r : Element = record { a = neg_ℤ t.c; b = neg_ℤ t.d; c = t.a; d = t.b } in r) (e ∙ real_times p z) ∙ sym (imaginary_times p z)

pub real_is : (w : Element) → is_rational w ≡ true → real_number w.a ≡ w
real_is w h =
    let e = nought_if_zero (record { a = pos 0; b = w.b; c = w.c; d = w.d }) h in
    sym (same_element w (real_number w.a) refl (ap (λ (t : Element). t.b) e) (ap (λ (t : Element). t.c) e) (ap (λ (t : Element). t.d) e))

pub imaginary_is : (w : Element) → is_imaginary w ≡ true → imaginary_number w.c ≡ w
imaginary_is w h =
    let e = nought_if_zero (record { a = pos 0; b = w.a; c = w.b; d = w.d }) h in
    sym (same_element w (imaginary_number w.c) (ap (λ (t : Element). t.b) e) (ap (λ (t : Element). t.c) e) refl (ap (λ (t : Element). t.d) e))

or_left : (s t : Bool) → (s || t) ≡ true → s ≡ false → t ≡ true
or_left true t h e = absurd (cc e)
or_left false t h e = h

pub imaginary_if : (w : Element) → is_lone w ≡ true → is_rational w ≡ false → imaginary_number w.c ≡ w
imaginary_if w h e = imaginary_is w (or_left (is_rational w) (is_imaginary w) h e)

-- ---- inverses

-- n with the sign of p, times p
pub sign_positive : (n : ℕ) (p : ℤ) → (p <ℤ pos 0 → ⊥) → pos n *ℤ p ≡ pos (nat_abs p * n)
sign_positive n (pos m) h = ap (λ (k : ℕ). pos k) (mul_comm n m)
sign_positive n (negsuc m) h = absurd (h (omega (arith, ints)))

pub sign_negative : (n : ℕ) (p : ℤ) → p <ℤ pos 0 → neg_ℤ (pos n) *ℤ p ≡ pos (nat_abs p * n)
sign_negative n (pos m) h = absurd (omega (arith, ints, h))
sign_negative n (negsuc m) h =
    neg_product (pos n) (negsuc m) ∙ ap neg_ℤ (product_neg (pos n) (pos (suc m))) ∙ neg_ℤ-neg_ℤ (pos (n * suc m)) ∙ ap (λ (k : ℕ). pos k) (mul_comm n (suc m))

none_times : (p : ℤ) → p *ℤ pos 0 ≡ pos 0
none_times p = same_in _ _ (omega (arith, ints))

pub real_inverse : (p r : ℤ) (w : Element) (m n : ℕ) → is_rational w ≡ true → w.a ≡ p → r *ℤ p ≡ pos (m * n) → times (real_number r) w ≡ whole_number (m * n)
real_inverse p r w m n h f e =
    ap (times (real_number r)) (sym (real_is w h)) ∙ real_times r (real_number w.a)
    ∙ same_element _ (whole_number (m * n)) (ap (λ (t : ℤ). r *ℤ t) f ∙ e) (none_times r) (none_times r) (none_times r)

pub imaginary_inverse : (p r : ℤ) (w : Element) (m n : ℕ) → is_lone w ≡ true → is_rational w ≡ false → w.c ≡ p → r *ℤ p ≡ pos (m * n) → times (imaginary_number (neg_ℤ r)) w ≡ whole_number (m * n)
imaginary_inverse p r w m n l h f e =
    ap (times (imaginary_number (neg_ℤ r))) (sym (imaginary_if w l h)) ∙ imaginary_times (neg_ℤ r) (imaginary_number w.c)
    ∙ same_element _ (whole_number (m * n)) (ap (λ (t : ℤ). neg_ℤ (neg_ℤ r *ℤ t)) f ∙ ap neg_ℤ (neg_product r p) ∙ neg_ℤ-neg_ℤ (r *ℤ p) ∙ e)
    (ap neg_ℤ (none_times (neg_ℤ r))) (none_times (neg_ℤ r)) (none_times (neg_ℤ r))

pub imaginary_lone : (p : ℤ) → is_lone (imaginary_number p) ≡ true
imaginary_lone p = either (is_rational (imaginary_number p))
  where
    either : (s : Bool) → (s || true) ≡ true
    either true = refl
    either false = refl

pub imaginary_positive : (w : Element) → is_lone w ≡ true → is_rational w ≡ false → 0 < nat_abs w.c
imaginary_positive w l h = elim (cases_lt 0 (nat_abs w.c)) [
  | inl some ↦ some
  | inr none ↦
      let z : nat_abs w.c ≡ 0 = omega (arith, none) in
      let r : is_rational w ≡ true = ap is_rational (sym (imaginary_if w l h)) ∙ ap (λ (s : Bool). true && s && true) (eq-eqb (nat_abs w.c) 0 z) in
      absurd (let g : true ≡ false = sym r ∙ h in cc g)
]
