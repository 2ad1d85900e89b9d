-- Quotients of ring numbers: t/√2^k is one of z/√2^m by v/√2^n where t·v·√2^m is z·√2^n·√2^k.
use Rattle.std.proofs.Common.{◌≡◌, refl, sym, ◌∙◌, ap, subst, ℕ, ◌+◌, ◌*◌, ◌^◌, false, Ok, Err}
use Rattle.std.specs.Prelude.{pos}
use Rattle.qvm_ring.specs.Ring.{Element, nought, whole_number, times, is_zero}
use Rattle.qvm_ring.proofs.Bits.{power_positive}
use Rattle.qvm_ring.proofs.Elements.{times_nought}
use Rattle.quil_number.specs.declared.fraction.Fraction.{Fraction}
use Rattle.quil_value.specs.declared.lack.Lack.TheVariants.{NotExact}
use Rattle.quil_value.specs.Exact.{Exact, Ring, Rational, Pi, ImagPi, least, root_power, numerator, denominator, power_of_pi, exact_quotient}
use Rattle.quil_value.specs.Forms.{IsForm, IsRational}
use Rattle.quil_value.specs.Views.{IsRingQuotient, HasNone}
use Rattle.quil_value.proofs.Divisions.{IsTimes, IsPower, some_if, times_quotient, no_quotient}
use Rattle.quil_value.proofs.Leasts.{settles}
use Rattle.quil_value.proofs.Powers.{whole_times, root_power_sum, root_power_squared, cancel_root_power}
use Rattle.quil_value.proofs.Reordered.{product_first, dividend_first, power_inside, power_twice, powers_apart, powers_joined, powers_last}
use Rattle.quil_value.proofs.SettledForms.{least_form}

-- the same for any number
abbrev pub IsQuotientOver : Element → ℕ → Element → ℕ → Exact → Type 0
IsQuotientOver z m v n w = times (times (numerator w) v) (root_power m) ≡ times (times (whole_number (denominator w)) z) (root_power n)

-- ---- the quotient by its product

pub cancel_both : (x y : Element) (m n : ℕ) → times x (times (root_power m) (root_power n)) ≡ times y (times (root_power m) (root_power n)) → x ≡ y
cancel_both x y m n e =
    let r = root_power_sum m n in
    cancel_root_power x y (m + n) (ap (times x) (sym r) ∙ e ∙ ap (times y) r)

product_side : (m n : ℕ) (w v : Element) → times (whole_number (2 ^ m)) (times w (times v (root_power n))) ≡ times (times (times w v) (root_power m)) (times (root_power m) (root_power n))
product_side m n w v =
    ap (λ (t : Element). times t (times w (times v (root_power n)))) (sym (root_power_squared m)) ∙ product_first (root_power m) w v (root_power n)

dividend_side : (d m n : ℕ) (z : Element) → times (whole_number (d * 2 ^ n)) (times z (root_power m)) ≡ times (times (times (whole_number d) z) (root_power n)) (times (root_power m) (root_power n))
dividend_side d m n z =
    ap (λ (t : Element). times t (times z (root_power m))) (sym (whole_times d (2 ^ n)) ∙ ap (times (whole_number d)) (sym (root_power_squared n)))
    ∙ dividend_first (whole_number d) (root_power n) z (root_power m)

over_times : (z : Element) (m : ℕ) (v : Element) (n : ℕ) (w : Exact) → IsQuotientOver z m v n w → IsTimes w (Ring v n) (Ring z m)
over_times z m v n w e =
    product_side m n (numerator w) v ∙ ap (λ (t : Element). times t (times (root_power m) (root_power n))) e ∙ sym (dividend_side (denominator w) m n z)

times_over : (z : Element) (m : ℕ) (v : Element) (n : ℕ) (w : Exact) → IsTimes w (Ring v n) (Ring z m) → IsQuotientOver z m v n w
times_over z m v n w e =
    cancel_both (times (times (numerator w) v) (root_power m)) (times (times (whole_number (denominator w)) z) (root_power n)) m n
    (sym (product_side m n (numerator w) v) ∙ e ∙ dividend_side (denominator w) m n z)

-- ---- ring numbers

ring_over : (z : Element) (m : ℕ) (v : Element) (n : ℕ) (w : Element) (j : ℕ) → IsQuotientOver z m v n (Ring w j) → IsRingQuotient z m v n w j
ring_over z m v n w j e =
    let r = root_power j in
    cancel_root_power (times (times w v) (root_power m)) (times (times z (root_power n)) r) j
    (power_inside w v (root_power m) r ∙ e ∙ ap (λ (t : Element). times (times t z) (root_power n)) (sym (root_power_squared j)) ∙ sym (power_twice z (root_power n) r))

same_over : (z : Element) (m : ℕ) (v : Element) (n : ℕ) (t : Element) (k : ℕ) (w : Element) (j : ℕ)
    → times t (root_power j) ≡ times w (root_power k) → IsRingQuotient z m v n t k → IsQuotientOver z m v n (Ring w j)
same_over z m v n t k w j same e =
    let r = root_power j in
    cancel_root_power (times (times (times w r) v) (root_power m)) (times (times (whole_number (2 ^ j)) z) (root_power n)) k
    (powers_apart w r v (root_power m) (root_power k) ∙ ap (λ (s : Element). times (times s r) (times v (root_power m))) (sym same) ∙ powers_joined t r v (root_power m)
    ∙ ap (λ (s : Element). times s (times r r)) e ∙ powers_last z (root_power n) (root_power k) r
    ∙ ap (λ (s : Element). times (times (times s z) (root_power n)) (root_power k)) (root_power_squared j))

least_over : (z : Element) (m : ℕ) (v : Element) (n : ℕ) (t : Element) (k : ℕ) → IsRingQuotient z m v n t k → IsQuotientOver z m v n (least t k)
least_over z m v n t k e = let s = settles t k in subst (IsQuotientOver z m v n) (sym s.found) (same_over z m v n t k s.w s.j s.same e)

-- ---- the quotient

divisor_some : (v : Element) (n : ℕ) → is_zero v ≡ false → is_zero (times v (root_power n)) ≡ false
divisor_some v n h = some_if (times v (root_power n)) v (λ e. cancel_root_power v nought n (e ∙ sym (times_nought (root_power n)))) h

found : (z : Element) (m : ℕ) (v : Element) (n : ℕ) (w : Exact) → is_zero v ≡ false → IsForm w → power_of_pi w ≡ pos 0 → IsQuotientOver z m v n w → exact_quotient (Ring z m) (Ring v n) ≡ Ok w
found z m v n w s f p e = times_quotient (Ring z m) (Ring v n) w (divisor_some v n s) (power_positive m) (power_positive n) f (over_times z m v n w e) (λ o. p)

least_power : (t : Element) (k : ℕ) → power_of_pi (least t k) ≡ pos 0
least_power t k = let s = settles t k in ap power_of_pi s.found

pub ring_found : (z : Element) (m : ℕ) (v : Element) (n : ℕ) (t : Element) (k : ℕ) → is_zero v ≡ false → IsRingQuotient z m v n t k → exact_quotient (Ring z m) (Ring v n) ≡ Ok (least t k)
ring_found z m v n t k s e = found z m v n (least t k) s (least_form t k) (least_power t k) (least_over z m v n t k e)

pub rational_found : (z : Element) (m : ℕ) (v : Element) (n : ℕ) (x : Fraction) → is_zero v ≡ false → IsRational x → IsQuotientOver z m v n (Rational x) → exact_quotient (Ring z m) (Ring v n) ≡ Ok (Rational x)
rational_found z m v n x s f e = found z m v n (Rational x) s f refl e

none_of : (z : Element) (m : ℕ) (v : Element) (n : ℕ) → is_zero z ≡ false → HasNone z m v n
    → ((x : Fraction) → IsRational x → IsQuotientOver z m v n (Rational x) → ⊥)
    → (w : Exact) → IsForm w → IsTimes w (Ring v n) (Ring z m) → IsPower w (Ring v n) (Ring z m) → ⊥
none_of z m v n s none other (Ring w j) f e p = none w j (ring_over z m v n w j (times_over z m v n (Ring w j) e))
none_of z m v n s none other (Rational x) f e p = other x f (times_over z m v n (Rational x) e)
none_of z m v n s none other (Pi x) f e p = let q : pos 1 ≡ pos 0 = p (divisor_some z m s) in absurd (cc q)
none_of z m v n s none other (ImagPi x) f e p = let q : pos 1 ≡ pos 0 = p (divisor_some z m s) in absurd (cc q)

pub none_found : (z : Element) (m : ℕ) (v : Element) (n : ℕ) → is_zero z ≡ false → is_zero v ≡ false → HasNone z m v n
    → ((x : Fraction) → IsRational x → IsQuotientOver z m v n (Rational x) → ⊥) → exact_quotient (Ring z m) (Ring v n) ≡ Err NotExact
none_found z m v n s t none other =
    no_quotient (Ring z m) (Ring v n) (divisor_some v n t) (power_positive m) (power_positive n) (none_of z m v n s none other)
