-- Each value is what it is made of.
use Rattle.std.proofs.Common.{◌≡◌, refl, sym, ◌∙◌, ap, subst, ℕ, zero, suc, ◌*◌, ◌/◌, ◌^◌, ◌<◌, ◌==◌, Bool, ◌&&◌, inl, inr, true, false, Option, Some, None, Result, Ok, Err, if◌then◌else◌, arith}
use Rattle.std.specs.Prelude.{ℤ, pos, negsuc, neg_ℤ, nat_abs, int_div}
use Rattle.std.specs.Int.{IsGcd, ◌∣◌}
use Rattle.std.proofs.lemmas.Bool.Decides.{eqb_tells}
use Rattle.std.proofs.Math.Nat.{dvd-mul_right}
use Rattle.std.proofs.lemmas.Nat.Gcd.{dvd-zero, dvd_refl}
use Rattle.qvm_ring.specs.Ring.{Element, nought, whole_number, times, is_zero, is_divisible}
use Rattle.qvm_ring.proofs.Associative.{times_assoc}
use Rattle.qvm_ring.proofs.Bits.{power_positive}
use Rattle.qvm_ring.proofs.Elements.{nought_if_zero, times_nought}
use Rattle.quil_number.specs.declared.fraction.Fraction.{Fraction}
use Rattle.quil_number.specs.Fraction.{lowest}
use Rattle.quil_number.proofs.Divisors.{common_divisor_from}
use Rattle.quil_value.specs.declared.lack.Lack.{Lack}
use Rattle.quil_value.specs.declared.lack.Lack.TheVariants.{NotExact}
use Rattle.quil_value.specs.Exact.{Exact, Ring, Rational, Pi, ImagPi, least, content, divided_by, exponent_of_two, is_rational, settled_number, settled_angle, settled, root_power, numerator, denominator, power_of_pi}
use Rattle.quil_value.specs.Forms.{IsLeast, IsInLowestTerms, IsRational, IsAngle, IsForm}
use Rattle.quil_value.proofs.Contents.{content_positive, content_rational, divided_times, divided_whole}
use Rattle.quil_value.proofs.Leasts.{least_is}
use Rattle.quil_value.proofs.Powers.{last_two, whole_times, cancel_whole, cancel_root_power, root_power_squared, root_power_twice}
use Rattle.quil_value.proofs.Twos.{exponent_is, power_divisor}
use Rattle.quil_value.proofs.Settled.{by_kind}

div_one : (n : ℕ) → n / 1 ≡ n
div_one n = omega arith

over_one : (p : ℤ) → int_div p (pos 1) ≡ p
over_one (pos m) = ap pos (div_one m)
over_one (negsuc m) = ap (λ (k : ℕ). neg_ℤ (pos k)) (div_one (suc m))

same_fraction : (x y : Fraction) → x.p ≡ y.p → x.q ≡ y.q → x ≡ y
same_fraction x y e f i = record { p = e i; q = f i }

abbrev over : Fraction → ℕ → Fraction
over x g = record { p = int_div x.p (pos g); q = x.q / g }

lowest_self : (x : Fraction) → IsInLowestTerms x → lowest x.p x.q ≡ x
unfolding lowest
lowest_self x h = ap (over x) (common_divisor_from (nat_abs x.p) x.q 1 h.lowest) ∙ same_fraction (over x 1) x (over_one x.p) (div_one x.q)

pub not_none : (a : ℕ) → 0 < a → (a == 0) ≡ false
not_none a h = elim (eqb_tells a 0) [
  | inl e ↦ absurd (let f : a ≡ 0 = e.1 in omega (arith, h, f))
  | inr e ↦ e.0
]

abbrev real : ℤ → Element
real p = record { a = p; b = pos 0; c = pos 0; d = pos 0 }

abbrev imaginary : ℤ → Element
imaginary p = record { a = pos 0; b = pos 0; c = p; d = pos 0 }

pi_settles : (x : Fraction) → IsAngle x → settled (real x.p) x.q (pos 1) ≡ Ok (Pi x)
pi_settles x h =
    ap (λ (s : Bool). by_kind (s && true && true && true) (pos 1) (settled_number (real x.p) x.q) (settled_angle (real x.p) x.q)) (not_none (nat_abs x.p) h.some)
    ∙ ap (λ (y : Fraction). Ok (Pi y)) (lowest_self x h.form)

abbrev angle_by : Bool → Fraction → Fraction → Result Exact Lack
angle_by s x y = if true && s && true then Ok (Pi x) else (if true && true && true then Ok (ImagPi y) else Err NotExact)

imag_pi_settles : (x : Fraction) → IsAngle x → settled (imaginary x.p) x.q (pos 1) ≡ Ok (ImagPi x)
imag_pi_settles x h =
    ap (λ (s : Bool). by_kind (true && true && s && true) (pos 1) (settled_number (imaginary x.p) x.q) (settled_angle (imaginary x.p) x.q)) (not_none (nat_abs x.p) h.some)
    ∙ ap (λ (s : Bool). angle_by s (lowest (pos 0) x.q) (lowest x.p x.q)) (not_none (nat_abs x.p) h.some)
    ∙ ap (λ (y : Fraction). Ok (ImagPi y)) (lowest_self x h.form)

abbrev pub by_exponent : Option ℕ → Element → Bool → Fraction → Result Exact Lack
by_exponent o w is_real x = elim o [
  | Some k ↦ Ok (least w (2 * k))
  | None ↦ if is_real then Ok (Rational x) else Err NotExact
]

pub rational_some : (x : Fraction) → IsRational x → (nat_abs x.p == 0) ≡ false
rational_some x h = elim (eqb_tells (nat_abs x.p) 0) [
  | inl e ↦
      let g : IsGcd 0 x.q 1 = subst (λ n. IsGcd n x.q 1) e.1 h.form.lowest in
      let part : x.q ∣ 1 = g.2 x.q (dvd-zero x.q) (dvd_refl x.q) in
      let p = power_divisor 0 x.q part in
      let f : Some p.0 ≡ None = sym (ap exponent_of_two p.1 ∙ exponent_is p.0) ∙ h.other in
      absurd (cc f)
  | inr e ↦ e.0
]

rational_settles : (x : Fraction) → IsRational x → settled (real x.p) x.q (pos 0) ≡ Ok (Rational x)
rational_settles x h =
    let g : content (real x.p) x.q ≡ 1 = content_rational (real x.p) x.q refl refl refl ∙ common_divisor_from (nat_abs x.p) x.q 1 h.form.lowest in
    let o : exponent_of_two (x.q / content (real x.p) x.q) ≡ None = ap (λ (k : ℕ). exponent_of_two (x.q / k)) g ∙ ap exponent_of_two (div_one x.q) ∙ h.other in
    ap (λ (s : Bool). by_kind (s && true && true && true) (pos 0) (settled_number (real x.p) x.q) (settled_angle (real x.p) x.q)) (rational_some x h)
    ∙ ap (λ (t : Option ℕ). by_exponent t (divided_by (content (real x.p) x.q) (real x.p)) true (lowest x.p x.q)) o
    ∙ ap (λ (y : Fraction). Ok (Rational y)) (lowest_self x h.form)

nought_form : (z : Element) (m : ℕ) → IsLeast z m → z ≡ nought → Ring nought 0 ≡ Ring z m
nought_form z zero h e = ap (λ (t : Element). Ring t 0) (sym e)
nought_form z (suc m) h e = absurd (let f : true ≡ false = sym (ap is_divisible e) ∙ h (omega arith) in cc)

number_settles : (z : Element) (m : ℕ) → IsLeast z m → settled_number (times z (root_power m)) (2 ^ m) ≡ Ok (Ring z m)
number_settles z m h =
    let r = root_power m in
    let t = times z r in
    let g = content t (2 ^ m) in
    let w = divided_by g t in
    let whole : 2 ^ m / g * g ≡ 2 ^ m = divided_whole t (2 ^ m) in
    let p = power_divisor m (2 ^ m / g) (subst (λ n. 2 ^ m / g ∣ n) whole (dvd-mul_right (2 ^ m / g) g)) in
    let k = p.0 in
    let up : times (times w r) (whole_number g) ≡ times z (whole_number (2 ^ m)) =
    last_two w r (whole_number g) ∙ ap (λ (s : Element). times s r) (divided_times t (2 ^ m)) ∙ times_assoc z r r ∙ ap (times z) (root_power_squared m) in
    let down : times (times z (root_power (2 * k))) (whole_number g) ≡ times z (whole_number (2 ^ m)) =
    ap (λ (s : Element). times (times z s) (whole_number g)) (root_power_twice k) ∙ times_assoc z (whole_number (2 ^ k)) (whole_number g)
    ∙ ap (times z) (whole_times (2 ^ k) g ∙ ap whole_number (ap (λ (n : ℕ). n * g) (sym p.1) ∙ whole)) in
    ap (λ (o : Option ℕ). by_exponent o w (is_rational t) (lowest t.a (2 ^ m))) (ap exponent_of_two p.1 ∙ exponent_is k)
    ∙ ap Ok (least_is w (2 * k) z m h (cancel_whole (times w r) (times z (root_power (2 * k))) g (content_positive t (2 ^ m) (power_positive m)) (up ∙ sym down)))

ring_settles : (z : Element) (m : ℕ) → IsLeast z m → settled (times z (root_power m)) (2 ^ m) (pos 0) ≡ Ok (Ring z m)
ring_settles z m h =
    let t = times z (root_power m) in
    elim (is_zero t) as (λ b. is_zero t ≡ b → settled t (2 ^ m) (pos 0) ≡ Ok (Ring z m)) [
      | true ↦ λ e.
          ap (λ (b : Bool). by_kind b (pos 0) (settled_number t (2 ^ m)) (settled_angle t (2 ^ m))) e
          ∙ ap Ok (nought_form z m h (cancel_root_power z nought m (nought_if_zero t e ∙ sym (times_nought (root_power m)))))
      | false ↦ λ e.
          ap (λ (b : Bool). by_kind b (pos 0) (settled_number t (2 ^ m)) (settled_angle t (2 ^ m))) e ∙ number_settles z m h
    ] refl

pub settled_self : (x : Exact) → IsForm x → settled (numerator x) (denominator x) (power_of_pi x) ≡ Ok x
settled_self (Ring z m) h = ring_settles z m h
settled_self (Rational x) h = rational_settles x h
settled_self (Pi x) h = pi_settles x h
settled_self (ImagPi x) h = imag_pi_settles x h
