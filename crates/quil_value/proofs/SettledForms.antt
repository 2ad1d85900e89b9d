-- What is settled is in its one form, and where nothing is settled no value was exact.
use Rattle.std.proofs.Common.{◌≡◌, refl, sym, ◌∙◌, ap, subst, ℕ, zero, suc, ◌*◌, ◌/◌, ◌<◌, ◌==◌, Bool, ◌&&◌, true, false, Some, None, Result, Ok, Err, if◌then◌else◌, arith}
use Rattle.std.specs.Prelude.{ℤ, pos, nat_abs}
use Rattle.std.specs.Ordering.{int_eq}
use Rattle.std.proofs.lemmas.Int.{unsigned_abs-mul}
use Rattle.std.proofs.Math.Nat.{mul-pos}
use Rattle.qvm_ring.specs.Ring.{Element, is_zero}
use Rattle.qvm_ring.proofs.Bits.{power_positive}
use Rattle.qvm_ring.proofs.Elements.{nought_if_zero}
use Rattle.quil_number.specs.Fraction.{lowest}
use Rattle.quil_number.proofs.Meanings.{lowest_terms}
use Rattle.quil_value.specs.declared.lack.Lack.{Lack}
use Rattle.quil_value.specs.declared.lack.Lack.TheVariants.{NotExact}
use Rattle.quil_value.specs.Exact.{Exact, Ring, Rational, Pi, ImagPi, least, content, divided_by, exponent_of_two, is_rational, is_imaginary, settled_number, settled_angle, settled, denominator}
use Rattle.quil_value.specs.Forms.{IsInLowestTerms, IsRational, IsAngle, IsForm}
use Rattle.quil_value.proofs.Contents.{content_rational}
use Rattle.quil_value.proofs.Leasts.{settles}
use Rattle.quil_value.proofs.Settled.{by_kind}
use Rattle.quil_value.proofs.Identity.{by_exponent}

-- each form has a denominator
pub denominator_positive : (w : Exact) → IsForm w → 0 < denominator w
denominator_positive (Ring z m) h = power_positive m
denominator_positive (Rational x) h = h.form.some
denominator_positive (Pi x) h = h.form.some
denominator_positive (ImagPi x) h = h.form.some

-- a value in its form, or the lack of one
abbrev pub IsSettled : Result Exact Lack → Type 0
IsSettled (Ok w) = IsForm w
IsSettled (Err e) = e ≡ NotExact

pub least_form : (z : Element) (m : ℕ) → IsForm (least z m)
least_form z m = let s = settles z m in subst IsForm (sym s.found) s.form

pub in_lowest_terms : (p : ℤ) (n : ℕ) → 0 < n → IsInLowestTerms (lowest p n)
in_lowest_terms p n some = let h = lowest_terms p n some in record { lowest = h.lowest; some = h.some }

-- the denominator of a rational in lowest terms
lowest_denominator : (z : Element) (n : ℕ) → is_rational z ≡ true → (lowest z.a n).q ≡ n / content z n
unfolding lowest
lowest_denominator z n h =
    let e = nought_if_zero (record { a = pos 0; b = z.b; c = z.c; d = z.d }) h in
    ap (λ (g : ℕ). n / g) (sym (content_rational z n (ap (λ (t : Element). t.b) e) (ap (λ (t : Element). t.c) e) (ap (λ (t : Element). t.d) e)))

rational_form : (z : Element) (n : ℕ) → 0 < n → exponent_of_two (n / content z n) ≡ None → is_rational z ≡ true → IsRational (lowest z.a n)
rational_form z n some h r = record { form = in_lowest_terms z.a n some; other = ap exponent_of_two (lowest_denominator z n r) ∙ h }

number_settled : (z : Element) (n : ℕ) → 0 < n → IsSettled (settled_number z n)
number_settled z n some =
    let w = divided_by (content z n) z in
    elim (exponent_of_two (n / content z n)) as (λ o. exponent_of_two (n / content z n) ≡ o → IsSettled (by_exponent o w (is_rational z) (lowest z.a n))) [
      | Some k ↦ λ h. least_form w (2 * k)
      | None ↦ λ h. elim (is_rational z) as (λ b. is_rational z ≡ b → IsSettled (by_exponent None w b (lowest z.a n))) [
        | true ↦ λ r. rational_form z n some h r
        | false ↦ λ r. refl
      ] refl
    ] refl

-- ---- angles

no_zero : (n : ℕ) → (n == 0) ≡ false → 0 < n
no_zero zero e = absurd (cc e)
no_zero (suc n) e = omega arith

-- a fraction that is not 0 has a numerator that is not 0
lowest_some : (p : ℤ) (n : ℕ) → 0 < n → 0 < nat_abs p → 0 < nat_abs (lowest p n).p
lowest_some p n some h =
    let x = lowest p n in
    let k = lowest_terms p n some in
    let e : nat_abs x.p * n ≡ nat_abs p * x.q = sym (unsigned_abs-mul x.p (pos n)) ∙ ap nat_abs k.equal ∙ unsigned_abs-mul p (pos x.q) in
    let up : 0 < nat_abs p * x.q = mul-pos h k.some in
    factor (nat_abs x.p) n (subst (λ (m : ℕ). 0 < m) (sym e) up)
  where
    factor : (m n : ℕ) → 0 < m * n → 0 < m
    factor zero n h = let z : 0 * n ≡ 0 = omega arith in absurd (omega (arith, z, h))
    factor (suc m) n h = omega arith

angle_form : (p : ℤ) (n : ℕ) → 0 < n → 0 < nat_abs p → IsAngle (lowest p n)
angle_form p n some h = record { form = in_lowest_terms p n some; some = lowest_some p n some h }

real_some : (a b c d : Bool) → (a && b && c && d) ≡ false → (b && c && d) ≡ true → a ≡ false
real_some true b c d e f = absurd (let g : true ≡ false = sym f ∙ e in cc)
real_some false b c d e f = refl

imag_some : (a b c d : Bool) → (a && b && c && d) ≡ false → (a && b && d) ≡ true → c ≡ false
imag_some true true true true e f = e
imag_some true true true false e f = absurd (cc f)
imag_some true true false d e f = refl
imag_some true false c d e f = absurd (cc f)
imag_some false b c d e f = absurd (cc f)

angle_settled : (z : Element) (n : ℕ) → 0 < n → is_zero z ≡ false → IsSettled (settled_angle z n)
angle_settled z n some s =
    elim (is_rational z) as (λ b. is_rational z ≡ b → IsSettled (if b then Ok (Pi (lowest z.a n)) else (if is_imaginary z then Ok (ImagPi (lowest z.c n)) else Err NotExact))) [
      | true ↦ λ r. angle_form z.a n some (no_zero (nat_abs z.a) (real_some (nat_abs z.a == 0) (nat_abs z.b == 0) (nat_abs z.c == 0) (nat_abs z.d == 0) s r))
      | false ↦ λ r. elim (is_imaginary z) as (λ b. is_imaginary z ≡ b → IsSettled (if b then Ok (ImagPi (lowest z.c n)) else Err NotExact)) [
        | true ↦ λ i. angle_form z.c n some (no_zero (nat_abs z.c) (imag_some (nat_abs z.a == 0) (nat_abs z.b == 0) (nat_abs z.c == 0) (nat_abs z.d == 0) s i))
        | false ↦ λ i. refl
      ] refl
    ] refl

other_settled : (z : Element) (n : ℕ) (k : ℤ) → 0 < n → is_zero z ≡ false → IsSettled (by_kind false k (settled_number z n) (settled_angle z n))
other_settled z n k some s =
    elim (int_eq k (pos 0)) as (λ b. IsSettled (if b then settled_number z n else (if int_eq k (pos 1) then settled_angle z n else Err NotExact))) [
      | true ↦ number_settled z n some
      | false ↦ elim (int_eq k (pos 1)) as (λ b. IsSettled (if b then settled_angle z n else Err NotExact)) [
        | true ↦ angle_settled z n some s
        | false ↦ refl
      ]
    ]

-- what is settled is in its form, or isn't exact
pub settled_is : (z : Element) (n : ℕ) (k : ℤ) → 0 < n → IsSettled (settled z n k)
settled_is z n k some = elim (is_zero z) as (λ b. is_zero z ≡ b → IsSettled (by_kind b k (settled_number z n) (settled_angle z n))) [
  | true ↦ λ h. λ (l : 0 < 0). absurd (omega (arith, l))
  | false ↦ λ h. other_settled z n k some h
] refl

pub settled_form : (z : Element) (n : ℕ) (k : ℤ) (w : Exact) → settled z n k ≡ Ok w → 0 < n → IsForm w
settled_form z n k w e some = let h : IsSettled (Ok w) = subst IsSettled e (settled_is z n k some) in h

pub settled_positive : (z : Element) (n : ℕ) (k : ℤ) (w : Exact) → settled z n k ≡ Ok w → 0 < n → 0 < denominator w
settled_positive z n k w e some = denominator_positive w (settled_form z n k w e some)

pub settled_lack : (z : Element) (n : ℕ) (k : ℤ) (l : Lack) → settled z n k ≡ Err l → 0 < n → l ≡ NotExact
settled_lack z n k l e some = let h : IsSettled (Err l) = subst IsSettled e (settled_is z n k some) in h
