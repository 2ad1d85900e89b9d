-- Decimal literals with a number that is too wide.
use Rattle.std.proofs.Common.{◌≡◌, refl, sym, ◌∙◌, ap, ap₂, subst, ℕ, zero, suc, ◌*◌, ◌/◌, ◌%◌, ◌^◌, ◌<◌, ◌≤◌, ◌==◌, ◌⊎◌, inl, inr, Bool, true, false, ◌&&◌, if◌then◌else◌, Option, Some, None, Result, Ok, Err, arith}
use Rattle.std.specs.Prelude.{ℤ, pos, negsuc, neg_ℤ, nat_abs, nat_le, int_div, List, ◌-ℤ◌, ◌++◌, length, is_some}
use Rattle.std.specs.Int.{IsGcd, ◌∣◌}
use Rattle.std.proofs.lemmas.Bool.{cases_lt}
use Rattle.std.proofs.lemmas.Nat.Gcd.{dvd-zero, dvd_refl}
use Rattle.std.proofs.Math.Nat.{eq-one_of_dvd-one, pow-le-pow_right}
use Rattle.std.proofs.lemmas.Bool.Decides.{nat_tests}
use Rattle.qvm_ring.specs.Ring.{Element, nought, is_zero, is_divisible, quotient}
use Rattle.quil_number.specs.declared.fraction.Fraction.{Fraction}
use Rattle.quil_number.specs.declared.fraction.TooWide.{TooWide}
use Rattle.quil_number.specs.declared.fraction.TooWide.TheVariants.{Numerator, Denominator}
use Rattle.quil_number.specs.Decimal.{decimal_value, has_binary_end, scaled, number, digits, behind_digits, fraction_digits, behind_fraction, exponent}
use Rattle.quil_number.specs.Fraction.{lowest, within}
use Rattle.quil_number.proofs.Meanings.{lowest_terms}
use Rattle.quil_number.proofs.Values.{ten_some}
use Rattle.quil_number.specs.Divisor.{common_divisor}
use Rattle.quil_number.proofs.Divisors.{common_divisor_from}
use Rattle.quil_value.specs.declared.lack.Lack.{Lack}
use Rattle.quil_value.specs.declared.lack.Lack.TheVariants.{NotExact, NumberTooWide}
use Rattle.quil_value.specs.Exact.{Exact, Ring, Rational, least, content, divided_by, exponent_of_two, is_rational, settled_number, settled_angle, settled, is_near, is_within, bounded}
use Rattle.quil_value.specs.Forms.{IsInLowestTerms}
use Rattle.quil_value.specs.Literals.{imaginary_literal}
use Rattle.quil_value.specs.RealNumbers.{real_number, imaginary_number}
use Rattle.quil_value.proofs.Decimals.{form_of, number_settled, odd_numerator, over_one, int_over_one}
use Rattle.quil_value.proofs.Settled.{by_kind}
use Rattle.quil_value.proofs.Identity.{by_exponent}
use Rattle.quil_value.proofs.Twos.{exponent_found}

-- ---- the value of a literal is in lowest terms

scaled_lowest : (m : ℕ) (e : ℤ) → IsInLowestTerms (scaled m e)
scaled_lowest m (pos e) = let h = lowest_terms (pos (m * 10 ^ e)) 1 (omega arith) in record { lowest = h.lowest; some = h.some }
scaled_lowest m (negsuc e) = let h = lowest_terms (pos m) (10 ^ suc e) (ten_some (suc e)) in record { lowest = h.lowest; some = h.some }

pub decimal_lowest : (text : List ℕ) → IsInLowestTerms (decimal_value text)
unfolding decimal_value
decimal_lowest text =
    let rest = behind_digits text in
    let places = fraction_digits rest in
    scaled_lowest (number (digits text ++ places)) (exponent (behind_fraction rest) -ℤ pos (length places))

-- ---- what its verdict says

abbrev judged : Bool → Bool → Fraction → Result Fraction TooWide
judged b c x = if b then (if c then Ok x else Err (Numerator x.q)) else Err Denominator

pub record IsFound (x y : Fraction) : Type 0 where
  pub same : x ≡ y
  pub numerator : nat_abs x.p ≤ 2 ^ 62
  pub denominator : x.q ≤ 2 ^ 62

pub found_within : (x y : Fraction) → Ok x ≡ within y → IsFound x y
found_within x y e = by_tests (nat_le y.q (2 ^ 62)) (nat_le (nat_abs y.p) (2 ^ 62)) refl refl e
  where
    by_tests : (b c : Bool) → nat_le y.q (2 ^ 62) ≡ b → nat_le (nat_abs y.p) (2 ^ 62) ≡ c → Ok x ≡ judged b c y → IsFound x y
    by_tests true true f g h =
        let same : x ≡ y = cc h in
        let top : nat_abs y.p ≤ 2 ^ 62 = grind (arith, nat_tests) in
        let bottom : y.q ≤ 2 ^ 62 = grind (arith, nat_tests) in
        record { same = same; numerator = subst (λ (z : Fraction). nat_abs z.p ≤ 2 ^ 62) (sym same) top; denominator = subst (λ (z : Fraction). z.q ≤ 2 ^ 62) (sym same) bottom }
    by_tests true false f g h = absurd (cc h)
    by_tests false c f g h = absurd (cc h)

pub record IsWideNumerator (q : ℕ) (y : Fraction) : Type 0 where
  pub same : q ≡ y.q
  pub wide : 2 ^ 62 < nat_abs y.p
  pub denominator : y.q ≤ 2 ^ 62

pub numerator_above : (q : ℕ) (y : Fraction) → Err (Numerator q) ≡ within y → IsWideNumerator q y
numerator_above q y e = by_tests (nat_le y.q (2 ^ 62)) (nat_le (nat_abs y.p) (2 ^ 62)) refl refl e
  where
    by_tests : (b c : Bool) → nat_le y.q (2 ^ 62) ≡ b → nat_le (nat_abs y.p) (2 ^ 62) ≡ c → Err (Numerator q) ≡ judged b c y → IsWideNumerator q y
    by_tests true true f g h = absurd (cc h)
    by_tests true false f g h = record { same = cc h; wide = grind (arith, nat_tests); denominator = grind (arith, nat_tests) }
    by_tests false c f g h = absurd (cc h)

pub denominator_above : (y : Fraction) → Err Denominator ≡ within y → 2 ^ 62 < y.q
denominator_above y e = by_tests (nat_le y.q (2 ^ 62)) (nat_le (nat_abs y.p) (2 ^ 62)) refl e
  where
    by_tests : (b c : Bool) → nat_le y.q (2 ^ 62) ≡ b → Err Denominator ≡ judged b c y → 2 ^ 62 < y.q
    by_tests true true f h = absurd (cc h)
    by_tests true false f h = absurd (cc h)
    by_tests false c f h = grind (arith, nat_tests)

abbrev pub IsWide : Fraction → Type 0
IsWide x = (2 ^ 62 < nat_abs x.p) ⊎ (2 ^ 62 < x.q)

pub wide_from : (w : TooWide) (y : Fraction) → Err w ≡ within y → IsWide y
wide_from (Numerator q) y e = inl (numerator_above q y e).wide
wide_from Denominator y e = inr (denominator_above y e)

-- ---- a number that is too wide

not_none : (a : ℕ) → 0 < a → (a == 0) ≡ false
not_none a h = grind (arith, nat_tests)

not_le : (a b : ℕ) → b < a → nat_le a b ≡ false
not_le a b h = grind (arith, nat_tests)

some_numerator : (x : Fraction) → IsInLowestTerms x → IsWide x → 0 < nat_abs x.p
some_numerator x h (inl w) = omega arith
some_numerator x h (inr w) = elim (cases_lt 0 (nat_abs x.p)) [
  | inl some ↦ some
  | inr none ↦
      let z : nat_abs x.p ≡ 0 = omega arith in
      let g : IsGcd 0 x.q 1 = subst (λ n. IsGcd n x.q 1) z h.lowest in
      let one : x.q ≡ 1 = eq-one_of_dvd-one (g.2 x.q (dvd-zero x.q) (dvd_refl x.q)) in
      absurd (omega (arith, one, w))
]

real_settled : (x : Fraction) → IsInLowestTerms x → 0 < nat_abs x.p → settled (real_number x.p) x.q (pos 0) ≡ Ok (form_of x (exponent_of_two x.q))
real_settled x h some =
    ap (λ (s : Bool). by_kind (s && true && true && true) (pos 0) (settled_number (real_number x.p) x.q) (settled_angle (real_number x.p) x.q)) (not_none (nat_abs x.p) some)
    ∙ number_settled x h

above_power : (k : ℕ) → 2 ^ 62 < 2 ^ k → 62 < k
above_power k h = elim (cases_lt 62 k) [
  | inl over ↦ over
  | inr under ↦ let low : 2 ^ k ≤ 2 ^ 62 = pow-le-pow_right {n = 2} (omega arith) under in absurd (omega (arith, low, h))
]

with_false : (a : Bool) → (a && true && true && true && false) ≡ false
with_false true = refl
with_false false = refl

and_false : (a : Bool) → (a && false) ≡ false
and_false true = refl
and_false false = refl

form_wide : (x : Fraction) (o : Option ℕ) → exponent_of_two x.q ≡ o → IsWide x → is_within (form_of x o) ≡ false
form_wide x (Some k) e (inl w) = ap (λ (b : Bool). b && true && true && true && nat_le (2 * k) 124) (not_le (nat_abs x.p) (2 ^ 62) w)
form_wide x (Some k) e (inr w) =
    let far : 62 < k = above_power k (subst (λ n. 2 ^ 62 < n) (sym (exponent_found x.q k e)) w) in
    ap (λ (b : Bool). is_near x.p && true && true && true && b) (not_le (2 * k) 124 (omega arith)) ∙ with_false (is_near x.p)
form_wide x None e (inl w) = ap (λ (b : Bool). b && nat_le x.q (2 ^ 62)) (not_le (nat_abs x.p) (2 ^ 62) w)
form_wide x None e (inr w) = ap (λ (b : Bool). is_near x.p && b) (not_le x.q (2 ^ 62) w) ∙ and_false (is_near x.p)

too_wide : (x : Exact) → is_within x ≡ false → bounded (Ok x) ≡ Err NumberTooWide
too_wide x e = ap (λ (b : Bool). if b then Ok x else Err NumberTooWide) e

pub wide_real : (x : Fraction) → IsInLowestTerms x → IsWide x → bounded (settled (real_number x.p) x.q (pos 0)) ≡ Err NumberTooWide
wide_real x h w = ap bounded (real_settled x h (some_numerator x h w)) ∙ too_wide (form_of x (exponent_of_two x.q)) (form_wide x (exponent_of_two x.q) refl w)

-- ---- a number times i whose numerator is too wide

with_nought : (n : ℕ) → common_divisor 0 n ≡ n
with_nought n = common_divisor_from 0 n n (dvd-zero n, dvd_refl n, λ d h k. k)

imaginary_content : (x : Fraction) → IsInLowestTerms x → content (imaginary_number x.p) x.q ≡ 1
imaginary_content x h =
    with_nought (common_divisor 0 (common_divisor (nat_abs x.p) (common_divisor 0 x.q))) ∙ with_nought (common_divisor (nat_abs x.p) (common_divisor 0 x.q))
    ∙ ap (common_divisor (nat_abs x.p)) (with_nought x.q) ∙ common_divisor_from (nat_abs x.p) x.q 1 h.lowest

imaginary_over_one : (p : ℤ) → divided_by 1 (imaginary_number p) ≡ imaginary_number p
imaginary_over_one p = ap imaginary_number (int_over_one p)

imaginary_settled : (x : Fraction) → IsInLowestTerms x → 0 < nat_abs x.p → settled (imaginary_number x.p) x.q (pos 0) ≡ by_exponent (exponent_of_two x.q) (imaginary_number x.p) false (lowest (pos 0) x.q)
imaginary_settled x h some =
    let z = imaginary_number x.p in
    ap (λ (s : Bool). by_kind (true && true && s && true) (pos 0) (settled_number z x.q) (settled_angle z x.q)) (not_none (nat_abs x.p) some)
    ∙ ap (λ (s : Bool). by_exponent (exponent_of_two (x.q / content z x.q)) (divided_by (content z x.q) z) (true && s && true) (lowest (pos 0) x.q)) (not_none (nat_abs x.p) some)
    ∙ ap (λ (g : ℕ). by_exponent (exponent_of_two (x.q / g)) (divided_by g z) false (lowest (pos 0) x.q)) (imaginary_content x h)
    ∙ ap (λ (w : Element). by_exponent (exponent_of_two (x.q / 1)) w false (lowest (pos 0) x.q)) (imaginary_over_one x.p)
    ∙ ap (λ (n : ℕ). by_exponent (exponent_of_two n) z false (lowest (pos 0) x.q)) (over_one x.q)

least_imaginary : (p : ℤ) (k : ℕ) → IsGcd (nat_abs p) (2 ^ k) 1 → least (imaginary_number p) (2 * k) ≡ Ring (imaginary_number p) (2 * k)
least_imaginary p zero h = refl
least_imaginary p (suc k) h =
    let z = imaginary_number p in
    let e : 2 * suc k ≡ suc (suc (2 * k)) = omega arith in
    let odd : (nat_abs p % 2 == 0) ≡ false = odd_numerator (nat_abs p) k h in
    let other : (0 == nat_abs p % 2) ≡ false = grind (arith, nat_tests) in
    ap (least z) e ∙ ap (λ (t : Bool). if t && true then least (quotient z) (suc (2 * k)) else Ring z (suc (suc (2 * k)))) other
    ∙ ap (Ring z) (sym e)

-- it is of the four kinds where its denominator is a power of two
pub wide_imaginary : (x : Fraction) (o : Option ℕ) → IsInLowestTerms x → 2 ^ 62 < nat_abs x.p → exponent_of_two x.q ≡ o
    → bounded (settled (imaginary_number x.p) x.q (pos 0)) ≡ Err (if is_some o then NumberTooWide else NotExact)
wide_imaginary x (Some k) h w e =
    let least_form = least_imaginary x.p k (subst (λ n. IsGcd (nat_abs x.p) n 1) (sym (exponent_found x.q k e)) h.lowest) in
    ap bounded (imaginary_settled x h (omega arith) ∙ ap (λ (o : Option ℕ). by_exponent o (imaginary_number x.p) false (lowest (pos 0) x.q)) e ∙ ap Ok least_form)
    ∙ too_wide (Ring (imaginary_number x.p) (2 * k)) (ap (λ (b : Bool). true && true && b && true && nat_le (2 * k) 124) (not_le (nat_abs x.p) (2 ^ 62) w))
wide_imaginary x None h w e = ap bounded (imaginary_settled x h (omega arith) ∙ ap (λ (o : Option ℕ). by_exponent o (imaginary_number x.p) false (lowest (pos 0) x.q)) e)

near_imaginary : (text : List ℕ) → (decimal_value text).q ≤ 2 ^ 62 → imaginary_literal text ≡ bounded (settled (imaginary_number (decimal_value text).p) (decimal_value text).q (pos 0))
near_imaginary text h =
    let x = decimal_value text in
    let e : nat_le x.q (2 ^ 62) ≡ true = grind (arith, nat_tests) in
    ap (λ (b : Bool). if b then bounded (settled (imaginary_number x.p) x.q (pos 0)) else (if has_binary_end text then Err NumberTooWide else Err NotExact)) e

pub lack_is : (text : List ℕ) (q : ℕ) (o : Option ℕ) (b : Bool) (l : Lack) → IsWideNumerator q (decimal_value text) → o ≡ exponent_of_two q → b ≡ is_some o → l ≡ (if b then NumberTooWide else NotExact) → Err l ≡ imaginary_literal text
lack_is text q o b l n e f g =
    let x = decimal_value text in
    ap Err (g ∙ ap (λ (t : Bool). if t then NumberTooWide else NotExact) f)
    ∙ sym (near_imaginary text n.denominator ∙ wide_imaginary x o (decimal_lowest text) n.wide (ap exponent_of_two (sym n.same) ∙ sym e))
