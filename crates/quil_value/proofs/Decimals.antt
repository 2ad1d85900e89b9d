-- A fraction in lowest terms is settled.
use Rattle.std.proofs.Common.{◌≡◌, refl, sym, ◌∙◌, ap, subst, ℕ, zero, suc, ◌*◌, ◌/◌, ◌%◌, ◌^◌, ◌==◌, true, false, ◌&&◌, inl, inr, Bool, if◌then◌else◌, arith}
use Rattle.std.specs.Prelude.{ℤ, pos, negsuc, neg_ℤ, nat_abs, int_div}
use Rattle.std.specs.Int.{IsGcd, ◌∣◌}
use Rattle.std.proofs.lemmas.Nat.Gcd.{dvd_refl, dvd-zero, dvd_of_mod-eq-zero}
use Rattle.std.proofs.lemmas.Bool.{cases_lt}
use Rattle.qvm_ring.specs.Ring.{quotient}
use Rattle.std.proofs.Math.Nat.{dvd-mul_right, eq-one_of_dvd-one}
use Rattle.quil_number.specs.declared.fraction.Fraction.{Fraction}
use Rattle.quil_number.specs.Divisor.{common_divisor}
use Rattle.quil_number.specs.Fraction.{lowest}
use Rattle.quil_number.proofs.Divisors.{common_divisor_from}
use Rattle.quil_value.specs.Exact.{content, least, Ring}
use Rattle.quil_value.specs.declared.lack.Lack.{Lack}
use Rattle.quil_value.specs.declared.lack.Lack.TheVariants.{NotExact}
use Rattle.quil_value.proofs.Twos.{exponent_found}
use Rattle.quil_value.specs.Exact.{Exact, Rational, exponent_of_two, divided_by, is_rational, settled_number}
use Rattle.qvm_ring.specs.Ring.{Element}
use Rattle.std.specs.Prelude.{Option, Some, None, Result, Ok, Err}
use Rattle.quil_value.specs.RealNumbers.{real_number}
use Rattle.quil_value.specs.Forms.{IsInLowestTerms}

with_nought : (n : ℕ) → common_divisor 0 n ≡ n
with_nought n = common_divisor_from 0 n n (dvd-zero n, dvd_refl n, λ d h k. k)

pub content_one : (x : Fraction) → IsInLowestTerms x → content (real_number x.p) x.q ≡ 1
content_one x h =
    ap (λ (n : ℕ). common_divisor (nat_abs x.p) (common_divisor 0 (common_divisor 0 n))) (with_nought x.q)
    ∙ ap (λ (n : ℕ). common_divisor (nat_abs x.p) (common_divisor 0 n)) (with_nought x.q)
    ∙ ap (λ (n : ℕ). common_divisor (nat_abs x.p) n) (with_nought x.q)
    ∙ common_divisor_from (nat_abs x.p) x.q 1 h.lowest

pub over_one : (n : ℕ) → n / 1 ≡ n
over_one n = omega arith

pub int_over_one : (z : ℤ) → int_div z (pos 1) ≡ z
int_over_one (pos n) = ap pos (over_one n)
int_over_one (negsuc n) = ap (λ (k : ℕ). neg_ℤ (pos k)) (over_one (suc n))

pub lowest_again : (x : Fraction) → IsInLowestTerms x → lowest x.p x.q ≡ x
unfolding lowest
lowest_again x h =
    ap (λ (d : ℕ). record { p = int_div x.p (pos d); q = x.q / d }) (common_divisor_from (nat_abs x.p) x.q 1 h.lowest)
    ∙ ap (λ (p : ℤ). record { p = p; q = x.q / 1 }) (int_over_one x.p) ∙ ap (λ (q : ℕ). record { p = x.p; q = q }) (over_one x.q)

-- the numerator over an even denominator is odd
pub odd_numerator : (p : ℕ) (k : ℕ) → IsGcd p (2 ^ suc k) 1 → (p % 2 == 0) ≡ false
odd_numerator p k h = elim (cases_lt 0 (p % 2)) [
  | inl some ↦ let e : p % 2 ≡ 1 = omega arith in ap (λ (n : ℕ). n == 0) e
  | inr none ↦
      let double : 2 ^ suc k ≡ 2 * 2 ^ k = omega arith in
      let both : 2 ∣ 1 = h.2 2 (dvd_of_mod-eq-zero 2 (let z : p % 2 ≡ 0 = omega arith in z)) (subst (λ n. 2 ∣ n) (sym double) (dvd-mul_right 2 (2 ^ k))) in
      let one : 2 ≡ 1 = eq-one_of_dvd-one both in
      absurd (omega (arith, one))
]

pub least_real : (p : ℤ) (k : ℕ) → IsGcd (nat_abs p) (2 ^ k) 1 → least (real_number p) (2 * k) ≡ Ring (real_number p) (2 * k)
least_real p zero h = refl
least_real p (suc k) h =
    let e : 2 * suc k ≡ suc (suc (2 * k)) = omega arith in
    let odd : (nat_abs p % 2 == 0) ≡ false = odd_numerator (nat_abs p) k h in
    ap (λ (n : ℕ). least (real_number p) n) e ∙ ap (λ (t : Bool). if t && true then least (quotient (real_number p)) (suc (2 * k)) else Ring (real_number p) (suc (suc (2 * k)))) odd
    ∙ ap (λ (n : ℕ). Ring (real_number p) n) (sym e)

-- p/q in lowest terms: a ring number where q is a power of two, else a rational
abbrev pub form_of : Fraction → Option ℕ → Exact
form_of x (Some k) = Ring (real_number x.p) (2 * k)
form_of x None = Rational x

abbrev chosen : Fraction → Element → Option ℕ → Result Exact Lack
chosen x w o = elim o [
  | Some k ↦ Ok (least w (2 * k))
  | None ↦ if is_rational (real_number x.p) then Ok (Rational (lowest x.p x.q)) else Err NotExact
]

chosen_is : (x : Fraction) (o : Option ℕ) → exponent_of_two x.q ≡ o → IsInLowestTerms x → chosen x (real_number x.p) o ≡ Ok (form_of x o)
chosen_is x (Some k) e h = ap (λ (y : Exact). Ok y) (least_real x.p k (subst (λ n. IsGcd (nat_abs x.p) n 1) (sym (exponent_found x.q k e)) h.lowest))
chosen_is x None e h = ap (λ (y : Fraction). Ok (Rational y)) (lowest_again x h)

real_over_one : (p : ℤ) → divided_by 1 (real_number p) ≡ real_number p
real_over_one p = ap real_number (int_over_one p)

pub number_settled : (x : Fraction) → IsInLowestTerms x → settled_number (real_number x.p) x.q ≡ Ok (form_of x (exponent_of_two x.q))
number_settled x h =
    let z = real_number x.p in
    ap (λ (g : ℕ). chosen x (divided_by g z) (exponent_of_two (x.q / g))) (content_one x h)
    ∙ ap (λ (y : Element). chosen x y (exponent_of_two (x.q / 1))) (real_over_one x.p)
    ∙ ap (λ (n : ℕ). chosen x z (exponent_of_two n)) (over_one x.q)
    ∙ chosen_is x (exponent_of_two x.q) refl h
