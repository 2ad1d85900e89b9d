-- Powers of two and what divides them.
use Rattle.std.proofs.Common.{◌≡◌, refl, sym, ◌∙◌, ap, subst, ℕ, zero, suc, ◌*◌, ◌/◌, ◌%◌, ◌^◌, ◌<◌, ◌≤◌, ◌==◌, inl, inr, false, Some, None, arith}
use Rattle.std.specs.Int.{IsGcd, ◌∣◌}
use Rattle.std.proofs.lemmas.Bool.{eq-eqb, eqb-true, cases_lt}
use Rattle.std.proofs.lemmas.Bool.Decides.{eqb_tells}
use Rattle.std.proofs.Math.Pow.{pow-lt, pow_mono}
use Rattle.std.proofs.Math.Nat.{eq-one_of_dvd-one, one-dvd, dvd_of_mul-dvd-mul_left}
use Rattle.std.proofs.lemmas.Nat.Gcd.{IsGcd-from_mod, dvd_refl}
use Rattle.quil_number.proofs.Divisors.{greatest_is, greatest_passes}
use Rattle.quil_number.proofs.Fractions.{divides_other}
use Rattle.quil_value.specs.Exact.{exponent_of_two}

above : (k : ℕ) → k ≤ 2 ^ k
above zero = omega arith
above (suc k) = let h = above k in let p : 0 < 2 ^ k = some k in omega (arith, h, p)
  where
    some : (k : ℕ) → 0 < 2 ^ k
    some zero = omega arith
    some (suc k) = let h = some k in omega (arith, h)

other_power : (k m : ℕ) → k < m → (2 ^ m == 2 ^ k) ≡ false
other_power k m h = elim (eqb_tells (2 ^ m) (2 ^ k)) [
  | inl e ↦ absurd (let l : 2 ^ k < 2 ^ m = pow-lt h in let f : 2 ^ m ≡ 2 ^ k = e.1 in omega (arith, l, f))
  | inr e ↦ e.0
]

pub exponent_is : (k : ℕ) → exponent_of_two (2 ^ k) ≡ Some k
unfolding exponent_of_two
exponent_is k = greatest_is (λ i. 2 ^ i == 2 ^ k) (2 ^ k) k (above k) (eq-eqb (2 ^ k) (2 ^ k) refl) (λ m h l. other_power k m h)

pub exponent_found : (n k : ℕ) → exponent_of_two n ≡ Some k → 2 ^ k ≡ n
unfolding exponent_of_two
exponent_found n k e = eqb-true (2 ^ k) n (greatest_passes (λ i. 2 ^ i == n) n k e)

-- an odd number has no divisor but 1 in common with 2
odd_gcd : (d : ℕ) → d % 2 ≡ 1 → IsGcd d 2 1
odd_gcd d h = IsGcd-from_mod d 2 1 (subst (λ n. IsGcd 2 n 1) (sym h) (one-dvd 2, dvd_refl 1, λ e p q. q))

-- what divides a power of two is one
pub power_divisor : (j d : ℕ) → d ∣ 2 ^ j → (i : ℕ) × (d ≡ 2 ^ i)
power_divisor zero d h = (0, eq-one_of_dvd-one h)
power_divisor (suc j) d h =
    let double : 2 ^ suc j ≡ 2 * 2 ^ j = omega arith in
    let k : d ∣ 2 * 2 ^ j = subst (λ n. d ∣ n) double h in
    elim (cases_lt 0 (d % 2)) [
      | inl some ↦ let e : d % 2 ≡ 1 = omega arith in power_divisor j d (divides_other d 2 (2 ^ j) (odd_gcd d e) k)
      | inr none ↦
          let e : d ≡ 2 * (d / 2) = omega arith in
          let half = power_divisor j (d / 2) (dvd_of_mul-dvd-mul_left (d / 2) (let z : 0 < 2 = omega arith in z) (subst (λ n. n ∣ 2 * 2 ^ j) e k)) in
          (suc half.0, e ∙ ap (λ n. 2 * n) half.1 ∙ (let f : 2 * 2 ^ half.0 ≡ 2 ^ suc half.0 = omega arith in f))
    ]

-- the exponent of a number that is a power of two, and none between two powers
pub exponent_at : (n k : ℕ) → 2 ^ k ≡ n → exponent_of_two n ≡ Some k
exponent_at n k e = subst (λ m. exponent_of_two m ≡ Some k) e (exponent_is k)

only_power : (n k j : ℕ) → 2 ^ k ≤ n → n < 2 * 2 ^ k → 2 ^ j ≡ n → 2 ^ k ≡ n
only_power n k j low high e = elim (cases_lt j k) [
  | inl below ↦ absurd (let l : 2 ^ j < 2 ^ k = pow-lt below in omega (arith, l, low, e))
  | inr above ↦ elim (cases_lt k j) [
    | inl over ↦ absurd (let l : 2 ^ suc k ≤ 2 ^ j = pow_mono over in let d : 2 ^ suc k ≡ 2 * 2 ^ k = omega arith in omega (arith, l, d, high, e))
    | inr under ↦ let same : k ≡ j = omega (arith, above, under) in ap (λ (i : ℕ). 2 ^ i) same ∙ e
  ]
]

pub exponent_none : (n k : ℕ) → 2 ^ k ≤ n → n < 2 * 2 ^ k → (2 ^ k ≡ n → ⊥) → exponent_of_two n ≡ None
exponent_none n k low high other = elim (exponent_of_two n) as (λ o. exponent_of_two n ≡ o → o ≡ None) [
  | Some j ↦ λ e. absurd (other (only_power n k j low high (exponent_found n j e)))
  | None ↦ λ e. refl
] refl
