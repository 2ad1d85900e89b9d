-- Values that are rational, as fractions in lowest terms.
use Rattle.std.proofs.Common.{◌≡◌, refl, sym, ◌∙◌, ap, ap₂, subst, ℕ, zero, suc, ◌+◌, ◌*◌, ◌/◌, ◌%◌, ◌^◌, ◌<◌, ◌≤◌, ◌==◌, inl, inr, Bool, true, false, ◌&&◌, arith}
use Rattle.std.specs.Prelude.{ℤ, nat_abs, nat_le}
use Rattle.std.specs.Int.{IsGcd, ◌∣◌}
use Rattle.std.proofs.lemmas.Bool.{cases_lt, and_parts}
use Rattle.std.proofs.lemmas.Bool.Decides.{nat_tests, Decides-eqb}
use Rattle.std.proofs.lemmas.Nat.Gcd.{dvd_trans, mod-eq-zero_of_dvd}
use Rattle.std.proofs.Math.Nat.{one-dvd, dvd-mul_right, pow-le-pow_right}
use Rattle.qvm_ring.specs.Ring.{Element, is_divisible}
use Rattle.quil_number.specs.declared.fraction.Fraction.{Fraction}
use Rattle.quil_value.specs.Exact.{Exact, Ring, is_rational, is_near, is_within}
use Rattle.quil_value.specs.Forms.{IsLeast, IsInLowestTerms}
use Rattle.quil_value.specs.SumForms.{IsRatio}
use Rattle.quil_value.specs.Value.{IsValue}
use Rattle.quil_value.proofs.Twos.{power_divisor}

-- an odd number has no divisor in common with a power of two
odd_power : (a k : ℕ) → a % 2 ≡ 1 → IsGcd a (2 ^ k) 1
odd_power a k odd = (one-dvd a, one-dvd (2 ^ k), λ d u v. by_power d (power_divisor k d v).0 (power_divisor k d v).1 u)
  where
    by_power : (d i : ℕ) → d ≡ 2 ^ i → d ∣ a → d ∣ 1
    by_power d zero e u = subst (λ n. n ∣ 1) (sym e) (one-dvd 1)
    by_power d (suc i) e u =
        let double : 2 ^ suc i ≡ 2 * 2 ^ i = omega arith in
        let even : a % 2 ≡ 0 = mod-eq-zero_of_dvd 2 (dvd_trans 2 (subst (λ n. 2 ∣ n) (sym (e ∙ double)) (dvd-mul_right 2 (2 ^ i))) u) in
        absurd (omega (arith, odd, even))

-- the numerator over √2^m is odd, where m isn't 0
odd_if : (a b c d m : ℕ) → b ≡ 0 → c ≡ 0 → d ≡ 0 → ((a % 2 == c % 2) && (b % 2 == d % 2)) ≡ false → a % 2 ≡ 1
odd_if a b c d m e f g h = grind (arith, nat_tests)

pub record IsRationalNumber (z : Element) : Type 0 where
  pub b : nat_abs z.b ≡ 0
  pub c : nat_abs z.c ≡ 0
  pub d : nat_abs z.d ≡ 0

pub rational_parts : (z : Element) → is_rational z ≡ true → IsRationalNumber z
rational_parts z h = record { b = grind (arith, nat_tests); c = grind (arith, nat_tests); d = grind (arith, nat_tests) }

ring_gcd : (z : Element) (m : ℕ) → IsLeast z m → IsRationalNumber z → IsGcd (nat_abs z.a) (2 ^ (m / 2)) 1
ring_gcd z zero h r = (one-dvd (nat_abs z.a), one-dvd 1, λ d u v. v)
ring_gcd z (suc m) h r = odd_power (nat_abs z.a) (suc m / 2) (odd_if (nat_abs z.a) (nat_abs z.b) (nat_abs z.c) (nat_abs z.d) m r.b r.c r.d (h (omega arith)))

pub record IsNearRing (z : Element) (m : ℕ) : Type 0 where
  pub a : nat_abs z.a ≤ 2 ^ 62
  pub power : m ≤ 124

pub near_ring : (z : Element) (m : ℕ) → is_within (Ring z m) ≡ true → IsNearRing z m
near_ring z m h = record { a = grind (arith, nat_tests); power = grind (arith, nat_tests) }

pub half_power : (m : ℕ) → m ≤ 124 → (0 < 2 ^ (m / 2)) × (2 ^ (m / 2) ≤ 2 ^ 62)
half_power m h =
    let k : m / 2 ≤ 62 = omega arith in
    (pow-le-pow_right {n = 2} (omega arith) (let z : 0 ≤ m / 2 = omega arith in z), pow-le-pow_right {n = 2} (omega arith) k)

pub ring_ratio : (z : Element) (m : ℕ) (p : ℤ) (q : ℕ) → IsValue (Ring z m) → is_rational z ≡ true → p ≡ z.a → q ≡ 2 ^ (m / 2) → IsRatio (record { p = p; q = q })
ring_ratio z m p q v r e f =
    let n = near_ring z m v.within in
    let w = half_power m n.power in
    subst (λ (x : ℤ). IsRatio (record { p = x; q = q })) (sym e) (subst (λ (k : ℕ). IsRatio (record { p = z.a; q = k })) (sym f)
    (record { form = record { lowest = ring_gcd z m v.form (rational_parts z r); some = w.0 }; within = both (nat_abs z.a) (2 ^ (m / 2)) n.a w.1 }))
  where
    both : (a k : ℕ) → a ≤ 2 ^ 62 → k ≤ 2 ^ 62 → (nat_le a (2 ^ 62) && nat_le k (2 ^ 62)) ≡ true
    both a k h i = grind (arith, nat_tests)

pub record IsNearRatio (x : Fraction) : Type 0 where
  pub numerator : nat_abs x.p ≤ 2 ^ 62
  pub denominator : x.q ≤ 2 ^ 62

pub near_ratio : (x : Fraction) → IsRatio x → IsNearRatio x
near_ratio x h = let w : (is_near x.p && nat_le x.q (2 ^ 62)) ≡ true = h.within in record { numerator = grind (arith, nat_tests); denominator = grind (arith, nat_tests) }
