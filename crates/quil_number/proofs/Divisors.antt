-- The greatest number that passes a test, and the greatest common divisor.
use Rattle.std.proofs.Common.{◌≡◌, ℕ, zero, suc, ◌+◌, ◌%◌, ◌<◌, ◌≤◌, inl, inr, Bool, true, false, ◌&&◌, Some, None, refl, sym, ap, subst, arith, le_refl, eq-eqb}
use Rattle.std.specs.Int.{IsGcd, ◌∣◌}
use Rattle.std.proofs.lemmas.Bool.{and_parts, cases_lt, cases_Bool}
use Rattle.std.proofs.lemmas.Bool.Decides.{Decides-eqb}
use Rattle.std.proofs.lemmas.Nat.{mod_below}
use Rattle.std.proofs.lemmas.Nat.Gcd.{IsGcd-from_zero, IsGcd-from_mod, dvd_refl, le_of_dvd, dvd_of_mod-eq-zero, mod-eq-zero_of_dvd}
use Rattle.std.proofs.Math.Nat.{eq-zero_of_zero-dvd, pos_of_dvd_of_pos}
use Rattle.quil_number.specs.Divisor.{greatest, divides, common_divisor}

-- what passes is the greatest up to n where nothing between passes
pub greatest_is : (test : ℕ → Bool) (n k : ℕ) → k ≤ n → test k ≡ true → ((m : ℕ) → k < m → m ≤ n → test m ≡ false) → greatest test n ≡ Some k
greatest_is test zero k h t none =
    let e : 0 ≡ k = omega arith in
    rw (subst (λ j. test j ≡ true) (sym e) t) (ap Some e)
greatest_is test (suc n) k h t none =
    elim (cases_lt n k) [
      | inl over ↦ let e : suc n ≡ k = omega arith in rw (subst (λ j. test j ≡ true) (sym e) t) (ap Some e)
      | inr under ↦ rw (none (suc n) (omega arith) (le_refl (suc n))) (greatest_is test n k under t (λ m low high. none m low (omega arith)))
    ]

pub greatest_none : (test : ℕ → Bool) (n : ℕ) → ((m : ℕ) → m ≤ n → test m ≡ false) → greatest test n ≡ None
greatest_none test zero none = rw (none 0 (le_refl 0)) refl
greatest_none test (suc n) none = rw (none (suc n) (le_refl (suc n))) (greatest_none test n (λ m h. none m (omega arith)))

-- what is found passes
pub greatest_passes : (test : ℕ → Bool) (n k : ℕ) → greatest test n ≡ Some k → test k ≡ true
greatest_passes test zero k e = elim (cases_Bool (test 0)) [
  | inl holds ↦ let f : Some 0 ≡ Some k = (rw holds at e) in subst (λ j. test j ≡ true) (cc f) holds
  | inr fails ↦ let f : None ≡ Some k = (rw fails at e) in cc f
]
greatest_passes test (suc n) k e = elim (cases_Bool (test (suc n))) [
  | inl holds ↦ let f : Some (suc n) ≡ Some k = (rw holds at e) in subst (λ j. test j ≡ true) (cc f) holds
  | inr fails ↦ greatest_passes test n k (rw fails at e)
]

-- where nothing is found, nothing passes
pub greatest_fails : (test : ℕ → Bool) (n m : ℕ) → greatest test n ≡ None → m ≤ n → test m ≡ false
greatest_fails test zero m e h = elim (cases_Bool (test 0)) [
  | inl holds ↦ let f : Some 0 ≡ None = (rw holds at e) in cc f
  | inr fails ↦ let g : 0 ≡ m = omega arith in subst (λ j. test j ≡ false) g fails
]
greatest_fails test (suc n) m e h = elim (cases_Bool (test (suc n))) [
  | inl holds ↦ let f : Some (suc n) ≡ None = (rw holds at e) in cc f
  | inr fails ↦ elim (cases_lt n m) [
    | inl over ↦ let g : suc n ≡ m = omega arith in subst (λ j. test j ≡ false) g fails
    | inr under ↦ greatest_fails test n m (rw fails at e) under
  ]
]

-- two numbers have a greatest common divisor, by Euclid's steps
has_gcd : (n a b : ℕ) → b ≤ n → (g : ℕ) × IsGcd a b g
has_gcd zero a b h = (a, IsGcd-from_zero a b (omega arith))
has_gcd (suc n) a b h = elim (cases_lt 0 b) [
  | inl some ↦
      let less : a % b < b = mod_below a b some in
      let found = has_gcd n b (a % b) (omega arith) in
      (found.0, IsGcd-from_mod a b found.0 found.1)
  | inr none ↦ (a, IsGcd-from_zero a b (omega arith))
]

pub divides_true : (d n : ℕ) → d ∣ n → divides d n ≡ true
divides_true d n h = eq-eqb (n % d) 0 (mod-eq-zero_of_dvd d h)

pub divides_is : (d n : ℕ) → divides d n ≡ true → d ∣ n
divides_is d n e = dvd_of_mod-eq-zero d ((Decides-eqb (n % d) 0).0 e)

zero_both : (a b g m : ℕ) → IsGcd a b g → g ≡ 0 → g < m → m ≤ a + b → ⊥
zero_both a b g m h z over bound =
    let first : 0 ≡ a = sym (eq-zero_of_zero-dvd (subst (λ d. d ∣ a) z h.0)) in
    let second : 0 ≡ b = sym (eq-zero_of_zero-dvd (subst (λ d. d ∣ b) z h.1)) in
    omega arith

no_greater : (a b g m : ℕ) → IsGcd a b g → g < m → m ≤ a + b → (divides m a && divides m b) ≡ false
no_greater a b g m h over bound = elim (cases_Bool (divides m a && divides m b)) [
  | inl holds ↦
      let both = and_parts (divides m a) (divides m b) holds in
      let part : m ∣ g = h.2 m (divides_is m a both.0) (divides_is m b both.1) in
      elim (cases_lt 0 g) [
        | inl some ↦ let le : m ≤ g = le_of_dvd some part in absurd (omega arith)
        | inr none ↦
            let z : g ≡ 0 = omega arith in
            absurd (zero_both a b g m h z over bound)
      ]
  | inr fails ↦ fails
]

both_true : {x y : Bool} → x ≡ true → y ≡ true → (x && y) ≡ true
both_true e f = rw (e, f) refl

zero_is : (n : ℕ) → n ≤ 0 → 0 ≡ n
zero_is n h = omega arith

divisor_size : (a b g : ℕ) → IsGcd a b g → g ≤ a + b
divisor_size a b g h = elim (cases_lt 0 a) [
  | inl some ↦ let le : g ≤ a = le_of_dvd some h.0 in omega arith
  | inr none ↦ elim (cases_lt 0 b) [
    | inl some ↦ let le : g ≤ b = le_of_dvd some h.1 in omega arith
    | inr fails ↦
        let part : 0 ∣ g = h.2 0 (subst (λ n. 0 ∣ n) (zero_is a none) (dvd_refl 0)) (subst (λ n. 0 ∣ n) (zero_is b fails) (dvd_refl 0)) in
        let z : 0 ≡ g = sym (eq-zero_of_zero-dvd part) in
        omega arith
  ]
]

-- whatever is the greatest common divisor by divisibility is the greatest one by size
pub common_divisor_from : (a b g : ℕ) → IsGcd a b g → common_divisor a b ≡ g
unfolding common_divisor
common_divisor_from a b g h =
    let low : g ≤ a + b = divisor_size a b g h in
    rw (greatest_is (λ d. divides d a && divides d b) (a + b) g low (both_true (divides_true g a h.0) (divides_true g b h.1)) (λ m over bound. no_greater a b g m h over bound)) refl

pub common_divisor_is : (a b : ℕ) → IsGcd a b (common_divisor a b)
common_divisor_is a b =
    let found = has_gcd b a b (le_refl b) in
    subst (λ g. IsGcd a b g) (sym (common_divisor_from a b found.0 found.1)) found.1

-- beside a number above 0 it is above 0, and no greater
pub divisor_bounds : (a b g : ℕ) → IsGcd a b g → 0 < b → (0 < g) × (g ≤ b)
divisor_bounds a b g h some = (pos_of_dvd_of_pos h.1 some, le_of_dvd some h.1)
