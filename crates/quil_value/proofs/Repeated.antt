-- A power that has no value leaves all behind it without one.
use Rattle.std.proofs.Common.{◌≡◌, refl, sym, ◌∙◌, ap, ℕ, zero, suc, ◌+◌, ◌-◌, ◌≤◌, Result, Ok, Err, arith}
use Rattle.quil_value.specs.declared.lack.Lack.{Lack}
use Rattle.quil_value.specs.Results.{and_then}
use Rattle.std.specs.Prelude.{ℤ, pos, negsuc, ◌≤ℤ◌, ◌<ℤ◌, nat_abs}
use Rattle.std.proofs.lemmas.Int.{ints}
use Rattle.quil_value.specs.Exact.{Exact, product_of, quotient_of}
use Rattle.quil_value.specs.Table.{one, power, inverse_power, whole_power}

stays : (x : Exact) (m k : ℕ) (e : Lack) → power x m ≡ Err e → power x (k + m) ≡ Err e
stays x m zero e h = ap (power x) (let s : 0 + m ≡ m = omega arith in s) ∙ h
stays x m (suc k) e h =
    ap (power x) (let s : suc k + m ≡ suc (k + m) = omega arith in s) ∙ ap (λ (r : Result Exact Lack). and_then r (λ y. product_of y x)) (stays x m k e h)

-- the product behind a power
pub next_power : (x y : Exact) (m : ℕ) → power x m ≡ Ok y → power x (m + 1) ≡ product_of y x
next_power x y m h =
    ap (power x) (let s : m + 1 ≡ suc m = omega arith in s) ∙ ap (λ (r : Result Exact Lack). and_then r (λ z. product_of z x)) h

pub power_ends : (x y : Exact) (m n : ℕ) (e : Lack) → suc m ≤ n → power x m ≡ Ok y → product_of y x ≡ Err e → power x n ≡ Err e
power_ends x y m n e l h p =
    ap (power x) (let s : n ≡ (n - suc m) + suc m = omega (arith, l) in s)
    ∙ stays x (suc m) (n - suc m) e (ap (λ (r : Result Exact Lack). and_then r (λ z. product_of z x)) h ∙ p)

-- ---- exponents with their signs

pub positive_power : (x : Exact) (n : ℤ) → pos 0 ≤ℤ n → power x (nat_abs n) ≡ whole_power x n
positive_power x (pos n) h = refl
positive_power x (negsuc n) h = absurd (omega (arith, ints, h))

pub negative_power : (x : Exact) (n : ℤ) → n <ℤ pos 0 → inverse_power x (nat_abs n) (quotient_of one x) ≡ whole_power x n
negative_power x (pos n) h = absurd (omega (arith, ints, h))
negative_power x (negsuc n) h = refl
