-- Square roots.
use Rattle.std.proofs.Common.{◌≡◌, ℕ, zero, suc, ◌+◌, ◌*◌, ◌<◌, ◌≤◌, inl, inr, false, Some, None, arith, eq-eqb}
use Rattle.std.specs.Prelude.{◌==◌}
use Rattle.std.proofs.lemmas.Bool.{cases_lt, cases_Bool}
use Rattle.std.proofs.lemmas.Bool.Decides.{Decides-eqb}
use Rattle.std.proofs.Math.Nat.{mul-le-mul}
use Rattle.quil_number.specs.Root.{root}
use Rattle.quil_number.proofs.Divisors.{greatest_is, greatest_none, greatest_passes}

-- a test of equality fails where the numbers differ
pub unequal : (a b : ℕ) → (a ≡ b → ⊥) → (a == b) ≡ false
unequal a b h = elim (cases_Bool (a == b)) [ inl holds ↦ absurd (h ((Decides-eqb a b).0 holds)) | inr fails ↦ fails ]

square_grows : (r m : ℕ) → r < m → (r + 1) * (r + 1) ≤ m * m
square_grows r m h = mul-le-mul (omega arith) (omega arith)

square_below : (r : ℕ) → r * r < (r + 1) * (r + 1)
square_below r = omega arith

below_square : (r : ℕ) → r ≤ r * r
below_square zero = omega arith
below_square (suc r) = omega arith

pub root_is : (n r : ℕ) → r * r ≡ n → root n ≡ Some r
unfolding root
root_is n r e =
    let small : r ≤ r * r = below_square r in
    greatest_is (λ k. k * k == n) n r (omega arith) (eq-eqb (r * r) n e) (λ m over bound. unequal (m * m) n (λ f. let more : (r + 1) * (r + 1) ≤ m * m = square_grows r m over in let less : r * r < (r + 1) * (r + 1) = square_below r in omega arith))

pub root_none : (n r : ℕ) → r * r < n → n < (r + 1) * (r + 1) → root n ≡ None
unfolding root
root_none n r low high =
    greatest_none (λ k. k * k == n) n (λ m bound. unequal (m * m) n (λ f. elim (cases_lt r m) [
      | inl over ↦ let more : (r + 1) * (r + 1) ≤ m * m = square_grows r m over in omega arith
      | inr under ↦ let less : m * m ≤ r * r = mul-le-mul under under in omega arith
    ]))

-- what the definition says
pub root_squared : (n r : ℕ) → root n ≡ Some r → r * r ≡ n
unfolding root
root_squared n r e = (Decides-eqb (r * r) n).0 (greatest_passes (λ k. k * k == n) n r e)

pub no_root : (n r : ℕ) → root n ≡ None → r * r ≡ n → ⊥
no_root n r e f = let g = root_is n r f in cc
