-- Values of digits.
use Rattle.std.proofs.Common.{◌≡◌, ℕ, ◌+◌, ◌-◌, ◌*◌, ◌^◌, ◌<◌, ◌≤◌, true, false, not, List, [], ◌∷◌, ap, le_refl, lt-ltb, le-ltb, arith}
use Rattle.std.specs.Prelude.{nat_lt}
use Rattle.quil_grammar.specs.Grammar.{value_behind}

pub value_grows : (n : ℕ) (bs : List ℕ) → n ≤ value_behind n bs
value_grows n [] = le_refl n
value_grows n (b ∷ bs) =
    let more : n * 10 + (b - 48) ≤ value_behind (n * 10 + (b - 48)) bs = value_grows (n * 10 + (b - 48)) bs in
    omega arith

-- the tests of a value that is below 2^64, and of one that isn't
pub fits : (n : ℕ) → n < 2 ^ 64 → not (nat_lt n (2 ^ 64)) ≡ false
fits n h = ap not (lt-ltb n (2 ^ 64) h)

pub exceeds : (n : ℕ) → 2 ^ 64 ≤ n → not (nat_lt n (2 ^ 64)) ≡ true
exceeds n h = ap not (le-ltb n (2 ^ 64) h)
