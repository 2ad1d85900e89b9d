-- Numbers cut at a bound, as the code keeps them. Nobody has to believe these: the clause of `decimal` says what is found.
use Rattle.std.specs.Prelude.{ℕ, suc, min, ℤ, pos, negsuc, neg_ℤ}

-- the number, or the bound on its side of 0
abbrev pub clamped : ℕ → ℤ → ℤ
clamped bound (pos n) = pos (min n bound)
clamped bound (negsuc n) = neg_ℤ (pos (min (suc n) bound))
