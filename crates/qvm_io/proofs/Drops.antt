-- The list from its next place on.
use Rattle.std.proofs.Common.{◌≡◌, ℕ, ◌+◌, ◌-◌, ◌^◌, ◌<◌, min, List, drop, length, arith, drop_of_length-le}
use Rattle.std.proofs.lemmas.List.{drop-drop}

-- a place that stands still at the end of 64 bits leaves no less of a list that has a shorter length
pub drop-next : (p q : ℕ) (xs : List ℕ) → q ≡ min (p + 1) (2 ^ 64 - 1) → length xs < 2 ^ 64 → drop q xs ≡ drop 1 (drop p xs)
drop-next p q xs is short = grind (arith, drop-drop 1 p xs, drop_of_length-le)
