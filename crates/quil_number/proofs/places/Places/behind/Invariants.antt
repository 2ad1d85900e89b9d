use Rattle.std.proofs.Common.{List, ℕ, ◌++◌, drop}
use Rattle.quil_number.specs.Places.{Are}
use Rattle.quil_number.proofs.places.Places.behind.Given as goal

-- the digits from here on stand behind the point
abbrev pub invariant-loop-i : goal.invariant-loop-i
invariant-loop-i l = (ds : List ℕ) → Are ds l.fn.self → Are (drop l.i l.digits ++ ds) l.places
