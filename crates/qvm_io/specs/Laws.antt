-- What follows for a call from what its parts do.
use Rattle.std.specs.Prelude.{◌≤◌, ℕ, List, ◌++◌, Option}
use Rattle.std.specs.Io.KnownBytes.{Appends}
use Rattle.qvm_io.specs.Causes.{last_count, next_count, Rose, NeverFalls}
use Rattle.qvm_io.specs.Transfer.{GainsFront}

-- one more fault is a rise, and no fall
abbrev pub NextCountRises : Type 0
NextCountRises = (count : ℕ) → count ≤ last_count → Rose count (next_count count) × NeverFalls count (next_count count)

-- a rise in the first or the second part of a call is a rise in the call
abbrev pub RiseInPartIsRise : Type 0
RiseInPartIsRise = (first second third : ℕ) → NeverFalls first second → NeverFalls second third
    → (Rose first second → Rose first third) × (Rose second third → Rose first third)

-- a whole piece and then a front of the next one are a front of both
abbrev pub FrontsJoin : Type 0
FrontsJoin = (first second third : Option (List ℕ)) (piece next : List ℕ)
    → Appends first second piece → GainsFront second third next → GainsFront first third (piece ++ next)
