-- What a read and a write move, where the object tells its bytes: `None` claims nothing.
use Rattle.std.specs.Prelude.{◌≡◌, ℕ, ◌+◌, ◌<◌, ◌≤◌, ◌==◌, ◌⊎◌, List, length, take, Bool, true, false, if◌then◌else◌, Result, Ok, Err, Option}
use Rattle.std.specs.Io.KnownBytes.{Appends, Consumes}

-- a read answered 0, the end of the input
abbrev pub answered_end : {E : Type 0} → Result ℕ E → Bool
answered_end (Ok n) = n == 0
answered_end (Err e) = false

-- how often reads have answered 0, where before this one they had so often
abbrev pub ends_after : {E : Type 0} → ℕ → Result ℕ E → ℕ
ends_after ends result = if answered_end result then ends + 1 else ends

-- Once at the most a read answered 0, and then it was the last: how often that had happened before and after, and
-- whether the last read answered 0.
abbrev pub EndsOnceAtMost : ℕ → ℕ → Bool → Type 0
EndsOnceAtMost old new saw_end = (new ≡ old) ⊎ ((new ≡ old + 1) × (saw_end ≡ true))

-- of what was left at first a front of at most `limit` items was taken, and the rest is left
abbrev pub LosesFront : Option (List ℕ) → Option (List ℕ) → ℕ → Type 0
LosesFront old new limit = (front : List ℕ) × (length front ≤ limit) × Consumes old new front

-- of the piece a front was taken, and not the whole
abbrev pub GainsFront : Option (List ℕ) → Option (List ℕ) → List ℕ → Type 0
GainsFront old new piece = (n : ℕ) × (n < length piece) × Appends old new (take n piece)
