-- Counts of faults, and what ties an answer to them.
use Rattle.std.specs.Prelude.{◌≡◌, ◌≢◌, ℕ, ◌+◌, ◌-◌, ◌^◌, ◌<◌, ◌≤◌, min}

-- where a count stands still: the largest number of 64 bits
abbrev pub last_count : ℕ
last_count = 2 ^ 64 - 1

-- the count that follows on this one
abbrev pub next_count : ℕ → ℕ
next_count count = min (count + 1) last_count

-- the count is greater than it was, unless it stands at its end, which counts as risen by any number
abbrev pub Rose : ℕ → ℕ → Type 0
Rose old new = new ≢ last_count → old < new

-- the count is what it was: nothing failed, unless it stands at its end, where no rise shows
abbrev pub Stays : ℕ → ℕ → Type 0
Stays old new = new ≡ old

-- the count is at least what it was
abbrev pub NeverFalls : ℕ → ℕ → Type 0
NeverFalls old new = old ≤ new
