-- Half angles as exponents of ω, and lists of entries, for private contracts.
use Rattle.std.specs.Prelude.{ℕ, ◌≡◌, ◌-◌, ◌/◌, ◌%◌, ◌<◌, ◌==◌, if◌then◌else◌, List}
use Rattle.qvm_ring.specs.Ring.{Element}
use Rattle.qvm_ring.specs.Views.{at}

-- e^{iθ/2} and e^{-iθ/2} are ω to these powers, at odd k both times e^{iθ/2}
abbrev pub up : ℕ → ℕ
up k = if k % 2 == 0 then k / 2 else k

abbrev pub down : ℕ → ℕ
down k = if k % 2 == 0 then 8 - k / 2 else 0

-- so many places from the first on have these entries, in rows of n
abbrev pub HasEntries : (ℕ → ℕ → Element) → ℕ → ℕ → List Element → Type 0
HasEntries entry n count zs = (i : ℕ) → i < count → at zs i ≡ entry (i / n) (i % n)
