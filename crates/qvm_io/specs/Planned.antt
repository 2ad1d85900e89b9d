-- Calls that a test plans to fail, by their numbers.
use Rattle.std.specs.Prelude.{ℕ, List, Bool, ◌==◌}
use Rattle.std.specs.List.{list_any}
use Rattle.qvm_io.specs.Causes.{next_count}

-- the call after so many calls is one of those planned to fail; the first call has the number 1
abbrev pub is_next_planned : List ℕ → ℕ → Bool
is_next_planned failing calls = list_any (λ number. number == next_count calls) failing
