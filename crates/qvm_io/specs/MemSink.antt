-- What a sink in memory has taken, and how much it still takes.
use Rattle.std.specs.Prelude.{ℕ, ◌-◌, min, List, length}

-- the bytes taken, how many it takes in all, for how many it has memory, and how many writes failed
pub record SinkState : Type 0 where
  pub taken : List ℕ
  pub limit : ℕ
  pub reserved : ℕ
  pub faults : ℕ

-- how many bytes of a piece of this length still fit
abbrev pub write_size : SinkState → ℕ → ℕ
write_size s count = min count (s.limit - length s.taken)
