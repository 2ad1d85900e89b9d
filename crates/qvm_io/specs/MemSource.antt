-- What a source in memory still has, and what its next read will do.
use Rattle.std.specs.Prelude.{ℕ, ◌==◌, min, List, [], ◌∷◌, length, Bool, if◌then◌else◌, Result, Ok, Err}
use Rattle.qvm_io.specs.declared.errors.Failed.{Failed}
use Rattle.qvm_io.specs.Planned.{is_next_planned}

-- the bytes that are left, the sizes of the next pieces, the numbers of the reads that fail, how many
-- reads there were, how many of them failed, whether the last one answered 0, and how many did
pub record SourceState : Type 0 where
  pub left : List ℕ
  pub pieces : List ℕ
  pub failing : List ℕ
  pub reads : ℕ
  pub faults : ℕ
  pub saw_end : Bool
  pub ends : ℕ

-- the most bytes that a read into a buffer of length `room` gives: the next piece's size, where 0
-- counts as 1, and as many as the buffer holds after the last piece
abbrev pub piece_size : List ℕ → ℕ → ℕ
piece_size [] room = room
piece_size (size ∷ sizes) room = min (if size == 0 then 1 else size) room

-- how many bytes such a read gives, where it doesn't fail
abbrev pub read_size : SourceState → ℕ → ℕ
read_size s room = min (piece_size s.pieces room) (length s.left)

-- what such a read answers
abbrev pub read_answer : SourceState → ℕ → Result ℕ Failed
read_answer s room = if is_next_planned s.failing s.reads then Err (record {}) else Ok (read_size s room)
