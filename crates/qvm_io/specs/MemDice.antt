-- What dice in memory still have, and what their next draw will do.
use Rattle.std.specs.Prelude.{ℕ, List, [], ◌∷◌, if◌then◌else◌, Result, Ok, Err}
use Rattle.qvm_io.specs.declared.errors.Failed.{Failed}
use Rattle.qvm_io.specs.Planned.{is_next_planned}

-- the words that are left, the numbers of the draws that fail, how many draws there were, and how many
-- of them failed
pub record DiceState : Type 0 where
  pub left : List ℕ
  pub failing : List ℕ
  pub draws : ℕ
  pub faults : ℕ

-- the first of the words, or a failure where there is none
abbrev pub first_word : List ℕ → Result ℕ Failed
first_word [] = Err (record {})
first_word (word ∷ words) = Ok word

-- what a draw answers
abbrev pub draw_answer : DiceState → Result ℕ Failed
draw_answer s = if is_next_planned s.failing s.draws then Err (record {}) else first_word s.left
