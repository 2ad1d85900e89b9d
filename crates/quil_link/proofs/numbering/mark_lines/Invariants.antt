use Rattle.std.proofs.Common.{◌≡◌, ℕ, ◌<◌, ◌||◌, false, length, get_or}
use Rattle.quil_link.specs.Numbered.{is_used}
use Rattle.quil_link.proofs.numbering.mark_lines.Given as goal

-- the marks so far, and those of the lines that are left
abbrev pub invariant-loop-lines : goal.invariant-loop-lines
invariant-loop-lines l = record {
  size : length l.marks ≡ length l.fn.marks;
  marks : (q : ℕ) → q < length l.fn.marks → (get_or l.marks q false || is_used l.lines q) ≡ (get_or l.fn.marks q false || is_used l.initial.lines q);
}

abbrev pub decreases-loop-lines : goal.decreases-loop-lines
decreases-loop-lines l = length l.lines
