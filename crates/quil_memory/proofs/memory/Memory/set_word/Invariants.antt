use Rattle.std.proofs.Common.{◌≡◌, ◌-◌, ◌≤◌, length}
use Rattle.quil_memory.specs.CellTypes.{size}
use Rattle.quil_memory.proofs.Runs.{with_bits}
use Rattle.quil_memory.proofs.memory.Memory.set_word.Given as goal

abbrev pub invariant-loop-place : goal.invariant-loop-place
invariant-loop-place l = (l.place ≤ l.end) × (l.end ≤ length l.self) × (with_bits l.place (l.end - l.place) l.rest l.self ≡ with_bits l.fn.first (size l.fn.kind) l.fn.word l.initial.self)

abbrev pub decreases-loop-place : goal.decreases-loop-place
decreases-loop-place l = l.end - l.place
