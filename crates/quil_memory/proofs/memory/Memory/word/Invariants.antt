use Rattle.std.proofs.Common.{◌≡◌, ◌+◌, ◌-◌, ◌≤◌, take, drop}
use Rattle.quil_memory.specs.CellTypes.{size}
use Rattle.quil_memory.specs.Cells.{number_of}
use Rattle.quil_memory.proofs.memory.Memory.word.Given as goal

abbrev pub invariant-loop-left : goal.invariant-loop-left
invariant-loop-left l = (l.left ≤ size l.fn.kind) × (l.word ≡ number_of (take (size l.fn.kind - l.left) (drop (l.first + l.left) l.self)))

abbrev pub decreases-loop-left : goal.decreases-loop-left
decreases-loop-left l = l.left
