use Rattle.std.proofs.Common.{◌≡◌, ◌≤◌, length}
use Rattle.quil_link.specs.Counted.{counted}
use Rattle.quil_link.proofs.count.check_counts.Given as goal

-- behind the statements so far, what is left has the first fault of all
abbrev pub invariant-loop-items : goal.invariant-loop-items
invariant-loop-items l = (l.count ≤ 65536) × (counted l.count l.items ≡ counted 0 l.initial.items)

abbrev pub decreases-loop-items : goal.decreases-loop-items
decreases-loop-items l = length l.items
