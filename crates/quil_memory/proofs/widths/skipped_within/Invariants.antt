use Rattle.std.proofs.Common.{◌≡◌, ◌+◌, ◌≤◌, length}
use Rattle.quil_memory.specs.Layout.{skipped_bits}
use Rattle.quil_memory.proofs.widths.skipped_within.Given as goal

abbrev pub invariant-loop-parts : goal.invariant-loop-parts
invariant-loop-parts l = (l.skipped ≤ l.most) × (l.skipped + skipped_bits l.parts ≡ skipped_bits l.initial.parts)

abbrev pub decreases-loop-parts : goal.decreases-loop-parts
decreases-loop-parts l = length l.parts
