use Rattle.std.proofs.Common.{◌≡◌, ◌≤◌, ◌-◌, length}
use Rattle.quil_code.specs.Step.{here}
use Rattle.qvm_step.proofs.place.here.Given as goal

-- the step from the place is that from the first one
abbrev pub invariant-loop-place : goal.invariant-loop-place
invariant-loop-place l = (here l.code.lines l.place ≡ here l.code.lines l.at) × (l.place ≤ length l.code.lines)

abbrev pub decreases-loop-place : goal.decreases-loop-place
decreases-loop-place l = length l.code.lines - l.place
