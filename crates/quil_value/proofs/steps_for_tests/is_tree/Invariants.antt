use Rattle.std.proofs.Common.{length}
use Rattle.quil_tree.proofs.Values.{IsRead}
use Rattle.quil_value.proofs.steps_for_tests.is_tree.Given as goal

abbrev pub invariant-loop-step : goal.invariant-loop-step
invariant-loop-step l = IsRead l.depth l.steps l.initial.steps

abbrev pub decreases-loop-step : goal.decreases-loop-step
decreases-loop-step l = length l.steps
