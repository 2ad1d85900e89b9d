use Rattle.std.proofs.Common.{◌≡◌, [], length}
use Rattle.quil_value.specs.Runs.{ran}
use Rattle.quil_value.proofs.evaluation.ran.Given as goal

abbrev pub invariant-loop-steps : goal.invariant-loop-steps
invariant-loop-steps l = ran l.layout l.arguments l.steps l.stack ≡ ran l.layout l.arguments l.initial.steps []

abbrev pub decreases-loop-steps : goal.decreases-loop-steps
decreases-loop-steps l = length l.steps
