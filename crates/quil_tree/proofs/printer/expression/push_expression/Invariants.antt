use Rattle.std.proofs.Common.{length}
use Rattle.quil_tree.specs.Printed.{steps_text}
use Rattle.quil_tree.proofs.Plans.{IsPlanned}
use Rattle.quil_tree.proofs.printer.expression.push_expression.Given as goal

abbrev pub invariant-loop-step : goal.invariant-loop-step
invariant-loop-step l = IsPlanned l.names l.steps l.tasks l.written (steps_text l.names l.expr)

abbrev pub decreases-loop-step : goal.decreases-loop-step
decreases-loop-step l = length l.steps
