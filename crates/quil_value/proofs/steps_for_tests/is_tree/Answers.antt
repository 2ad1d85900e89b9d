use Rattle.std.proofs.Common.{◌≡◌, arith}
use borrow.Author.Tests.{eqb-true}
use Rattle.quil_tree.specs.Values.{values_taken}
use Rattle.quil_tree.proofs.Values.{read_next, read_all}
use Rattle.quil_value.proofs.steps_for_tests.is_tree.Goals as goal

pub loop-step-preserved : goal.loop-step-preserved
loop-step-preserved c =
    let taken : c.values_taken-taken.result ≡ values_taken c.in-Some.step.now.action = c.values_taken-taken.ensures in
    rw taken (read_next c.loop-step.depth c.in-Some.step.now c.loop-step.steps.now c.in-Some.rest.now c.args.steps.now c.loop-step.invariant c.in-Some.ensures.cases.0 (omega arith))

pub returns : goal.returns
returns c = λ h. read_all c.loop-step.depth c.loop-step.steps.now c.args.steps.now c.loop-step.invariant c.in_default.ensures.cases (eqb-true c.loop-step.depth 1 h)
