use Rattle.std.proofs.Common.{Ok, ◌∙◌}
use Rattle.quil_gate.proofs.Formulas.{value_of_steps, fault_of_steps}
use Rattle.quil_gate.proofs.formula.formula_value.Goals as goal

pub returns-in-Ok : goal.returns-in-Ok
returns-in-Ok c = value_of_steps c.args.values.now c.deref.result.now c.args.formula.now (c.deref.ensures.value ∙ c.in_ok-arguments.ensures) c.steps-steps.ensures.tree (Ok c.in-Ok.value) c.in-Ok.ensures.ok

pub returns-in-Err-Stop : goal.returns-in-Err-Stop
returns-in-Err-Stop c =
    fault_of_steps c.args.values.now c.deref.result.now c.args.formula.now (c.deref.ensures.value ∙ c.in_ok-arguments.ensures) c.steps-steps.ensures.tree c.in-Err-Stop.field-0 c.in-Err-Stop.stop c.in-Err-Stop.field-0-is c.in-Err-Stop.ensures.err
