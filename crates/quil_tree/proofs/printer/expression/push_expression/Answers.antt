use Rattle.std.proofs.Common.{◌≡◌, [], ◌∷◌, ◌++◌, length, ap, ◌∙◌, Some, false}
use Rattle.std.proofs.lemmas.Result.{on_ok_weaker}
use Rattle.quil_tree.specs.declared.printer.tasks.Task.TheVariants as task
use Rattle.quil_tree.specs.Tasks.{from_expression, with_expression}
use Rattle.quil_tree.specs.Printed.{steps_text}
use Rattle.quil_tree.proofs.Plans.{planned_at_first, planned_next, planned_some, planned_whole}
use Rattle.quil_tree.proofs.printer.expression.push_expression.Goals as goal

pub loop-step-init : goal.loop-step-init
loop-step-init c =
    let names = c.args.names.now in
    let steps : c.steps-steps.result.now ≡ c.args.expr.now = cc in
    let tasks : c.push.new.self ≡ task.Expression false ∷ [] = cc (c.in_ok-push.ensures, c.new-tasks.ensures) in
    let written : c.new-written.result ≡ [] = cc in
    simp (steps, tasks, written) (planned_at_first names c.args.expr.now c.steps-steps.ensures.tree)

pub loop-step-preserved-in_ok-put_step : goal.loop-step-preserved-in_ok-put_step
loop-step-preserved-in_ok-put_step c =
    let names = c.args.names.now in
    let whole = steps_text names c.args.expr.now in
    let last : c.loop-step.steps.now ≡ c.in-Some.rest.now ++ c.in-Some.step.now ∷ [] = c.in-Some.ensures.cases.0 in
    let top : from_expression c.loop-step.tasks ≡ with_expression (Some c.in-Some-2.is_operand) c.put_texts.new.tasks = cc (c.in_ok-is_operand.ensures.tasks) in
    planned_next names c.loop-step.steps.now c.in-Some.rest.now c.in-Some.step.now c.in-Some-2.is_operand c.loop-step.tasks c.put_texts.new.tasks c.put_step.new.tasks c.loop-step.written c.put_texts.new.written c.put_step.new.written whole
    c.loop-step.invariant last c.in_ok-is_operand.ensures.written top c.in_ok-put_step.ensures.tasks c.in_ok-put_step.ensures.written

pub loop-step-preserved : goal.loop-step-preserved
loop-step-preserved c =
    let names = c.args.names.now in
    let whole = steps_text names c.args.expr.now in
    let last : c.loop-step.steps.now ≡ c.in-Some.rest.now ++ c.in-Some.step.now ∷ [] = c.in-Some.ensures.cases.0 in
    let top : from_expression c.loop-step.tasks ≡ [] = c.in_ok-is_operand.ensures.tasks ∙ ap (λ o. with_expression o c.put_texts.new.tasks) c.in_default-2.is in
    absurd (planned_some names c.loop-step.steps.now c.in-Some.rest.now c.in-Some.step.now c.loop-step.tasks c.loop-step.written c.put_texts.new.written whole c.loop-step.invariant last c.in_ok-is_operand.ensures.written top)

pub returns : goal.returns
returns c =
    let names = c.args.names.now in
    let whole = steps_text names c.args.expr.now in
    let none : length c.loop-step.steps.now ≡ 0 = c.in_default.ensures.cases in
    let all : c.put_texts-2.new.written ≡ whole = planned_whole names c.loop-step.steps.now c.in_ok-put_texts.field-0 c.loop-step.tasks c.put_texts-2.new.tasks c.loop-step.written c.put_texts-2.new.written whole c.loop-step.invariant none c.in_ok-put_texts.ensures.written c.in_ok-put_texts.ensures.tasks in
    on_ok_weaker c.append_to.result (λ e. e ∙ ap (λ x. c.args.text.now.items ++ x) all) c.append_to.ensures
