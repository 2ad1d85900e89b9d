use Rattle.std.proofs.Common.{sym}
use Rattle.qvm_step.proofs.Steps.{step_fits}
use Rattle.qvm_step.proofs.machine.step.Goals as goal

pub returns-in-Some-clause-kept : goal.returns-in-Some-clause-kept
returns-in-Some-clause-kept c =
    step_fits c.args.code.now c.in-Some.line c.here-place.result c.args.word c.line_step.result c.args.quantum.now c.line_step.new.quantum c.in-Some.ensures.kept c.requires (sym c.in-Some.ensures.line) c.line_step.ensures.answer
