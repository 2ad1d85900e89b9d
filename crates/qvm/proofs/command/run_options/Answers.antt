use Rattle.std.proofs.Common.{◌∙◌, Some, None}
use Rattle.qvm.proofs.Options.{option_read}
use Rattle.qvm.proofs.command.run_options.Goals as goal

pub returns-in_err-given : goal.returns-in_err-given
returns-in_err-given c = c.from_residual-in_err-given.ensures ∙ option_read c.loop-word.given c.loop-word.left.now c.in-Some.behind.now c.in_ok-name.rest.now c.in-Some.word.now c.as_str.result.now
    c.in_ok-name.name.now c.in_ok-name.value.now None _ c.in-Some.ensures.cases.0 c.as_str.ensures.value c.in_ok-name.ensures.cases c.in_err-given.ensures c.loop-word.invariant

pub loop-word-preserved : goal.loop-word-preserved
loop-word-preserved c = option_read c.loop-word.given c.loop-word.left.now c.in-Some.behind.now c.in_ok-name.rest.now c.in-Some.word.now c.as_str.result.now
    c.in_ok-name.name.now c.in_ok-name.value.now (Some c.in_ok-given.given) _ c.in-Some.ensures.cases.0 c.as_str.ensures.value c.in_ok-name.ensures.cases c.in_ok-given.ensures c.loop-word.invariant
