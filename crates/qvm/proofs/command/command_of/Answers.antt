use Rattle.std.proofs.Common.{◌∙◌, Some, None}
use Rattle.qvm.proofs.Options.{no_command, other_command, run_command}
use Rattle.qvm.proofs.command.command_of.Goals as goal

pub returns-in_err-word : goal.returns-in_err-word
returns-in_err-word c = c.from_residual.ensures ∙ no_command c.args.words.now c.in_err-word.ensures.cases

pub returns-in_err-options : goal.returns-in_err-options
returns-in_err-options c = c.from_residual-in_err-options.ensures ∙ run_command c.args.words.now c.in_ok-word.options.now c.in_ok-word.word.now c.as_str.result.now c.eq.result
    c.in_ok-word.ensures.cases.0 c.as_str.ensures.value c.eq.ensures c.if-eq.true None c.in_err-options.ensures

pub returns-then-eq : goal.returns-then-eq
returns-then-eq c = run_command c.args.words.now c.in_ok-word.options.now c.in_ok-word.word.now c.as_str.result.now c.eq.result
    c.in_ok-word.ensures.cases.0 c.as_str.ensures.value c.eq.ensures c.if-eq.true (Some c.in_ok-options.options) c.in_ok-options.ensures

pub returns : goal.returns
returns c = other_command c.args.words.now c.in_ok-word.options.now c.in_ok-word.word.now c.as_str.result.now c.eq.result
    c.in_ok-word.ensures.cases.0 c.as_str.ensures.value c.eq.ensures c.if-eq.false
