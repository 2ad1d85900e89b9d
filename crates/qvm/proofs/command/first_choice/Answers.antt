use Rattle.qvm.proofs.Options.{choices_first}
use Rattle.qvm.proofs.command.first_choice.Goals as goal

pub returns-clause-cases : goal.returns-clause-cases
returns-clause-cases c = choices_first _ _ _ _ _ c.in_default.ensures c.in_ok-value.ensures.cases.0 c.as_str.ensures.value
