use Rattle.quil_code.specs.Step.{FitsProgram}
use Rattle.qvm_step.proofs.tests.answers.Given as goal

abbrev pub invariant-loop-command : goal.invariant-loop-command
invariant-loop-command l = FitsProgram l.code l.quantum
