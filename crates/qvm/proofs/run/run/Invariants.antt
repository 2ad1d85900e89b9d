use Rattle.qvm.proofs.Runs.{Runs}
use Rattle.qvm.proofs.run.run.Given as goal

-- what is left of the run ends as the whole run
abbrev pub invariant-loop-done : goal.invariant-loop-done
invariant-loop-done l = Runs l.seed l.code l.limit l.done l.machine l.draws
