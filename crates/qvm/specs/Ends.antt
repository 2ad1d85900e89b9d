-- What the code's run has of the definition's.
use Rattle.std.specs.Prelude.{◌≡◌, ℕ, ◌+◌, true, List, if◌then◌else◌}
use Rattle.quil_code.specs.declared.quantum.Quantum.{Quantum}
use Rattle.quil_code.specs.Program.{Program}
use Rattle.quil_code.specs.Step.{needs_word}
use Rattle.qvm_step.specs.Words.{draw}
use Rattle.qvm_step.specs.Run.{End, Finished}
use Rattle.qvm_step.specs.Run as run
use Rattle.qvm.specs.declared.run.End.{End as CodeEnd}
use Rattle.qvm.specs.declared.run.End.TheVariants as code
use Rattle.qvm.specs.declared.run.Finish.{Finish}
use Rattle.qvm.specs.declared.answer.Reply.{Reply as CodeReply}
use Rattle.qvm.specs.RunText.{Reply}

-- the end that the code names
abbrev pub end_seen : CodeEnd → End
end_seen code.Halted = run.Halted
end_seen code.Waiting = run.Waiting
end_seen code.StepLimit = run.StepLimit
end_seen (code.Fault f) = run.Fault f

-- the code's run ended as the definition's
pub record EndsAs (finish : Finish) (f : Finished) : Type 0 where
  pub memory : finish.memory ≡ f.machine.memory
  pub end : end_seen finish.end ≡ f.end

-- the word is the next of the seed, and is then used up, where the step needs one
pub record NextWord (seed : List ℕ) (program : Program) (m : Quantum) (draws draws' word : ℕ) : Type 0 where
  pub drawn : needs_word program m ≡ true → word ≡ draw seed draws
  pub count : draws' ≡ (if needs_word program m then draws + 1 else draws)

-- the reply that the code holds
abbrev pub reply_seen : CodeReply → Reply
reply_seen r = record { output = r.output.items; status = r.status }
