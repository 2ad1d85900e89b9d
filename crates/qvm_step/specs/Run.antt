-- Whole runs: steps from all qubits 0, all bits 0 and the first line, with the words of a seed.
use Rattle.std.specs.Prelude.{ℕ, zero, suc, ◌+◌, false, if◌then◌else◌, List, length, replicate}
use Rattle.qvm_ring.specs.Gate.{zero_ray}
use Rattle.quil_code.specs.declared.quantum.Quantum.{Quantum}
use Rattle.quil_code.specs.declared.fault.Fault.{Fault as StepFault}
use Rattle.quil_code.specs.Program.{Program}
use Rattle.quil_code.specs.Step.{Goes, Waits, Halts, Faults, step, needs_word}
use Rattle.qvm_step.specs.Words.{draw}

-- how a run ended: by HALT or behind its last line, at a WAIT, at its limit of steps, or by a fault
pub data End : Type 0 where
  Halted : End
  Waiting : End
  StepLimit : End
  Fault : StepFault → End

-- the machine at the end, how many words were drawn, and how it ended
pub record Finished : Type 0 where
  pub machine : Quantum
  pub draws : ℕ
  pub end : End

-- how a run ends at a WAIT with so many steps left behind it
abbrev pub end_at_wait : ℕ → End
end_at_wait zero = StepLimit
end_at_wait (suc n) = Waiting

-- the run of at most so many steps, from a machine that has drawn so many words; a word is drawn exactly where a step needs one
unfoldable pub finished : ℕ → Program → List ℕ → Quantum → ℕ → Finished
finished zero program seed m draws = record { machine = m; draws = draws; end = StepLimit }
finished (suc n) program seed m draws = elim (step program m (draw seed draws)) [
  | Goes next ↦ finished n program seed next (if needs_word program m then draws + 1 else draws)
  | Waits next ↦ record { machine = next; draws = draws; end = end_at_wait n }
  | Halts ↦ record { machine = m; draws = draws; end = Halted }
  | Faults f ↦ record { machine = m; draws = draws; end = Fault f }
]

-- all qubits of the program 0, all bits 0, at the first line
abbrev pub start : Program → Quantum
start program = record {
  ray = record { qubits = length program.qubits; amplitudes = zero_ray };
  memory = replicate program.layout.bits false;
  at = 0;
}
