-- One step of the abstract machine (arXiv 1608.03355, with MEASURE, RESET, WAIT, NOP, HALT and the classical instructions of the
-- Quil specification).
use Rattle.std.specs.Prelude.{◌≡◌, ℕ, ◌+◌, ◌≤◌, nat_le, Bool, true, false, if◌then◌else◌, List, [], ◌∷◌, length, drop, Option, Some, None, is_some, Ok, Err, slice_get}
use Rattle.std.specs.List.{prefix_len}
use Rattle.qvm_ring.specs.Ray.{Ray, State, weight, weight_limit}
use Rattle.qvm_ring.specs.Gate.{Gate, x_gate, h_gate, cnot_gate, applied, zero_ray}
use Rattle.qvm_ring.specs.Measure.{outcome, projected}
use Rattle.qvm_ring.specs.NormViews.{bit_number}
use Rattle.quil_memory.specs.declared.cell_type.CellType.TheVariants.{Bit}
use Rattle.quil_memory.specs.Cells.{with_word}
use Rattle.quil_code.specs.declared.classic.Cell.{Cell}
use Rattle.quil_code.specs.declared.instruction.Instruction.{Instruction}
use Rattle.quil_code.specs.declared.instruction.Instruction.TheVariants as instruction
use Rattle.quil_code.specs.declared.instruction.Line.{Line}
use Rattle.quil_code.specs.declared.quantum.Quantum.{Quantum}
use Rattle.quil_code.specs.declared.quantum.Stepped.{Stepped}
use Rattle.quil_code.specs.declared.quantum.Stepped.TheVariants as stepped
use Rattle.quil_code.specs.declared.fault.Fault.{Fault}
use Rattle.quil_code.specs.declared.fault.Fault.TheVariants.{AmplitudeLimit}
use Rattle.quil_code.specs.Classic.{Effect, effect, one_if}
use Rattle.quil_code.specs.Faults.{fault_of}
use Rattle.quil_code.specs.Program.{Program}

-- What a step does: the machine goes on, or goes on and waits, in a new state; or it halts or meets a fault, and stays as it was.
pub data Next : Type 0 where
  Goes : Quantum → Next
  Waits : Quantum → Next
  Halts : Next
  Faults : Fault → Next

-- ---- the place

-- declarations and pragmas are no steps
abbrev pub is_passive : Line → Bool
is_passive l = elim l.instruction [
  | instruction.Passive ↦ true
  | instruction.Nop ↦ false
  | instruction.Wait ↦ false
  | instruction.Halt ↦ false
  | instruction.X q ↦ false
  | instruction.H q ↦ false
  | instruction.Cnot control target ↦ false
  | instruction.Measure q cell ↦ false
  | instruction.Reset q ↦ false
  | instruction.Classic c ↦ false
]

-- the first place from this one on whose line is a step, or the number of lines
abbrev pub here : List Line → ℕ → ℕ
here lines at = at + prefix_len is_passive (drop at lines)

-- ---- instructions: the line in the text, and the next place

-- a gate: its product, reduced, where that isn't too heavy
abbrev pub after_gate : Gate → List ℕ → ℕ → ℕ → Quantum → Next
after_gate g qs line next m =
    let product = applied m.ray.qubits g qs m.ray.amplitudes in
    if nat_le (weight product) weight_limit
    then Goes (record { ray = record { qubits = m.ray.qubits; amplitudes = product }; memory = m.memory; at = next })
    else Faults (AmplitudeLimit line)

-- memory after an outcome went into a cell, where there is one
abbrev pub with_outcome : Option Cell → Bool → List Bool → List Bool
with_outcome None bit bits = bits
with_outcome (Some c) bit bits = with_word Bit c.first (one_if bit) bits

-- a measurement: the outcome by the word, the part of the ray that it keeps, and the cell
abbrev pub after_measurement : ℕ → Option Cell → ℕ → ℕ → Quantum → Next
after_measurement q cell word next m =
    let bit = outcome m.ray.amplitudes q word in
    Goes (record {
      ray = record { qubits = m.ray.qubits; amplitudes = projected m.ray.amplitudes q (bit_number bit) };
      memory = with_outcome cell bit m.memory;
      at = next;
    })

-- RESET: all qubits 0
abbrev pub after_reset : ℕ → Quantum → Next
after_reset next m = Goes (record { ray = record { qubits = m.ray.qubits; amplitudes = zero_ray }; memory = m.memory; at = next })

-- a ray after RESET of a qubit: its measurement by the word, and the gate X on it where the outcome was 1
abbrev pub with_qubit_reset : ℕ → ℕ → State → Ray
with_qubit_reset q word ray =
    let bit = outcome ray.amplitudes q word in
    let left = projected ray.amplitudes q (bit_number bit) in
    if bit then applied ray.qubits x_gate (q ∷ []) left else left

abbrev pub after_qubit_reset : ℕ → ℕ → ℕ → Quantum → Next
after_qubit_reset q word next m =
    Goes (record { ray = record { qubits = m.ray.qubits; amplitudes = with_qubit_reset q word m.ray }; memory = m.memory; at = next })

abbrev pub after_effect : Effect → ℕ → Quantum → Next
after_effect (Ok bits) next m = Goes (record { ray = m.ray; memory = bits; at = next })
after_effect (Err f) next m = Faults (fault_of f)

abbrev pub after_instruction : Instruction → ℕ → ℕ → ℕ → Quantum → Next
after_instruction instruction.Passive line next word m = Goes (record m { at = next })
after_instruction instruction.Nop line next word m = Goes (record m { at = next })
after_instruction instruction.Wait line next word m = Waits (record m { at = next })
after_instruction instruction.Halt line next word m = Halts
after_instruction (instruction.X q) line next word m = after_gate x_gate (q ∷ []) line next m
after_instruction (instruction.H q) line next word m = after_gate h_gate (q ∷ []) line next m
after_instruction (instruction.Cnot control target) line next word m = after_gate cnot_gate (control ∷ target ∷ []) line next m
after_instruction (instruction.Measure q cell) line next word m = after_measurement q cell word next m
after_instruction (instruction.Reset None) line next word m = after_reset next m
after_instruction (instruction.Reset (Some q)) line next word m = after_qubit_reset q word next m
after_instruction (instruction.Classic c) line next word m = after_effect (effect line c m.memory) next m

-- past the last line the machine halts
abbrev pub after_line : Option Line → ℕ → ℕ → Quantum → Next
after_line None next word m = Halts
after_line (Some l) next word m = after_instruction l.instruction l.number next word m

-- one step, with the word for a measurement or a reset
unfoldable pub step : Program → Quantum → ℕ → Next
step program m word =
    let place = here program.lines m.at in
    after_line (slice_get program.lines place) (place + 1) word m

-- ---- words

-- MEASURE and RESET of a qubit measure; RESET of all doesn't
abbrev pub is_measurement : Instruction → Bool
is_measurement instruction.Passive = false
is_measurement instruction.Nop = false
is_measurement instruction.Wait = false
is_measurement instruction.Halt = false
is_measurement (instruction.X q) = false
is_measurement (instruction.H q) = false
is_measurement (instruction.Cnot control target) = false
is_measurement (instruction.Measure q cell) = true
is_measurement (instruction.Reset q) = is_some q
is_measurement (instruction.Classic c) = false

abbrev pub line_needs_word : Option Line → Bool
line_needs_word None = false
line_needs_word (Some l) = is_measurement l.instruction

-- whether the step uses its word: exactly at MEASURE and at RESET of a qubit
unfoldable pub needs_word : Program → Quantum → Bool
needs_word program m = line_needs_word (slice_get program.lines (here program.lines m.at))

-- ---- want of memory

-- gates make a new ray
abbrev pub makes_ray : Instruction → Bool
makes_ray instruction.Passive = false
makes_ray instruction.Nop = false
makes_ray instruction.Wait = false
makes_ray instruction.Halt = false
makes_ray (instruction.X q) = true
makes_ray (instruction.H q) = true
makes_ray (instruction.Cnot control target) = true
makes_ray (instruction.Measure q cell) = false
makes_ray (instruction.Reset q) = false
makes_ray (instruction.Classic c) = false

abbrev pub line_may_want_memory : Option Line → Bool
line_may_want_memory None = false
line_may_want_memory (Some l) = makes_ray l.instruction

-- whether memory may run out in the step: at a gate alone
unfoldable pub may_want_memory : Program → Quantum → Bool
may_want_memory program m = line_may_want_memory (slice_get program.lines (here program.lines m.at))

-- ---- machines and answers

-- a machine that a program can run on: its qubits, the bits of its layout, and a place in it or at its end
pub record FitsProgram (program : Program) (m : Quantum) : Type 0 where
  pub qubits : m.ray.qubits ≡ length program.qubits
  pub memory : length m.memory ≡ program.layout.bits
  pub place : m.at ≤ length program.lines

-- What an answer of the code says of a step: it went on, or on to wait, where the definition goes; or nothing changed, and it
-- halted, met that fault, or memory ran out.
abbrev pub Answers : Stepped → Next → Quantum → Quantum → Type 0
Answers stepped.Went next old new = next ≡ Goes new
Answers stepped.AtWait next old new = next ≡ Waits new
Answers stepped.Halted next old new = (next ≡ Halts) × (new ≡ old)
Answers (stepped.Fault f) next old new = (next ≡ Faults f) × (new ≡ old)
Answers stepped.OutOfMemory next old new = new ≡ old
