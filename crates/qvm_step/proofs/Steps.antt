-- Steps, words, and machines that still fit.
use Rattle.std.proofs.Common.{◌≡◌, ◌≢◌, refl, sym, subst, ℕ, zero, suc, ◌+◌, ◌^◌, ◌<◌, Bool, true, false, List, [], ◌∷◌, length, get_or, arith}
use Rattle.std.proofs.lemmas.Option.{slice_get_within, get_or_from_slice_get}
use Rattle.std.specs.Prelude.{Option, Some, None, Ok, Err, slice_get, if◌then◌else◌}
use Rattle.std.specs.List.{AllByRecursion}
use Rattle.qvm_ring.specs.Ray.{Ray}
use Rattle.qvm_ring.specs.Measure.{outcome}
use Rattle.quil_memory.specs.declared.cell_type.CellType.TheVariants.{Bit}
use Rattle.quil_code.specs.declared.classic.Cell.{Cell}
use Rattle.quil_code.specs.declared.classic.Classic.{Classic as ClassicInstruction}
use Rattle.quil_code.specs.declared.instruction.Instruction.{Instruction}
use Rattle.quil_code.specs.declared.instruction.Instruction.TheVariants.{Passive, Nop, Wait, Halt, X, H, Cnot, Measure, Reset, Classic}
use Rattle.quil_code.specs.declared.instruction.Line.{Line}
use Rattle.quil_code.specs.declared.quantum.Quantum.{Quantum}
use Rattle.quil_code.specs.declared.quantum.Stepped.{Stepped}
use Rattle.quil_code.specs.declared.quantum.Stepped.TheVariants as stepped
use Rattle.quil_code.specs.declared.fault.Fault.{Fault}
use Rattle.quil_code.specs.Classic.{Effect, effect, one_if}
use Rattle.quil_code.specs.Program.{Program, IsProgram, Fits, OutcomeFits, ClassicFits}
use Rattle.quil_code.specs.Step.{Next, Goes, Waits, Halts, Faults, here, step, needs_word, after_effect, after_line, after_instruction, with_outcome, is_measurement, line_needs_word, FitsProgram, Answers}
use Rattle.qvm_classic.specs.Places.{classic_at}
use Rattle.qvm_classic.proofs.Lengths.{length-with_word, kept as kept_length}

-- ---- words

instruction_without_word : (i : Instruction) (line next word other : ℕ) (m : Quantum) → is_measurement i ≡ false → after_instruction i line next word m ≡ after_instruction i line next other m
instruction_without_word Passive line next word other m h = refl
instruction_without_word Nop line next word other m h = refl
instruction_without_word Wait line next word other m h = refl
instruction_without_word Halt line next word other m h = refl
instruction_without_word (X q) line next word other m h = refl
instruction_without_word (H q) line next word other m h = refl
instruction_without_word (Cnot c t) line next word other m h = refl
instruction_without_word (Measure q c) line next word other m h = absurd (cc)
instruction_without_word (Reset None) line next word other m h = refl
instruction_without_word (Reset (Some q)) line next word other m h = absurd (cc)
instruction_without_word (Classic c) line next word other m h = refl

line_without_word : (l : Option Line) (next word other : ℕ) (m : Quantum) → line_needs_word l ≡ false → after_line l next word m ≡ after_line l next other m
line_without_word None next word other m h = refl
line_without_word (Some l) next word other m h = instruction_without_word l.instruction l.number next word other m h

pub step_without_word : (program : Program) (m : Quantum) (word other : ℕ) → needs_word program m ≡ false → step program m word ≡ step program m other
unfolding step needs_word
step_without_word program m word other h = line_without_word (slice_get program.lines (here program.lines m.at)) (here program.lines m.at + 1) word other m h

-- ---- lines that fit

all_at : (P : Line → Type 0) (ls : List Line) (at : ℕ) (d : Line) → AllByRecursion P ls → at < length ls → P (get_or ls at d)
all_at P [] at d f h = absurd (omega arith)
all_at P (l ∷ ls) zero d f h = f.0
all_at P (l ∷ ls) (suc at) d f h = all_at P ls at d f.1 (omega arith)

-- the line at a place of a program fits it
pub line_fits : (p : Program) (at : ℕ) (l : Line) → IsProgram p → slice_get p.lines at ≡ Some l → Fits l.instruction (length p.qubits) p.layout.bits
line_fits p at l k e =
    subst (λ (m : Line). Fits m.instruction (length p.qubits) p.layout.bits) (get_or_from_slice_get p.lines at l l e)
    (all_at (λ (m : Line). Fits m.instruction (length p.qubits) p.layout.bits) p.lines at l k.fit (slice_get_within p.lines at l e))

pub instruction_fits : (p : Program) (at : ℕ) (l : Line) (i : Instruction) → IsProgram p → slice_get p.lines at ≡ Some l → l.instruction ≡ i → Fits i (length p.qubits) p.layout.bits
instruction_fits p at l i k e is = subst (λ (j : Instruction). Fits j (length p.qubits) p.layout.bits) is (line_fits p at l k e)

-- ---- machines that still fit

-- where a step goes on, the machine fits
abbrev NextFits : Program → Next → Type 0
NextFits p (Goes m) = FitsProgram p m
NextFits p (Waits m) = FitsProgram p m
NextFits p Halts = Unit {0}
NextFits p (Faults f) = Unit {0}

moved : (p : Program) (m : Quantum) (place : ℕ) → FitsProgram p m → place < length p.lines → FitsProgram p (record { ray = m.ray; memory = m.memory; at = place + 1 })
moved p m place h k = record { qubits = h.qubits; memory = h.memory; place = omega arith }

gate_fits : (b : Bool) (p : Program) (m : Quantum) (ray : Ray) (f : Fault) (place : ℕ) → FitsProgram p m → place < length p.lines
    → NextFits p (if b then Goes (record { ray = record { qubits = m.ray.qubits; amplitudes = ray }; memory = m.memory; at = place + 1 }) else Faults f)
gate_fits true p m ray f place h k = record { qubits = h.qubits; memory = h.memory; place = omega arith }
gate_fits false p m ray f place h k = tt

outcome_length : (c : Option Cell) (bit : Bool) (bits : List Bool) → OutcomeFits c (length bits) → length (with_outcome c bit bits) ≡ length bits
outcome_length None bit bits h = refl
outcome_length (Some c) bit bits h = length-with_word Bit c.first (one_if bit) bits h

effect_fits : (e : Effect) (c : ClassicInstruction) (p : Program) (m : Quantum) (line place : ℕ) → effect line c m.memory ≡ e → ClassicFits c (length m.memory) → FitsProgram p m → place < length p.lines
    → NextFits p (after_effect e (place + 1) m)
effect_fits (Ok bits) c p m line place e f h k = record { qubits = h.qubits; memory = rw (kept_length (Ok tt) line c m.memory bits f e) h.memory; place = omega arith }
effect_fits (Err x) c p m line place e f h k = tt

instruction_goes : (i : Instruction) (p : Program) (m : Quantum) (line place word : ℕ) → Fits i (length p.qubits) p.layout.bits → FitsProgram p m → place < length p.lines
    → NextFits p (after_instruction i line (place + 1) word m)
instruction_goes Passive p m line place word f h k = moved p m place h k
instruction_goes Nop p m line place word f h k = moved p m place h k
instruction_goes Wait p m line place word f h k = moved p m place h k
instruction_goes Halt p m line place word f h k = tt
instruction_goes (X q) p m line place word f h k = gate_fits _ p m _ _ place h k
instruction_goes (H q) p m line place word f h k = gate_fits _ p m _ _ place h k
instruction_goes (Cnot c t) p m line place word f h k = gate_fits _ p m _ _ place h k
instruction_goes (Measure q c) p m line place word f h k =
    record { qubits = h.qubits; memory = rw (outcome_length c (outcome m.ray.amplitudes q word) m.memory (subst (OutcomeFits c) (sym h.memory) f.1)) h.memory; place = omega arith }
instruction_goes (Reset None) p m line place word f h k = record { qubits = h.qubits; memory = h.memory; place = omega arith }
instruction_goes (Reset (Some q)) p m line place word f h k = record { qubits = h.qubits; memory = h.memory; place = omega arith }
instruction_goes (Classic c) p m line place word f h k = effect_fits _ c p m line place refl (subst (ClassicFits c) (sym h.memory) f) h k

answer_fits : (s : Stepped) (p : Program) (next : Next) (old new : Quantum) → NextFits p next → FitsProgram p old → Answers s next old new → FitsProgram p new
answer_fits stepped.Went p next old new n h a = subst (NextFits p) a n
answer_fits stepped.AtWait p next old new n h a = subst (NextFits p) a n
answer_fits stepped.Halted p next old new n h a = subst (FitsProgram p) (sym a.1) h
answer_fits (stepped.Fault f) p next old new n h a = subst (FitsProgram p) (sym a.1) h
answer_fits stepped.OutOfMemory p next old new n h a = subst (FitsProgram p) (sym a) h

-- after a step at a line the machine still fits
pub step_fits : (p : Program) (l : Line) (place word : ℕ) (s : Stepped) (old new : Quantum) → IsProgram p → FitsProgram p old → slice_get p.lines place ≡ Some l
    → Answers s (after_instruction l.instruction l.number (place + 1) word old) old new → FitsProgram p new
step_fits p l place word s old new k h e a =
    answer_fits s p _ old new (instruction_goes l.instruction p old l.number place word (line_fits p place l k e) h (slice_get_within p.lines place l e)) h a

-- ---- classical lines

pub classic_line : (p : Program) (l : Line) (place : ℕ) (c : ClassicInstruction) → slice_get p.lines place ≡ Some l → l.instruction ≡ Classic c → classic_at p place ≡ Some (l.number, c)
classic_line p l place c e i = rw (e, i)
