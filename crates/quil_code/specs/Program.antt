-- Programs as a machine runs them: the layout of memory, the qubits, and the lines in the order of the expanded text
-- (arXiv 1608.03355; DECLARE, MEASURE and the classical instructions of the Quil specification).
use Rattle.std.specs.Prelude.{◌≢◌, ℕ, ◌+◌, ◌<◌, ◌≤◌, ◌^◌, List, length, Option, Some, None}
use Rattle.std.specs.List.{AllByRecursion}
use Rattle.std.specs.List.Sorted.{IsStrictlyIncreasing}
use Rattle.quil_memory.specs.declared.cell_type.CellType.{CellType}
use Rattle.quil_memory.specs.declared.cell_type.CellType.TheVariants as cell_type
use Rattle.quil_memory.specs.CellTypes.{size, InType}
use Rattle.quil_memory.specs.Layout.{Regions, width, most_bits}
use Rattle.quil_code.specs.declared.classic.Cell.{Cell}
use Rattle.quil_code.specs.declared.classic.Source.{Source}
use Rattle.quil_code.specs.declared.classic.Source.TheVariants.{FromCell, Literal}
use Rattle.quil_code.specs.declared.classic.Span.{Span}
use Rattle.quil_code.specs.declared.classic.Classic.{Classic}
use Rattle.quil_code.specs.declared.classic.Classic.TheVariants as classic
use Rattle.quil_code.specs.declared.instruction.Instruction.{Instruction}
use Rattle.quil_code.specs.declared.instruction.Instruction.TheVariants as instruction
use Rattle.quil_code.specs.declared.instruction.Line.{Line}
use Rattle.quil_code.specs.Operands.{arithmetic_type, bitwise_type}

-- the index of a qubit's number stands at that number among the qubits
pub record Program : Type 0 where
  pub layout : Regions
  pub qubits : List ℕ
  pub lines : List Line

abbrev pub most_qubits : ℕ
most_qubits = 16

-- ---- what fits into so many bits

abbrev pub CellFits : CellType → Cell → ℕ → Type 0
CellFits kind c bits = c.first + size kind ≤ bits

-- a literal is in the type
abbrev pub SourceFits : CellType → Source → ℕ → Type 0
SourceFits kind (FromCell c) bits = CellFits kind c bits
SourceFits kind (Literal z) bits = InType kind z

abbrev pub SpanFits : CellType → Span → ℕ → Type 0
SpanFits kind span bits = span.first + width kind span.length ≤ bits

abbrev pub ClassicFits : Classic → ℕ → Type 0
ClassicFits (classic.Move kind target source) bits = CellFits kind target bits × SourceFits kind source bits
ClassicFits (classic.Exchange kind one other) bits = CellFits kind one bits × CellFits kind other bits
ClassicFits (classic.Sum operation kind target source) bits =
    CellFits (arithmetic_type kind) target bits × SourceFits (arithmetic_type kind) source bits
ClassicFits (classic.Product operation target source) bits = CellFits cell_type.Integer target bits × SourceFits cell_type.Integer source bits
ClassicFits (classic.Neg kind target) bits = CellFits (arithmetic_type kind) target bits
ClassicFits (classic.Not kind target) bits = CellFits (bitwise_type kind) target bits
ClassicFits (classic.Bits operation kind target source) bits =
    CellFits (bitwise_type kind) target bits × SourceFits (bitwise_type kind) source bits
ClassicFits (classic.Convert kind target from source) bits =
    CellFits (bitwise_type kind) target bits × CellFits (bitwise_type from) source bits
ClassicFits (classic.Load kind target span index) bits =
    CellFits kind target bits × SpanFits kind span bits × CellFits cell_type.Integer index bits
ClassicFits (classic.Store kind span index source) bits =
    SpanFits kind span bits × CellFits cell_type.Integer index bits × SourceFits kind source bits
ClassicFits (classic.Compare comparison kind target left right) bits =
    CellFits cell_type.Bit target bits × CellFits kind left bits × SourceFits kind right bits

-- MEASURE writes a BIT
abbrev pub OutcomeFits : Option Cell → ℕ → Type 0
OutcomeFits None bits = Unit {0}
OutcomeFits (Some c) bits = CellFits cell_type.Bit c bits

-- the qubits are below their count, and those of one gate differ
abbrev pub Fits : Instruction → ℕ → ℕ → Type 0
Fits instruction.Passive count bits = Unit {0}
Fits instruction.Nop count bits = Unit {0}
Fits instruction.Wait count bits = Unit {0}
Fits instruction.Halt count bits = Unit {0}
Fits (instruction.X q) count bits = q < count
Fits (instruction.H q) count bits = q < count
Fits (instruction.Cnot control target) count bits = (control < count) × (target < count) × (control ≢ target)
Fits (instruction.Measure q cell) count bits = (q < count) × OutcomeFits cell bits
Fits (instruction.Reset None) count bits = Unit {0}
Fits (instruction.Reset (Some q)) count bits = q < count
Fits (instruction.Classic c) count bits = ClassicFits c bits

-- what each code keeps
pub record IsProgram (p : Program) : Type 0 where
  pub few_bits : p.layout.bits ≤ most_bits
  pub few_qubits : length p.qubits ≤ most_qubits
  pub rising : IsStrictlyIncreasing p.qubits
  pub few_lines : length p.lines < 2 ^ 32
  pub fit : AllByRecursion (λ l. Fits l.instruction (length p.qubits) p.layout.bits) p.lines
