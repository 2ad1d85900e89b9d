-- What the functions behind `load` hold and tell. Nobody has to believe these: the clauses of `load` say what is loaded.
use Rattle.std.specs.Prelude.{◌≡◌, ℕ, ◌⊎◌, Bool, false, List, length, filter, slice_index_or, Option, Some, None, Result, Ok}
use Rattle.std.specs.List.{AllByRecursion, range_with_len}
use Rattle.quil_tree.specs.declared.item.Item.{Item}
use Rattle.quil_memory.specs.declared.claim.Claim.{Claim}
use Rattle.quil_memory.specs.Layout.{Regions, with_claim}
use Rattle.quil_code.specs.declared.instruction.Instruction.{Instruction}
use Rattle.quil_code.specs.declared.instruction.Line.{Line}
use Rattle.quil_code.specs.Program.{CellFits, SpanFits, Fits}
use Rattle.quil_link.specs.Built.{qubit_limit}
use Rattle.quil_code.specs.declared.load_fault.LoadFault.{LoadFault}
use Rattle.quil_code.specs.declared.load_fault.LoadFault.TheVariants as fault
use Rattle.quil_link.specs.declared.operand.TypedCell.{TypedCell}
use Rattle.quil_link.specs.declared.operand.TypedSpan.{TypedSpan}
use Rattle.quil_link.specs.declared.operand.SecondOperand.{SecondOperand}
use Rattle.quil_link.specs.declared.operand.SecondOperand.TheVariants as second
use Rattle.quil_link.specs.Layout.{as_load, item_claim}

-- the layout with an item's region
abbrev pub with_claim_if : Regions → Option Claim → Result Regions LoadFault
with_claim_if l None = Ok l
with_claim_if l (Some c) = as_load (with_claim l c)

abbrev pub with_item : Regions → Item → Result Regions LoadFault
with_item l i = with_claim_if l (item_claim i)

-- an operand lies within so many bits
abbrev pub CellWithin : TypedCell → ℕ → Type 0
CellWithin c bits = CellFits c.kind c.cell bits

abbrev pub SpanWithin : TypedSpan → ℕ → Type 0
SpanWithin s bits = SpanFits s.kind s.span bits

abbrev pub OperandWithin : SecondOperand → ℕ → Type 0
OperandWithin (second.Cell c) bits = CellWithin c bits
OperandWithin (second.Number z) bits = Unit {0}
OperandWithin (second.Formula p r) bits = Unit {0}

-- an instruction, or a line, fits so many bits; its qubits are those of the text
abbrev pub IsLinked : Instruction → ℕ → Type 0
IsLinked i bits = Fits i qubit_limit bits

abbrev pub AreLinked : List Line → ℕ → Type 0
AreLinked lines bits = AllByRecursion (λ l. IsLinked l.instruction bits) lines

-- this, or memory ran out
abbrev pub OrWantsMemory : LoadFault → Type 0 → Type 0
OrWantsMemory f P = (f ≡ fault.OutOfMemory) ⊎ P

-- the marked places of a list
abbrev pub marked_places : List Bool → List ℕ
marked_places marks = filter (λ q. slice_index_or marks q false) (range_with_len 0 (length marks))
