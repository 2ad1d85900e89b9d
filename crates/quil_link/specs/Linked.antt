-- What each line of a program becomes, or its first fault: of its addresses from left to right, then of its types, then of its
-- qubits, or of the value of its second operand. Qubits are still those of the text.
use Rattle.std.specs.Prelude.{ℕ, nat_eq, List, [], ◌∷◌, Option, Some, None, Result, Ok, Err, ok_or, if◌then◌else◌}
use Rattle.quil_tree.specs.declared.statement.Reference.{Reference}
use Rattle.quil_tree.specs.declared.statement.Qubit.{Qubit}
use Rattle.quil_tree.specs.declared.statement.Operand.{Operand}
use Rattle.quil_tree.specs.declared.statement.Gate.{Gate}
use Rattle.quil_tree.specs.declared.statement.Statement.{Statement}
use Rattle.quil_tree.specs.declared.statement.Statement.TheVariants as statement
use Rattle.quil_tree.specs.declared.item.Item.{Item}
use Rattle.quil_tree.specs.declared.item.Item.TheVariants as item
use Rattle.quil_memory.specs.declared.cell_type.CellType.TheVariants as cell_type
use Rattle.quil_memory.specs.Layout.{Regions}
use Rattle.quil_code.specs.declared.classic.Cell.{Cell}
use Rattle.quil_code.specs.declared.classic.Classic.{Classic}
use Rattle.quil_code.specs.declared.classic.SumOperation.TheVariants as sum_operation
use Rattle.quil_code.specs.declared.classic.ProductOperation.TheVariants as product_operation
use Rattle.quil_code.specs.declared.classic.BitOperation.TheVariants as bit_operation
use Rattle.quil_code.specs.declared.classic.Comparison.{Comparison}
use Rattle.quil_code.specs.declared.classic.Comparison.TheVariants as comparison
use Rattle.quil_code.specs.declared.instruction.Instruction.{Instruction}
use Rattle.quil_code.specs.declared.instruction.Instruction.TheVariants as instruction
use Rattle.quil_code.specs.declared.instruction.Line.{Line}
use Rattle.quil_code.specs.declared.load_fault.LoadFault.{LoadFault}
use Rattle.quil_code.specs.declared.load_fault.LoadFault.TheVariants as fault
use Rattle.quil_link.specs.declared.gate.Standard.{Standard}
use Rattle.quil_link.specs.declared.gate.Standard.TheVariants as standard
use Rattle.quil_link.specs.declared.operand.TypedCell.{TypedCell}
use Rattle.quil_link.specs.declared.operand.SecondOperand.{SecondOperand}
use Rattle.quil_tree.specs.declared.place.Place.{Place}
use Rattle.quil_value.specs.declared.lack.Lack.{Lack}
use Rattle.quil_value.specs.declared.lack.Lack.TheVariants.{NotExact, ZeroDivisor, NumberTooWide}
use Rattle.quil_value.specs.declared.stop.Stop.{Stop}
use Rattle.quil_value.specs.declared.stop.Stop.TheVariants.{At, Whole}
use Rattle.quil_value.specs.Results.{and_then}
use Rattle.quil_link.specs.declared.operand.SecondOperand.TheVariants as second
use Rattle.quil_link.specs.Built.{gate_named, qubit_number}
use Rattle.quil_link.specs.Cells.{cell_at, span_named, operand_at}
use Rattle.quil_link.specs.Types.{cell_as, typed_move, typed_exchange, typed_sum, typed_product, typed_neg, typed_not, typed_bits, typed_convert, typed_load, typed_store, typed_comparison}

-- ---- classical instructions

abbrev pub typed : ℕ → Option Classic → Result Instruction LoadFault
typed line None = Err (fault.TypeClash line)
typed line (Some c) = Ok (instruction.Classic c)

-- why an expression has no value, at a place of the text
abbrev pub lack_at : Place → Lack → LoadFault
lack_at p NotExact = fault.NotExact p.line p.column
lack_at p ZeroDivisor = fault.ZeroDivisor p.line p.column
lack_at p NumberTooWide = fault.NumberTooWide p.line p.column

-- what concerns the whole expression stands where it begins
abbrev pub stop_at : Place → Stop → LoadFault
stop_at p (At q e) = lack_at q e
stop_at p (Whole e) = lack_at p e

-- the instruction, if the second operand has a value
abbrev pub valued : SecondOperand → Result Instruction LoadFault → Result Instruction LoadFault
valued (second.Cell c) r = r
valued (second.Number z) r = r
valued (second.Formula p (Ok x)) r = r
valued (second.Formula p (Err e)) r = and_then r (λ i. Err (stop_at p e))

-- an instruction of one cell, of two, of a cell and a second operand
abbrev pub on_cell : Regions → ℕ → (TypedCell → Option Classic) → Reference → Result Instruction LoadFault
on_cell l line make a = and_then (cell_at l a) (λ c. typed line (make c))

abbrev pub on_cells : Regions → ℕ → (TypedCell → TypedCell → Option Classic) → Reference → Reference → Result Instruction LoadFault
on_cells l line make a b = and_then (cell_at l a) (λ c. and_then (cell_at l b) (λ d. typed line (make c d)))

abbrev pub on_operand : Regions → ℕ → (TypedCell → SecondOperand → Option Classic) → Reference → Operand → Result Instruction LoadFault
on_operand l line make a x = and_then (cell_at l a) (λ c. and_then (operand_at l x) (λ t. valued t (typed line (make c t))))

-- LOAD, STORE and a comparison
abbrev pub linked_load : Regions → ℕ → Reference → List ℕ → Reference → Result Instruction LoadFault
linked_load l line a name n =
    and_then (cell_at l a) (λ c. and_then (span_named l name) (λ s. and_then (cell_at l n) (λ i. typed line (typed_load c s i))))

abbrev pub linked_store : Regions → ℕ → List ℕ → Reference → Operand → Result Instruction LoadFault
linked_store l line name n x =
    and_then (span_named l name) (λ s. and_then (cell_at l n) (λ i. and_then (operand_at l x) (λ t. valued t (typed line (typed_store s i t)))))

abbrev pub linked_comparison : Regions → ℕ → Comparison → Reference → Reference → Operand → Result Instruction LoadFault
linked_comparison l line o r a x =
    and_then (cell_at l r) (λ c. and_then (cell_at l a) (λ d. and_then (operand_at l x) (λ t. valued t (typed line (typed_comparison o c d t)))))

-- ---- gates, measurement and RESET

-- the number of a qubit; other qubits are refused before
abbrev pub numbered_qubit : ℕ → Qubit → Result ℕ LoadFault
numbered_qubit line q = ok_or (qubit_number q) (fault.NotBuilt line)

-- the qubits of a gate on one, and on two; other lists are refused before
abbrev pub one_qubit : ℕ → List Qubit → Result ℕ LoadFault
one_qubit line [] = Err (fault.Arity line)
one_qubit line (q ∷ []) = numbered_qubit line q
one_qubit line (q ∷ r ∷ qs) = Err (fault.Arity line)

abbrev pub two_qubits : ℕ → List Qubit → Result (ℕ × ℕ) LoadFault
two_qubits line [] = Err (fault.Arity line)
two_qubits line (c ∷ []) = Err (fault.Arity line)
two_qubits line (c ∷ t ∷ []) = and_then (numbered_qubit line c) (λ m. and_then (numbered_qubit line t) (λ n. Ok (m, n)))
two_qubits line (c ∷ t ∷ q ∷ qs) = Err (fault.Arity line)

abbrev pub controlled : ℕ → (ℕ × ℕ) → Result Instruction LoadFault
controlled line p = if nat_eq p.0 p.1 then Err (fault.RepeatedQubit line) else Ok (instruction.Cnot p.0 p.1)

abbrev pub linked_cnot : ℕ → List Qubit → Result Instruction LoadFault
linked_cnot line qs = and_then (two_qubits line qs) (controlled line)

abbrev pub on_qubits : ℕ → Option Standard → List Qubit → Result Instruction LoadFault
on_qubits line None qs = Err (fault.NotBuilt line)
on_qubits line (Some standard.X) qs = and_then (one_qubit line qs) (λ q. Ok (instruction.X q))
on_qubits line (Some standard.H) qs = and_then (one_qubit line qs) (λ q. Ok (instruction.H q))
on_qubits line (Some standard.Cnot) qs = linked_cnot line qs

abbrev pub linked_gate : ℕ → Gate → Result Instruction LoadFault
linked_gate line g = on_qubits line (gate_named g.name.text) g.qubits

-- the bit that a measurement is written to
abbrev pub outcome_cell : ℕ → TypedCell → Result (Option Cell) LoadFault
outcome_cell line c = and_then (ok_or (cell_as cell_type.Bit c) (fault.TypeClash line)) (λ b. Ok (Some b))

abbrev pub target_bit : Regions → ℕ → Option Reference → Result (Option Cell) LoadFault
target_bit l line None = Ok None
target_bit l line (Some a) = and_then (cell_at l a) (outcome_cell line)

abbrev pub linked_measure : Regions → ℕ → Qubit → Option Reference → Result Instruction LoadFault
linked_measure l line q a = and_then (target_bit l line a) (λ b. and_then (numbered_qubit line q) (λ n. Ok (instruction.Measure n b)))

-- RESET of a qubit, or of all
abbrev pub linked_reset : ℕ → Option Qubit → Result Instruction LoadFault
linked_reset line None = Ok (instruction.Reset None)
linked_reset line (Some q) = and_then (numbered_qubit line q) (λ n. Ok (instruction.Reset (Some n)))

-- ---- lines

abbrev pub linked_statement : Regions → ℕ → Statement → Result Instruction LoadFault
linked_statement l line (statement.Gate g) = linked_gate line g
linked_statement l line (statement.Measure q a) = linked_measure l line q a
linked_statement l line (statement.Reset q) = linked_reset line q
linked_statement l line statement.Wait = Ok instruction.Wait
linked_statement l line statement.Nop = Ok instruction.Nop
linked_statement l line statement.Halt = Ok instruction.Halt
linked_statement l line (statement.Pragma n xs) = Ok instruction.Passive
linked_statement l line (statement.Label n) = Err (fault.NotBuilt line)
linked_statement l line (statement.Jump n) = Err (fault.NotBuilt line)
linked_statement l line (statement.JumpWhen n a) = Err (fault.NotBuilt line)
linked_statement l line (statement.JumpUnless n a) = Err (fault.NotBuilt line)
linked_statement l line (statement.Not a) = on_cell l line typed_not a
linked_statement l line (statement.Neg a) = on_cell l line typed_neg a
linked_statement l line (statement.Exchange a b) = on_cells l line typed_exchange a b
linked_statement l line (statement.Convert a b) = on_cells l line typed_convert a b
linked_statement l line (statement.Move a x) = on_operand l line typed_move a x
linked_statement l line (statement.Add a x) = on_operand l line (typed_sum sum_operation.Add) a x
linked_statement l line (statement.Sub a x) = on_operand l line (typed_sum sum_operation.Sub) a x
linked_statement l line (statement.Mul a x) = on_operand l line (typed_product product_operation.Mul) a x
linked_statement l line (statement.Div a x) = on_operand l line (typed_product product_operation.Div) a x
linked_statement l line (statement.And a x) = on_operand l line (typed_bits bit_operation.And) a x
linked_statement l line (statement.Ior a x) = on_operand l line (typed_bits bit_operation.Ior) a x
linked_statement l line (statement.Xor a x) = on_operand l line (typed_bits bit_operation.Xor) a x
linked_statement l line (statement.Load a n b) = linked_load l line a n.text b
linked_statement l line (statement.Store n a x) = linked_store l line n.text a x
linked_statement l line (statement.Eq r a x) = linked_comparison l line comparison.Eq r a x
linked_statement l line (statement.Gt r a x) = linked_comparison l line comparison.Gt r a x
linked_statement l line (statement.Ge r a x) = linked_comparison l line comparison.Ge r a x
linked_statement l line (statement.Lt r a x) = linked_comparison l line comparison.Lt r a x
linked_statement l line (statement.Le r a x) = linked_comparison l line comparison.Le r a x

-- a line of this number
abbrev pub linked_line : ℕ → Result Instruction LoadFault → Result Line LoadFault
linked_line line i = and_then i (λ j. Ok (record { number = line; instruction = j }))

abbrev pub linked : Regions → Item → Result Line LoadFault
linked l (item.Declare d) = linked_line d.place.line (Ok instruction.Passive)
linked l (item.DefGate d) = Err (fault.NotBuilt d.place.line)
linked l (item.DefCircuit d) = Err (fault.NotBuilt d.place.line)
linked l (item.Plain s) = linked_line s.place.line (linked_statement l s.place.line s.statement)
