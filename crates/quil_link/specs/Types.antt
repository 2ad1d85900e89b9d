-- The types of classical instructions, as in the Quil specification: which operands an instruction takes, and what it is then.
use Rattle.std.specs.Prelude.{Bool, true, false, ◌&&◌, Option, Some, None, Result, Ok, Err, ℤ, pos, int_le, option_map, option_and_then, if◌then◌else◌}
use Rattle.quil_memory.specs.declared.cell_type.CellType.{CellType}
use Rattle.quil_memory.specs.declared.cell_type.CellType.TheVariants as cell_type
use Rattle.quil_memory.specs.CellTypes.{in_type}
use Rattle.quil_value.specs.declared.stop.Stop.{Stop}
use Rattle.quil_value.specs.Exact.{Exact}
use Rattle.quil_value.specs.Angles.{eighths_in_64_bits, whole_of}
use Rattle.quil_code.specs.declared.classic.Cell.{Cell}
use Rattle.quil_code.specs.declared.classic.Source.{Source}
use Rattle.quil_code.specs.declared.classic.Source.TheVariants as source
use Rattle.quil_code.specs.declared.classic.Arithmetic.{Arithmetic}
use Rattle.quil_code.specs.declared.classic.Arithmetic.TheVariants as arithmetic
use Rattle.quil_code.specs.declared.classic.Bitwise.{Bitwise}
use Rattle.quil_code.specs.declared.classic.Bitwise.TheVariants as bitwise
use Rattle.quil_code.specs.declared.classic.SumOperation.{SumOperation}
use Rattle.quil_code.specs.declared.classic.ProductOperation.{ProductOperation}
use Rattle.quil_code.specs.declared.classic.BitOperation.{BitOperation}
use Rattle.quil_code.specs.declared.classic.Comparison.{Comparison}
use Rattle.quil_code.specs.declared.classic.Classic.{Classic}
use Rattle.quil_code.specs.declared.classic.Classic.TheVariants as classic
use Rattle.quil_link.specs.declared.operand.TypedCell.{TypedCell}
use Rattle.quil_link.specs.declared.operand.TypedSpan.{TypedSpan}
use Rattle.quil_link.specs.declared.operand.SecondOperand.{SecondOperand}
use Rattle.quil_link.specs.declared.operand.SecondOperand.TheVariants as second

abbrev pub is_type : CellType → CellType → Bool
is_type cell_type.Bit cell_type.Bit = true
is_type cell_type.Octet cell_type.Octet = true
is_type cell_type.Integer cell_type.Integer = true
is_type cell_type.Real cell_type.Real = true
is_type a b = false

-- a whole number is a literal of the type; of REAL, whose values are counts of eighths of a turn, only 0 is one
abbrev pub is_literal : CellType → ℤ → Bool
is_literal cell_type.Real z = int_le (pos 0) z && int_le z (pos 0)
is_literal kind z = in_type kind z

-- the types of ADD, SUB and NEG
abbrev pub as_arithmetic : CellType → Option Arithmetic
as_arithmetic cell_type.Bit = None
as_arithmetic cell_type.Octet = None
as_arithmetic cell_type.Integer = Some arithmetic.Integer
as_arithmetic cell_type.Real = Some arithmetic.Real

-- the types of NOT, AND, IOR, XOR and CONVERT
abbrev pub as_bitwise : CellType → Option Bitwise
as_bitwise cell_type.Bit = Some bitwise.Bit
as_bitwise cell_type.Octet = Some bitwise.Octet
as_bitwise cell_type.Integer = Some bitwise.Integer
as_bitwise cell_type.Real = None

-- an operand of this type
abbrev pub cell_as : CellType → TypedCell → Option Cell
cell_as kind c = if is_type kind c.kind then Some c.cell else None

abbrev pub literal_as : CellType → ℤ → Option ℤ
literal_as kind z = if is_literal kind z then Some z else None

-- the value of an expression that is in the type: of REAL its whole count of eighths of a turn, of the others a whole number
abbrev pub value_as : CellType → Exact → Option ℤ
value_as cell_type.Real x = eighths_in_64_bits x
value_as kind x = option_and_then (literal_as kind) (whole_of x)

-- an expression without a value is in each type, with 0 in its place: it is refused behind the types
abbrev pub formula_as : CellType → Result Exact Stop → Option ℤ
formula_as kind (Ok x) = value_as kind x
formula_as kind (Err e) = Some (pos 0)

abbrev pub source_as : CellType → SecondOperand → Option Source
source_as kind (second.Cell c) = option_map (λ d. source.FromCell d) (cell_as kind c)
source_as kind (second.Number z) = option_map (λ n. source.Literal n) (literal_as kind z)
source_as kind (second.Formula p r) = option_map (λ n. source.Literal n) (formula_as kind r)

-- each instruction, by its operands in the order of the text
abbrev pub typed_move : TypedCell → SecondOperand → Option Classic
typed_move a x = option_map (λ s. classic.Move a.kind a.cell s) (source_as a.kind x)

abbrev pub typed_exchange : TypedCell → TypedCell → Option Classic
typed_exchange a b = option_map (λ c. classic.Exchange a.kind a.cell c) (cell_as a.kind b)

abbrev pub typed_sum : SumOperation → TypedCell → SecondOperand → Option Classic
typed_sum o a x = option_and_then (λ k. option_map (λ s. classic.Sum o k a.cell s) (source_as a.kind x)) (as_arithmetic a.kind)

abbrev pub typed_product : ProductOperation → TypedCell → SecondOperand → Option Classic
typed_product o a x = option_and_then (λ c. option_map (λ s. classic.Product o c s) (source_as cell_type.Integer x)) (cell_as cell_type.Integer a)

abbrev pub typed_neg : TypedCell → Option Classic
typed_neg a = option_map (λ k. classic.Neg k a.cell) (as_arithmetic a.kind)

abbrev pub typed_not : TypedCell → Option Classic
typed_not a = option_map (λ k. classic.Not k a.cell) (as_bitwise a.kind)

abbrev pub typed_bits : BitOperation → TypedCell → SecondOperand → Option Classic
typed_bits o a x = option_and_then (λ k. option_map (λ s. classic.Bits o k a.cell s) (source_as a.kind x)) (as_bitwise a.kind)

abbrev pub typed_convert : TypedCell → TypedCell → Option Classic
typed_convert a b = option_and_then (λ k. option_map (λ l. classic.Convert k a.cell l b.cell) (as_bitwise b.kind)) (as_bitwise a.kind)

abbrev pub typed_load : TypedCell → TypedSpan → TypedCell → Option Classic
typed_load a x n = option_and_then (λ i. if is_type a.kind x.kind then Some (classic.Load a.kind a.cell x.span i) else None) (cell_as cell_type.Integer n)

abbrev pub typed_store : TypedSpan → TypedCell → SecondOperand → Option Classic
typed_store x n a = option_and_then (λ i. option_map (λ s. classic.Store x.kind x.span i s) (source_as x.kind a)) (cell_as cell_type.Integer n)

abbrev pub typed_comparison : Comparison → TypedCell → TypedCell → SecondOperand → Option Classic
typed_comparison o r a x = option_and_then (λ t. option_map (λ s. classic.Compare o a.kind t a.cell s) (source_as a.kind x)) (cell_as cell_type.Bit r)
