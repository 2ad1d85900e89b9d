-- What a classical instruction does to memory (the classical instructions of the Quil specification, with overflow and zero
-- divisors as faults). All operands are read from the memory as it was before anything is written.
use Rattle.std.specs.Prelude.{ℕ, ◌+◌, ◌-◌, ◌*◌, ◌^◌, Bool, ◌&&◌, List, ℤ, pos, ◌+ℤ◌, ◌-ℤ◌, ◌*ℤ◌, neg_ℤ, nat_abs, int_lt, int_le, int_div, bit_and, bit_or, bit_xor, Result, Ok, Err, if◌then◌else◌}
use Rattle.std.specs.Ordering.{int_eq}
use Rattle.quil_memory.specs.declared.cell_type.CellType.{CellType}
use Rattle.quil_memory.specs.declared.cell_type.CellType.TheVariants as cell_type
use Rattle.quil_memory.specs.CellTypes.{size, in_type}
use Rattle.quil_memory.specs.Cells.{word_at, with_word, word_of, value_at, with_value}
use Rattle.quil_code.specs.declared.classic.Cell.{Cell}
use Rattle.quil_code.specs.declared.classic.Source.{Source}
use Rattle.quil_code.specs.declared.classic.Source.TheVariants.{FromCell, Literal}
use Rattle.quil_code.specs.declared.classic.Span.{Span}
use Rattle.quil_code.specs.declared.classic.SumOperation.{SumOperation}
use Rattle.quil_code.specs.declared.classic.SumOperation.TheVariants.{Add, Sub}
use Rattle.quil_code.specs.declared.classic.ProductOperation.{ProductOperation}
use Rattle.quil_code.specs.declared.classic.ProductOperation.TheVariants.{Mul, Div}
use Rattle.quil_code.specs.declared.classic.BitOperation.{BitOperation}
use Rattle.quil_code.specs.declared.classic.BitOperation.TheVariants.{And, Ior, Xor}
use Rattle.quil_code.specs.declared.classic.Comparison.{Comparison}
use Rattle.quil_code.specs.declared.classic.Comparison.TheVariants.{Eq, Gt, Ge, Lt, Le}
use Rattle.quil_code.specs.declared.classic.Classic.{Classic}
use Rattle.quil_code.specs.declared.classic.Classic.TheVariants as classic
use Rattle.quil_code.specs.declared.fault.ClassicFault.{ClassicFault}
use Rattle.quil_code.specs.declared.fault.ClassicFault.TheVariants.{OutOfRange, Overflow, ZeroDivide}
use Rattle.quil_code.specs.Operands.{arithmetic_type, bitwise_type}

-- the memory after an instruction, or its fault
abbrev pub Effect : Type 0
Effect = Result (List Bool) ClassicFault

-- ---- operands

abbrev pub source_value : CellType → Source → List Bool → ℤ
source_value kind (FromCell c) bits = value_at kind c.first bits
source_value kind (Literal z) bits = z

-- the bits of an operand, as a number
abbrev pub source_word : CellType → Source → List Bool → ℕ
source_word kind (FromCell c) bits = word_at kind c.first bits
source_word kind (Literal z) bits = word_of z

-- ---- results

-- the memory with a result in a cell, where it is in the cell's type
abbrev pub with_result : ℕ → CellType → Cell → ℤ → List Bool → Effect
with_result line kind c z bits = if in_type kind z then Ok (with_value kind c.first z bits) else Err (Overflow line)

abbrev pub sum_of : SumOperation → ℤ → ℤ → ℤ
sum_of Add x y = x +ℤ y
sum_of Sub x y = x -ℤ y

-- the quotient is taken towards zero
abbrev pub after_product : ℕ → ProductOperation → Cell → ℤ → ℤ → List Bool → Effect
after_product line Mul target x y bits = with_result line cell_type.Integer target (x *ℤ y) bits
after_product line Div target x y bits =
    if int_eq y (pos 0) then Err (ZeroDivide line) else with_result line cell_type.Integer target (int_div x y) bits

abbrev pub bits_together : BitOperation → ℕ → ℕ → ℕ
bits_together And x y = bit_and x y
bits_together Ior x y = bit_or x y
bits_together Xor x y = bit_xor x y

abbrev pub other_bits : CellType → ℕ → ℕ
other_bits kind x = 2 ^ size kind - 1 - x

abbrev pub compares : Comparison → ℤ → ℤ → Bool
compares Eq x y = int_eq x y
compares Gt x y = int_lt y x
compares Ge x y = int_le y x
compares Lt x y = int_lt x y
compares Le x y = int_le x y

-- the word of one bit
abbrev pub one_if : Bool → ℕ
one_if b = if b then 1 else 0

-- ---- cells told by an index

abbrev pub span_bit : CellType → Span → ℤ → ℕ
span_bit kind span index = span.first + nat_abs index * size kind

-- a memory, where the index is one of the span
abbrev pub where_within : ℕ → Span → ℤ → List Bool → Effect
where_within line span index bits =
    if int_le (pos 0) index && int_lt index (pos span.length) then Ok bits else Err (OutOfRange line span.region index span.length)

-- ---- instructions, each with its line

abbrev pub effect : ℕ → Classic → List Bool → Effect
effect line (classic.Move kind target source) bits = Ok (with_value kind target.first (source_value kind source bits) bits)
effect line (classic.Exchange kind one other) bits =
    Ok (with_word kind other.first (word_at kind one.first bits) (with_word kind one.first (word_at kind other.first bits) bits))
effect line (classic.Sum operation kind target source) bits =
    let k = arithmetic_type kind in
    with_result line k target (sum_of operation (value_at k target.first bits) (source_value k source bits)) bits
effect line (classic.Product operation target source) bits =
    after_product line operation target (value_at cell_type.Integer target.first bits) (source_value cell_type.Integer source bits) bits
effect line (classic.Neg kind target) bits =
    let k = arithmetic_type kind in
    with_result line k target (neg_ℤ (value_at k target.first bits)) bits
effect line (classic.Not kind target) bits =
    let k = bitwise_type kind in
    Ok (with_word k target.first (other_bits k (word_at k target.first bits)) bits)
effect line (classic.Bits operation kind target source) bits =
    let k = bitwise_type kind in
    Ok (with_word k target.first (bits_together operation (word_at k target.first bits) (source_word k source bits)) bits)
effect line (classic.Convert kind target from source) bits =
    with_result line (bitwise_type kind) target (value_at (bitwise_type from) source.first bits) bits
effect line (classic.Load kind target span index) bits =
    let i = value_at cell_type.Integer index.first bits in
    where_within line span i (with_value kind target.first (value_at kind (span_bit kind span i) bits) bits)
effect line (classic.Store kind span index source) bits =
    let i = value_at cell_type.Integer index.first bits in
    where_within line span i (with_value kind (span_bit kind span i) (source_value kind source bits) bits)
effect line (classic.Compare comparison kind target left right) bits =
    Ok (with_word cell_type.Bit target.first (one_if (compares comparison (value_at kind left.first bits) (source_value kind right bits))) bits)
