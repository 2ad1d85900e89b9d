-- Results of checked arithmetic. Only private contracts and proofs cite this page.
use Rattle.std.specs.Prelude.{ℕ, ◌&&◌, Bool, List, ℤ, pos, int_le, int_lt, Option, Some, None, Result, Ok, Err, if◌then◌else◌}
use Rattle.quil_memory.specs.declared.cell_type.CellType.{CellType}
use Rattle.quil_memory.specs.CellTypes.{in_type}
use Rattle.quil_memory.specs.Cells.{with_value}
use Rattle.quil_code.specs.declared.classic.Cell.{Cell}
use Rattle.quil_code.specs.declared.classic.Span.{Span}
use Rattle.quil_code.specs.declared.fault.ClassicFault.{ClassicFault}
use Rattle.quil_code.specs.declared.fault.ClassicFault.TheVariants.{OutOfRange, Overflow}
use Rattle.quil_code.specs.Classic.{Effect, span_bit}

-- a result that is in a type
abbrev pub if_in_type : CellType → ℤ → Option ℤ
if_in_type kind z = if in_type kind z then Some z else None

-- the memory with a result in a cell
abbrev pub with_checked : ℕ → CellType → Cell → Option ℤ → List Bool → Effect
with_checked line kind c (Some z) bits = Ok (with_value kind c.first z bits)
with_checked line kind c None bits = Err (Overflow line)

-- the cell of a span at an index
abbrev pub span_cell : ℕ → CellType → Span → ℤ → Result Cell ClassicFault
span_cell line kind span index =
    if int_le (pos 0) index && int_lt index (pos span.length)
    then Ok (record { first = span_bit kind span index })
    else Err (OutOfRange line span.region index span.length)
