-- The types of memory of the Quil specification: how many bits a cell has, and which numbers it holds.
use Rattle.std.specs.Prelude.{ℕ, ◌-◌, ◌^◌, Bool, ◌&&◌, ℤ, pos, neg_ℤ, int_le, IsTrue}
use Rattle.quil_memory.specs.declared.cell_type.CellType.{CellType}
use Rattle.quil_memory.specs.declared.cell_type.CellType.TheVariants as cell_type

-- the bits of a cell
abbrev pub size : CellType → ℕ
size cell_type.Bit = 1
size cell_type.Octet = 8
size cell_type.Integer = 64
size cell_type.Real = 64

-- INTEGER and REAL are signed; a REAL is a count of eighths of a turn
abbrev pub least : CellType → ℤ
least cell_type.Bit = pos 0
least cell_type.Octet = pos 0
least cell_type.Integer = neg_ℤ (pos (2 ^ 63))
least cell_type.Real = neg_ℤ (pos (2 ^ 63))

abbrev pub greatest : CellType → ℤ
greatest cell_type.Bit = pos 1
greatest cell_type.Octet = pos 255
greatest cell_type.Integer = pos (2 ^ 63 - 1)
greatest cell_type.Real = pos (2 ^ 63 - 1)

-- a cell of the type holds this number
abbrev pub in_type : CellType → ℤ → Bool
in_type kind z = int_le (least kind) z && int_le z (greatest kind)

abbrev pub InType : CellType → ℤ → Type 0
InType kind z = IsTrue (in_type kind z)
