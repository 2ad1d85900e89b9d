-- The types of operands, in the words of typed memory.
use Rattle.quil_memory.specs.declared.cell_type.CellType.{CellType}
use Rattle.quil_memory.specs.declared.cell_type.CellType.TheVariants as cell_type
use Rattle.quil_code.specs.declared.classic.Arithmetic.{Arithmetic}
use Rattle.quil_code.specs.declared.classic.Arithmetic.TheVariants as arithmetic
use Rattle.quil_code.specs.declared.classic.Bitwise.{Bitwise}
use Rattle.quil_code.specs.declared.classic.Bitwise.TheVariants as bitwise

abbrev pub arithmetic_type : Arithmetic → CellType
arithmetic_type arithmetic.Integer = cell_type.Integer
arithmetic_type arithmetic.Real = cell_type.Real

abbrev pub bitwise_type : Bitwise → CellType
bitwise_type bitwise.Bit = cell_type.Bit
bitwise_type bitwise.Octet = cell_type.Octet
bitwise_type bitwise.Integer = cell_type.Integer
