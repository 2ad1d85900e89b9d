-- Words of cells and of literals.
use Rattle.std.proofs.Common.{◌≡◌, ℕ, ◌-◌, ◌<◌, ◌^◌, Bool, List, drop, ℤ, pos, negsuc, refl, ap, w64, sym}
use Rattle.std.specs.Int.{cast_unsigned}
use Rattle.std.proofs.Math.Numerals.{add-one}
use Rattle.quil_memory.specs.declared.cell_type.CellType.{CellType}
use Rattle.quil_memory.specs.CellTypes.{size}
use Rattle.quil_memory.specs.Cells.{word_at, word_of}
use Rattle.quil_memory.proofs.Runs.{number_of-lt}

-- the bits of a literal are those of the code's number
pub cast_word : (z : ℤ) → cast_unsigned w64 z ≡ word_of z
cast_word (pos n) = refl
cast_word (negsuc n) = ap (λ k. 2 ^ 64 - k) (sym (add-one n))

-- a cell's word has no more bits than the cell
pub word_below : (kind : CellType) (first : ℕ) (bits : List Bool) → word_at kind first bits < 2 ^ size kind
word_below kind first bits = number_of-lt (size kind) (drop first bits)
