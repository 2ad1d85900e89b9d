-- Memory as a list of bits, and a cell as the number of a run of them, with the first bit the least.
use Rattle.std.specs.Prelude.{ℕ, zero, suc, ◌+◌, ◌-◌, ◌*◌, ◌/◌, ◌%◌, ◌^◌, ◌==◌, nat_lt, Bool, List, [], ◌∷◌, ◌++◌, take, drop, ℤ, pos, negsuc, ◌-ℤ◌, if◌then◌else◌}
use Rattle.quil_memory.specs.declared.cell_type.CellType.{CellType}
use Rattle.quil_memory.specs.declared.cell_type.CellType.TheVariants as cell_type
use Rattle.quil_memory.specs.CellTypes.{size}

-- the number of bits, the first one the least
abbrev pub number_of : List Bool → ℕ
number_of [] = 0
number_of (b ∷ bs) = (if b then 1 else 0) + 2 * number_of bs

-- so many bits of a number, the least first
abbrev pub bits_of : ℕ → ℕ → List Bool
bits_of zero n = []
bits_of (suc count) n = (n % 2 == 1) ∷ bits_of count (n / 2)

-- the number of a cell's bits
abbrev pub word_at : CellType → ℕ → List Bool → ℕ
word_at kind first bits = number_of (take (size kind) (drop first bits))

-- the bits, with those of a number in a cell
abbrev pub with_word : CellType → ℕ → ℕ → List Bool → List Bool
with_word kind first n bits = take first bits ++ bits_of (size kind) n ++ drop (first + size kind) bits

-- 64 bits as a number in two's complement, and back
abbrev pub signed : ℕ → ℤ
signed n = if nat_lt n (2 ^ 63) then pos n else pos n -ℤ pos (2 ^ 64)

abbrev pub word_of : ℤ → ℕ
word_of (pos n) = n
word_of (negsuc n) = 2 ^ 64 - (n + 1)

-- the value of a cell's bits
abbrev pub value_of : CellType → ℕ → ℤ
value_of cell_type.Bit n = pos n
value_of cell_type.Octet n = pos n
value_of cell_type.Integer n = signed n
value_of cell_type.Real n = signed n

-- the value of a cell
abbrev pub value_at : CellType → ℕ → List Bool → ℤ
value_at kind first bits = value_of kind (word_at kind first bits)

-- the bits, with a value in a cell
abbrev pub with_value : CellType → ℕ → ℤ → List Bool → List Bool
with_value kind first z bits = with_word kind first (word_of z) bits
