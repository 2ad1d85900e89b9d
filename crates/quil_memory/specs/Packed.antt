-- How a memory keeps its bits: eight to a byte, the first one the least. Only the view of a memory and proofs cite this page.
use Rattle.std.specs.Prelude.{ℕ, zero, suc, ◌/◌, ◌%◌, ◌==◌, Bool, List, [], ◌∷◌, get_or}
use Rattle.std.specs.Int.{bit_at}

abbrev pub packed_bit : List ℕ → ℕ → Bool
packed_bit bytes place = bit_at (get_or bytes (place / 8) 0) (place % 8) == 1

-- so many bits from a place on, each told by its place
abbrev pub bits_by_place : (ℕ → Bool) → ℕ → ℕ → List Bool
bits_by_place bit place zero = []
bits_by_place bit place (suc count) = bit place ∷ bits_by_place bit (suc place) count

abbrev pub unpacked : ℕ → List ℕ → List Bool
unpacked count bytes = bits_by_place (packed_bit bytes) 0 count
