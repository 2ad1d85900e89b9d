-- Values of cells that are written.
use Rattle.std.proofs.Common.{◌≡◌, refl, ◌∙◌, ap, ℕ, suc, ◌+◌, ◌-◌, ◌^◌, ◌<◌, ◌≤◌, ◌⊎◌, inl, inr, nat_lt, Bool, true, false, List, length, ℤ, pos, negsuc, int_le, IsTrue, ◌&&◌, w64, ◌-ℤ◌, arith}
use Rattle.std.proofs.lemmas.Bool.{lt-ltb, le-ltb, leb-true, cond-true, cond-false}
use Rattle.std.proofs.lemmas.Int.{ints, of_z-to_z}
use mir.Val.{of_z, to_z}
use lib.Signed.{mag}
use Rattle.quil_memory.specs.declared.cell_type.CellType.{CellType}
use Rattle.quil_memory.specs.declared.cell_type.CellType.TheVariants as cell_type
use Rattle.quil_memory.specs.CellTypes.{size, least, greatest, InType}
use Rattle.quil_memory.specs.Cells.{number_of, word_at, with_word, value_at, with_value, word_of, value_of, signed}
use Rattle.quil_memory.proofs.Runs.{run_written, run_below, run_above, number_of-bits_of}

pub apart : (kind other : CellType) (first second n : ℕ) (bits : List Bool) → first + size kind ≤ length bits → (second + size other ≤ first) ⊎ (first + size kind ≤ second) → word_at other second (with_word kind first n bits) ≡ word_at other second bits
apart kind other first second n bits h (inl k) = ap number_of (run_below first (size kind) second (size other) n bits h k)
apart kind other first second n bits h (inr k) = ap number_of (run_above first (size kind) second (size other) n bits h k)

pub size_le : (kind : CellType) → size kind ≤ 64
size_le cell_type.Bit = omega arith
size_le cell_type.Octet = omega arith
size_le cell_type.Integer = omega arith
size_le cell_type.Real = omega arith

tell : (a z b : ℤ) → IsTrue (int_le a z && int_le z b) → (int_le a z ≡ true) × (int_le z b ≡ true)
tell a z b h = by (int_le a z) (int_le z b) h
  where
    by : (s t : Bool) → IsTrue (s && t) → (s ≡ true) × (t ≡ true)
    by true true h = (refl, refl)
    by true false h = cc
    by false t h = cc

signed_small : (n : ℕ) → n < 2 ^ 63 → signed n ≡ pos n
signed_small n h = cond-true (nat_lt n (2 ^ 63)) (pos n) (pos n -ℤ pos (2 ^ 64)) (lt-ltb n (2 ^ 63) h)

signed_great : (n : ℕ) → n < 2 ^ 63 → signed (2 ^ 64 - (n + 1)) ≡ negsuc n
signed_great n h =
    cond-false (nat_lt (2 ^ 64 - (n + 1)) (2 ^ 63)) (pos (2 ^ 64 - (n + 1))) (pos (2 ^ 64 - (n + 1)) -ℤ pos (2 ^ 64)) (le-ltb (2 ^ 64 - (n + 1)) (2 ^ 63) (omega (arith, h)))
    ∙ omega (arith, ints, h)

fits : (kind : CellType) (z : ℤ) → int_le (least kind) z ≡ true → int_le z (greatest kind) ≡ true → (word_of z < 2 ^ size kind) × (value_of kind (word_of z) ≡ z)
fits cell_type.Bit (pos n) l g = (omega (arith, leb-true n 1 g), refl)
fits cell_type.Bit (negsuc n) l g = cc
fits cell_type.Octet (pos n) l g = (omega (arith, leb-true n 255 g), refl)
fits cell_type.Octet (negsuc n) l g = cc
fits cell_type.Integer (pos n) l g = (omega (arith, leb-true n (2 ^ 63 - 1) g), signed_small n (omega (arith, leb-true n (2 ^ 63 - 1) g)))
fits cell_type.Integer (negsuc n) l g = (omega arith, signed_great n (omega (arith, leb-true n (2 ^ 63 - 1) l)))
fits cell_type.Real (pos n) l g = (omega (arith, leb-true n (2 ^ 63 - 1) g), signed_small n (omega (arith, leb-true n (2 ^ 63 - 1) g)))
fits cell_type.Real (negsuc n) l g = (omega arith, signed_great n (omega (arith, leb-true n (2 ^ 63 - 1) l)))

pub reads_back : (kind : CellType) (first : ℕ) (z : ℤ) (bits : List Bool) → first + size kind ≤ length bits → InType kind z → value_at kind first (with_value kind first z bits) ≡ z
reads_back kind first z bits h k =
    let b = tell (least kind) z (greatest kind) k in
    ap (λ xs. value_of kind (number_of xs)) (run_written first (size kind) (word_of z) bits h) ∙ ap (value_of kind) (number_of-bits_of (size kind) (word_of z) (fits kind z b.0 b.1).0) ∙ (fits kind z b.0 b.1).1

-- what `cast_unsigned` gives
pub word_is : (z : ℤ) → mag z < 2 ^ 63 → of_z w64 (to_z w64 (of_z w64 z)) ≡ word_of z
word_is (pos n) h = of_z-to_z w64 n (omega (arith, h))
word_is (negsuc n) h = of_z-to_z w64 (2 ^ 64 - suc n) (omega arith) ∙ omega arith
