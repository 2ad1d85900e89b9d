-- Texts of memory, a part at a time.
use Rattle.std.proofs.Common.{◌≡◌, sym, ap, ◌∙◌, ℕ, suc, ◌+◌, ◌-◌, ◌<◌, ◌≤◌, Bool, List, [], ◌∷◌, ◌++◌, map, drop, length, get_or, append_assoc, slice_get, Some, add-one, drop-cons, arith}
use Rattle.std.specs.Prelude.{codes}
use Rattle.std.specs.List.{range_with_len, flat_map}
use Rattle.std.proofs.Math.Nat.{sub-zero, mul-le-mul_right}
use Rattle.std.proofs.lemmas.Option.{slice_get_within, get_or_from_slice_get}
use Rattle.quil_memory.specs.declared.region.Region.{Region}
use Rattle.quil_memory.specs.CellTypes.{size}
use Rattle.quil_memory.specs.Cells.{value_at}
use Rattle.quil_memory.specs.Layout.{first_bit, width}
use Rattle.qvm.specs.RunText.{cell_text, cell_values, values_text, region_text}

-- a cell of a region that lies within the bits lies within them
pub cell_within : (r : Region) (index bits : ℕ) → index < r.length → r.first + width r.kind r.length ≤ bits → first_bit r index + size r.kind ≤ bits
cell_within r index bits h k = omega (arith, mul-le-mul_right {m = index + 1} {n = r.length} (size r.kind) (omega arith))

-- the text of the values of a region's cells from one on
pub text_from : List Bool → Region → ℕ → List ℕ
text_from bits r index = values_text r.kind (map (λ i. value_at r.kind (first_bit r i) bits) (range_with_len index (r.length - index)))

text_of_count : List Bool → Region → ℕ → ℕ → List ℕ
text_of_count bits r index n = values_text r.kind (map (λ i. value_at r.kind (first_bit r i) bits) (range_with_len index n))

pub text_all : (bits : List Bool) (r : Region) → text_from bits r 0 ≡ values_text r.kind (cell_values bits r)
unfolding text_from text_of_count
text_all bits r = ap (text_of_count bits r 0) (sub-zero r.length)

pub text_none : (bits : List Bool) (r : Region) (index : ℕ) → r.length ≤ index → text_from bits r index ≡ []
unfolding text_from text_of_count
text_none bits r index h =
    let e : r.length - index ≡ 0 = omega arith in
    ap (text_of_count bits r index) e

pub text_step : (bits : List Bool) (r : Region) (index : ℕ) → index < r.length →
    text_from bits r index ≡ (codes " " ++ cell_text r.kind (value_at r.kind (first_bit r index) bits)) ++ text_from bits r (index + 1)
unfolding text_from text_of_count
text_step bits r index h =
    let e : r.length - index ≡ suc (r.length - (index + 1)) = omega arith in
    ap (text_of_count bits r index) e

-- a text with one more part, and what is left behind it
pub append_part : (text part left rest next whole : List ℕ) → left ≡ part ++ rest → next ≡ text ++ part → text ++ left ≡ whole → next ++ rest ≡ whole
append_part text part left rest next whole l n w = ap (λ (t : List ℕ). t ++ rest) n ∙ append_assoc text part rest ∙ sym (ap (λ (t : List ℕ). text ++ t) l) ∙ w

-- the text of the regions from one on
pub regions_step : (bits : List Bool) (regions : List Region) (n : ℕ) (r : Region) → slice_get regions n ≡ Some r →
    flat_map (region_text bits) (drop n regions) ≡ region_text bits r ++ flat_map (region_text bits) (drop (n + 1) regions)
regions_step bits regions n r e =
    let h : n < length regions = slice_get_within regions n r e in
    let cons : drop n regions ≡ get_or regions n r ∷ drop (n + 1) regions = rw (add-one, drop-cons regions n r) in
    let head : get_or regions n r ≡ r = get_or_from_slice_get regions n r r e in
    ap (flat_map (region_text bits)) (cons ∙ ap (λ (q : Region). q ∷ drop (n + 1) regions) head)
