-- The entries of a permutation, and numbers that were read up to 8.
use Rattle.std.proofs.Common.{◌≡◌, refl, sym, ◌∙◌, ap, ℕ, zero, suc, ◌+◌, ◌*◌, ◌/◌, ◌%◌, ◌^◌, ◌<◌, ◌≤◌, Bool, List, [], ◌∷◌, ◌++◌, length, map, min, get_or, slice_set, arith}
use Rattle.std.specs.Prelude.{◌==◌, if◌then◌else◌, Option, Some, None, Result, Err}
use Rattle.std.specs.List.{range_with_len}
use Rattle.std.proofs.lemmas.Bool.Decides.{nat_tests}
use Rattle.std.proofs.lemmas.List.{map-append, length-map, get_or-map}
use Rattle.std.proofs.lemmas.List.FromFn.{length-map-range_with_len}
use Rattle.std.proofs.Math.Pow.{pow_mono}
use Rattle.std.proofs.Math.Nat.{div-lt_iff_lt-mul, mul-le-mul}
use Rattle.qvm_ring.specs.Ring.{Element, nought, unit}
use Rattle.qvm_ring.specs.declared.amp.Amp.{Amp}
use Rattle.qvm_ring.specs.Views.{element_of, elements_of}
use Rattle.quil_number.specs.Decimal.{number}
use Rattle.quil_code.specs.Matrices.{Matrix}
use Rattle.quil_gate.specs.declared.gate_fault.GateFault.{GateFault}
use Rattle.quil_gate.specs.declared.gate_fault.GateFault.TheVariants as fault
use Rattle.quil_gate.specs.Definitions.{arity_of_rows, if_unitary, permutation_entry, permutation_entries, padded, matrix_of_permutation}
use Rattle.quil_gate.specs.Reading.{up_to_eight}
use Rattle.quil_gate.proofs.Paddings.{padded_push}

-- ---- one more entry

range_next : (a n x : ℕ) → x ≡ a + n → range_with_len a (n + 1) ≡ range_with_len a n ++ x ∷ []
range_next a zero x e = ap (λ (y : ℕ). y ∷ []) (omega arith)
range_next a (suc n) x e =
    ap (range_with_len a) (let f : suc n + 1 ≡ suc (n + 1) = omega arith in f)
    ∙ ap (λ (l : List ℕ). a ∷ l) (range_next (a + 1) n x (omega arith))

-- the entries of the places below p
abbrev pub entries_below : List ℕ → ℕ → ℕ → List Element
entries_below ps n p = map (λ i. permutation_entry ps (i / n) (i % n)) (range_with_len 0 p)

pub entries_push : (ps : List ℕ) (n p : ℕ) (zs : List Amp) (z : Amp) → p < 64 → element_of z ≡ permutation_entry ps (p / n) (p % n) →
    elements_of zs ≡ padded (entries_below ps n p) → elements_of (slice_set zs p z) ≡ padded (entries_below ps n (p + 1))
entries_push ps n p zs z h e so_far =
    let f = λ (i : ℕ). permutation_entry ps (i / n) (i % n) in
    padded_push zs (entries_below ps n p) z p (sym (length-map-range_with_len f 0 p)) h so_far
    ∙ ap (λ (w : Element). padded (entries_below ps n p ++ w ∷ [])) e
    ∙ sym (ap padded (ap (map f) (range_next 0 p p (omega arith)) ∙ map-append f (range_with_len 0 p) (p ∷ [])))

pub entries_all : (ps : List ℕ) (n p : ℕ) (zs : List Amp) → n ≡ length ps → p ≡ n * n → elements_of zs ≡ padded (entries_below ps n p) → elements_of zs ≡ padded (permutation_entries ps)
entries_all ps n p zs e h so_far =
    so_far ∙ ap (λ (m : ℕ). padded (entries_below ps n m)) h ∙ ap (λ (m : ℕ). padded (entries_below ps m (m * m))) e

pub few_places : (n : ℕ) → n ≤ 8 → n * n ≤ 64
few_places n h = omega (arith, mul-le-mul h h)

-- ---- numbers up to 8

same_test : (n r : ℕ) → r < 8 → (min n 8 == r) ≡ (n == r)
same_test n r h = grind (arith, nat_tests)

same_numbers : (ts : List (List ℕ)) (row column : ℕ) → row < 8 → column < length ts → permutation_entry (map up_to_eight ts) row column ≡ permutation_entry (map number ts) row column
same_numbers ts row column h l =
    let read = get_or-map up_to_eight ts column [] 0 l in
    let meant = get_or-map number ts column [] 0 l in
    ap (λ (n : ℕ). if n == row then unit else nought) read
    ∙ ap (λ (b : Bool). if b then unit else nought) (same_test (number (get_or ts column [])) row h)
    ∙ sym (ap (λ (n : ℕ). if n == row then unit else nought) meant)

map_same_below : (f g : ℕ → Element) (a n : ℕ) → ((i : ℕ) → i < a + n → f i ≡ g i) → map f (range_with_len a n) ≡ map g (range_with_len a n)
map_same_below f g a zero h = refl
map_same_below f g a (suc n) h =
    ap (λ (z : Element). z ∷ map f (range_with_len (a + 1) n)) (h a (omega arith))
    ∙ ap (λ (l : List Element). g a ∷ l) (map_same_below f g (a + 1) n (λ i l. h i (omega (arith, l))))

some_rows : (n i : ℕ) → i < n * n → 0 < n
some_rows zero i h = absurd (omega arith)
some_rows (suc n) i h = omega arith

row_below : (n i : ℕ) → i < n * n → i / n < n
row_below n i h = (div-lt_iff_lt-mul (some_rows n i h)).1 h

column_below : (n i : ℕ) → i < n * n → i % n < n
column_below n i h = let some : 0 < n = some_rows n i h in omega arith

pub same_permutation : (ts : List (List ℕ)) → length ts ≤ 8 → permutation_entries (map up_to_eight ts) ≡ permutation_entries (map number ts)
same_permutation ts few =
    let n = length ts in
    ap (λ (m : ℕ). entries_below (map up_to_eight ts) m (m * m)) (length-map ts up_to_eight)
    ∙ map_same_below (λ i. permutation_entry (map up_to_eight ts) (i / n) (i % n)) (λ i. permutation_entry (map number ts) (i / n) (i % n)) 0 (n * n)
    (λ i l. let h : i < n * n = omega (arith, l) in same_numbers ts (i / n) (i % n) (omega (arith, row_below n i h, few)) (column_below n i h))
    ∙ sym (ap (λ (m : ℕ). entries_below (map number ts) m (m * m)) (length-map ts number))

-- ---- the matrix

pub eight_at_most : (k n : ℕ) → k ≤ 3 → n ≡ 2 ^ k → n ≤ 8
eight_at_most k n h e = let power : 2 ^ k ≤ 2 ^ 3 = pow_mono {i = k} {j = 3} h in omega arith

abbrev at_arity : List ℕ → Option ℕ → Result Matrix GateFault
at_arity ps arity = elim arity [
  | None ↦ Err fault.Arity
  | Some k ↦ if_unitary (record { arity = k; root_twos = 0; entries = padded (permutation_entries ps) })
]

pub permuted : (ts : List (List ℕ)) (ps : List ℕ) (k : ℕ) (zs : List Element) → Some k ≡ arity_of_rows (length ts) → length ts ≤ 8 → ps ≡ map up_to_eight ts → zs ≡ padded (permutation_entries ps) →
    if_unitary (record { arity = k; root_twos = 0; entries = zs }) ≡ matrix_of_permutation (map number ts)
permuted ts ps k zs e few read told =
    ap (λ (ys : List Element). if_unitary (record { arity = k; root_twos = 0; entries = ys }))
    (told ∙ ap (λ (qs : List ℕ). padded (permutation_entries qs)) read ∙ ap padded (same_permutation ts few))
    ∙ ap (at_arity (map number ts)) (e ∙ ap arity_of_rows (sym (length-map ts number)))
