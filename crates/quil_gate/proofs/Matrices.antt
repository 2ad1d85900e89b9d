-- Which entries make a unitary matrix, and how many entries there are.
use Rattle.std.proofs.Common.{◌≡◌, refl, sym, ◌∙◌, ap, subst, ℕ, zero, suc, ◌+◌, ◌*◌, ◌/◌, ◌%◌, ◌^◌, ◌<◌, ◌≤◌, inl, inr, Bool, true, false, List, [], ◌∷◌, ◌++◌, length, Result, Ok, Err, arith}
use Rattle.std.specs.Prelude.{nat_lt, if◌then◌else◌}
use Rattle.std.proofs.lemmas.Bool.{cases_Bool, le-ltb}
use Rattle.std.proofs.lemmas.Nat.{pow_pos}
use Rattle.std.proofs.Math.Nat.{div-add-mod, div-lt_iff_lt-mul}
use Rattle.qvm_ring.specs.Ring.{Element, norm_whole}
use Rattle.qvm_ring.specs.Gate.{IsUnitary}
use Rattle.qvm_ring.specs.Views.{at}
use Rattle.quil_value.specs.Exact.{Exact}
use Rattle.quil_tree.specs.declared.statement.Formula.{Formula}
use Rattle.quil_value.specs.declared.value.RingNumber.{RingNumber}
use Rattle.quil_code.specs.Matrices.{Matrix, matrix_gate}
use Rattle.quil_code.specs.Unitary.{is_unitary}
use Rattle.quil_code.proofs.Computed.{tested_if, unitary_if}
use Rattle.quil_code.proofs.UnitaryBounds.{unitary_norm}
use Rattle.quil_gate.specs.declared.gate_fault.GateFault.{GateFault}
use Rattle.quil_gate.specs.declared.gate_fault.GateFault.TheVariants as fault
use Rattle.quil_gate.specs.Definitions.{greatest_power, numerators, padded, if_unitary, matrix_of_entries, entry_at, entries_of_rows, is_square}
use Rattle.quil_gate.specs.Reading.{entries_of, HasGreat}
use Rattle.quil_gate.proofs.Numbers.{numerators_length}
use Rattle.quil_gate.proofs.Entries.{each_length, rows_length}

-- ---- the test

abbrev if_else : Bool → Matrix → Result Matrix GateFault
if_else b x = if b then Ok x else Err fault.NotUnitary

pub if_unitary_yes : (x : Matrix) → IsUnitary (matrix_gate x) → Ok x ≡ if_unitary x
if_unitary_yes x u = sym (ap (λ (b : Bool). if_else b x) (tested_if (matrix_gate x) u))

pub if_unitary_no : (x : Matrix) → (IsUnitary (matrix_gate x) → ⊥) → Err fault.NotUnitary ≡ if_unitary x
if_unitary_no x never = elim (cases_Bool (is_unitary (matrix_gate x))) [
  | inl e ↦ absurd (never (unitary_if (matrix_gate x) e))
  | inr e ↦ sym (ap (λ (b : Bool). if_else b x) e)
]

-- ---- entries that are too great

at_front : (zs ys : List Element) (i : ℕ) → i < length zs → at (zs ++ ys) i ≡ at zs i
at_front [] ys i h = absurd (omega arith)
at_front (z ∷ zs) ys zero h = refl
at_front (z ∷ zs) ys (suc i) h = at_front zs ys i (omega arith)

row_below : (p n : ℕ) → 0 < n → p < n * n → p / n < n
row_below p n h l = (div-lt_iff_lt-mul h).1 l

pub great_entries : (k m : ℕ) (zs : List Element) → m ≤ 40 → length zs ≡ 2 ^ k * 2 ^ k → HasGreat zs →
    IsUnitary (matrix_gate (record { arity = k; root_twos = m; entries = padded zs })) → ⊥
great_entries k m zs light e h u =
    let n = 2 ^ k in
    let p = h.place in
    let some : 0 < n = pow_pos k in
    let here : p / n * n + p % n ≡ p = omega (arith, div-add-mod p n) in
    let row : p / n < n = row_below p n some (omega (arith, h.within, e)) in
    let column : p % n < n = omega arith in
    let bound : norm_whole (at (padded zs) (p / n * n + p % n)) ≤ 2 ^ 40 = unitary_norm (matrix_gate (record { arity = k; root_twos = m; entries = padded zs })) u light (p / n) (p % n) row column in
    let same : at (padded zs) (p / n * n + p % n) ≡ at zs p = ap (at (padded zs)) here ∙ at_front zs _ p h.within in
    omega (arith, bound, ap norm_whole same, h.great)

pub too_great : (k m : ℕ) (rs : List RingNumber) → m ≡ greatest_power (entries_of rs) → m ≤ 40 → length rs ≡ 2 ^ k * 2 ^ k → HasGreat (numerators m (entries_of rs)) →
    Err fault.NotUnitary ≡ matrix_of_entries k (entries_of rs)
too_great k m rs e light count h =
    let g = greatest_power (entries_of rs) in
    let small : nat_lt 40 g ≡ false = le-ltb 40 g (omega (arith, e, light)) in
    let great : HasGreat (numerators g (entries_of rs)) = subst (λ (n : ℕ). HasGreat (numerators n (entries_of rs))) e h in
    let x : Matrix = record { arity = k; root_twos = g; entries = padded (numerators g (entries_of rs)) } in
    if_unitary_no x (great_entries k g (numerators g (entries_of rs)) (omega (arith, e, light)) (numerators_length g rs ∙ count) great)
    ∙ sym (ap (λ (b : Bool). if b then Err fault.EntryTooLarge else if_unitary x) small)

-- ---- how many entries there are

entries_length : (rs : List RingNumber) → length (entries_of rs) ≡ length rs
entries_length [] = refl
entries_length (r ∷ rs) = ap suc (entries_length rs)

pub entries_count : (values : List Exact) (rows : List (List Formula)) (k : ℕ) (rs : List RingNumber) → is_square rows ≡ true → length rows ≡ 2 ^ k →
    entries_of_rows values rows ≡ Ok (entries_of rs) → length rs ≡ 2 ^ k * 2 ^ k
entries_count values rows k rs square e told =
    sym (entries_length rs) ∙ each_length (entry_at values) _ (entries_of rs) told ∙ rows_length (length rows) rows square ∙ ap (λ (n : ℕ). n * n) e

pub room_for : (k n : ℕ) → k ≤ 3 → n ≡ 2 ^ k * 2 ^ k → n ≤ 64
room_for zero n h e = omega arith
room_for (suc zero) n h e = omega arith
room_for (suc (suc zero)) n h e = omega arith
room_for (suc (suc (suc zero))) n h e = omega arith
room_for (suc (suc (suc (suc k)))) n h e = absurd (omega arith)
