-- Lists of a gate's entries as its matrix.
use Rattle.std.proofs.Common.{◌≡◌, ◌⊎◌, inl, inr, slice_set, slice_index_or, length, get_or, zero, suc, [], ◌∷◌, All, refl, sym, ◌∙◌, ap, ℕ, ◌+◌, ◌*◌, ◌/◌, ◌%◌, ◌^◌, ◌<◌, ◌≤◌, List, arith, rules, subst}
use Rattle.std.specs.Prelude.{pos}
use Rattle.std.proofs.lemmas.List.{get_or-set_same, get_or-set_other, length-set}
use Rattle.std.proofs.lemmas.Int.{ints}
use Rattle.std.proofs.lemmas.Nat.{div-mul-add, mod-mul-add, row_fits}
use Rattle.qvm_ring.specs.Ring.{Element, nought, times, conjugate}
use Rattle.qvm_ring.specs.Gate.{Gate, IsUnitary, gram_entry, cogram_entry, identity_entry}
use Rattle.qvm_ring.specs.declared.amp.Amp.{Amp}
use Rattle.qvm_ring.specs.Views.{IsBelow, at, element_of, elements_of}
use Rattle.qvm_ring.specs.Multiply.{IsWithin}
use Rattle.qvm_ring.proofs.Products.{at_elements}
use Rattle.qvm_ring.proofs.Summed.{sum_same}
use Rattle.quil_code.specs.declared.standard_gate.StandardGate.{StandardGate}
use Rattle.quil_code.specs.StandardGates.{form_of, standard}
use Rattle.quil_code.specs.Entries.{HasEntries}
use Rattle.quil_code.specs.Matrices.{Matrix, matrix_gate, IsMatrix, IsGate}
use Rattle.quil_code.proofs.Unitary.{standard_unitary}
use Rattle.quil_code.specs.Controls.{daggered}
use Rattle.quil_code.proofs.Small.{entries_within}
use Rattle.quil_code.proofs.KeptUnitary.{unitary_daggered}

-- ---- the same entries, the same products

module _ (g h : Gate) (same : IsGate g h) where
  entry_is : (r c : ℕ) → r < 2 ^ g.arity → c < 2 ^ g.arity → h.entry r c ≡ g.entry r c
  entry_is = same.entries

  width : 2 ^ h.arity ≡ 2 ^ g.arity
  width = ap (λ (n : ℕ). 2 ^ n) same.arity

  identity_is : (r c : ℕ) → identity_entry g r c ≡ identity_entry h r c
  identity_is r c = ap (λ (n : ℕ). identity_entry (record g { root_twos = n }) r c) (sym same.root_twos)

  pub unitary_same : IsUnitary g → IsUnitary h
  unitary_same u = record {
    rows = λ r c i j.
        let k : r < 2 ^ g.arity = omega (arith, width, i) in
        let l : c < 2 ^ g.arity = omega (arith, width, j) in
        ap (λ (n : ℕ). gram_entry (record h { arity = n }) r c) same.arity
        ∙ sum_same (2 ^ g.arity) (λ t. times (h.entry r t) (conjugate (h.entry c t))) (λ t. times (g.entry r t) (conjugate (g.entry c t)))
        (λ t b. ap (λ (z : Element). times z (conjugate (h.entry c t))) (entry_is r t k b) ∙ ap (λ (z : Element). times (g.entry r t) (conjugate z)) (entry_is c t l b))
        ∙ u.rows r c k l ∙ identity_is r c;
    columns = λ r c i j.
        let k : r < 2 ^ g.arity = omega (arith, width, i) in
        let l : c < 2 ^ g.arity = omega (arith, width, j) in
        ap (λ (n : ℕ). cogram_entry (record h { arity = n }) r c) same.arity
        ∙ sum_same (2 ^ g.arity) (λ t. times (conjugate (h.entry t r)) (h.entry t c)) (λ t. times (conjugate (g.entry t r)) (g.entry t c))
        (λ t b. ap (λ (z : Element). times (conjugate z) (h.entry t c)) (entry_is t r b k) ∙ ap (times (conjugate (g.entry t r))) (entry_is t c b l))
        ∙ u.columns r c k l ∙ identity_is r c;
  }

-- ---- lists of entries

abbrev pub matrix_from : Gate → List Element → Matrix
matrix_from w zs = record { arity = w.arity; root_twos = w.root_twos; entries = zs }

pub is_gate_of_list : (w : Gate) (zs : List Element) → HasEntries w.entry (2 ^ w.arity) (2 ^ w.arity * 2 ^ w.arity) zs → IsGate w (matrix_gate (matrix_from w zs))
is_gate_of_list w zs h =
    let n = 2 ^ w.arity in
    record {
      arity = refl;
      root_twos = refl;
      entries = λ row column i j.
          h (row * n + column) (omega (arith, row_fits row n n n i (let r : n ≤ n = omega arith in r), j))
          ∙ ap (λ (r : ℕ). w.entry r ((row * n + column) % n)) (div-mul-add row n column j)
          ∙ ap (w.entry row) (mod-mul-add row n column j);
    }

-- a gate that a matrix can be
pub record IsFine (w : Gate) : Type 0 where
  pub few : w.arity ≤ 3
  pub light : w.root_twos ≤ 40
  pub small : (row column : ℕ) → row < 2 ^ w.arity → column < 2 ^ w.arity → IsWithin (2 ^ 20) (w.entry row column)
  pub unitary : IsUnitary w

three_at_most : (g : StandardGate) → (form_of g).arity ≤ 3
three_at_most g = search rules

two_at_most : (g : StandardGate) → (form_of g).root_twos ≤ 40
two_at_most g = search rules

wider : (z : Element) → IsWithin 2 z → IsWithin (2 ^ 20) z
wider z w = record { a = omega (arith, w.a); b = omega (arith, w.b); c = omega (arith, w.c); d = omega (arith, w.d) }

pub fine_standard : (g : StandardGate) (k : ℕ) → k < 16 → IsFine (standard g k)
fine_standard g k b = record {
  few = three_at_most g;
  light = two_at_most g;
  small = λ row column i j. wider _ (entries_within g k row column b i j);
  unitary = standard_unitary g k b;
}

conjugate_within : (z : Element) → IsWithin (2 ^ 20) z → IsWithin (2 ^ 20) (conjugate z)
conjugate_within z w = record { a = w.a; b = omega (arith, ints, w.d); c = omega (arith, ints, w.c); d = omega (arith, ints, w.b) }

pub fine_daggered : (x : Matrix) → IsMatrix x → IsFine (daggered (matrix_gate x))
fine_daggered x h = record {
  few = h.few;
  light = h.light;
  small = λ row column i j. conjugate_within _ (h.small column row j i);
  unitary = unitary_daggered (matrix_gate x) h.unitary;
}

few_of_arity : (a : ℕ) → a ≤ 3 → 2 ^ a * 2 ^ a ≤ 64
few_of_arity zero h = omega arith
few_of_arity (suc zero) h = omega arith
few_of_arity (suc (suc zero)) h = omega arith
few_of_arity (suc (suc (suc zero))) h = omega arith
few_of_arity (suc (suc (suc (suc a)))) h = absurd (omega (arith, h))

pub few_places : (w : Gate) (n : ℕ) → w.arity ≤ 3 → n ≡ 2 ^ w.arity → n * n ≤ 64
few_places w n h e = subst (λ (k : ℕ). k * k ≤ 64) (sym e) (few_of_arity w.arity h)

pub is_matrix_of_list : (w : Gate) (zs : List Element) → IsFine w → HasEntries w.entry (2 ^ w.arity) (2 ^ w.arity * 2 ^ w.arity) zs → IsMatrix (matrix_from w zs)
is_matrix_of_list w zs f h =
    let same = is_gate_of_list w zs h in
    record {
      few = f.few;
      light = f.light;
      small = λ row column i j. subst (λ (z : Element). IsWithin (2 ^ 20) z) (sym (same.entries row column i j)) (f.small row column i j);
      unitary = unitary_same w (matrix_gate (matrix_from w zs)) same f.unitary;
    }

-- ---- one more entry

before_or_at : (i p : ℕ) → i < p + 1 → (i < p) ⊎ (i ≡ p)
before_or_at i p h = grind arith

pub one_more_entry : (entry : ℕ → ℕ → Element) (n p : ℕ) (zs : List Amp) (z : Amp) → p < length zs → HasEntries entry n p (elements_of zs) → element_of z ≡ entry (p / n) (p % n) →
    HasEntries entry n (p + 1) (elements_of (slice_set zs p z))
one_more_entry entry n p zs z b h e = λ i l.
    let longer : length (slice_set zs p z) ≡ length zs = length-set zs p z in
    elim (before_or_at i p l) [
      | inl a ↦ at_elements (slice_set zs p z) i z (omega (arith, longer, a, b))
          ∙ ap element_of (get_or-set_other zs p i z z (λ f. omega (arith, f, a)))
          ∙ sym (at_elements zs i z (omega (arith, a, b)))
          ∙ h i a
      | inr f ↦ at_elements (slice_set zs p z) i z (omega (arith, longer, f, b))
          ∙ ap (λ (j : ℕ). element_of (get_or (slice_set zs p z) j z)) f
          ∙ ap element_of (get_or-set_same zs p z z b)
          ∙ e
          ∙ sym (ap (λ (j : ℕ). entry (j / n) (j % n)) f)
    ]

-- ---- the fields of a matrix

module _ (w : Gate) (zs : List Element) (n a m : ℕ) (size : n ≡ 2 ^ w.arity) (e : a ≡ w.arity) (f : m ≡ w.root_twos) (g : HasEntries w.entry n (n * n) zs) where
  by_size : HasEntries w.entry (2 ^ w.arity) (2 ^ w.arity * 2 ^ w.arity) zs
  by_size = subst (λ (j : ℕ). HasEntries w.entry j (j * j) zs) size g

  from_parts : matrix_from w zs ≡ record { arity = a; root_twos = m; entries = zs }
  from_parts i = record { arity = sym e i; root_twos = sym f i; entries = zs }

  pub is_matrix_of_parts : IsFine w → IsMatrix (record { arity = a; root_twos = m; entries = zs })
  is_matrix_of_parts b = subst IsMatrix from_parts (is_matrix_of_list w zs b by_size)

  pub is_gate_of_parts : IsGate w (matrix_gate (record { arity = a; root_twos = m; entries = zs }))
  is_gate_of_parts = subst (λ (x : Matrix). IsGate w (matrix_gate x)) from_parts (is_gate_of_list w zs by_size)

-- ---- an entry of the code

-- 0 is told behind the end of a list, on both sides
pub at_or_zero : (zs : List Amp) (i : ℕ) → element_of (slice_index_or zs i (record { a = pos 0; b = pos 0; c = pos 0; d = pos 0 })) ≡ at (elements_of zs) i
at_or_zero [] i = refl
at_or_zero (z ∷ zs) zero = refl
at_or_zero (z ∷ zs) (suc i) = at_or_zero zs i

module _ (zs : List Amp) (arity root_twos row column place : ℕ) (m : Matrix) (view : record { arity = arity; root_twos = root_twos; entries = elements_of zs } ≡ m)
    (here : place ≡ row * 2 ^ arity + column) where
  pub told_entry : element_of (slice_index_or zs place (record { a = pos 0; b = pos 0; c = pos 0; d = pos 0 })) ≡ (matrix_gate m).entry row column
  told_entry = at_or_zero zs place ∙ ap (at (elements_of zs)) here ∙ ap (λ (x : Matrix). (matrix_gate x).entry row column) view

  pub told_within : IsMatrix (record { arity = arity; root_twos = root_twos; entries = elements_of zs }) → row < 2 ^ m.arity → column < 2 ^ m.arity →
      IsWithin (2 ^ 20) (element_of (slice_index_or zs place (record { a = pos 0; b = pos 0; c = pos 0; d = pos 0 })))
  told_within k i j =
      let n : IsMatrix m = subst IsMatrix view k in
      subst (λ (z : Element). IsWithin (2 ^ 20) z) (sym told_entry) (n.small row column i j)

pub below_of_within : (z : Element) → IsWithin (2 ^ 20) z → IsBelow (2 ^ 21) z
below_of_within z w = record { a = omega (arith, w.a); b = omega (arith, w.b); c = omega (arith, w.c); d = omega (arith, w.d) }

-- ---- a matrix from a square

nought_within : IsWithin (2 ^ 20) nought
nought_within = record { a = omega arith; b = omega arith; c = omega arith; d = omega arith }

all_within : (zs : List Amp) → All (λ z. IsWithin (2 ^ 20) (element_of z)) zs → (i : ℕ) → IsWithin (2 ^ 20) (at (elements_of zs) i)
all_within [] h i = nought_within
all_within (z ∷ zs) h zero = h 0 z (omega arith)
all_within (z ∷ zs) h (suc i) = all_within zs (λ j d l. h (suc j) d (omega arith)) i

pub is_matrix_of_square : (arity root_twos : ℕ) (zs : List Amp) → arity ≤ 3 → root_twos ≤ 40 → All (λ z. IsWithin (2 ^ 20) (element_of z)) zs →
    IsUnitary (matrix_gate (record { arity = arity; root_twos = root_twos; entries = elements_of zs })) → IsMatrix (record { arity = arity; root_twos = root_twos; entries = elements_of zs })
is_matrix_of_square arity root_twos zs few light small unitary = record {
  few = few;
  light = light;
  small = λ row column i j. all_within zs small (row * 2 ^ arity + column);
  unitary = unitary;
}
