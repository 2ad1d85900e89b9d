-- An act with the pieces of a gate is that gate.
use Rattle.std.proofs.Common.{◌≡◌, ◌≢◌, refl, sym, ◌∙◌, ap, subst, ℕ, zero, suc, ◌+◌, ◌-◌, ◌*◌, ◌/◌, ◌%◌, ◌^◌, ◌<◌, ◌≤◌, ◌==◌, List, [], ◌∷◌, ◌++◌, length, map, take, drop, length-drop, length-take-le, All, AllPairs, arith}
use Rattle.std.specs.Prelude.{Bool, Option, Some, None, if◌then◌else◌}
use Rattle.std.proofs.Math.Nat.{mod-lt, div-lt_iff_lt-mul}
use Rattle.std.proofs.Math.Pow.{split}
use Rattle.std.proofs.lemmas.List.{length-map, take-append-drop}
use Rattle.qvm_ring.specs.Ring.{Element, nought}
use Rattle.qvm_ring.specs.Gate.{Gate}
use Rattle.qvm_ring.proofs.Bits.{power_positive}
use Rattle.quil_code.specs.declared.act.Piece.{Piece}
use Rattle.quil_code.specs.declared.gate_code.Control.{Control}
use Rattle.quil_code.specs.Acts.{Act, act_gate, matrix_at, block_entry, IsAct, IsPiece}
use Rattle.quil_code.specs.Controls.{under, IsFamily}
use Rattle.quil_code.specs.GateCodes.{GateCode, IsGateCode, is_controlled, base_arity, base_root_twos}
use Rattle.quil_code.specs.Matrices.{Matrix, matrix_gate, IsGate}
use Rattle.quil_code.proofs.Collapse.{arity_under, root_twos_under}
use Rattle.quil_gate.specs.Pieces.{leaf_gate, chosen, IsMatrixOf, IsPieceBelow, AddsPieces}
use Rattle.quil_gate.proofs.Forks.{leaf_family}
use Rattle.quil_gate.proofs.Chosen.{block, where_same, size_under, under_entry}

block_is : (n m : ℕ) (f : List ℕ → Gate) → IsFamily n m f → (o : Option Matrix) (b : Option (List ℕ)) → IsMatrixOf f o b → (i j : ℕ) → i < 2 ^ n → j < 2 ^ n → block_entry m o i j ≡ block m f b i j
block_is n m f w None None h i j k l = refl
block_is n m f w None (Some xs) h i j k l = absurd h
block_is n m f w (Some x) None h i j k l = absurd h
block_is n m f w (Some x) (Some xs) h i j k l =
    let size : 2 ^ (f xs).arity ≡ 2 ^ n = ap (λ (a : ℕ). 2 ^ a) (w.arity xs) in
    h.entries i j (omega (arith, size, k)) (omega (arith, size, l))

module _ (a : Act) (cs : List Control) (f : List ℕ → Gate) (xs : List ℕ) (w : IsFamily (length a.targets) a.root_twos f) (controls : length a.controls ≡ length cs)
    (pieces : (p : ℕ) → p < 2 ^ length cs → IsMatrixOf f (matrix_at a.pieces p) (chosen cs p xs)) where
  n : ℕ
  n = length a.targets

  pattern_below : (row : ℕ) → row < 2 ^ (under (map is_controlled cs) f xs).arity → row / 2 ^ n < 2 ^ length cs
  unfolding n
  pattern_below row h =
      (div-lt_iff_lt-mul (power_positive (length a.targets))).1 (subst (λ (k : ℕ). row < k) (size_under cs (length a.targets) a.root_twos f w xs) h)

  pub act_is : IsGate (under (map is_controlled cs) f xs) (act_gate a)
  unfolding n
  act_is = record {
    arity = ap (λ (k : ℕ). k + length a.targets) (controls ∙ sym (length-map cs is_controlled)) ∙ sym (arity_under (map is_controlled cs) (length a.targets) a.root_twos f w xs);
    root_twos = sym (root_twos_under (map is_controlled cs) (length a.targets) a.root_twos f w xs);
    entries = λ row column h l.
        let t = length a.targets in
        let p = row / 2 ^ t in
        let q = column / 2 ^ t in
        let i = row % 2 ^ t in
        let j = column % 2 ^ t in
        let i_below : i < 2 ^ t = mod-lt row (power_positive t) in
        let j_below : j < 2 ^ t = mod-lt column (power_positive t) in
        ap (where_same p q) (block_is t a.root_twos f w (matrix_at a.pieces p) (chosen cs p xs) (pieces p (pattern_below row h)) i j i_below j_below)
        ∙ sym (under_entry cs t a.root_twos f w xs p q i j (pattern_below row h) (pattern_below column l) i_below j_below)
        ∙ ap (λ (r : ℕ). (under (map is_controlled cs) f xs).entry r (q * 2 ^ t + j)) (split row t)
        ∙ ap ((under (map is_controlled cs) f xs).entry row) (split column t);
  }

-- ---- the parts of an act

pub parts_act : (qs ds ts : List ℕ) (m : ℕ) (ps : List Piece) → ds ++ ts ≡ qs → length qs ≤ 16 → AllPairs (λ p q. p ≢ q) qs → m ≤ 40 →
    All (IsPieceBelow (2 ^ length ds) (length ts) m) ps → IsAct (record { controls = ds; targets = ts; root_twos = m; pieces = ps })
parts_act qs ds ts m ps e few different light all = record {
  few = subst (λ (xs : List ℕ). length xs ≤ 16) (sym e) few;
  different = subst (λ (xs : List ℕ). AllPairs (λ p q. p ≢ q) xs) (sym e) different;
  light = light;
  pieces = λ i d l. let h = all i d l in record { pattern = h.pattern; arity = h.arity; root_twos = h.root_twos; matrix = h.matrix };
}

-- ---- the act of a gate

module _ (g : GateCode) (form : IsGateCode g) (xs : List ℕ) (ds ts : List ℕ) (m : ℕ) (ps : List Piece) (front : ds ≡ take (length g.controls) g.qubits)
    (back : ts ≡ drop (length g.controls) g.qubits) (root : m ≡ base_root_twos g.base) (adds : AddsPieces (leaf_gate g) g.controls 0 xs [] ps) where
  controls_are : length ds ≡ length g.controls
  controls_are = ap length front ∙ length-take-le (length g.controls) g.qubits (omega (arith, form.qubits))

  targets_are : length ts ≡ base_arity g.base
  targets_are = ap length back ∙ length-drop (length g.controls) g.qubits ∙ (let e : length g.qubits - length g.controls ≡ base_arity g.base = omega (arith, form.qubits) in e)

  family : IsFamily (length ts) m (leaf_gate g)
  family =
      let h = leaf_family g form in
      record { arity = λ ys. h.arity ys ∙ sym targets_are; root_twos = λ ys. h.root_twos ys ∙ sym root }

  pub made_gate : IsGate (under (map is_controlled g.controls) (leaf_gate g) xs) (act_gate (record { controls = ds; targets = ts; root_twos = m; pieces = ps }))
  made_gate =
      act_is (record { controls = ds; targets = ts; root_twos = m; pieces = ps }) g.controls (leaf_gate g) xs family controls_are
      (λ p h. subst (λ (t : ℕ). IsMatrixOf (leaf_gate g) (matrix_at ps p) (chosen g.controls t xs)) (let e : p - 0 ≡ p = omega arith in e) (adds.here p (omega arith) (omega (arith, h))))

  pub made_act : length g.qubits ≤ 16 → m ≤ 40 → IsAct (record { controls = ds; targets = ts; root_twos = m; pieces = ps })
  made_act few light =
      parts_act g.qubits ds ts m ps (ap (λ (t : List ℕ). t ++ ts) front ∙ ap (λ (t : List ℕ). take (length g.controls) g.qubits ++ t) back ∙ take-append-drop (length g.controls) g.qubits)
      few form.different light
      (adds.forms (2 ^ length ds) (length ts) m family (let e : 2 ^ length ds ≡ 2 ^ length g.controls = ap (λ (t : ℕ). 2 ^ t) controls_are in omega (arith, e)) (λ i d l. absurd (omega arith)))
