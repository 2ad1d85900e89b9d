-- Pieces one after another.
use Rattle.std.proofs.Common.{◌≡◌, ◌≢◌, refl, sym, ◌∙◌, ap, subst, ℕ, zero, suc, ◌+◌, ◌-◌, ◌*◌, ◌^◌, ◌<◌, ◌≤◌, ◌==◌, ◌⊎◌, inl, inr, List, [], ◌∷◌, ◌++◌, length, All, arith}
use Rattle.std.specs.Prelude.{nat_lt, Bool, true, false, Option, Some, None, if◌then◌else◌}
use Rattle.std.proofs.Math.Pow.{pow_mono}
use Rattle.std.proofs.lemmas.List.{length-append}
use Rattle.std.proofs.lemmas.List.Elements.{All-push}
use Rattle.qvm_ring.specs.Gate.{Gate}
use Rattle.qvm_ring.proofs.LocalStates.{doubled}
use Rattle.quil_code.specs.declared.act.Piece.{Piece}
use Rattle.quil_code.specs.declared.gate_code.Control.{Control}
use Rattle.quil_code.specs.declared.gate_code.Control.TheVariants.{Controlled, Forked}
use Rattle.quil_code.specs.Acts.{matrix_at}
use Rattle.quil_code.specs.Controls.{first_half, second_half, IsFamily}
use Rattle.quil_code.specs.GateCodes.{forks}
use Rattle.quil_code.specs.Matrices.{Matrix, matrix_gate, IsMatrix, IsGate}
use Rattle.quil_code.proofs.Collapse.{is_same, isnt_same}
use Rattle.quil_gate.specs.Pieces.{chosen, IsMatrixOf, IsPieceBelow, AddsPieces}
use Rattle.quil_gate.proofs.Chosen.{low_choice, high_choice, low_or_high}

-- ---- patterns of 16 bits

pub few_controls : (p n : ℕ) → p + 2 ^ n ≤ 2 ^ 16 → n ≤ 16
few_controls p n h = elim (low_or_high 16 n) [
  | inl a ↦ let m : 2 ^ 17 ≤ 2 ^ n = pow_mono {i = 17} {j = n} (omega (arith, a)) in absurd (omega (arith, m, h))
  | inr b ↦ b
]

-- ---- one piece more

-- a matrix that is found is found before what stands behind
found_before : (ps : List Piece) (p : Piece) (k : ℕ) → p.pattern ≢ k → matrix_at (ps ++ p ∷ []) k ≡ matrix_at ps k
found_before [] p k d = ap (λ (t : Bool). if t then Some p.matrix else None) (isnt_same p.pattern k d)
found_before (q ∷ ps) p k d = ap (λ (o : Option Matrix). if q.pattern == k then Some q.matrix else o) (found_before ps p k d)

found_here : (ps : List Piece) (p : Piece) (k : ℕ) → p.pattern ≡ k → matrix_at ps k ≡ None → matrix_at (ps ++ p ∷ []) k ≡ Some p.matrix
found_here [] p k e n = ap (λ (t : Bool). if t then Some p.matrix else None) (ap (λ (t : ℕ). t == k) e ∙ is_same k)
found_here (q ∷ ps) p k e n = behind (q.pattern == k) q.matrix (matrix_at ps k) (matrix_at (ps ++ p ∷ []) k) p.matrix (found_here ps p k e) n
  where
    behind : (b : Bool) (x : Matrix) (o n : Option Matrix) (y : Matrix) → (o ≡ None → n ≡ Some y) → (if b then Some x else o) ≡ None → (if b then Some x else n) ≡ Some y
    behind true x o n y h e = absurd (cc)
    behind false x o n y h e = h e

module _ (f : List ℕ → Gate) (pattern : ℕ) (xs : List ℕ) (old : List Piece) (x : Matrix) (matrix : IsMatrix x) (gate : IsGate (f xs) (matrix_gate x)) where
  one : Piece
  one = record { pattern = pattern; matrix = x }

  pub adds_one : ((p : ℕ) → pattern ≤ p → p < pattern + 2 ^ 0 → matrix_at old p ≡ None) → AddsPieces f [] pattern xs old (old ++ record { pattern = pattern; matrix = x } ∷ [])
  adds_one free = record {
    here = λ p l h. subst (λ (o : Option Matrix). IsMatrixOf f o (Some xs)) (sym (found_here old (record { pattern = pattern; matrix = x }) p (let e : pattern ≡ p = omega (arith, l, h) in e) (free p l h))) gate;
    elsewhere = λ p h. found_before old (record { pattern = pattern; matrix = x }) p (λ e. apart p h e);
    count = length-append old (record { pattern = pattern; matrix = x } ∷ []);
    forms = λ width n m w room all. All-push (IsPieceBelow width n m) old (record { pattern = pattern; matrix = x }) all (record {
      pattern = omega (arith, room);
      arity = gate.arity ∙ w.arity xs;
      root_twos = gate.root_twos ∙ w.root_twos xs;
      matrix = matrix;
    });
  }
    where
      apart : (p : ℕ) → (p < pattern) ⊎ (pattern + 2 ^ 0 ≤ p) → pattern ≢ p
      apart p (inl h) e = omega (arith, h, e)
      apart p (inr h) e = omega (arith, h, e)

-- ---- one control more

module _ (f : List ℕ → Gate) (cs : List Control) (pattern : ℕ) (xs : List ℕ) (old new : List Piece) where
  pub adds_controlled : ((p : ℕ) → pattern ≤ p → p < pattern + 2 ^ suc (length cs) → matrix_at old p ≡ None) → AddsPieces f cs (pattern + 2 ^ length cs) xs old new →
      AddsPieces f (Controlled ∷ cs) pattern xs old new
  adds_controlled free h =
      let k = 2 ^ length cs in
      let d : 2 ^ suc (length cs) ≡ k + k = doubled (length cs) in
      record {
        here = λ p l b. elim (low_or_high (p - pattern) k) [
          | inl a ↦ subst (λ (o : Option (List ℕ)). IsMatrixOf f (matrix_at new p) o) (sym (low_choice (p - pattern) k None (chosen cs (p - pattern - k) xs) a))
              (subst (λ (o : Option Matrix). IsMatrixOf f o None) (sym (h.elsewhere p (inl (omega (arith, a, l))) ∙ free p l b)) tt)
          | inr a ↦ subst (λ (o : Option (List ℕ)). IsMatrixOf f (matrix_at new p) o) (sym (high_choice (p - pattern) k None (chosen cs (p - pattern - k) xs) a))
              (subst (λ (t : ℕ). IsMatrixOf f (matrix_at new p) (chosen cs t xs)) (let e : p - (pattern + k) ≡ p - pattern - k = omega arith in e)
              (h.here p (omega (arith, a, l)) (omega (arith, b, d))))
        ];
        elsewhere = λ p o. h.elsewhere p (further p k d o);
        count = h.count;
        forms = λ width n m w room all. h.forms width n m w (omega (arith, room, d)) all;
      }
    where
      further : (p k : ℕ) → 2 ^ suc (length cs) ≡ k + k → (p < pattern) ⊎ (pattern + 2 ^ suc (length cs) ≤ p) → (p < pattern + k) ⊎ (pattern + k + k ≤ p)
      further p k d (inl h) = inl (omega (arith, h))
      further p k d (inr h) = inr (omega (arith, h, d))

module _ (f : List ℕ → Gate) (cs : List Control) (pattern : ℕ) (xs : List ℕ) (old between new : List Piece) where
  pub adds_forked : AddsPieces f cs pattern (first_half xs) old between → AddsPieces f cs (pattern + 2 ^ length cs) (second_half xs) between new →
      AddsPieces f (Forked ∷ cs) pattern xs old new
  adds_forked g h =
      let k = 2 ^ length cs in
      let d : 2 ^ suc (length cs) ≡ k + k = doubled (length cs) in
      let e : 2 ^ suc (forks cs) ≡ 2 ^ forks cs + 2 ^ forks cs = doubled (forks cs) in
      record {
        here = λ p l b. elim (low_or_high (p - pattern) k) [
          | inl a ↦ subst (λ (o : Option (List ℕ)). IsMatrixOf f (matrix_at new p) o) (sym (low_choice (p - pattern) k (chosen cs (p - pattern) (first_half xs)) (chosen cs (p - pattern - k) (second_half xs)) a))
              (subst (λ (o : Option Matrix). IsMatrixOf f o (chosen cs (p - pattern) (first_half xs))) (sym (h.elsewhere p (inl (omega (arith, a, l)))))
              (g.here p l (omega (arith, a, l))))
          | inr a ↦ subst (λ (o : Option (List ℕ)). IsMatrixOf f (matrix_at new p) o) (sym (high_choice (p - pattern) k (chosen cs (p - pattern) (first_half xs)) (chosen cs (p - pattern - k) (second_half xs)) a))
              (subst (λ (t : ℕ). IsMatrixOf f (matrix_at new p) (chosen cs t (second_half xs))) (let e : p - (pattern + k) ≡ p - pattern - k = omega arith in e)
              (h.here p (omega (arith, a, l)) (omega (arith, b, d))))
        ];
        elsewhere = λ p o. h.elsewhere p (above p k d o) ∙ g.elsewhere p (beside p k d o);
        count = omega (arith, h.count, g.count, e);
        forms = λ width n m w room all. h.forms width n m w (omega (arith, room, d)) (g.forms width n m w (omega (arith, room, d)) all);
      }
    where
      above : (p k : ℕ) → 2 ^ suc (length cs) ≡ k + k → (p < pattern) ⊎ (pattern + 2 ^ suc (length cs) ≤ p) → (p < pattern + k) ⊎ (pattern + k + k ≤ p)
      above p k d (inl h) = inl (omega (arith, h))
      above p k d (inr h) = inr (omega (arith, h, d))

      beside : (p k : ℕ) → 2 ^ suc (length cs) ≡ k + k → (p < pattern) ⊎ (pattern + 2 ^ suc (length cs) ≤ p) → (p < pattern) ⊎ (pattern + k ≤ p)
      beside p k d (inl h) = inl h
      beside p k d (inr h) = inr (omega (arith, h, d))

-- ---- what a control takes off

pub twice_patterns : (cs rest : List Control) (c : Control) → cs ≡ c ∷ rest → 2 ^ length cs ≡ 2 ^ length rest + 2 ^ length rest
twice_patterns cs rest c e = ap (λ (l : List Control). 2 ^ length l) e ∙ doubled (length rest)

pub same_forks : (cs rest : List Control) (c : Control) → cs ≡ c ∷ rest → c ≡ Controlled → 2 ^ forks cs ≡ 2 ^ forks rest
same_forks cs rest c e f = ap (λ (l : List Control). 2 ^ forks l) (e ∙ ap (λ (d : Control). d ∷ rest) f)

pub twice_forks : (cs rest : List Control) (c : Control) → cs ≡ c ∷ rest → c ≡ Forked → 2 ^ forks cs ≡ 2 ^ forks rest + 2 ^ forks rest
twice_forks cs rest c e f = ap (λ (l : List Control). 2 ^ forks l) (e ∙ ap (λ (d : Control). d ∷ rest) f) ∙ doubled (forks rest)

pub with_control : (cs rest : List Control) (c d : Control) → cs ≡ c ∷ rest → c ≡ d → d ∷ rest ≡ cs
with_control cs rest c d e f = sym (e ∙ ap (λ (c : Control). c ∷ rest) f)
