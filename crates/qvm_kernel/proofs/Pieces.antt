-- The matrix of an act at a basis state, and the amplitude that it gives.
use Rattle.std.proofs.Common.{rules, ◌≡◌, ◌≢◌, sym, ◌∙◌, ap, subst, ℕ, suc, ◌^◌, ◌<◌, ◌≤◌, ◌==◌, true, false, List, [], ◌∷◌, ◌++◌, length, All, arith, length-append}
use Rattle.std.specs.Prelude.{Option, Some, None, if◌then◌else◌}
use Rattle.std.proofs.Math.Nat.{pow-le-pow_right}
use Rattle.qvm_ring.specs.Ring.{Element}
use Rattle.qvm_ring.specs.Ray.{Ray, ray_of, State, IsState}
use Rattle.qvm_ring.specs.Gate.{local_state, product_at}
use Rattle.qvm_ring.specs.Multiply.{IsWithin}
use Rattle.qvm_ring.specs.Views.{IsBelow}
use Rattle.qvm_ring.proofs.KeptRays.{product_some}
use Rattle.quil_code.specs.declared.act.Piece.{Piece}
use Rattle.quil_code.specs.Matrices.{Matrix}
use Rattle.quil_code.specs.Acts.{Act, IsAct, IsPiece, qubits_of, act_gate, matrix_at, piece_product}
use Rattle.quil_code.proofs.Acts.{product_of_act}
use Rattle.quil_code.proofs.UnitaryActs.{act_unitary}

-- ---- the parts of an act

no_matrix : (m : Matrix) → Some m ≡ None → ⊥
no_matrix m e = search rules

pieces_fit : (a : Act) (ps : List Piece) (pattern : ℕ) (m : Matrix) → All (IsPiece a) ps → Some m ≡ matrix_at ps pattern → m.arity ≡ length a.targets
pieces_fit a [] pattern m h e = absurd (no_matrix m e)
pieces_fit a (p ∷ ps) pattern m h e =
    elim (p.pattern == pattern) as (λ b. Some m ≡ (if b then Some p.matrix else matrix_at ps pattern) → m.arity ≡ length a.targets) [
      | true ↦ λ e. let f : m ≡ p.matrix = search rules in ap (λ (n : Matrix). n.arity) f ∙ (h 0 p (omega arith)).arity
      | false ↦ λ e. pieces_fit a ps pattern m (λ j d l. h (suc j) d (omega arith)) e
    ] e

pub matrix_fits : (a : Act) (pattern : ℕ) (m : Matrix) → IsAct a → Some m ≡ matrix_at a.pieces pattern → m.arity ≡ length a.targets
matrix_fits a pattern m h e = pieces_fit a a.pieces pattern m h.pieces e

last_part : (P : ℕ → Type 0) (xs ys : List ℕ) → All P (xs ++ ys) → All P ys
last_part P [] ys h = h
last_part P (x ∷ xs) ys h = last_part P xs ys (λ k d l. h (suc k) d (omega arith))

pub targets_below : (n : ℕ) (a : Act) (targets : List ℕ) → targets ≡ a.targets → All (λ q. q < n) (qubits_of a) → All (λ q. q < n) targets
targets_below n a targets e h = subst (λ (qs : List ℕ). All (λ q. q < n) qs) (sym e) (last_part (λ q. q < n) a.controls a.targets h)

pub pattern_fits : (a : Act) (controls : List ℕ) (pattern : ℕ) → IsAct a → controls ≡ a.controls → pattern < 2 ^ length controls → pattern < 2 ^ 32
pattern_fits a controls pattern h e l =
    let few : length controls ≤ 16 = omega (arith, ap length e, h.few, length-append a.controls a.targets) in
    let m : 2 ^ length controls ≤ 2 ^ 16 = pow-le-pow_right {n = 2} (omega arith) few in
    omega (arith, l, m)

-- ---- the amplitude

pub of_piece : (a : Act) (ray : Ray) (x pattern : ℕ) (controls : List ℕ) (o : Option Matrix) (z : Element) → IsAct a → controls ≡ a.controls → pattern ≡ local_state controls x →
    o ≡ matrix_at a.pieces pattern → z ≡ piece_product a.root_twos o a.targets ray x → z ≡ product_at (act_gate a) (qubits_of a) ray x
of_piece a ray x pattern controls o z h c p e f =
    f ∙ ap (λ (m : Option Matrix). piece_product a.root_twos m a.targets ray x) (e ∙ ap (matrix_at a.pieces) (p ∙ ap (λ (qs : List ℕ). local_state qs x) c))
    ∙ sym (product_of_act a ray x h.different)

pub below_125 : (z : Element) → IsWithin (2 ^ 71) z → IsBelow (2 ^ 125) z
below_125 z w = record { a = omega (arith, w.a); b = omega (arith, w.b); c = omega (arith, w.c); d = omega (arith, w.d) }

-- ---- it isn't empty

pub act_some : (s : State) (a : Act) → IsState s → IsAct a → All (λ q. q < s.qubits) (qubits_of a) → ray_of (2 ^ s.qubits) (product_at (act_gate a) (qubits_of a) s.amplitudes) ≢ []
act_some s a h k below = product_some s.qubits (act_gate a) (qubits_of a) s.amplitudes (act_unitary a k) (sym (length-append a.controls a.targets)) k.different below h.map h.some
