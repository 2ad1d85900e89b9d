-- A block diagonal gate of unitary blocks is unitary.
use Rattle.std.proofs.Common.{◌≡◌, ◌≢◌, refl, sym, ◌∙◌, ap, subst, ℕ, suc, ◌+◌, ◌*◌, ◌/◌, ◌%◌, ◌^◌, ◌<◌, ◌==◌, inl, inr, Bool, true, false, List, [], ◌∷◌, length, All, arith}
use Rattle.std.specs.Prelude.{if◌then◌else◌, Some}
use Rattle.std.proofs.Math.Nat.{mod-lt, div-lt_iff_lt-mul}
use Rattle.std.proofs.lemmas.Nat.{div-mul-add, mod-mul-add, pow-add}
use Rattle.std.proofs.Math.Pow.{split}
use Rattle.qvm_ring.specs.Ring.{Element, nought, times, conjugate, whole_number}
use Rattle.qvm_ring.specs.Gate.{Gate, summed, identity_entry, IsUnitary}
use Rattle.qvm_ring.proofs.Bits.{power_positive}
use Rattle.qvm_ring.proofs.Summed.{sum_same, sum_nought, sum_lone}
use Rattle.quil_code.specs.Controls.{daggered}
use Rattle.quil_code.specs.Matrices.{matrix_gate}
use Rattle.quil_code.specs.declared.act.Piece.{Piece}
use Rattle.quil_code.specs.Acts.{Act, act_gate, matrix_at, block_entry, IsAct, IsPiece}
use Rattle.quil_code.proofs.Collapse.{if_true, if_false, is_same, isnt_same}
use Rattle.quil_code.proofs.Modifications.{same_gate}
use Rattle.quil_code.proofs.KeptUnitary.{RowsOf, unitary_by_rows, unitary_daggered, unitary_idle, no_left, no_right, products, same_or_not}
use Rattle.quil_code.proofs.Acts.{in_blocks}

-- ---- block diagonal gates: 2^c blocks, each on t qubits

abbrev pub block_diagonal : ℕ → ℕ → ℕ → (ℕ → ℕ → ℕ → Element) → Gate
block_diagonal c t m b = record {
  arity = c + t;
  root_twos = m;
  entry = λ row column. if row / 2 ^ t == column / 2 ^ t then b (row / 2 ^ t) (row % 2 ^ t) (column % 2 ^ t) else nought;
}

abbrev pub block_of : ℕ → ℕ → (ℕ → ℕ → Element) → Gate
block_of t m e = record { arity = t; root_twos = m; entry = e }

together : (r s n : ℕ) → r / n ≡ s / n → r % n ≡ s % n → r / n * n + r % n ≡ s / n * n + s % n
together r s n e f = ap (λ (k : ℕ). k * n + r % n) e ∙ ap (λ (k : ℕ). s / n * n + k) f

-- in one block places are told apart by their remainders
same_places : (r s t : ℕ) → r / 2 ^ t ≡ s / 2 ^ t → (r % 2 ^ t == s % 2 ^ t) ≡ (r == s)
same_places r s t e = elim (same_or_not r s) [
  | inl f ↦ ap (λ (k : ℕ). r % 2 ^ t == k % 2 ^ t) (sym f) ∙ is_same (r % 2 ^ t) ∙ sym (ap (λ (k : ℕ). r == k) (sym f) ∙ is_same r)
  | inr o ↦ isnt_same (r % 2 ^ t) (s % 2 ^ t) (λ f. o (sym (split r t) ∙ together r s (2 ^ t) e f ∙ split s t)) ∙ sym (isnt_same r s o)
]

module _ (c t m : ℕ) (b : ℕ → ℕ → ℕ → Element) (u : (p : ℕ) → RowsOf (block_of t m (b p))) where
  g : Gate
  g = block_diagonal c t m b

  n : ℕ
  n = 2 ^ t

  place_of_pattern : (row : ℕ) → row < 2 ^ (c + t) → row / n < 2 ^ c
  unfolding n
  place_of_pattern row h = (div-lt_iff_lt-mul (power_positive t)).1 (subst (λ (k : ℕ). row < k) (pow-add 2 c t) h)

  entry_own : (row p k : ℕ) → k < n → row / n ≡ p → g.entry row (p * n + k) ≡ b p (row % n) k
  unfolding g n
  entry_own row p k l e =
      ap (λ (q : ℕ). if row / 2 ^ t == q then b (row / 2 ^ t) (row % 2 ^ t) ((p * 2 ^ t + k) % 2 ^ t) else nought) (div-mul-add p (2 ^ t) k l ∙ sym e)
      ∙ if_true (row / 2 ^ t == row / 2 ^ t) (b (row / 2 ^ t) (row % 2 ^ t) ((p * 2 ^ t + k) % 2 ^ t)) nought (is_same (row / 2 ^ t))
      ∙ ap (λ (q : ℕ). b q (row % 2 ^ t) ((p * 2 ^ t + k) % 2 ^ t)) e
      ∙ ap (b p (row % 2 ^ t)) (mod-mul-add p (2 ^ t) k l)

  entry_other : (row p k : ℕ) → k < n → row / n ≢ p → g.entry row (p * n + k) ≡ nought
  unfolding g n
  entry_other row p k l o =
      if_false (row / 2 ^ t == (p * 2 ^ t + k) / 2 ^ t) (b (row / 2 ^ t) (row % 2 ^ t) ((p * 2 ^ t + k) % 2 ^ t)) nought
      (isnt_same (row / 2 ^ t) ((p * 2 ^ t + k) / 2 ^ t) (λ e. o (e ∙ div-mul-add p (2 ^ t) k l)))

  part : ℕ → ℕ → ℕ → Element
  part r s k = times (g.entry r k) (conjugate (g.entry s k))

  own_sum : (r s : ℕ) → s / n ≡ r / n → summed n (λ k. part r s (r / n * n + k)) ≡ identity_entry g r s
  unfolding part g n
  own_sum r s e =
      let p = r / 2 ^ t in
      sum_same (2 ^ t) (λ k. part r s (p * 2 ^ t + k)) (λ k. times (b p (r % 2 ^ t) k) (conjugate (b p (s % 2 ^ t) k)))
      (λ k l. products (g.entry r (p * 2 ^ t + k)) (g.entry s (p * 2 ^ t + k)) (b p (r % 2 ^ t) k) (b p (s % 2 ^ t) k) (entry_own r p k l refl) (entry_own s p k l e))
      ∙ u p (r % 2 ^ t) (s % 2 ^ t) (mod-lt r (power_positive t)) (mod-lt s (power_positive t))
      ∙ ap (λ (q : Bool). if q then whole_number (2 ^ m) else nought) (same_places r s t (sym e))

  no_sum : (r s : ℕ) → s / n ≢ r / n → summed n (λ k. part r s (r / n * n + k)) ≡ identity_entry g r s
  unfolding part g n
  no_sum r s o =
      let p = r / 2 ^ t in
      sum_nought (2 ^ t) (λ k. part r s (p * 2 ^ t + k)) (λ k l. no_right (g.entry r (p * 2 ^ t + k)) (g.entry s (p * 2 ^ t + k)) (entry_other s p k l o))
      ∙ sym (if_false (r == s) (whole_number (2 ^ m)) nought (isnt_same r s (λ e. o (ap (λ (k : ℕ). k / 2 ^ t) (sym e)))))

  rows_of_blocks : RowsOf g
  unfolding part g n
  rows_of_blocks r s i j =
      let p = r / 2 ^ t in
      ap (λ (k : ℕ). summed k (part r s)) (pow-add 2 c t)
      ∙ in_blocks (2 ^ c) (2 ^ t) (part r s)
      ∙ sum_lone (2 ^ c) p (λ q. summed (2 ^ t) (λ k. part r s (q * 2 ^ t + k))) (place_of_pattern r i)
      (λ q l o. sum_nought (2 ^ t) (λ k. part r s (q * 2 ^ t + k)) (λ k h. no_left (g.entry r (q * 2 ^ t + k)) (g.entry s (q * 2 ^ t + k)) (entry_other r q k h (λ e. o (sym e)))))
      ∙ elim (same_or_not (s / 2 ^ t) p) [
        | inl e ↦ own_sum r s e
        | inr o ↦ no_sum r s o
      ]

daggered_blocks : (c t m : ℕ) (b : ℕ → ℕ → ℕ → Element) → daggered (block_diagonal c t m b) ≡ block_diagonal c t m (λ p i j. conjugate (b p j i))
daggered_blocks c t m b = same_gate (daggered (block_diagonal c t m b)) (block_diagonal c t m (λ p i j. conjugate (b p j i))) refl refl (λ r s.
    let x = r / 2 ^ t in
    let y = s / 2 ^ t in
    elim (same_or_not x y) [
      | inl e ↦ ap (λ (q : ℕ). conjugate (if q == x then b q (s % 2 ^ t) (r % 2 ^ t) else nought)) (sym e)
          ∙ ap conjugate (if_true (x == x) (b x (s % 2 ^ t) (r % 2 ^ t)) nought (is_same x))
          ∙ sym (ap (λ (q : ℕ). if x == q then conjugate (b x (s % 2 ^ t) (r % 2 ^ t)) else nought) (sym e) ∙ if_true (x == x) (conjugate (b x (s % 2 ^ t) (r % 2 ^ t))) nought (is_same x))
      | inr o ↦ ap conjugate (if_false (y == x) (b y (s % 2 ^ t) (r % 2 ^ t)) nought (isnt_same y x (λ e. o (sym e))))
          ∙ sym (if_false (x == y) (conjugate (b x (s % 2 ^ t) (r % 2 ^ t))) nought (isnt_same x y o))
    ])

unitary_blocks : (c t m : ℕ) (b : ℕ → ℕ → ℕ → Element) → ((p : ℕ) → IsUnitary (block_of t m (b p))) → IsUnitary (block_diagonal c t m b)
unfolding g
unitary_blocks c t m b u =
    unitary_by_rows (block_diagonal c t m b) (rows_of_blocks c t m b (λ p. (u p).rows))
    (subst RowsOf (sym (daggered_blocks c t m b)) (rows_of_blocks c t m (λ p i j. conjugate (b p j i)) (λ p. (unitary_daggered (block_of t m (b p)) (u p)).rows)))

-- ---- acts

piece_unitary : (a : Act) (p : Piece) → IsPiece a p → IsUnitary (block_of (length a.targets) a.root_twos ((matrix_gate p.matrix).entry))
piece_unitary a p h =
    let x = p.matrix in
    let e : ℕ → ℕ → Element = (matrix_gate x).entry in
    subst (λ (i : ℕ). IsUnitary (block_of (length a.targets) i e)) h.root_twos (subst (λ (i : ℕ). IsUnitary (block_of i x.root_twos e)) h.arity h.matrix.unitary)

pieces_unitary : (a : Act) (ps : List Piece) → All (IsPiece a) ps → (k : ℕ) → IsUnitary (block_of (length a.targets) a.root_twos (block_entry a.root_twos (matrix_at ps k)))
pieces_unitary a [] h k = unitary_idle (block_of (length a.targets) a.root_twos (λ i j. nought))
pieces_unitary a (p ∷ ps) h k =
    elim (p.pattern == k) as (λ b. IsUnitary (block_of (length a.targets) a.root_twos (block_entry a.root_twos (if b then Some p.matrix else matrix_at ps k)))) [
      | true ↦ piece_unitary a p (h 0 p (omega arith))
      | false ↦ pieces_unitary a ps (λ j d l. h (suc j) d (omega arith)) k
    ]

pub act_unitary : (a : Act) → IsAct a → IsUnitary (act_gate a)
act_unitary a h = unitary_blocks (length a.controls) (length a.targets) a.root_twos (λ p. block_entry a.root_twos (matrix_at a.pieces p)) (λ p. pieces_unitary a a.pieces h.pieces p)
