-- The sums over the rows and columns of a square, and the test of all of them.
use Rattle.std.proofs.Common.{◌≡◌, sym, ◌∙◌, ap, subst, ℕ, zero, suc, ◌+◌, ◌*◌, ◌^◌, ◌<◌, ◌≤◌, ◌⊎◌, inl, inr, arith}
use Rattle.qvm_ring.specs.Ring.{Element, plus, times, conjugate}
use Rattle.qvm_ring.specs.Gate.{Gate, summed, IsUnitary}
use Rattle.qvm_ring.specs.Multiply.{IsWithin}
use Rattle.qvm_ring.proofs.Products.{summed_more}
use Rattle.qvm_ring.proofs.ProductBounds.{plus_within, within_more}
use Rattle.quil_code.specs.Squares.{AreProducts, AreRowProducts}

abbrev pub row_part : Gate → ℕ → ℕ → ℕ → Element
row_part g row column k = times (g.entry row k) (conjugate (g.entry column k))

abbrev pub column_part : Gate → ℕ → ℕ → ℕ → Element
column_part g row column k = times (conjugate (g.entry k row)) (g.entry k column)

-- one more part, and its bound
pub part_more : (f : ℕ → Element) (k : ℕ) (s t u : Element) → u ≡ plus s t → s ≡ summed k f → t ≡ f k → u ≡ summed (k + 1) f
part_more f k s t u e h l = e ∙ ap (λ (z : Element). plus z t) h ∙ ap (plus (summed k f)) l ∙ sym (summed_more k f)

pub bound_more : (k : ℕ) (s t u : Element) → u ≡ plus s t → IsWithin (k * 2 ^ 44) s → IsWithin (2 ^ 44) t → IsWithin ((k + 1) * 2 ^ 44) u
bound_more k s t u e h l = subst (λ (z : Element). IsWithin ((k + 1) * 2 ^ 44) z) (sym e)
    (within_more (k * 2 ^ 44 + 2 ^ 44) ((k + 1) * 2 ^ 44) (plus s t) (omega arith) (plus_within (k * 2 ^ 44) (2 ^ 44) s t h l))

eight_at_most : (n : ℕ) → n ≤ 3 → 2 ^ n ≤ 8
eight_at_most zero h = omega arith
eight_at_most (suc zero) h = omega arith
eight_at_most (suc (suc zero)) h = omega arith
eight_at_most (suc (suc (suc zero))) h = omega arith
eight_at_most (suc (suc (suc (suc n)))) h = absurd (omega arith)

pub room_for_more : (k n size : ℕ) (s : Element) → n ≤ 3 → size ≡ 2 ^ n → k < size → IsWithin (k * 2 ^ 44) s → IsWithin (2 ^ 60) s
room_for_more k n size s few e l h = within_more (k * 2 ^ 44) (2 ^ 60) s (omega (arith, eight_at_most n few, e, l)) h

pub part_last : (f : ℕ → Element) (k n size : ℕ) (s : Element) → size ≡ 2 ^ n → size ≤ k → k ≤ size → s ≡ summed k f → s ≡ summed (2 ^ n) f
part_last f k n size s e h l d = d ∙ ap (λ (j : ℕ). summed j f) (let q : k ≡ size = omega (arith, h, l) in q ∙ e)

-- ---- all rows and columns

before_or_at : (i p : ℕ) → i < p + 1 → (i < p) ⊎ (i ≡ p)
before_or_at i p h = grind arith

pub one_more_column : (g : Gate) (row p : ℕ) → ((k : ℕ) → k < p → AreProducts g row k) → AreProducts g row p → (k : ℕ) → k < p + 1 → AreProducts g row k
one_more_column g row p h a k l = elim (before_or_at k p l) [
  | inl b ↦ h k b
  | inr e ↦ subst (λ (c : ℕ). AreProducts g row c) (sym e) a
]

pub one_more_row : (g : Gate) (p : ℕ) → ((k : ℕ) → k < p → AreRowProducts g k) → AreRowProducts g p → (k : ℕ) → k < p + 1 → AreRowProducts g k
one_more_row g p h a k l = elim (before_or_at k p l) [
  | inl b ↦ h k b
  | inr e ↦ subst (λ (r : ℕ). AreRowProducts g r) (sym e) a
]

pub unitary_by_products : (g : Gate) → ((k : ℕ) → k < 2 ^ g.arity → AreRowProducts g k) → IsUnitary g
unitary_by_products g h = record {
  rows = λ r c i j. ((h r i).all c j).rows;
  columns = λ r c i j. ((h r i).all c j).columns;
}
