-- Sums of ring elements.
use Rattle.std.proofs.Common.{◌≡◌, ◌≢◌, refl, sym, ◌∙◌, ap, ℕ, zero, suc, ◌<◌, ◌⊎◌, inl, inr, arith}
use Rattle.qvm_ring.specs.Ring.{Element, nought, plus}
use Rattle.qvm_ring.specs.Gate.{summed}
use Rattle.qvm_ring.proofs.Elements.{plus_nought, nought_plus}

pub sum_same : (n : ℕ) (f g : ℕ → Element) → ((k : ℕ) → k < n → f k ≡ g k) → summed n f ≡ summed n g
sum_same zero f g h = refl
sum_same (suc n) f g h = ap (λ (z : Element). plus z (f n)) (sum_same n f g (λ k l. h k (omega arith))) ∙ ap (plus (summed n g)) (h n (omega arith))

pub sum_nought : (n : ℕ) (f : ℕ → Element) → ((k : ℕ) → k < n → f k ≡ nought) → summed n f ≡ nought
sum_nought zero f h = refl
sum_nought (suc n) f h = ap (λ (z : Element). plus z (f n)) (sum_nought n f (λ k l. h k (omega arith))) ∙ ap (plus nought) (h n (omega arith))

at_or_below : (i n : ℕ) → i < suc n → (i ≡ n) ⊎ (i < n)
at_or_below i n h = grind arith

-- a sum with one part that isn't 0
pub sum_lone : (n i : ℕ) (f : ℕ → Element) → i < n → ((k : ℕ) → k < n → k ≢ i → f k ≡ nought) → summed n f ≡ f i
sum_lone zero i f h o = absurd (omega arith)
sum_lone (suc n) i f h o = elim (at_or_below i n h) [
  | inl e ↦ ap (λ (z : Element). plus z (f n)) (sum_nought n f (λ k l. o k (omega arith) (λ p. omega (arith, p, e, l)))) ∙ nought_plus (f n) ∙ ap f (sym e)
  | inr l ↦ ap (λ (z : Element). plus z (f n)) (sum_lone n i f l (λ k j p. o k (omega arith) p)) ∙ ap (plus (f i)) (o n (omega arith) (λ p. omega (arith, p, l))) ∙ plus_nought (f i)
]
