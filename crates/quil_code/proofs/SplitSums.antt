-- Sums of ring elements, in two parts.
use Rattle.std.proofs.Common.{◌≡◌, sym, ◌∙◌, ap, ℕ, zero, suc, ◌+◌, arith}
use Rattle.std.specs.Prelude.{ℤ, ◌+ℤ◌}
use Rattle.std.proofs.lemmas.Int.{ints}
use borrow.Author.Differences.{same_in}
use Rattle.qvm_ring.specs.Ring.{Element, plus}
use Rattle.qvm_ring.specs.Gate.{summed}
use Rattle.qvm_ring.proofs.RingLemmas.{same_element}
use Rattle.qvm_ring.proofs.Elements.{plus_nought}

assoc : (x y z : ℤ) → (x +ℤ y) +ℤ z ≡ x +ℤ (y +ℤ z)
assoc x y z = same_in _ _ (omega (arith, ints))

pub plus_assoc : (x y z : Element) → plus (plus x y) z ≡ plus x (plus y z)
plus_assoc x y z = same_element (plus (plus x y) z) (plus x (plus y z)) (assoc x.a y.a z.a) (assoc x.b y.b z.b) (assoc x.c y.c z.c) (assoc x.d y.d z.d)

add_suc : (m n : ℕ) → m + suc n ≡ suc (m + n)
add_suc m n = omega arith

add_zero : (m : ℕ) → m + 0 ≡ m
add_zero m = omega arith

pub sum_split : (m n : ℕ) (f : ℕ → Element) → summed (m + n) f ≡ plus (summed m f) (summed n (λ k. f (m + k)))
sum_split m zero f = ap (λ (k : ℕ). summed k f) (add_zero m) ∙ sym (plus_nought (summed m f))
sum_split m (suc n) f = ap (λ (k : ℕ). summed k f) (add_suc m n) ∙ ap (λ (z : Element). plus z (f (m + n))) (sum_split m n f)
    ∙ plus_assoc (summed m f) (summed n (λ k. f (m + k))) (f (m + n))
