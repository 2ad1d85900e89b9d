-- The product of the ring is associative and distributes over sums.
use Rattle.std.proofs.Common.{◌≡◌, refl, sym, ◌∙◌, ap, ℕ, zero, suc, arith}
use Rattle.std.specs.Prelude.{ℤ, pos, negsuc, ◌+ℤ◌, ◌*ℤ◌, neg_ℤ}
use Rattle.std.proofs.Math.Nat.{mul_assoc}
use Rattle.std.proofs.lemmas.Int.{ints}
use borrow.Author.Differences.{same_in}
use Rattle.qvm_ring.specs.Ring.{Element, nought, plus, times}
use Rattle.qvm_ring.specs.Gate.{summed}
use Rattle.qvm_ring.proofs.Elements.{times_nought}
use Rattle.qvm_ring.proofs.RingLemmas.{product_neg, neg_product, product_sum, sum_product, same_element}

assoc_all : (a b c : ℕ) → (pos a *ℤ pos b) *ℤ pos c ≡ pos a *ℤ (pos b *ℤ pos c)
assoc_all a b c = ap pos (mul_assoc a b c)

assoc_two : (a b : ℕ) (z : ℤ) → (pos a *ℤ pos b) *ℤ z ≡ pos a *ℤ (pos b *ℤ z)
assoc_two a b (pos c) = assoc_all a b c
assoc_two a b (negsuc c) = product_neg (pos a *ℤ pos b) (pos (suc c)) ∙ ap neg_ℤ (assoc_all a b (suc c)) ∙ sym (product_neg (pos a) (pos b *ℤ pos (suc c))) ∙ ap (λ (t : ℤ). pos a *ℤ t) (sym (product_neg (pos b) (pos (suc c))))

assoc_one : (a : ℕ) (y z : ℤ) → (pos a *ℤ y) *ℤ z ≡ pos a *ℤ (y *ℤ z)
assoc_one a (pos b) z = assoc_two a b z
assoc_one a (negsuc b) z = ap (λ (t : ℤ). t *ℤ z) (product_neg (pos a) (pos (suc b))) ∙ neg_product (pos a *ℤ pos (suc b)) z ∙ ap neg_ℤ (assoc_two a (suc b) z)
    ∙ sym (product_neg (pos a) (pos (suc b) *ℤ z)) ∙ ap (λ (t : ℤ). pos a *ℤ t) (sym (neg_product (pos (suc b)) z))

pub int_assoc : (x y z : ℤ) → (x *ℤ y) *ℤ z ≡ x *ℤ (y *ℤ z)
int_assoc (pos a) y z = assoc_one a y z
int_assoc (negsuc a) y z = ap (λ (t : ℤ). t *ℤ z) (neg_product (pos (suc a)) y) ∙ neg_product (pos (suc a) *ℤ y) z ∙ ap neg_ℤ (assoc_one (suc a) y z) ∙ sym (neg_product (pos (suc a)) (y *ℤ z))

-- n y, and ω y
abbrev scaled : ℤ → Element → Element
scaled n y = record { a = n *ℤ y.a; b = n *ℤ y.b; c = n *ℤ y.c; d = n *ℤ y.d }

abbrev turned : Element → Element
turned y = record { a = neg_ℤ y.d; b = y.a; c = y.b; d = y.c }

abbrev four : Element → Element → Element → Element → Element
four p q r s = plus p (plus q (plus r s))

abbrev spread : Element → Element → Element
spread x y = four (scaled x.a y) (scaled x.b (turned y)) (scaled x.c (turned (turned y))) (scaled x.d (turned (turned (turned y))))

times_is : (x y : Element) → times x y ≡ spread x y
times_is x y = same_element (times x y) (spread x y)
    (simp product_neg (same_in _ _ (omega (arith, ints)))) (simp product_neg (same_in _ _ (omega (arith, ints))))
    (simp product_neg (same_in _ _ (omega (arith, ints)))) (same_in _ _ (omega (arith, ints)))

times_scaled : (n : ℤ) (y z : Element) → times (scaled n y) z ≡ scaled n (times y z)
times_scaled n y z = same_element (times (scaled n y) z) (scaled n (times y z))
    (simp (product_sum, product_neg, int_assoc) refl) (simp (product_sum, product_neg, int_assoc) refl)
    (simp (product_sum, product_neg, int_assoc) refl) (simp (product_sum, int_assoc) refl)

times_turned : (y z : Element) → times (turned y) z ≡ turned (times y z)
times_turned y z = same_element (times (turned y) z) (turned (times y z))
    (simp neg_product (same_in _ _ (omega (arith, ints)))) (simp neg_product (same_in _ _ (omega (arith, ints))))
    (simp neg_product (same_in _ _ (omega (arith, ints)))) (simp neg_product (same_in _ _ (omega (arith, ints))))

pub times_sum : (x y z : Element) → times (plus x y) z ≡ plus (times x z) (times y z)
times_sum x y z = same_element (times (plus x y) z) (plus (times x z) (times y z))
    (simp sum_product (same_in _ _ (omega (arith, ints)))) (simp sum_product (same_in _ _ (omega (arith, ints))))
    (simp sum_product (same_in _ _ (omega (arith, ints)))) (simp sum_product (same_in _ _ (omega (arith, ints))))

pub times_plus : (x y z : Element) → times x (plus y z) ≡ plus (times x y) (times x z)
times_plus x y z = same_element (times x (plus y z)) (plus (times x y) (times x z))
    (simp product_sum (same_in _ _ (omega (arith, ints)))) (simp product_sum (same_in _ _ (omega (arith, ints))))
    (simp product_sum (same_in _ _ (omega (arith, ints)))) (simp product_sum (same_in _ _ (omega (arith, ints))))

times_four : (p q r s z : Element) → times (four p q r s) z ≡ four (times p z) (times q z) (times r z) (times s z)
times_four p q r s z = times_sum p (plus q (plus r s)) z ∙ ap (plus (times p z)) (times_sum q (plus r s) z ∙ ap (plus (times q z)) (times_sum r s z))

four_same : (p q r s p' q' r' s' : Element) → p ≡ p' → q ≡ q' → r ≡ r' → s ≡ s' → four p q r s ≡ four p' q' r' s'
four_same p q r s p' q' r' s' e f g h i = four (e i) (f i) (g i) (h i)

turned_twice : (y z : Element) → times (turned (turned y)) z ≡ turned (turned (times y z))
turned_twice y z = times_turned (turned y) z ∙ ap (λ (t : Element). turned t) (times_turned y z)

turned_thrice : (y z : Element) → times (turned (turned (turned y))) z ≡ turned (turned (turned (times y z)))
turned_thrice y z = times_turned (turned (turned y)) z ∙ ap (λ (t : Element). turned t) (turned_twice y z)

pub times_assoc : (x y z : Element) → times (times x y) z ≡ times x (times y z)
times_assoc x y z =
    ap (λ (t : Element). times t z) (times_is x y)
    ∙ times_four (scaled x.a y) (scaled x.b (turned y)) (scaled x.c (turned (turned y))) (scaled x.d (turned (turned (turned y)))) z
    ∙ four_same _ _ _ _ _ _ _ _ (times_scaled x.a y z)
    (times_scaled x.b (turned y) z ∙ ap (λ (t : Element). scaled x.b t) (times_turned y z))
    (times_scaled x.c (turned (turned y)) z ∙ ap (λ (t : Element). scaled x.c t) (turned_twice y z))
    (times_scaled x.d (turned (turned (turned y))) z ∙ ap (λ (t : Element). scaled x.d t) (turned_thrice y z))
    ∙ sym (times_is x (times y z))

-- ---- sums

pub times_zero : (x : Element) → times x nought ≡ nought
times_zero x = same_element (times x nought) nought (same_in _ _ (omega (arith, ints))) (same_in _ _ (omega (arith, ints))) (same_in _ _ (omega (arith, ints))) (same_in _ _ (omega (arith, ints)))

pub times_summed : (n : ℕ) (z : Element) (f : ℕ → Element) → times z (summed n f) ≡ summed n (λ k. times z (f k))
times_summed zero z f = times_zero z
times_summed (suc n) z f = times_plus z (summed n f) (f n) ∙ ap (λ (t : Element). plus t (times z (f n))) (times_summed n z f)

pub summed_times : (n : ℕ) (z : Element) (f : ℕ → Element) → times (summed n f) z ≡ summed n (λ k. times (f k) z)
summed_times zero z f = times_nought z
summed_times (suc n) z f = times_sum (summed n f) (f n) z ∙ ap (λ (t : Element). plus t (times (f n) z)) (summed_times n z f)

crossed : (a b c d : ℤ) → (a +ℤ b) +ℤ (c +ℤ d) ≡ (a +ℤ c) +ℤ (b +ℤ d)
crossed a b c d = same_in _ _ (omega (arith, ints))

plus_crossed : (x y z w : Element) → plus (plus x y) (plus z w) ≡ plus (plus x z) (plus y w)
plus_crossed x y z w = same_element (plus (plus x y) (plus z w)) (plus (plus x z) (plus y w)) (crossed x.a y.a z.a w.a) (crossed x.b y.b z.b w.b) (crossed x.c y.c z.c w.c) (crossed x.d y.d z.d w.d)

pub summed_plus : (n : ℕ) (f g : ℕ → Element) → plus (summed n f) (summed n g) ≡ summed n (λ k. plus (f k) (g k))
summed_plus zero f g = refl
summed_plus (suc n) f g = plus_crossed (summed n f) (f n) (summed n g) (g n) ∙ ap (λ (t : Element). plus t (plus (f n) (g n))) (summed_plus n f g)

summed_noughts : (n : ℕ) → summed n (λ k. nought) ≡ nought
summed_noughts zero = refl
summed_noughts (suc n) = ap (λ (t : Element). plus t nought) (summed_noughts n)

pub summed_swap : (m n : ℕ) (f : ℕ → ℕ → Element) → summed m (λ r. summed n (f r)) ≡ summed n (λ k. summed m (λ r. f r k))
summed_swap zero n f = sym (summed_noughts n)
summed_swap (suc m) n f = ap (λ (t : Element). plus t (summed n (f m))) (summed_swap m n f) ∙ summed_plus n (λ k. summed m (λ r. f r k)) (f m)
