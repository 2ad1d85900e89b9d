-- A number times its cofactor is a whole number, which is 0 only for 0.
use Rattle.std.proofs.Common.{◌≡◌, refl, sym, ◌∙◌, ap, ℕ, ◌*◌, ◌<◌, ◌≤◌, true, false, arith}
use Rattle.std.specs.Prelude.{ℤ, pos, ◌-ℤ◌, ◌*ℤ◌, neg_ℤ, nat_abs, nat_lt}
use Rattle.std.proofs.lemmas.Int.{ints}
use Rattle.std.proofs.lemmas.Bool.{ltb-true, ltb-false}
use Rattle.std.proofs.Math.IntN.{neg_ℤ-neg_ℤ}
use borrow.Author.Differences.{same_in}
use Rattle.qvm_ring.specs.Ring.{Element, whole_number, times, conjugate, square, norm_whole, norm_root, is_zero}
use Rattle.qvm_ring.proofs.RingLemmas.{same_element, product_neg, neg_product, square_product, times_conjugate}
use Rattle.qvm_ring.proofs.Associative.{times_assoc}
use Rattle.qvm_ring.proofs.Norms.{twice_root_squared}
use Rattle.qvm_ring.proofs.Reductions.{is_zero_weightless}
use Rattle.qvm_ring.proofs.Roots.{no_root_of_two}
use Rattle.quil_value.specs.Exact.{cofactor, whole_norm}

-- u + v√2
abbrev real : ℤ → ℤ → Element
real u v = record { a = u; b = v; c = pos 0; d = neg_ℤ v }

abbrev opposite : ℤ → ℤ → Element
opposite u v = record { a = u; b = neg_ℤ v; c = pos 0; d = v }

not_negative : (n m : ℕ) → m ≤ n → pos n -ℤ pos m ≡ pos (nat_abs (pos n -ℤ pos m))
not_negative n m h = omega (arith, ints)

difference : (p q : ℤ) (n s : ℕ) → p ≡ pos n → q ≡ pos s → p -ℤ q -ℤ pos 0 *ℤ pos 0 -ℤ q ≡ pos n -ℤ pos (2 * s)
difference p q n s e f = same_in _ _ (omega (arith, ints, e, f))

real_a : (u : ℕ) (v : ℤ) → (times (real (pos u) v) (opposite (pos u) v)).a ≡ pos (u * u) -ℤ pos (2 * square v)
real_a u v = simp (product_neg, neg_product, neg_ℤ-neg_ℤ) (difference (pos u *ℤ pos u) (v *ℤ v) (u * u) (square v) refl (square_product v))

real_b : (u v : ℤ) → (times (real u v) (opposite u v)).b ≡ pos 0
real_b u v = simp (product_neg, neg_product, neg_ℤ-neg_ℤ) (same_in _ _ (omega (arith, ints)))

real_c : (u v : ℤ) → (times (real u v) (opposite u v)).c ≡ pos 0
real_c u v = simp (product_neg, neg_product, neg_ℤ-neg_ℤ) (same_in _ _ (omega (arith, ints)))

real_d : (u v : ℤ) → (times (real u v) (opposite u v)).d ≡ pos 0
real_d u v = simp (product_neg, neg_product, neg_ℤ-neg_ℤ) (same_in _ _ (omega (arith, ints)))

pub times_cofactor : (y : Element) → times y (cofactor y) ≡ whole_number (whole_norm y)
times_cofactor y =
    let u = norm_whole y in
    let v = norm_root y in
    sym (times_assoc y (conjugate y) (opposite (pos u) v))
    ∙ ap (λ (t : Element). times t (opposite (pos u) v)) (times_conjugate y)
    ∙ same_element (times (real (pos u) v) (opposite (pos u) v)) (whole_number (whole_norm y))
    (real_a u v ∙ not_negative (u * u) (2 * square v) (twice_root_squared y))
    (real_b (pos u) v) (real_c (pos u) v) (real_d (pos u) v)

zero_difference : (n m : ℕ) → m ≤ n → nat_abs (pos n -ℤ pos m) ≡ 0 → n ≡ m
zero_difference n m h e = omega (arith, ints)

pub whole_norm_positive : (y : Element) → is_zero y ≡ false → 0 < whole_norm y
whole_norm_positive y h = elim (nat_lt 0 (whole_norm y)) as (λ t. nat_lt 0 (whole_norm y) ≡ t → 0 < whole_norm y) [
  | true ↦ λ e. ltb-true 0 (whole_norm y) e
  | false ↦ λ e.
      let l : whole_norm y ≤ 0 = ltb-false 0 (whole_norm y) e in
      let n : whole_norm y ≡ 0 = omega (arith, l) in
      let same : norm_whole y * norm_whole y ≡ 2 * square (norm_root y) = zero_difference (norm_whole y * norm_whole y) (2 * square (norm_root y)) (twice_root_squared y) n in
      let z : norm_whole y ≡ 0 = no_root_of_two (norm_whole y) (nat_abs (norm_root y)) same in
      let w : is_zero y ≡ true = is_zero_weightless y z in
      absurd (let k : false ≡ true = sym h ∙ w in cc)
] refl
