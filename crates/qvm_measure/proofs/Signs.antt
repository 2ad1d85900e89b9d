-- The sign of u + v√2 by cases, and scaled differences.
use Rattle.std.proofs.Common.{◌≡◌, refl, sym, ◌∙◌, ap, ℕ, suc, ◌+◌, ◌*◌, ◌^◌, ◌<◌, ◌≤◌, Bool, true, false, not, arith}
use Rattle.std.specs.Prelude.{ℤ, pos, negsuc, neg_ℤ, ◌-ℤ◌, ◌*ℤ◌, ◌≤ℤ◌, ◌<ℤ◌, nat_abs}
use Rattle.std.proofs.lemmas.Int.{ints, unsigned_abs-mul}
use Rattle.std.proofs.lemmas.Bool.{lt-ltb}
use Rattle.std.proofs.Math.Nat.{mul-le-mul}
use borrow.Author.Differences.{same_in}
use mir.Val.{to_z, of_z}
use mir.Syntax.{w128}
use Rattle.qvm_ring.specs.Ring.{is_positive}
use Rattle.qvm_ring.specs.Measure.{exceeds}
use Rattle.qvm_ring.proofs.Roots.{above_or_below}

-- ---- signs

pub positive_whole : (u v : ℤ) → pos 0 <ℤ u → pos 0 ≤ℤ v → true ≡ is_positive u v
positive_whole (pos u) (pos v) h k = sym (lt-ltb 0 (u + v) (omega (arith, ints)))
positive_whole (pos u) (negsuc v) h k = absurd (omega (arith, ints))
positive_whole (negsuc u) v h k = absurd (omega (arith, ints))

pub positive_above : (u v w : ℤ) → v <ℤ pos 0 → w ≡ neg_ℤ v → is_positive u (neg_ℤ w) ≡ is_positive u v
positive_above u (pos v) w h e = absurd (omega (arith, ints))
positive_above u (negsuc v) w h e = ap (λ (z : ℤ). is_positive u (neg_ℤ z)) e

pub positive_below : (u v w : ℤ) → u <ℤ pos 0 → pos 0 ≤ℤ v → w ≡ neg_ℤ u → not (is_positive w (neg_ℤ v)) ≡ is_positive u v
positive_below (pos u) v w h k e = absurd (omega (arith, ints))
positive_below (negsuc u) (pos v) w h k e = ap (λ (z : ℤ). not (is_positive z (neg_ℤ (pos v)))) e ∙ sym (above_or_below (suc u) v (omega arith))
positive_below (negsuc u) (negsuc v) w h k e = absurd (omega (arith, ints))

pub positive_none : (u v : ℤ) → u <ℤ pos 0 → v <ℤ pos 0 → false ≡ is_positive u v
positive_none (pos u) v h k = absurd (omega (arith, ints))
positive_none (negsuc u) (pos v) h k = absurd (omega (arith, ints))
positive_none (negsuc u) (negsuc v) h k = refl

-- ---- scaled differences

pub scaled_wholes : (m w : ℕ) (x y : ℤ) → pos 0 ≤ℤ x → pos 0 ≤ℤ y → pos m *ℤ x -ℤ pos w *ℤ y ≡ pos (m * nat_abs x) -ℤ pos (w * nat_abs y)
scaled_wholes m w (pos x) (pos y) h k = refl
scaled_wholes m w (pos x) (negsuc y) h k = absurd (omega (arith, ints))
scaled_wholes m w (negsuc x) y h k = absurd (omega (arith, ints))

pub multiple_size : (n : ℕ) (z r : ℤ) → nat_abs z ≤ 2 ^ 94 → r ≡ pos n *ℤ z → nat_abs r ≤ n * 2 ^ 94
multiple_size n z r h e =
    let f : nat_abs r ≡ n * nat_abs z = ap nat_abs e ∙ unsigned_abs-mul (pos n) z in
    let m : n * nat_abs z ≤ n * 2 ^ 94 = mul-le-mul (omega arith) h in omega arith

subtracted_fits : (s t : ℤ) → nat_abs s ≤ 2 ^ 126 → nat_abs t < 2 ^ 126 → to_z w128 (of_z w128 (to_z w128 (of_z w128 s) -ℤ to_z w128 (of_z w128 t))) ≡ s -ℤ t
subtracted_fits s t h k = same_in _ _ (omega (arith, ints))

-- the code's difference
pub subtracted : (s t x y : ℤ) → nat_abs s ≤ 2 ^ 126 → nat_abs t < 2 ^ 126 → s ≡ x → t ≡ y → to_z w128 (of_z w128 (to_z w128 (of_z w128 s) -ℤ to_z w128 (of_z w128 t))) ≡ x -ℤ y
subtracted s t x y h k p q = subtracted_fits s t h k ∙ ap (λ (z : ℤ). z -ℤ t) p ∙ ap (λ (z : ℤ). x -ℤ z) q

pub decided : (a b c d : ℤ) (word : ℕ) (u v : ℤ) (r : Bool) → pos 0 ≤ℤ a → pos 0 ≤ℤ c → r ≡ is_positive u v → u ≡ pos (2 ^ 32) *ℤ a -ℤ pos word *ℤ c →
    v ≡ pos (2 ^ 32) *ℤ b -ℤ pos word *ℤ d → r ≡ exceeds (record { u = nat_abs a; v = b }) (record { u = nat_abs c; v = d }) word
decided a b c d word u v r h k e p q =
    e ∙ ap (λ (z : ℤ). is_positive z v) (p ∙ scaled_wholes (2 ^ 32) word a c h k)
    ∙ ap (is_positive (pos (2 ^ 32 * nat_abs a) -ℤ pos (word * nat_abs c))) q
