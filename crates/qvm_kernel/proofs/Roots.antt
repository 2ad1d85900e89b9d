-- Powers of √2: whole numbers at even places, and √2 times these at odd ones.
use Rattle.std.proofs.Common.{◌≡◌, refl, ◌∙◌, ap, ℕ, zero, suc, ◌+◌, ◌*◌, ◌/◌, ◌%◌, ◌^◌, ◌≤◌, arith}
use Rattle.std.specs.Prelude.{ℤ, pos, neg_ℤ, ◌-ℤ◌}
use Rattle.std.proofs.Math.Nat.{pow-le-pow_right}
use Rattle.std.proofs.lemmas.Int.{ints, to_z-of_z}
use Rattle.std.proofs.Common.{to_z, of_z, w64}
use borrow.Author.Differences.{same_in}
use Rattle.qvm_ring.specs.Ring.{Element, root_two, whole_number, times}
use Rattle.qvm_ring.specs.Multiply.{IsWithin}
use Rattle.qvm_ring.proofs.RingLemmas.{same_element}
use Rattle.quil_code.specs.Controls.{root_two_to}

-- n times √2
abbrev pub root_two_times : ℕ → Element
root_two_times n = record { a = pos 0; b = pos n; c = pos 0; d = neg_ℤ (pos n) }

one_root : (n : ℕ) → times root_two (whole_number n) ≡ root_two_times n
one_root n = same_element _ _ (same_in _ _ (omega (arith, ints))) (same_in _ _ (omega (arith, ints))) (same_in _ _ (omega (arith, ints))) (same_in _ _ (omega (arith, ints)))

two_roots : (n : ℕ) → times root_two (root_two_times n) ≡ whole_number (2 * n)
two_roots n = same_element _ _ (same_in _ _ (omega (arith, ints))) (same_in _ _ (omega (arith, ints))) (same_in _ _ (omega (arith, ints))) (same_in _ _ (omega (arith, ints)))

doubled : (k : ℕ) → 2 * 2 ^ k ≡ 2 ^ suc k
doubled k = omega arith

two_more : (k : ℕ) → suc k + suc k ≡ suc (suc (k + k))
two_more k = omega arith

even_power : (k : ℕ) → root_two_to (k + k) ≡ whole_number (2 ^ k)
even_power zero = refl
even_power (suc k) =
    ap root_two_to (two_more k)
    ∙ ap (λ (z : Element). times root_two (times root_two z)) (even_power k)
    ∙ ap (times root_two) (one_root (2 ^ k))
    ∙ two_roots (2 ^ k)
    ∙ ap whole_number (doubled k)

odd_power : (k : ℕ) → root_two_to (suc (k + k)) ≡ root_two_times (2 ^ k)
odd_power k = ap (times root_two) (even_power k) ∙ one_root (2 ^ k)

pub even_root : (m : ℕ) → m % 2 ≡ 0 → root_two_to m ≡ whole_number (2 ^ (m / 2))
even_root m h = ap root_two_to (let e : m ≡ m / 2 + m / 2 = omega (arith, h) in e) ∙ even_power (m / 2)

pub odd_root : (m : ℕ) → m % 2 ≡ 1 → root_two_to m ≡ root_two_times (2 ^ (m / 2))
odd_root m h = ap root_two_to (let e : m ≡ suc (m / 2 + m / 2) = omega (arith, h) in e) ∙ odd_power (m / 2)

-- ---- how large they are

pub small_power : (m : ℕ) → m ≤ 40 → 2 ^ (m / 2) ≤ 2 ^ 20
small_power m h = let e : m / 2 ≤ 20 = omega (arith, h) in pow-le-pow_right {n = 2} (omega arith) e

pub whole_within : (n : ℕ) → n ≤ 2 ^ 20 → IsWithin (2 ^ 20) (whole_number n)
whole_within n h = record { a = omega (arith, h); b = omega arith; c = omega arith; d = omega arith }

pub root_within : (n : ℕ) → n ≤ 2 ^ 20 → IsWithin (2 ^ 20) (root_two_times n)
root_within n h = record { a = omega arith; b = omega (arith, h); c = omega arith; d = omega (arith, ints, h) }

-- ---- as they are stored

stored : (n : ℕ) → n ≤ 2 ^ 20 → to_z w64 (of_z w64 (pos n)) ≡ pos n
stored n h = to_z-of_z w64 (pos n) (omega (arith, h))

stored_negated : (n : ℕ) → n ≤ 2 ^ 20 → to_z w64 (of_z w64 (pos 0 -ℤ pos n)) ≡ neg_ℤ (pos n)
stored_negated n h = let e : pos 0 -ℤ pos n ≡ neg_ℤ (pos n) = omega (arith, ints) in ap (λ (z : ℤ). to_z w64 (of_z w64 z)) e ∙ to_z-of_z w64 (neg_ℤ (pos n)) (omega (arith, ints, h))

module _ (m : ℕ) (p : ℤ) (few : m ≤ 40) (power : p ≡ pos (2 ^ (m / 2))) where
  is_stored : to_z w64 (of_z w64 p) ≡ pos (2 ^ (m / 2))
  is_stored = ap (λ (z : ℤ). to_z w64 (of_z w64 z)) power ∙ stored (2 ^ (m / 2)) (small_power m few)

  is_negated : to_z w64 (of_z w64 (pos 0 -ℤ to_z w64 (of_z w64 p))) ≡ neg_ℤ (pos (2 ^ (m / 2)))
  is_negated = ap (λ (z : ℤ). to_z w64 (of_z w64 (pos 0 -ℤ z))) is_stored ∙ stored_negated (2 ^ (m / 2)) (small_power m few)

  pub whole_stored : record { a = to_z w64 (of_z w64 p); b = pos 0; c = pos 0; d = pos 0 } ≡ whole_number (2 ^ (m / 2))
  whole_stored = ap (λ (z : ℤ). record { a = z; b = pos 0; c = pos 0; d = pos 0 }) is_stored

  pub root_stored : record { a = pos 0; b = to_z w64 (of_z w64 p); c = pos 0; d = to_z w64 (of_z w64 (pos 0 -ℤ to_z w64 (of_z w64 p))) } ≡ root_two_times (2 ^ (m / 2))
  root_stored = same_element _ _ refl is_stored refl is_negated
