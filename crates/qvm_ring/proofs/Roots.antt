-- √2 is no fraction, and what follows for the sign of u + v√2.
use Rattle.std.proofs.Common.{◌≡◌, ◌≢◌, refl, sym, ◌∙◌, ap, ℕ, zero, suc, ◌+◌, ◌-◌, ◌*◌, ◌<◌, ◌≤◌, inl, inr, not, arith}
use Rattle.std.specs.Prelude.{pos, neg_ℤ, nat_lt}
use Rattle.std.proofs.lemmas.Bool.{lt-ltb, le-ltb}
use Rattle.std.proofs.Math.Nat.{mul-le-mul}
use Rattle.qvm_ring.specs.Ring.{is_positive}
use Rattle.qvm_ring.proofs.FiniteMaps.{order_of}

-- ---- no square is twice a square

root_zero : (x : ℕ) → x * x ≡ 0 → x ≡ 0
root_zero zero h = refl
root_zero (suc x) h = absurd (omega arith)

-- a smaller pair: with x = 2o + p and y = o + p, x² + p² = 2y² + 2o²
smaller_pair : (o p : ℕ) → (o + (o + p)) * (o + (o + p)) ≡ 2 * ((o + p) * (o + p)) → p * p ≡ 2 * (o * o)
smaller_pair o p h = omega arith

root_above : (x y : ℕ) → 0 < x → x * x ≡ 2 * (y * y) → y < x
root_above x y h e = elim (order_of y x) [
  | inl l ↦ l
  | inr r ↦
      let m : x * x ≤ y * y = mul-le-mul (omega (arith, r)) (omega (arith, r)) in
      let z : x ≡ 0 = root_zero x (omega arith) in
      absurd (omega arith)
]

root_below : (x y : ℕ) → 0 < x → x * x ≡ 2 * (y * y) → x < y + y
root_below x y h e = elim (order_of x (y + y)) [
  | inl l ↦ l
  | inr r ↦
      let m : (y + y) * (y + y) ≤ x * x = mul-le-mul (omega (arith, r)) (omega (arith, r)) in
      let z : x ≡ 0 = root_zero x (omega arith) in
      absurd (omega arith)
]

-- by descent: the smaller pair of a pair that isn't 0 would be 0
no_root_within : (n x y : ℕ) → x ≤ n → x * x ≡ 2 * (y * y) → x ≡ 0
no_root_within zero x y h e = omega arith
no_root_within (suc n) zero y h e = refl
no_root_within (suc n) (suc x) y h e =
    let above : y < suc x = root_above (suc x) y (omega arith) e in
    let below : suc x < y + y = root_below (suc x) y (omega arith) e in
    let left : suc x ≡ (suc x - y) + ((suc x - y) + (y - (suc x - y))) = omega arith in
    let right : y ≡ (suc x - y) + (y - (suc x - y)) = omega arith in
    let f : (y - (suc x - y)) * (y - (suc x - y)) ≡ 2 * ((suc x - y) * (suc x - y)) =
    smaller_pair (suc x - y) (y - (suc x - y))
    (sym (ap (λ (k : ℕ). k * k) left) ∙ e ∙ ap (λ (k : ℕ). 2 * (k * k)) right) in
    let z : y - (suc x - y) ≡ 0 = no_root_within n (y - (suc x - y)) (suc x - y) (omega arith) f in
    absurd (omega arith)

pub no_root_of_two : (x y : ℕ) → x * x ≡ 2 * (y * y) → x ≡ 0
no_root_of_two x y e = no_root_within x x y (omega arith) e

-- ---- opposite signs

below_and_not_above : (a b : ℕ) → a ≢ b → nat_lt a b ≡ not (nat_lt b a)
below_and_not_above a b h = elim (order_of a b) [
  | inl l ↦ lt-ltb a b l ∙ sym (ap not (le-ltb b a (omega arith)))
  | inr (inl e) ↦ absurd (h e)
  | inr (inr l) ↦ le-ltb a b (omega arith) ∙ sym (ap not (lt-ltb b a l))
]

-- for x and y that aren't negative, and not both 0, just one of x > y√2 and y√2 > x holds
pub above_or_below : (x y : ℕ) → 0 < x + y → is_positive (neg_ℤ (pos x)) (pos y) ≡ not (is_positive (pos x) (neg_ℤ (pos y)))
above_or_below zero zero h = absurd (omega arith)
above_or_below zero (suc y) h = lt-ltb 0 (0 + suc y) (omega arith) ∙ sym (ap not (le-ltb (2 * (suc y * suc y)) (0 * 0) (omega arith)))
above_or_below (suc x) zero h = le-ltb (suc x * suc x) (2 * (0 * 0)) (omega arith) ∙ sym (ap not (lt-ltb 0 (suc x + 0) (omega arith)))
above_or_below (suc x) (suc y) h = below_and_not_above (suc x * suc x) (2 * (suc y * suc y)) (λ e. let z : suc x ≡ 0 = no_root_of_two (suc x) (suc y) e in omega arith)
