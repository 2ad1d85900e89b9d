-- Products of ring elements with whole numbers and with powers of √2.
use Rattle.std.proofs.Common.{◌≡◌, refl, sym, ◌∙◌, ap, ℕ, zero, suc, ◌+◌, ◌*◌, ◌^◌, ◌<◌, ◌%◌, true, arith, eq-eqb}
use Rattle.std.specs.Prelude.{ℤ, pos, negsuc, ◌+ℤ◌, ◌-ℤ◌, ◌*ℤ◌, neg_ℤ, nat_abs}
use Rattle.std.proofs.lemmas.Int.{ints, unsigned_abs-mul}
use Rattle.std.proofs.Math.Nat.{eq_of_mul-eq-mul_right}
use borrow.Author.Differences.{same_in}
use Rattle.qvm_ring.specs.Ring.{Element, unit, whole_number, times, root_two, is_divisible, same_parity}
use Rattle.qvm_ring.proofs.RingLemmas.{same_element, sum_product, neg_product}
use Rattle.qvm_ring.proofs.Associative.{times_assoc}
use Rattle.qvm_ring.proofs.Elements.{times_unit}
use Rattle.qvm_ring.proofs.Bits.{power_positive}
use Rattle.quil_value.specs.Exact.{root_power}
use Rattle.quil_value.proofs.Turns.{abs_parts, one_part}
use Rattle.quil_value.proofs.Spans.{scaled, times_whole}

pub times_comm : (x y : Element) → times x y ≡ times y x
times_comm x y = same_element (times x y) (times y x) (same_in _ _ (omega (arith, ints))) (same_in _ _ (omega (arith, ints))) (same_in _ _ (omega (arith, ints))) (same_in _ _ (omega (arith, ints)))

pub times_unit_right : (x : Element) → times x unit ≡ x
times_unit_right x = times_comm x unit ∙ times_unit x

-- (x y) z = (x z) y
pub last_two : (x y z : Element) → times (times x y) z ≡ times (times x z) y
last_two x y z = times_assoc x y z ∙ ap (times x) (times_comm y z) ∙ sym (times_assoc x z y)

-- (x y) (z w) = (x z) (y w)
pub exchanged : (x y z w : Element) → times (times x y) (times z w) ≡ times (times x z) (times y w)
exchanged x y z w = sym (times_assoc (times x y) z w) ∙ ap (λ (t : Element). times t w) (last_two x y z) ∙ times_assoc (times x z) y w

-- ---- whole numbers

pub whole_times : (m n : ℕ) → times (whole_number m) (whole_number n) ≡ whole_number (m * n)
whole_times m n = times_whole (whole_number m) n ∙ same_element (scaled (whole_number m) n) (whole_number (m * n)) refl (none n) (none n) (none n)
  where
    none : (n : ℕ) → pos 0 *ℤ pos n ≡ pos 0
    none n = omega (arith, ints)

zero_difference : (x y : ℤ) → nat_abs (x -ℤ y) ≡ 0 → x ≡ y
zero_difference x y e = same_in _ _ (omega (arith, ints, e, abs_parts (x -ℤ y)))

difference_product : (x y n : ℤ) → x *ℤ n ≡ y *ℤ n → (x -ℤ y) *ℤ n ≡ pos 0
difference_product x y n e =
    let s : (x -ℤ y) *ℤ n ≡ x *ℤ n +ℤ neg_ℤ (y *ℤ n) = sum_product x (neg_ℤ y) n ∙ ap (λ (t : ℤ). x *ℤ n +ℤ t) (neg_product y n) in
    s ∙ none (x *ℤ n) (y *ℤ n) e
  where
    none : (p q : ℤ) → p ≡ q → p +ℤ neg_ℤ q ≡ pos 0
    none p q e = same_in _ _ (omega (arith, ints, e))

pub zero_factor : (m n : ℕ) → 0 < n → m * n ≡ 0 → m ≡ 0
zero_factor m n h e = eq_of_mul-eq-mul_right n h m 0 (e ∙ (let z : 0 ≡ 0 * n = omega arith in z))

pub cancel_int : (x y : ℤ) (n : ℕ) → 0 < n → x *ℤ pos n ≡ y *ℤ pos n → x ≡ y
cancel_int x y n h e =
    let d : (x -ℤ y) *ℤ pos n ≡ pos 0 = difference_product x y (pos n) e in
    let m : nat_abs (x -ℤ y) * n ≡ 0 = sym (unsigned_abs-mul (x -ℤ y) (pos n)) ∙ ap nat_abs d in
    zero_difference x y (zero_factor (nat_abs (x -ℤ y)) n h m)

pub cancel_whole : (x y : Element) (n : ℕ) → 0 < n → times x (whole_number n) ≡ times y (whole_number n) → x ≡ y
cancel_whole x y n h e =
    let f : scaled x n ≡ scaled y n = sym (times_whole x n) ∙ e ∙ times_whole y n in
    same_element x y
    (cancel_int x.a y.a n h (ap (λ (z : Element). z.a) f)) (cancel_int x.b y.b n h (ap (λ (z : Element). z.b) f))
    (cancel_int x.c y.c n h (ap (λ (z : Element). z.c) f)) (cancel_int x.d y.d n h (ap (λ (z : Element). z.d) f))

-- ---- powers of √2

pub root_power_sum : (m k : ℕ) → times (root_power m) (root_power k) ≡ root_power (m + k)
root_power_sum zero k = times_unit (root_power k) ∙ ap root_power (let e : k ≡ 0 + k = omega arith in e)
root_power_sum (suc m) k = times_assoc root_two (root_power m) (root_power k) ∙ ap (times root_two) (root_power_sum m k) ∙ ap root_power (let e : suc (m + k) ≡ suc m + k = omega arith in e)

pub root_power_squared : (k : ℕ) → times (root_power k) (root_power k) ≡ whole_number (2 ^ k)
root_power_squared zero = refl
root_power_squared (suc k) =
    exchanged root_two (root_power k) root_two (root_power k) ∙ ap (times (times root_two root_two)) (root_power_squared k) ∙ whole_times 2 (2 ^ k)
    ∙ ap whole_number (let e : 2 * 2 ^ k ≡ 2 ^ suc k = omega arith in e)

pub root_power_twice : (k : ℕ) → root_power (2 * k) ≡ whole_number (2 ^ k)
root_power_twice k = ap root_power (let e : 2 * k ≡ k + k = omega arith in e) ∙ sym (root_power_sum k k) ∙ root_power_squared k

pub cancel_root_power : (x y : Element) (k : ℕ) → times x (root_power k) ≡ times y (root_power k) → x ≡ y
cancel_root_power x y k e = cancel_whole x y (2 ^ k) (power_positive k)
    (ap (times x) (sym (root_power_squared k)) ∙ sym (times_assoc x (root_power k) (root_power k)) ∙ ap (λ (t : Element). times t (root_power k)) e ∙ times_assoc y (root_power k) (root_power k) ∙ ap (times y) (root_power_squared k))

pub cancel_root : (x y : Element) → times root_two x ≡ times root_two y → x ≡ y
cancel_root x y e = cancel_root_power x y 1
    (ap (times x) (times_unit_right root_two) ∙ times_comm x root_two ∙ e ∙ times_comm root_two y ∙ ap (times y) (sym (times_unit_right root_two)))

root_a : (p q r s : ℤ) → pos 0 *ℤ p -ℤ pos 1 *ℤ s -ℤ pos 0 *ℤ r -ℤ negsuc 0 *ℤ q ≡ q -ℤ s
root_a p q r s = same_in _ _ (omega (arith, ints))

root_b : (p q r s : ℤ) → pos 0 *ℤ q +ℤ pos 1 *ℤ p -ℤ pos 0 *ℤ s -ℤ negsuc 0 *ℤ r ≡ p +ℤ r
root_b p q r s = same_in _ _ (omega (arith, ints))

root_c : (p q r s : ℤ) → pos 0 *ℤ r +ℤ pos 1 *ℤ q +ℤ pos 0 *ℤ p -ℤ negsuc 0 *ℤ s ≡ q +ℤ s
root_c p q r s = same_in _ _ (omega (arith, ints))

root_d : (p q r s : ℤ) → pos 0 *ℤ s +ℤ pos 1 *ℤ r +ℤ pos 0 *ℤ q +ℤ negsuc 0 *ℤ p ≡ r -ℤ p
root_d p q r s = same_in _ _ (omega (arith, ints))

parity : (x y s t : ℤ) → s ≡ x -ℤ y → t ≡ x +ℤ y → nat_abs s % 2 ≡ nat_abs t % 2
parity x y s t e f = omega (arith, ints, e, f, abs_parts s, abs_parts t, one_part s, one_part t)

pub root_two_divides : (x : Element) → is_divisible (times root_two x) ≡ true
root_two_divides x =
    let y = times root_two x in
    let first : same_parity y.a y.c ≡ true = eq-eqb (nat_abs y.a % 2) (nat_abs y.c % 2) (parity x.b x.d y.a y.c (root_a x.a x.b x.c x.d) (root_c x.a x.b x.c x.d)) in
    let second : same_parity y.b y.d ≡ true = eq-eqb (nat_abs y.b % 2) (nat_abs y.d % 2) (sym (parity x.c x.a y.d y.b (root_d x.a x.b x.c x.d) (root_b x.a x.b x.c x.d ∙ turned x.a x.c))) in
    rw (first, second) refl
  where
    turned : (x y : ℤ) → x +ℤ y ≡ y +ℤ x
    turned x y = same_in _ _ (omega (arith, ints))
