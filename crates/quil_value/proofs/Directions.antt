-- Numbers turned by powers of ω.
use Rattle.std.proofs.Common.{◌≡◌, refl, sym, ◌∙◌, ap, ap₂, subst, ℕ, zero, suc, ◌+◌, ◌^◌, ◌≤◌, ◌==◌, Bool, true, arith, rules}
use Rattle.std.specs.Prelude.{ℤ, pos, negsuc, ◌+ℤ◌, ◌-ℤ◌, neg_ℤ, nat_abs, nat_le, ◌&&◌}
use Rattle.std.proofs.lemmas.Int.{ints}
use borrow.Author.Differences.{same_in}
use Rattle.qvm_ring.specs.Ring.{Element, times, conjugate, root_two}
use Rattle.qvm_ring.proofs.RingLemmas.{same_element}
use Rattle.quil_value.specs.Exact.{Ring, is_rational, is_near, is_within}
use Rattle.quil_value.specs.Angles.{power_of_omega}
use Rattle.quil_value.specs.Table.{is_turned}
use Rattle.qvm_ring.specs.Multiply.{IsWithin}
use Rattle.quil_value.proofs.Turns.{abs_parts}
use Rattle.quil_value.proofs.RootTwos.{times_root_two}

-- z·ω^-k
pub back_0 : (z : Element) → times z (conjugate (power_of_omega 0)) ≡ z
back_0 z = same_element (times z (conjugate (power_of_omega 0))) z (same_in _ _ (omega (arith, ints))) (same_in _ _ (omega (arith, ints))) (same_in _ _ (omega (arith, ints))) (same_in _ _ (omega (arith, ints)))

pub back_1 : (z : Element) → times z (conjugate (power_of_omega 1)) ≡ record { a = z.b; b = z.c; c = z.d; d = neg_ℤ z.a }
back_1 z = same_element (times z (conjugate (power_of_omega 1))) (record { a = z.b; b = z.c; c = z.d; d = neg_ℤ z.a }) (same_in _ _ (omega (arith, ints))) (same_in _ _ (omega (arith, ints))) (same_in _ _ (omega (arith, ints))) (same_in _ _ (omega (arith, ints)))

pub back_2 : (z : Element) → times z (conjugate (power_of_omega 2)) ≡ record { a = z.c; b = z.d; c = neg_ℤ z.a; d = neg_ℤ z.b }
back_2 z = same_element (times z (conjugate (power_of_omega 2))) (record { a = z.c; b = z.d; c = neg_ℤ z.a; d = neg_ℤ z.b }) (same_in _ _ (omega (arith, ints))) (same_in _ _ (omega (arith, ints))) (same_in _ _ (omega (arith, ints))) (same_in _ _ (omega (arith, ints)))

pub back_3 : (z : Element) → times z (conjugate (power_of_omega 3)) ≡ record { a = z.d; b = neg_ℤ z.a; c = neg_ℤ z.b; d = neg_ℤ z.c }
back_3 z = same_element (times z (conjugate (power_of_omega 3))) (record { a = z.d; b = neg_ℤ z.a; c = neg_ℤ z.b; d = neg_ℤ z.c }) (same_in _ _ (omega (arith, ints))) (same_in _ _ (omega (arith, ints))) (same_in _ _ (omega (arith, ints))) (same_in _ _ (omega (arith, ints)))

-- ---- bounds

double_bound : (x y m : ℕ) → x ≤ 2 ^ 62 → y ≤ 2 ^ 62 → m ≤ x + y → m ≤ 2 ^ 63
double_bound x y m h k l = omega (arith, h, k, l)

sum_size : (x y : ℤ) → nat_abs (x +ℤ y) ≤ nat_abs x + nat_abs y
sum_size x y = omega (arith, ints, abs_parts (x +ℤ y), abs_parts x, abs_parts y)

difference_size : (x y : ℤ) → nat_abs (x -ℤ y) ≤ nat_abs x + nat_abs y
difference_size x y = omega (arith, ints, abs_parts (x -ℤ y), abs_parts x, abs_parts y)

pub rooted_within : (z : Element) → IsWithin (2 ^ 62) z → IsWithin (2 ^ 63) (times root_two z)
rooted_within z h = subst (IsWithin (2 ^ 63)) (sym (times_root_two z)) (record {
  a = double_bound _ _ _ h.b h.d (difference_size z.b z.d);
  b = double_bound _ _ _ h.a h.c (sum_size z.a z.c);
  c = double_bound _ _ _ h.b h.d (sum_size z.b z.d);
  d = double_bound _ _ _ h.c h.a (difference_size z.c z.a);
})

near_size : (z : ℤ) → is_near z ≡ true → nat_abs z ≤ 2 ^ 62
near_size z h = search rules

both : (p q : Bool) → (p && q) ≡ true → (p ≡ true) × (q ≡ true)
both p q h = search rules

pub value_within : (z : Element) (m : ℕ) → is_within (Ring z m) ≡ true → IsWithin (2 ^ 62) z
value_within z m h =
    let fourth = both (is_near z.a && is_near z.b && is_near z.c && is_near z.d) (nat_le m 124) h in
    let third = both (is_near z.a && is_near z.b && is_near z.c) (is_near z.d) fourth.0 in
    let second = both (is_near z.a && is_near z.b) (is_near z.c) third.0 in
    let first = both (is_near z.a) (is_near z.b) second.0 in
    record { a = near_size z.a first.0; b = near_size z.b first.1; c = near_size z.c second.1; d = near_size z.d third.1 }
