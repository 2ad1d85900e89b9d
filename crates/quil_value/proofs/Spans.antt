-- Every quotient by 1 + 2w is within the span of the turns.
use Rattle.std.proofs.Common.{◌≡◌, sym, ◌∙◌, ap, subst, ℕ, suc, ◌+◌, ◌*◌, ◌^◌, ◌<◌, ◌≤◌, ◌==◌, Bool, false, ◌&&◌, inl, inr, arith}
use Rattle.std.proofs.lemmas.Bool.Decides.{eqb_tells}
use Rattle.std.specs.Prelude.{ℤ, pos, ◌+ℤ◌, ◌-ℤ◌, ◌*ℤ◌, neg_ℤ, nat_abs}
use Rattle.std.proofs.lemmas.Int.{ints, unsigned_abs-mul}
use Rattle.std.proofs.Math.Nat.{mul-le-mul}
use borrow.Author.Differences.{same_in}
use Rattle.qvm_ring.specs.Ring.{Element, whole_number, times, conjugate, is_zero}
use Rattle.qvm_ring.specs.Views.{IsBelow}
use Rattle.qvm_ring.specs.Multiply.{IsWithin}
use Rattle.qvm_ring.proofs.Associative.{times_assoc}
use Rattle.qvm_ring.proofs.ProductBounds.{times_within}
use Rattle.quil_value.specs.Division.{product_with, IsQuotient, IsSpanned, Spans, IsAnswer, IsDivided}
use Rattle.quil_value.specs.declared.low_end.Division.{Division}
use Rattle.quil_value.specs.declared.low_end.Division.TheVariants as answer
use Rattle.qvm_ring.specs.Ring.{norm_whole, norm_root}
use Rattle.qvm_ring.proofs.RingLemmas.{product_sum, same_element}
use Rattle.qvm_ring.proofs.Elements.{abs_neg}
use Rattle.qvm_ring.proofs.Norms.{norm_root_le}
use Rattle.quil_value.specs.Exact.{cofactor, whole_norm}
use Rattle.quil_value.proofs.WholeNorms.{times_cofactor, whole_norm_positive}
use Rattle.quil_value.proofs.Turns.{abs_parts, one_part}

-- ---- the size of a quotient

times_whole_a : (a b c d : ℤ) (n : ℕ) → a *ℤ pos n -ℤ b *ℤ pos 0 -ℤ c *ℤ pos 0 -ℤ d *ℤ pos 0 ≡ a *ℤ pos n
times_whole_a a b c d n = same_in _ _ (omega (arith, ints))

times_whole_b : (a b c d : ℤ) (n : ℕ) → a *ℤ pos 0 +ℤ b *ℤ pos n -ℤ c *ℤ pos 0 -ℤ d *ℤ pos 0 ≡ b *ℤ pos n
times_whole_b a b c d n = same_in _ _ (omega (arith, ints))

times_whole_c : (a b c d : ℤ) (n : ℕ) → a *ℤ pos 0 +ℤ b *ℤ pos 0 +ℤ c *ℤ pos n -ℤ d *ℤ pos 0 ≡ c *ℤ pos n
times_whole_c a b c d n = same_in _ _ (omega (arith, ints))

times_whole_d : (a b c d : ℤ) (n : ℕ) → a *ℤ pos 0 +ℤ b *ℤ pos 0 +ℤ c *ℤ pos 0 +ℤ d *ℤ pos n ≡ d *ℤ pos n
times_whole_d a b c d n = same_in _ _ (omega (arith, ints))

-- z n, coordinate by coordinate
abbrev pub scaled : Element → ℕ → Element
scaled z n = record { a = z.a *ℤ pos n; b = z.b *ℤ pos n; c = z.c *ℤ pos n; d = z.d *ℤ pos n }

pub times_whole : (z : Element) (n : ℕ) → times z (whole_number n) ≡ scaled z n
times_whole z n = same_element (times z (whole_number n)) (scaled z n)
    (times_whole_a z.a z.b z.c z.d n) (times_whole_b z.a z.b z.c z.d n) (times_whole_c z.a z.b z.c z.d n) (times_whole_d z.a z.b z.c z.d n)

-- z N = x · cofactor y for each quotient z of x by y
pub quotient_scaled : (x y z : Element) → times z y ≡ x → scaled z (whole_norm y) ≡ times x (cofactor y)
quotient_scaled x y z e =
    sym (times_whole z (whole_norm y)) ∙ ap (times z) (sym (times_cofactor y)) ∙ sym (times_assoc z y (cofactor y)) ∙ ap (λ (t : Element). times t (cofactor y)) e

grown : (z : ℤ) (n m : ℕ) → 0 < n → nat_abs (z *ℤ pos n) ≤ m → nat_abs z ≤ m
grown z n m h k =
    let e : nat_abs (z *ℤ pos n) ≡ nat_abs z * n = unsigned_abs-mul z (pos n) in
    let l : nat_abs z * 1 ≤ nat_abs z * n = mul-le-mul (let r : nat_abs z ≤ nat_abs z = omega arith in r) h in
    omega (arith, l, k, e)

four_squares : (a b c d q : ℕ) → a < q → b < q → c < q → d < q → a * a + b * b + c * c + d * d ≤ 4 * (q * q)
four_squares a b c d q e f g h =
    let i : a * a ≤ q * q = mul-le-mul (omega arith) (omega arith) in
    let j : b * b ≤ q * q = mul-le-mul (omega arith) (omega arith) in
    let k : c * c ≤ q * q = mul-le-mul (omega arith) (omega arith) in
    let l : d * d ≤ q * q = mul-le-mul (omega arith) (omega arith) in
    omega (arith, i, j, k, l)

neg_below : (z : ℤ) (q : ℕ) → nat_abs z < q → nat_abs (neg_ℤ z) < q
neg_below z q h = omega (arith, abs_neg z, h)

cofactor_within : (y : Element) (q : ℕ) → IsBelow q y → IsWithin (4 * (q * suc (4 * (q * q)))) (cofactor y)
cofactor_within y q h =
    let u : norm_whole y ≤ 4 * (q * q) = four_squares (nat_abs y.a) (nat_abs y.b) (nat_abs y.c) (nat_abs y.d) q h.a h.b h.c h.d in
    let v : nat_abs (norm_root y) ≤ norm_whole y = norm_root_le y in
    times_within q (suc (4 * (q * q))) (conjugate y) (record { a = pos (norm_whole y); b = neg_ℤ (norm_root y); c = pos 0; d = norm_root y })
    (record { a = h.a; b = neg_below y.d q h.d; c = neg_below y.c q h.c; d = neg_below y.b q h.b })
    (record { a = omega (arith, u); b = neg_below (norm_root y) (suc (4 * (q * q))) (omega (arith, u, v)); c = omega arith; d = omega (arith, u, v) })

below_within : (m : ℕ) (z : Element) → IsWithin m z → IsBelow (suc m) z
below_within m z h = record { a = omega (arith, h.a); b = omega (arith, h.b); c = omega (arith, h.c); d = omega (arith, h.d) }

-- a bound for every quotient of numbers below p and q
abbrev pub bound : ℕ → ℕ → ℕ
bound p q = 4 * (p * suc (4 * (q * suc (4 * (q * q)))))

pub quotient_within : (x y z : Element) (p q : ℕ) → times z y ≡ x → is_zero y ≡ false → IsBelow p x → IsBelow q y → IsWithin (bound p q) z
quotient_within x y z p q e s h k =
    let n = whole_norm y in
    let some : 0 < n = whole_norm_positive y s in
    let c = cofactor_within y q k in
    let w : IsWithin (bound p q) (scaled z n) = subst (IsWithin (bound p q)) (sym (quotient_scaled x y z e))
    (times_within p (suc (4 * (q * suc (4 * (q * q))))) x (cofactor y) h (below_within (4 * (q * suc (4 * (q * q)))) (cofactor y) c)) in
    record { a = grown z.a n (bound p q) some w.a; b = grown z.b n (bound p q) some w.b; c = grown z.c n (bound p q) some w.c; d = grown z.d n (bound p q) some w.d }

-- ---- odd numbers

-- 1 + 2w
abbrev pub odd : Element → Element
odd w = record { a = pos 1 +ℤ (w.a +ℤ w.a); b = w.b +ℤ w.b; c = w.c +ℤ w.c; d = w.d +ℤ w.d }

pub times_odd : (z w : Element) → times z (odd w) ≡ product_with z w
times_odd z w = same_element (times z (odd w)) (product_with z w)
    (simp product_sum (same_in _ _ (omega (arith, ints))))
    (simp product_sum (same_in _ _ (omega (arith, ints))))
    (simp product_sum (same_in _ _ (omega (arith, ints))))
    (simp product_sum (same_in _ _ (omega (arith, ints))))

odd_some : (z : ℤ) → (nat_abs (pos 1 +ℤ (z +ℤ z)) == 0) ≡ false
odd_some z = elim (eqb_tells (nat_abs (pos 1 +ℤ (z +ℤ z))) 0) [
  | inl h ↦ absurd (let e : nat_abs (pos 1 +ℤ (z +ℤ z)) ≡ 0 = h.1 in omega (arith, ints, e, abs_parts (pos 1 +ℤ (z +ℤ z))))
  | inr h ↦ h.0
]

odd_below : (z : ℤ) → nat_abs z ≤ 2 ^ 65 → nat_abs (pos 1 +ℤ (z +ℤ z)) < 2 ^ 67
odd_below z h = omega (arith, ints, h, abs_parts z, abs_parts (pos 1 +ℤ (z +ℤ z)), one_part z, one_part (pos 1 +ℤ (z +ℤ z)))

even_below : (z : ℤ) → nat_abs z ≤ 2 ^ 65 → nat_abs (z +ℤ z) < 2 ^ 67
even_below z h = omega (arith, ints, h, abs_parts z, abs_parts (z +ℤ z), one_part z, one_part (z +ℤ z))

-- ---- the turns

spans_if : (z : ℤ) (n m : ℕ) → m < 2 ^ n → nat_abs z ≤ m → Spans n z
spans_if z n m l h = omega (arith, ints, l, h, abs_parts z, abs_parts (z +ℤ z +ℤ pos 1), one_part z, one_part (z +ℤ z +ℤ pos 1))

spanned : (x w z : Element) → IsWithin (2 ^ 68) x → IsWithin (2 ^ 65) w → IsQuotient x w z → IsSpanned 276 z
spanned x w z h k e =
    let m = bound (suc (2 ^ 68)) (2 ^ 67) in
    let l : m < 2 ^ 276 = omega arith in
    let b = quotient_within x (odd w) z (suc (2 ^ 68)) (2 ^ 67) (times_odd z w ∙ e) (odd_is_some w) (below_within (2 ^ 68) x h)
    (record { a = odd_below w.a k.a; b = even_below w.b k.b; c = even_below w.c k.c; d = even_below w.d k.d }) in
    record { a = spans_if z.a 276 m l b.a; b = spans_if z.b 276 m l b.b; c = spans_if z.c 276 m l b.c; d = spans_if z.d 276 m l b.d }
  where
    odd_is_some : (w : Element) → is_zero (odd w) ≡ false
    odd_is_some w = ap (λ (t : Bool). t && nat_abs (odd w).b == 0 && nat_abs (odd w).c == 0 && nat_abs (odd w).d == 0) (odd_some w.a)

pub divided_answer : (x w : Element) (found : Division) → IsWithin (2 ^ 68) x → IsWithin (2 ^ 65) w → IsAnswer x w 276 found → IsDivided x w found
divided_answer x w (answer.Exact z) h k a = a
divided_answer x w answer.TooWide h k a = a
divided_answer x w answer.Nothing h k a = λ z e. a z (spanned x w z h k e) e
