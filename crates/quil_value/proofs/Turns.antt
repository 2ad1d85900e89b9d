-- One turn of the division from the low end.
use Rattle.std.proofs.Common.{◌≡◌, refl, sym, ◌∙◌, ap, ℕ, suc, ◌+◌, ◌*◌, ◌^◌, ◌<◌, ◌≤◌, Bool, true, false, arith, inl, inr, ◌⊎◌}
use Rattle.std.specs.Prelude.{ℤ, pos, negsuc, ◌+ℤ◌, ◌-ℤ◌, nat_abs}
use Rattle.std.proofs.lemmas.Int.{ints}
use borrow.Author.Differences.{up, down, same_in}
use Rattle.qvm_ring.specs.Ring.{Element, plus, times}
use Rattle.qvm_ring.proofs.RingLemmas.{same_element}
use Rattle.qvm_ring.proofs.Associative.{times_sum}
use Rattle.quil_value.specs.Views.{digit}
use Rattle.quil_value.specs.Division.{minus, double, product_with, Spans, IsQuotient}

turn_at : (x d h t r : ℤ) → x ≡ d +ℤ (h +ℤ h) → r ≡ h -ℤ t → x ≡ (d +ℤ (t +ℤ t)) +ℤ (r +ℤ r)
turn_at x d h t r e f = same_in _ _ (omega (arith, ints, e, f))

-- x = d + 2h and r = h - d w give x = d (1 + 2w) + 2r
pub turn_is : (x d h w r : Element) → x ≡ plus d (double h) → r ≡ minus h (times d w) → x ≡ plus (product_with d w) (double r)
turn_is x d h w r e f = same_element _ _
    (turn_at x.a d.a h.a (times d w).a r.a (ap (λ (z : Element). z.a) e) (ap (λ (z : Element). z.a) f))
    (turn_at x.b d.b h.b (times d w).b r.b (ap (λ (z : Element). z.b) e) (ap (λ (z : Element). z.b) f))
    (turn_at x.c d.c h.c (times d w).c r.c (ap (λ (z : Element). z.c) e) (ap (λ (z : Element). z.c) f))
    (turn_at x.d d.d h.d (times d w).d r.d (ap (λ (z : Element). z.d) e) (ap (λ (z : Element). z.d) f))

up_at : (d z u v t : ℤ) → t ≡ u +ℤ (v +ℤ v) → (d +ℤ (z +ℤ z)) +ℤ (t +ℤ t) ≡ (d +ℤ (u +ℤ u)) +ℤ ((z +ℤ (v +ℤ v)) +ℤ (z +ℤ (v +ℤ v)))
up_at d z u v t e = same_in _ _ (omega (arith, ints, e))

-- times (d + 2z) w = d w + 2 z w
pub twice_times : (d z w : Element) → times (plus d (double z)) w ≡ plus (times d w) (double (times z w))
twice_times d z w = times_sum d (double z) w ∙ ap (plus (times d w)) (times_sum z z w)

-- d + 2z times 1 + 2w
pub product_up : (d z w : Element) → product_with (plus d (double z)) w ≡ plus (product_with d w) (double (product_with z w))
product_up d z w =
    let e = twice_times d z w in
    same_element _ _
    (up_at d.a z.a (times d w).a (times z w).a (times (plus d (double z)) w).a (ap (λ (y : Element). y.a) e))
    (up_at d.b z.b (times d w).b (times z w).b (times (plus d (double z)) w).b (ap (λ (y : Element). y.b) e))
    (up_at d.c z.c (times d w).c (times z w).c (times (plus d (double z)) w).c (ap (λ (y : Element). y.c) e))
    (up_at d.d z.d (times d w).d (times z w).d (times (plus d (double z)) w).d (ap (λ (y : Element). y.d) e))

-- a quotient of the rest, with the digits before it, is one of the whole
pub quotient_up : (x d w r z : Element) → x ≡ plus (product_with d w) (double r) → IsQuotient r w z → IsQuotient x w (plus d (double z))
quotient_up x d w r z e f = product_up d z w ∙ ap (λ (y : Element). plus (product_with d w) (double y)) f ∙ sym e

down_at : (z t d u r : ℤ) → z +ℤ (t +ℤ t) ≡ (d +ℤ (u +ℤ u)) +ℤ (r +ℤ r) → z ≡ d +ℤ ((u +ℤ r -ℤ t) +ℤ (u +ℤ r -ℤ t))
down_at z t d u r e = same_in _ _ (omega (arith, ints, e))

cancel_at : (p r q : ℤ) → p +ℤ (r +ℤ r) ≡ p +ℤ (q +ℤ q) → r ≡ q
cancel_at p r q e = same_in _ _ (omega (arith, ints, e))

pub cancel : (p r q : Element) → plus p (double r) ≡ plus p (double q) → r ≡ q
cancel p r q e = same_element _ _
    (cancel_at p.a r.a q.a (ap (λ (y : Element). y.a) e))
    (cancel_at p.b r.b q.b (ap (λ (y : Element). y.b) e))
    (cancel_at p.c r.c q.c (ap (λ (y : Element). y.c) e))
    (cancel_at p.d r.d q.d (ap (λ (y : Element). y.d) e))

-- what is left of a quotient z behind its digits: d w + r - z w
pub left_of : Element → Element → Element → Element → Element
left_of d w r z = minus (plus (times d w) r) (times z w)

pub digits_first : (x d w r z : Element) → x ≡ plus (product_with d w) (double r) → IsQuotient x w z → z ≡ plus d (double (left_of d w r z))
unfolding left_of
digits_first x d w r z e f =
    let g : product_with z w ≡ plus (product_with d w) (double r) = f ∙ e in
    same_element _ _
    (down_at z.a (times z w).a d.a (times d w).a r.a (ap (λ (y : Element). y.a) g))
    (down_at z.b (times z w).b d.b (times d w).b r.b (ap (λ (y : Element). y.b) g))
    (down_at z.c (times z w).c d.c (times d w).c r.c (ap (λ (y : Element). y.c) g))
    (down_at z.d (times z w).d d.d (times d w).d r.d (ap (λ (y : Element). y.d) g))

-- and it is a quotient of the rest
pub quotient_down : (x d w r z : Element) → x ≡ plus (product_with d w) (double r) → IsQuotient x w z → IsQuotient r w (left_of d w r z)
quotient_down x d w r z e f =
    let k = left_of d w r z in
    let g : plus (product_with d w) (double (product_with k w)) ≡ plus (product_with d w) (double r) =
    sym (product_up d k w) ∙ ap (λ (y : Element). product_with y w) (sym (digits_first x d w r z e f)) ∙ f ∙ e in
    cancel (product_with d w) (product_with k w) r g

-- ---- ranges, coordinate by coordinate

pub abs_parts : (z : ℤ) → nat_abs z ≡ up z + down z
abs_parts (pos n) = omega arith
abs_parts (negsuc n) = omega arith

pub one_part : (z : ℤ) → (up z ≡ 0) ⊎ (down z ≡ 0)
one_part (pos n) = inr refl
one_part (negsuc n) = inl refl

pub digit_parts : (b : Bool) → (down (digit b) ≡ 0) × (up (digit b) ≤ 1)
digit_parts true = (refl, omega arith)
digit_parts false = (refl, omega arith)

pub near_at : (d z k : ℤ) (n : ℕ) → (down d ≡ 0) × (up d ≤ 1) → z ≡ d +ℤ (k +ℤ k) → nat_abs z ≤ n → nat_abs k ≤ n
near_at d z k n h e m = omega (arith, ints, e, h.0, h.1, abs_parts z, abs_parts k, one_part z, one_part k)

spans_at : (d z k : ℤ) (q : ℕ) → (down d ≡ 0) × (up d ≤ 1) → z ≡ d +ℤ (k +ℤ k) → nat_abs (z +ℤ z +ℤ pos 1) < 2 * (2 * q) → nat_abs (k +ℤ k +ℤ pos 1) < 2 * q
spans_at d z k q h e m =
    omega (arith, ints, e, h.0, h.1, abs_parts (z +ℤ z +ℤ pos 1), abs_parts (k +ℤ k +ℤ pos 1), one_part (z +ℤ z +ℤ pos 1), one_part (k +ℤ k +ℤ pos 1))

pub base_at : (d z k : ℤ) → (down d ≡ 0) × (up d ≤ 1) → z ≡ d +ℤ (k +ℤ k) → nat_abs (z +ℤ z +ℤ pos 1) < 2 → k ≡ z
base_at d z k h e m =
    same_in _ _ (omega (arith, ints, e, h.0, h.1, abs_parts (z +ℤ z +ℤ pos 1), one_part (z +ℤ z +ℤ pos 1), one_part z, one_part k))

pub spans_down : (d z k : ℤ) (n : ℕ) → (down d ≡ 0) × (up d ≤ 1) → z ≡ d +ℤ (k +ℤ k) → Spans (suc n) z → Spans n k
spans_down d z k n h e m =
    let p : nat_abs (k +ℤ k +ℤ pos 1) < 2 * 2 ^ n = spans_at d z k (2 ^ n) h e (omega (arith, m)) in
    omega (arith, p)

fix_at : (p q x : ℤ) → p ≡ q +ℤ (p +ℤ p) → x ≡ q +ℤ (x +ℤ x) → p ≡ x
fix_at p q x e f = same_in _ _ (omega (arith, ints, e, f))

-- where the rest is x again, the digits as 0 and -1 are a quotient
pub quotient_fixed : (x d w z : Element) → x ≡ plus (product_with d w) (double x) → plus d (double z) ≡ z → IsQuotient x w z
quotient_fixed x d w z e f =
    let g : product_with z w ≡ plus (product_with d w) (double (product_with z w)) = ap (λ (y : Element). product_with y w) (sym f) ∙ product_up d z w in
    same_element _ _
    (fix_at (product_with z w).a (product_with d w).a x.a (ap (λ (y : Element). y.a) g) (ap (λ (y : Element). y.a) e))
    (fix_at (product_with z w).b (product_with d w).b x.b (ap (λ (y : Element). y.b) g) (ap (λ (y : Element). y.b) e))
    (fix_at (product_with z w).c (product_with d w).c x.c (ap (λ (y : Element). y.c) g) (ap (λ (y : Element). y.c) e))
    (fix_at (product_with z w).d (product_with d w).d x.d (ap (λ (y : Element). y.d) g) (ap (λ (y : Element). y.d) e))
