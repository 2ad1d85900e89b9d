-- Divisors made odd: a quotient by v is one by 1 + 2h, where v·f·s = (1 + 2h)·√2^p.
use Rattle.std.proofs.Common.{◌≡◌, sym, ◌∙◌, ap, ℕ, zero, suc, ◌+◌, ◌*◌, ◌^◌, true, false, arith}
use Rattle.std.specs.Prelude.{ℤ, pos, ◌+ℤ◌, ◌-ℤ◌}
use Rattle.std.proofs.lemmas.Bool.{false_from_ne_true}
use Rattle.std.proofs.lemmas.Int.{ints}
use borrow.Author.Differences.{same_in}
use Rattle.qvm_ring.specs.Ring.{Element, nought, whole_number, times, root_two, is_zero, is_divisible, quotient}
use Rattle.qvm_ring.proofs.Associative.{times_assoc, times_sum}
use Rattle.qvm_ring.proofs.Elements.{nought_if_zero, times_nought}
use Rattle.qvm_ring.proofs.RingLemmas.{same_element, root_two_times_quotient}
use Rattle.quil_value.specs.Exact.{root_power, cofactor, whole_norm}
use Rattle.quil_value.specs.Division.{minus, double, product_with, IsQuotient}
use Rattle.quil_value.proofs.Divisions.{some_if}
use Rattle.quil_value.proofs.Powers.{times_comm, times_unit_right, whole_times, root_power_sum, root_power_squared, cancel_whole, cancel_root_power, root_two_divides}
use Rattle.quil_value.proofs.Reordered.{multiple_in, odd_first, multiple_out, quotient_inside, quotient_odd, quotient_dividend, factors_swapped, odd_last}
use Rattle.quil_value.specs.Views.{IsRingQuotient, HasNone}
use Rattle.quil_value.proofs.RootPowers.{twice}
use Rattle.quil_value.proofs.Spans.{odd, times_odd}
use Rattle.quil_value.proofs.WholeNorms.{times_cofactor, whole_norm_positive}

-- ---- what isn't 0 cancels

cancel_times : (x y c : Element) → is_zero c ≡ false → times x c ≡ times y c → x ≡ y
cancel_times x y c s e =
    cancel_whole x y (whole_norm c) (whole_norm_positive c s)
    (ap (times x) (sym (times_cofactor c)) ∙ sym (times_assoc x c (cofactor c)) ∙ ap (λ (t : Element). times t (cofactor c)) e ∙ times_assoc y c (cofactor c) ∙ ap (times y) (times_cofactor c))

-- ---- halves of quotients by 1 + 2h

half_at : (t u x : ℤ) → t +ℤ (u +ℤ u) ≡ x +ℤ x → t ≡ (x -ℤ u) +ℤ (x -ℤ u)
half_at t u x e = same_in _ _ (omega (arith, ints, e))

half_is : (x h t : Element) → product_with t h ≡ double x → t ≡ double (minus x (times t h))
half_is x h t e =
    let u = times t h in
    same_element _ _
    (half_at t.a u.a x.a (ap (λ (y : Element). y.a) e)) (half_at t.b u.b x.b (ap (λ (y : Element). y.b) e))
    (half_at t.c u.c x.c (ap (λ (y : Element). y.c) e)) (half_at t.d u.d x.d (ap (λ (y : Element). y.d) e))

doubled_at : (q u x w : ℤ) → w ≡ u +ℤ u → (q +ℤ q) +ℤ (w +ℤ w) ≡ x +ℤ x → q +ℤ (u +ℤ u) ≡ x
doubled_at q u x w f e = same_in _ _ (omega (arith, ints, e, f))

half_product : (x h q : Element) → product_with (double q) h ≡ double x → product_with q h ≡ x
half_product x h q e =
    let u = times q h in
    let w = times (double q) h in
    let f : w ≡ double u = times_sum q q h in
    same_element _ _
    (doubled_at q.a u.a x.a w.a (ap (λ (y : Element). y.a) f) (ap (λ (y : Element). y.a) e)) (doubled_at q.b u.b x.b w.b (ap (λ (y : Element). y.b) f) (ap (λ (y : Element). y.b) e))
    (doubled_at q.c u.c x.c w.c (ap (λ (y : Element). y.c) f) (ap (λ (y : Element). y.c) e)) (doubled_at q.d u.d x.d w.d (ap (λ (y : Element). y.d) f) (ap (λ (y : Element). y.d) e))

-- a quotient of 2x by an odd number is twice one of x
pub halved_quotient : (x h t : Element) → IsQuotient (double x) h t → (q : Element) × IsQuotient x h q
halved_quotient x h t e =
    let q = minus x (times t h) in
    (q, half_product x h q (ap (λ (y : Element). product_with y h) (sym (half_is x h t e)) ∙ e))

whole_double : (x : Element) (n : ℕ) → times x (whole_number (2 ^ suc n)) ≡ double (times x (whole_number (2 ^ n)))
whole_double x n =
    ap (λ (k : ℕ). times x (whole_number k)) (let e : 2 ^ suc n ≡ 2 ^ n * 2 = omega arith in e) ∙ ap (times x) (sym (whole_times (2 ^ n) 2))
    ∙ sym (times_assoc x (whole_number (2 ^ n)) (whole_number 2)) ∙ twice (times x (whole_number (2 ^ n)))

pub quotient_below : (n : ℕ) (x h t : Element) → IsQuotient (times x (whole_number (2 ^ n))) h t → (q : Element) × IsQuotient x h q
quotient_below zero x h t e = (t, e ∙ times_unit_right x)
quotient_below (suc n) x h t e =
    let s = halved_quotient (times x (whole_number (2 ^ n))) h t (e ∙ whole_double x n) in
    quotient_below n x h s.0 s.1

-- ---- the odd multiple

-- v·f·s is (1 + 2h)·√2^p
abbrev pub IsOddMultiple : Element → Element → Element → Element → ℕ → Type 0
IsOddMultiple v f s h p = times (times v f) s ≡ product_with (root_power p) h

-- s·(f·z) is x·√2^a
abbrev pub IsStripped : Element → Element → Element → Element → ℕ → Type 0
IsStripped z f s x a = times s (times f z) ≡ times x (root_power a)

multiple_is : (v f s h : Element) (p : ℕ) → IsOddMultiple v f s h p → times v (times f s) ≡ times (odd h) (root_power p)
multiple_is v f s h p e = sym (times_assoc v f s) ∙ e ∙ sym (times_odd (root_power p) h) ∙ times_comm (root_power p) (odd h)

stripped_is : (z f s x : Element) (a : ℕ) → IsStripped z f s x a → times (times f s) z ≡ times x (root_power a)
stripped_is z f s x a e = factors_swapped f s z ∙ e

odd_other : (z : ℤ) → pos 1 +ℤ (z +ℤ z) ≡ pos 0 → ⊥
odd_other z e = omega (arith, ints, e)

factor_some : (v f s h : Element) (p : ℕ) → IsOddMultiple v f s h p → is_zero (times f s) ≡ false
factor_some v f s h p e = false_from_ne_true (is_zero (times f s)) (λ z.
    let none : times v (times f s) ≡ nought = ap (times v) (nought_if_zero (times f s) z) ∙ times_comm v nought ∙ times_nought v in
    let o : odd h ≡ nought = cancel_root_power (odd h) nought p (sym (multiple_is v f s h p e) ∙ none ∙ sym (times_nought (root_power p))) in
    odd_other h.a (ap (λ (y : Element). y.a) o))

pub multiple_some : (z v f s h : Element) (p : ℕ) → IsOddMultiple v f s h p → is_zero z ≡ false → is_zero (times s (times f z)) ≡ false
multiple_some z v f s h p e o =
    some_if (times s (times f z)) z
    (λ n. cancel_times z nought (times f s) (factor_some v f s h p e) (times_comm z (times f s) ∙ factors_swapped f s z ∙ n ∙ sym (times_nought (times f s)))) o

-- a quotient of x is one of the whole
pub quotient_found : (z : Element) (m : ℕ) (v : Element) (n : ℕ) (f s h x q : Element) (p a : ℕ) → IsOddMultiple v f s h p → IsStripped z f s x a → IsQuotient x h q
    → IsRingQuotient z m v n (times q (root_power (a + n))) (p + m)
quotient_found z m v n f s h x q p a e g i =
    let c = times f s in
    let o = odd h in
    let u = root_power (a + n) in
    let d = root_power (p + m) in
    let up : times (times (times (times q u) v) (root_power m)) c ≡ times x (times u d) =
    multiple_in q u v (root_power m) c ∙ ap (λ (t : Element). times (times q t) (times u (root_power m))) (multiple_is v f s h p e)
    ∙ odd_first q o (root_power p) u (root_power m) ∙ ap (λ (t : Element). times t (times (times u (root_power p)) (root_power m))) (times_odd q h ∙ i)
    ∙ ap (times x) (times_assoc u (root_power p) (root_power m) ∙ ap (times u) (root_power_sum p m)) in
    let down : times (times (times z (root_power n)) d) c ≡ times x (times u d) =
    multiple_out z (root_power n) d c ∙ ap (λ (t : Element). times t (times (root_power n) d)) (stripped_is z f s x a g)
    ∙ quotient_dividend x (root_power a) (root_power n) d ∙ ap (λ (t : Element). times x (times t d)) (root_power_sum a n) in
    cancel_times (times (times (times q u) v) (root_power m)) (times (times z (root_power n)) d) c (factor_some v f s h p e) (up ∙ sym down)

-- a quotient of the whole is one of x times a power of two
quotient_lost : (z : Element) (m : ℕ) (v : Element) (n : ℕ) (f s h x : Element) (p a : ℕ) (t : Element) (k : ℕ) → IsOddMultiple v f s h p → IsStripped z f s x a → IsRingQuotient z m v n t k
    → times (times t (root_power (p + m))) (odd h) ≡ times x (root_power (a + n + k))
quotient_lost z m v n f s h x p a t k e g i =
    let c = times f s in
    let o = odd h in
    let up : times (times (times t v) (root_power m)) c ≡ times (times t (root_power (p + m))) o =
    quotient_inside t v (root_power m) c ∙ ap (λ (y : Element). times (times t y) (root_power m)) (multiple_is v f s h p e)
    ∙ quotient_odd t o (root_power p) (root_power m) ∙ ap (λ (y : Element). times (times t y) o) (root_power_sum p m) in
    let down : times (times (times z (root_power n)) (root_power k)) c ≡ times x (root_power (a + n + k)) =
    multiple_out z (root_power n) (root_power k) c ∙ ap (λ (y : Element). times y (times (root_power n) (root_power k))) (stripped_is z f s x a g)
    ∙ quotient_dividend x (root_power a) (root_power n) (root_power k) ∙ ap (λ (y : Element). times x (times y (root_power k))) (root_power_sum a n)
    ∙ ap (times x) (root_power_sum (a + n) k) in
    sym up ∙ ap (λ (y : Element). times y c) i ∙ down

pub none_left : (z : Element) (m : ℕ) (v : Element) (n : ℕ) (f s h x : Element) (p a : ℕ) → IsOddMultiple v f s h p → IsStripped z f s x a → ((q : Element) → IsQuotient x h q → ⊥)
    → HasNone z m v n
none_left z m v n f s h x p a e g none t k i =
    let j = a + n + k in
    let r = root_power j in
    let y = times t (root_power (p + m)) in
    let whole : times (times y r) (odd h) ≡ times x (whole_number (2 ^ j)) =
    odd_last y r (odd h) ∙ ap (λ (w : Element). times w r) (quotient_lost z m v n f s h x p a t k e g i) ∙ times_assoc x r r ∙ ap (times x) (root_power_squared j) in
    let found = quotient_below j x h (times y r) (sym (times_odd (times y r) h) ∙ whole) in
    none found.0 found.1

-- ---- √2 divides no quotient of what it doesn't divide

pub quotient_least : (x h q : Element) → is_divisible x ≡ false → IsQuotient x h q → is_divisible q ≡ false
quotient_least x h q s e = false_from_ne_true (is_divisible q) (λ d.
    let f : x ≡ times root_two (times (quotient q) (odd h)) =
    sym e ∙ sym (times_odd q h) ∙ ap (λ (t : Element). times t (odd h)) (sym (root_two_times_quotient q d)) ∙ times_assoc root_two (quotient q) (odd h) in
    let g : true ≡ false = sym (ap is_divisible f ∙ root_two_divides (times (quotient q) (odd h))) ∙ s in
    absurd (cc g))
