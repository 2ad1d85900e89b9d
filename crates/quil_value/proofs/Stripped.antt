-- A number stripped of √2, and products with digits.
use Rattle.std.proofs.Common.{◌≡◌, refl, sym, ◌∙◌, ap, ap₂, subst, ℕ, zero, suc, ◌+◌, ◌-◌, ◌*◌, ◌^◌, ◌≤◌, ◌%◌, ◌==◌, Bool, true, false, inl, inr, if◌then◌else◌, arith}
use Rattle.std.specs.Prelude.{ℤ, pos, negsuc, ◌+ℤ◌, ◌-ℤ◌, ◌*ℤ◌, nat_abs}
use Rattle.std.proofs.lemmas.Int.{ints, unsigned_abs-mul}
use Rattle.std.proofs.lemmas.Bool.{cases_lt, eqb-true, eq-eqb, true_from_ne_false}
use borrow.Author.Differences.{same_in}
use Rattle.qvm_ring.specs.Ring.{Element, nought, unit, plus, times, root_two, is_zero, is_divisible, quotient, same_parity}
use Rattle.qvm_ring.specs.Multiply.{IsWithin}
use Rattle.qvm_ring.proofs.Associative.{times_assoc, times_plus}
use Rattle.qvm_ring.proofs.RingLemmas.{same_element, halves_of, root_two_times_quotient}
use Rattle.quil_value.specs.declared.low_end.Digits.{Digits}
use Rattle.quil_value.specs.Exact.{Ring, least, root_power}
use Rattle.quil_value.specs.Forms.{IsLeast}
use Rattle.quil_value.specs.Division.{double, product_with}
use Rattle.quil_value.specs.Views.{digit, digits_of, is_odd}
use Rattle.quil_value.proofs.Leasts.{settles}
use Rattle.quil_value.proofs.Powers.{times_comm, times_unit_right, root_power_sum, root_power_twice, cancel_root_power}
use Rattle.quil_value.proofs.QuotientBounds.{power_within, root_within}
use Rattle.quil_value.proofs.Reordered.{level_apart, level_last}
use Rattle.qvm_ring.proofs.Elements.{times_unit}
use Rattle.quil_value.proofs.Spans.{scaled, times_whole, odd, times_odd}
use Rattle.quil_value.proofs.Turns.{abs_parts, one_part, digit_parts}

-- ---- stripped of √2

pub least_at_most : (z : Element) (k : ℕ) (w : Element) (j : ℕ) → Ring w j ≡ least z k → j ≤ k
least_at_most z zero w j e = let f : j ≡ 0 = cc e in omega (arith, f)
least_at_most z (suc k) w j e = elim (is_divisible z) as (λ b. Ring w j ≡ (if b then least (quotient z) k else Ring z (suc k)) → j ≤ suc k) [
  | true ↦ λ f. let h = least_at_most (quotient z) k w j f in omega (arith, h)
  | false ↦ λ f. let g : j ≡ suc k = cc f in omega (arith, g)
] e

pub stripped_value : (z : Element) (k : ℕ) (w : Element) (j : ℕ) → Ring w j ≡ least z k → z ≡ times w (root_power (k - j))
stripped_value z k w j e =
    let s = settles z k in
    let f : Ring w j ≡ Ring s.w s.j = e ∙ s.found in
    let g : s.w ≡ w = cc f in
    let h : s.j ≡ j = cc f in
    let l = least_at_most z k w j e in
    let i : k ≡ (k - j) + j = omega (arith, l) in
    cancel_root_power z (times w (root_power (k - j))) j
    (ap (λ (n : ℕ). times z (root_power n)) (sym h) ∙ s.same ∙ ap (λ (t : Element). times t (root_power k)) g
    ∙ ap (λ (n : ℕ). times w (root_power n)) i ∙ ap (times w) (sym (root_power_sum (k - j) j)) ∙ sym (times_assoc w (root_power (k - j)) (root_power j)))

stripped_form : (z : Element) (k : ℕ) (w : Element) (j : ℕ) → Ring w j ≡ least z k → IsLeast w j
stripped_form z k w j e =
    let s = settles z k in
    let f : Ring s.w s.j ≡ Ring w j = sym (e ∙ s.found) in
    subst (λ (x : Element). IsLeast x j) (let g : s.w ≡ w = cc f in g) (subst (IsLeast s.w) (let h : s.j ≡ j = cc f in h) s.form)

small : (x y : ℤ) → x ≡ y *ℤ pos (2 ^ 67) → nat_abs x ≤ 2 ^ 66 → nat_abs x ≡ 0
small x y e h = let f : nat_abs x ≡ nat_abs y * 2 ^ 67 = ap nat_abs e ∙ unsigned_abs-mul y (pos (2 ^ 67)) in omega (arith, f, h)

all_small : (z w : Element) → z ≡ times w (root_power 134) → IsWithin (2 ^ 66) z → is_zero z ≡ true
all_small z w e h =
    let f : z ≡ scaled w (2 ^ 67) = e ∙ ap (times w) (root_power_twice 67) ∙ times_whole w (2 ^ 67) in
    let a = small z.a w.a (ap (λ (t : Element). t.a) f) h.a in
    let b = small z.b w.b (ap (λ (t : Element). t.b) f) h.b in
    let c = small z.c w.c (ap (λ (t : Element). t.c) f) h.c in
    let d = small z.d w.d (ap (λ (t : Element). t.d) f) h.d in
    rw (a, b, c, d) refl

pub stripped_least : (z w : Element) (j : ℕ) → Ring w j ≡ least z 134 → is_zero z ≡ false → IsWithin (2 ^ 66) z → is_divisible w ≡ false
stripped_least z w zero e s h = absurd (let f : true ≡ false = sym (all_small z w (stripped_value z 134 w 0 e) h) ∙ s in cc f)
stripped_least z w (suc j) e s h = stripped_form z 134 w (suc j) e (omega arith)

pub stripped_bound : (z w : Element) (j n : ℕ) → Ring w j ≡ least z 134 → IsWithin n z → IsWithin n w
stripped_bound z w j n e h = power_within n w (134 - j) (subst (IsWithin n) (stripped_value z 134 w j e) h)

-- ---- products with digits

digit_at : (b : Bool) (x : ℤ) (n : ℕ) → nat_abs x ≤ n → nat_abs (digit b *ℤ x) ≤ n
digit_at true x n h = let e : pos 1 *ℤ x ≡ x = one x in subst (λ (y : ℤ). nat_abs y ≤ n) (sym e) h
  where
    one : (x : ℤ) → pos 1 *ℤ x ≡ x
    one x = same_in _ _ (omega (arith, ints))
digit_at false x n h = let e : pos 0 *ℤ x ≡ pos 0 = none x in subst (λ (y : ℤ). nat_abs y ≤ n) (sym e) (let i : 0 ≤ n = omega arith in i)
  where
    none : (x : ℤ) → pos 0 *ℤ x ≡ pos 0
    none x = same_in _ _ (omega (arith, ints))

less_three : (m : ℕ) (p q r s : ℤ) → nat_abs p ≤ m → nat_abs q ≤ m → nat_abs r ≤ m → nat_abs s ≤ m → nat_abs (p -ℤ q -ℤ r -ℤ s) ≤ 4 * m
less_three m p q r s e f g h = omega (arith, ints)

less_two : (m : ℕ) (p q r s : ℤ) → nat_abs p ≤ m → nat_abs q ≤ m → nat_abs r ≤ m → nat_abs s ≤ m → nat_abs (p +ℤ q -ℤ r -ℤ s) ≤ 4 * m
less_two m p q r s e f g h = omega (arith, ints)

less_one : (m : ℕ) (p q r s : ℤ) → nat_abs p ≤ m → nat_abs q ≤ m → nat_abs r ≤ m → nat_abs s ≤ m → nat_abs (p +ℤ q +ℤ r -ℤ s) ≤ 4 * m
less_one m p q r s e f g h = omega (arith, ints)

all_four : (m : ℕ) (p q r s : ℤ) → nat_abs p ≤ m → nat_abs q ≤ m → nat_abs r ≤ m → nat_abs s ≤ m → nat_abs (p +ℤ q +ℤ r +ℤ s) ≤ 4 * m
all_four m p q r s e f g h = omega (arith, ints)

pub digits_within : (n : ℕ) (s : Digits) (y : Element) → IsWithin n y → IsWithin (4 * n) (times (digits_of s) y)
digits_within n s y h = record {
  a = less_three n (digit s.a *ℤ y.a) (digit s.b *ℤ y.d) (digit s.c *ℤ y.c) (digit s.d *ℤ y.b) (digit_at s.a y.a n h.a) (digit_at s.b y.d n h.d) (digit_at s.c y.c n h.c) (digit_at s.d y.b n h.b);
  b = less_two n (digit s.a *ℤ y.b) (digit s.b *ℤ y.a) (digit s.c *ℤ y.d) (digit s.d *ℤ y.c) (digit_at s.a y.b n h.b) (digit_at s.b y.a n h.a) (digit_at s.c y.d n h.d) (digit_at s.d y.c n h.c);
  c = less_one n (digit s.a *ℤ y.c) (digit s.b *ℤ y.b) (digit s.c *ℤ y.a) (digit s.d *ℤ y.d) (digit_at s.a y.c n h.c) (digit_at s.b y.b n h.b) (digit_at s.c y.a n h.a) (digit_at s.d y.d n h.d);
  d = all_four n (digit s.a *ℤ y.d) (digit s.b *ℤ y.c) (digit s.c *ℤ y.b) (digit s.d *ℤ y.a) (digit_at s.a y.d n h.d) (digit_at s.b y.c n h.c) (digit_at s.c y.b n h.b) (digit_at s.d y.a n h.a);
}

-- ---- y (1 + ω) / √2

-- 1 + ω
abbrev pub one_and_omega : Element
one_and_omega = record { a = pos 1; b = pos 1; c = pos 0; d = pos 0 }

pub times_one_and_omega : (y : Element) → times one_and_omega y ≡ record { a = y.a -ℤ y.d; b = y.b +ℤ y.a; c = y.c +ℤ y.b; d = y.d +ℤ y.c }
times_one_and_omega y = same_element _ _ (same_in _ _ (omega (arith, ints))) (same_in _ _ (omega (arith, ints))) (same_in _ _ (omega (arith, ints))) (same_in _ _ (omega (arith, ints)))

even_if : (n : ℕ) → (n % 2 == 1) ≡ false → n % 2 ≡ 0
even_if n h = elim (cases_lt 0 (n % 2)) [
  | inl some ↦ absurd (let e : n % 2 ≡ 1 = omega arith in let f : true ≡ false = sym (eq-eqb (n % 2) 1 e) ∙ h in cc f)
  | inr none ↦ omega arith
]

first_parity : (a b c d p q : ℤ) → p ≡ a -ℤ d → q ≡ c +ℤ b → nat_abs (a +ℤ b +ℤ c +ℤ d) % 2 ≡ 0 → nat_abs p % 2 ≡ nat_abs q % 2
first_parity a b c d p q e f g =
    let s = a +ℤ b +ℤ c +ℤ d in
    omega (arith, ints, e, f, g, abs_parts p, abs_parts q, abs_parts s, one_part p, one_part q, one_part s)

second_parity : (a b c d p q : ℤ) → p ≡ b +ℤ a → q ≡ d +ℤ c → nat_abs (a +ℤ b +ℤ c +ℤ d) % 2 ≡ 0 → nat_abs p % 2 ≡ nat_abs q % 2
second_parity a b c d p q e f g =
    let s = a +ℤ b +ℤ c +ℤ d in
    omega (arith, ints, e, f, g, abs_parts p, abs_parts q, abs_parts s, one_part p, one_part q, one_part s)

pub level_divisible : (y p : Element) → p ≡ times one_and_omega y → is_odd y ≡ false → is_divisible p ≡ true
level_divisible y p e h =
    let f = e ∙ times_one_and_omega y in
    let g = even_if (nat_abs (y.a +ℤ y.b +ℤ y.c +ℤ y.d)) h in
    let first : same_parity p.a p.c ≡ true = eq-eqb (nat_abs p.a % 2) (nat_abs p.c % 2) (first_parity y.a y.b y.c y.d p.a p.c (ap (λ (t : Element). t.a) f) (ap (λ (t : Element). t.c) f) g) in
    let second : same_parity p.b p.d ≡ true = eq-eqb (nat_abs p.b % 2) (nat_abs p.d % 2) (second_parity y.a y.b y.c y.d p.b p.d (ap (λ (t : Element). t.b) f) (ap (λ (t : Element). t.d) f) g) in
    rw (first, second) refl

-- the sum of the quotient's coordinates
quotient_sum : (p q r s a b c d : ℤ) → a +ℤ a ≡ q -ℤ s → b +ℤ b ≡ p +ℤ r → c +ℤ c ≡ q +ℤ s → d +ℤ d ≡ r -ℤ p → a +ℤ b +ℤ c +ℤ d ≡ q +ℤ r
quotient_sum p q r s a b c d e f g h = same_in _ _ (omega (arith, ints, e, f, g, h))

level_parity : (a b c d t : ℤ) → t ≡ (b +ℤ a) +ℤ (c +ℤ b) → nat_abs t % 2 ≡ 0 → nat_abs a % 2 ≡ nat_abs c % 2
level_parity a b c d t e f = omega (arith, ints, e, f, abs_parts t, abs_parts a, abs_parts c, one_part t, one_part a, one_part c)

other_parity : (a b c d : ℤ) → nat_abs (a +ℤ b +ℤ c +ℤ d) % 2 ≡ 0 → nat_abs a % 2 ≡ nat_abs c % 2 → nat_abs b % 2 ≡ nat_abs d % 2
other_parity a b c d g h =
    let s = a +ℤ b +ℤ c +ℤ d in
    omega (arith, ints, g, h, abs_parts s, abs_parts a, abs_parts b, abs_parts c, abs_parts d, one_part s, one_part a, one_part b, one_part c, one_part d)

pub level_odd : (y p : Element) → p ≡ times one_and_omega y → is_odd y ≡ false → is_divisible y ≡ false → is_odd (quotient p) ≡ true
level_odd y p e h none =
    let f = e ∙ times_one_and_omega y in
    let g = even_if (nat_abs (y.a +ℤ y.b +ℤ y.c +ℤ y.d)) h in
    let q = quotient p in
    let k = halves_of p (level_divisible y p e h) in
    let t = q.a +ℤ q.b +ℤ q.c +ℤ q.d in
    let sum : t ≡ (y.b +ℤ y.a) +ℤ (y.c +ℤ y.b) =
    quotient_sum p.a p.b p.c p.d q.a q.b q.c q.d k.a k.b k.c k.d ∙ ap₂ (λ (u v : ℤ). u +ℤ v) (ap (λ (z : Element). z.b) f) (ap (λ (z : Element). z.c) f) in
    true_from_ne_false (is_odd q) (λ even.
    let first = level_parity y.a y.b y.c y.d t sum (even_if (nat_abs t) even) in
    let second = other_parity y.a y.b y.c y.d g first in
    let both : is_divisible y ≡ true = rw (eq-eqb (nat_abs y.a % 2) (nat_abs y.c % 2) first, eq-eqb (nat_abs y.b % 2) (nat_abs y.d % 2) second) refl in
    let no : true ≡ false = sym both ∙ none in
    cc no)

pub quotient_bound : (n : ℕ) (p : Element) → is_divisible p ≡ true → IsWithin n p → IsWithin n (quotient p)
quotient_bound n p d h = root_within n (quotient p) (subst (IsWithin n) (sym (root_two_times_quotient p d)) h)

pub level_value : (y p : Element) → p ≡ times one_and_omega y → is_divisible p ≡ true → times y one_and_omega ≡ times (quotient p) (root_power 1)
level_value y p e d =
    times_comm y one_and_omega ∙ sym e ∙ sym (root_two_times_quotient p d) ∙ times_comm root_two (quotient p) ∙ ap (times (quotient p)) (sym (times_unit_right root_two))

-- ---- the inverse of an odd number, but for a multiple of 2

abbrev digits : Bool → Bool → Bool → Bool → Element
digits a b c d = record { a = digit a; b = digit b; c = digit c; d = digit d }

abbrev one_and_twice : Element → Element
one_and_twice r = plus unit (double r)

-- the odd digits times their conjugate
rest_of : Bool → Bool → Bool → Bool → Element
rest_of true false false false = nought
rest_of false true true true = record { a = negsuc 1; b = negsuc 0; c = pos 0; d = pos 1 }
rest_of true true false true = record { a = negsuc 0; b = pos 1; c = pos 0; d = pos 1 }
rest_of true false true true = record { a = negsuc 0; b = pos 0; c = pos 1; d = pos 1 }
rest_of true true true false = record { a = negsuc 0; b = pos 0; c = pos 1; d = pos 1 }
rest_of a b c d = record { a = negsuc 0; b = pos 0; c = pos 0; d = pos 0 }

unit_product : (a b c d : Bool) → is_odd (digits a b c d) ≡ true → times (digits a d c b) (digits a b c d) ≡ one_and_twice (rest_of a b c d)
unfolding rest_of
unit_product true false false false h = refl
unit_product false true false false h = refl
unit_product false false true false h = refl
unit_product false false false true h = refl
unit_product false true true true h = refl
unit_product true false true true h = refl
unit_product true true false true h = refl
unit_product true true true false h = refl
unit_product true true false false h = absurd (cc h)
unit_product true false true false h = absurd (cc h)
unit_product true false false true h = absurd (cc h)
unit_product false true true false h = absurd (cc h)
unit_product false true false true h = absurd (cc h)
unit_product false false true true h = absurd (cc h)
unit_product false false false false h = absurd (cc h)
unit_product true true true true h = absurd (cc h)

sums : (p q r s g h i j k l m n : ℤ) → p ≡ g +ℤ (k +ℤ k) → q ≡ h +ℤ (l +ℤ l) → r ≡ i +ℤ (m +ℤ m) → s ≡ j +ℤ (n +ℤ n)
    → p +ℤ q +ℤ r +ℤ s ≡ (g +ℤ h +ℤ i +ℤ j) +ℤ ((k +ℤ l +ℤ m +ℤ n) +ℤ (k +ℤ l +ℤ m +ℤ n))
sums p q r s g h i j k l m n e f u v = same_in _ _ (omega (arith, ints, e, f, u, v))

even_apart : (s t u : ℤ) → s ≡ t +ℤ (u +ℤ u) → nat_abs s % 2 ≡ nat_abs t % 2
even_apart s t u e = omega (arith, ints, e, abs_parts s, abs_parts t, one_part s, one_part t)

same_odd : (y g h : Element) → y ≡ plus g (double h) → nat_abs (y.a +ℤ y.b +ℤ y.c +ℤ y.d) % 2 ≡ nat_abs (g.a +ℤ g.b +ℤ g.c +ℤ g.d) % 2
same_odd y g h e =
    even_apart (y.a +ℤ y.b +ℤ y.c +ℤ y.d) (g.a +ℤ g.b +ℤ g.c +ℤ g.d) (h.a +ℤ h.b +ℤ h.c +ℤ h.d)
    (sums y.a y.b y.c y.d g.a g.b g.c g.d h.a h.b h.c h.d (ap (λ (t : Element). t.a) e) (ap (λ (t : Element). t.b) e) (ap (λ (t : Element). t.c) e) (ap (λ (t : Element). t.d) e))

one_digit : (b : Bool) (k r s : ℤ) → digit b +ℤ (k +ℤ k) ≡ (pos 1 +ℤ (r +ℤ r)) +ℤ (s +ℤ s) → digit b ≡ pos 1
one_digit true k r s e = refl
one_digit false k r s e = absurd (odd k r s e)
  where
    odd : (k r s : ℤ) → pos 0 +ℤ (k +ℤ k) ≡ (pos 1 +ℤ (r +ℤ r)) +ℤ (s +ℤ s) → ⊥
    odd k r s e = omega (arith, ints, e)

no_digit : (b : Bool) (k r s : ℤ) → digit b +ℤ (k +ℤ k) ≡ (pos 0 +ℤ (r +ℤ r)) +ℤ (s +ℤ s) → digit b ≡ pos 0
no_digit true k r s e = absurd (odd k r s e)
  where
    odd : (k r s : ℤ) → pos 1 +ℤ (k +ℤ k) ≡ (pos 0 +ℤ (r +ℤ r)) +ℤ (s +ℤ s) → ⊥
    odd k r s e = omega (arith, ints, e)
no_digit false k r s e = refl

-- what is 1 and twice r and twice s, by its digits
odd_digits : (g : Digits) (k r s : Element) → plus (digits_of g) (double k) ≡ plus (one_and_twice r) (double s) → digits_of g ≡ unit
odd_digits g k r s e = same_element (digits_of g) unit
    (one_digit g.a k.a r.a s.a (ap (λ (t : Element). t.a) e)) (no_digit g.b k.b r.b s.b (ap (λ (t : Element). t.b) e))
    (no_digit g.c k.c r.c s.c (ap (λ (t : Element). t.c) e)) (no_digit g.d k.d r.d s.d (ap (λ (t : Element). t.d) e))

pub inverse_value : (y p h k : Element) (g i : Digits) → is_odd y ≡ true → y ≡ plus (digits_of g) (double h) → p ≡ times (digits g.a g.d g.c g.b) y → p ≡ plus (digits_of i) (double k)
    → times y (digits g.a g.d g.c g.b) ≡ product_with unit k
inverse_value y p h k g i odd e f j =
    let c = digits g.a g.d g.c g.b in
    let s = times c h in
    let r = rest_of g.a g.b g.c g.d in
    let odd_g : is_odd (digits g.a g.b g.c g.d) ≡ true =
    eq-eqb (nat_abs (digit g.a +ℤ digit g.b +ℤ digit g.c +ℤ digit g.d) % 2) 1 (sym (same_odd y (digits_of g) h e) ∙ eqb-true (nat_abs (y.a +ℤ y.b +ℤ y.c +ℤ y.d) % 2) 1 odd) in
    let product : p ≡ plus (one_and_twice r) (double s) =
    f ∙ ap (times c) e ∙ times_plus c (digits_of g) (double h) ∙ ap₂ plus (unit_product g.a g.b g.c g.d odd_g) (times_plus c h h) in
    times_comm y c ∙ sym f ∙ j ∙ ap₂ plus (odd_digits i k r s (sym j ∙ product)) (ap double (sym (times_unit k)))

half_at : (b : Bool) (z k : ℤ) → z ≡ digit b +ℤ (k +ℤ k) → nat_abs z ≤ 2 ^ 66 → nat_abs k ≤ 2 ^ 65
half_at b z k e h = let d = digit_parts b in omega (arith, ints, e, h, d.0, d.1, abs_parts z, abs_parts k, one_part z, one_part k)

pub half_bound : (g : Digits) (p k : Element) → p ≡ plus (digits_of g) (double k) → IsWithin (2 ^ 66) p → IsWithin (2 ^ 65) k
half_bound g p k e h = record {
  a = half_at g.a p.a k.a (ap (λ (t : Element). t.a) e) h.a;
  b = half_at g.b p.b k.b (ap (λ (t : Element). t.b) e) h.b;
  c = half_at g.c p.c k.c (ap (λ (t : Element). t.c) e) h.c;
  d = half_at g.d p.d k.d (ap (λ (t : Element). t.d) e) h.d;
}

-- ---- all together

pub multiple_value : (y x f o s h : Element) (k e : ℕ) → y ≡ times x (root_power k) → times x f ≡ times o (root_power e) → times o s ≡ product_with unit h
    → times (times y f) s ≡ product_with (root_power (k + e)) h
multiple_value y x f o s h k e i j l =
    ap (λ (t : Element). times (times t f) s) i ∙ level_apart x (root_power k) f s ∙ ap (λ (t : Element). times (times t s) (root_power k)) j
    ∙ level_last o (root_power e) s (root_power k) ∙ ap₂ times (l ∙ sym (times_odd unit h) ∙ times_unit (odd h)) (root_power_sum k e)
    ∙ times_comm (odd h) (root_power (k + e)) ∙ times_odd (root_power (k + e)) h
