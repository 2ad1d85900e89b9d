-- The order of x and y√2, by descent.
use Rattle.std.proofs.Common.{◌≡◌, ◌≢◌, refl, sym, ◌∙◌, ap, ℕ, zero, suc, ◌+◌, ◌-◌, ◌*◌, ◌<◌, ◌≤◌, inl, inr, Bool, true, false, not, arith}
use Rattle.std.specs.Prelude.{ℤ, pos, negsuc, neg_ℤ, ◌≤ℤ◌, nat_abs, nat_lt}
use Rattle.std.specs.Ordering.{nat_cmp, ordering_reverse, is_gt}
use Rattle.std.specs.Cmp.{nat_cmp_is}
use Rattle.std.specs.declared.cmp.Ordering.{Ordering}
use Rattle.std.specs.declared.cmp.Ordering.TheVariants.{Less, Equal, Greater}
use Rattle.std.proofs.lemmas.Int.{ints}
use Rattle.std.proofs.lemmas.Bool.{lt-ltb, le-ltb}
use Rattle.std.proofs.Math.Nat.{mul-le-mul}
use Rattle.qvm_ring.specs.Ring.{is_positive}
use Rattle.qvm_ring.proofs.FiniteMaps.{order_of}

-- ---- the order of two numbers, by what holds

pub cmp_less : (a b : ℕ) → a < b → nat_cmp a b ≡ Less
cmp_less a b h = sym (nat_cmp_is a b Less h)

pub cmp_equal : (a b : ℕ) → a ≡ b → nat_cmp a b ≡ Equal
cmp_equal a b h = sym (nat_cmp_is a b Equal h)

pub cmp_greater : (a b : ℕ) → b < a → nat_cmp a b ≡ Greater
cmp_greater a b h = sym (nat_cmp_is a b Greater h)

-- ---- where the descent ends

square_positive : (x : ℕ) → 0 < x → 0 < x * x
square_positive zero h = absurd (omega arith)
square_positive (suc n) h = omega arith

pub last_greater : (x y : ℕ) → y < x → y + y ≤ x → Greater ≡ nat_cmp (x * x) (2 * (y * y))
last_greater x y h k =
    let m : (y + y) * (y + y) ≤ x * x = mul-le-mul k k in
    let n : 0 < x * x = square_positive x (omega arith) in
    sym (cmp_greater (x * x) (2 * (y * y)) (omega arith))

pub last_equal : (x y : ℕ) → x ≤ y → y ≡ 0 → Equal ≡ nat_cmp (x * x) (2 * (y * y))
last_equal zero zero h k = refl
last_equal (suc x) zero h k = absurd (omega arith)
last_equal x (suc y) h k = absurd (omega arith)

pub last_less : (x y : ℕ) → x ≤ y → y ≢ 0 → Less ≡ nat_cmp (x * x) (2 * (y * y))
last_less x y h k =
    let m : x * x ≤ y * y = mul-le-mul h h in
    let n : 0 < y * y = square_positive y (omega arith) in
    sym (cmp_less (x * x) (2 * (y * y)) (omega arith))

-- ---- one step

against : (a b c d : ℕ) → a + d ≡ b + c → nat_cmp a b ≡ ordering_reverse (nat_cmp d c)
against a b c d e = elim (order_of a b) [
  | inl l ↦ cmp_less a b l ∙ sym (ap ordering_reverse (cmp_greater d c (omega arith)))
  | inr (inl l) ↦ cmp_equal a b l ∙ sym (ap ordering_reverse (cmp_equal d c (omega arith)))
  | inr (inr l) ↦ cmp_greater a b l ∙ sym (ap ordering_reverse (cmp_less d c (omega arith)))
]

-- with x = 2o + p and y = o + p: x² + p² = 2y² + 2o²
whole_step : (o p : ℕ) → nat_cmp ((o + (o + p)) * (o + (o + p))) (2 * ((o + p) * (o + p))) ≡ ordering_reverse (nat_cmp (p * p) (2 * (o * o)))
whole_step o p = against ((o + (o + p)) * (o + (o + p))) (2 * ((o + p) * (o + p))) (2 * (o * o)) (p * p) (omega arith)

pub step_down : (x y : ℕ) → y < x → x - y < y → nat_cmp (x * x) (2 * (y * y)) ≡ ordering_reverse (nat_cmp ((y - (x - y)) * (y - (x - y))) (2 * ((x - y) * (x - y))))
step_down x y h k =
    let f : x ≡ (x - y) + ((x - y) + (y - (x - y))) = omega arith in
    let g : y ≡ (x - y) + (y - (x - y)) = omega arith in
    ap (λ (n : ℕ). nat_cmp (n * n) (2 * (y * y))) f ∙ ap (λ (n : ℕ). nat_cmp (((x - y) + ((x - y) + (y - (x - y)))) * ((x - y) + ((x - y) + (y - (x - y))))) (2 * (n * n))) g
    ∙ whole_step (x - y) (y - (x - y))

abbrev pub turned : Bool → Ordering → Ordering
turned true o = ordering_reverse o
turned false o = o

turned_twice : (b : Bool) (o : Ordering) → turned (not b) o ≡ turned b (ordering_reverse o)
turned_twice true Less = refl
turned_twice true Equal = refl
turned_twice true Greater = refl
turned_twice false o = refl

-- what the loop keeps: the order so far, turned as often as it was reversed, is that of the beginning
pub record Descends (x y left right : ℕ) (is_reversed : Bool) : Type 0 where
  pub same : turned is_reversed (nat_cmp (left * left) (2 * (right * right))) ≡ nat_cmp (x * x) (2 * (y * y))

pub keeps_descending : (x y left right : ℕ) (b : Bool) → right < left → left - right < right → Descends x y left right b → Descends x y (right - (left - right)) (left - right) (not b)
keeps_descending x y left right b h k m = record {
  same = turned_twice b _ ∙ ap (turned b) (sym (step_down left right h k)) ∙ m.same;
}

-- ---- the sign of x - y√2

is_gt_cmp : (a b : ℕ) → is_gt (nat_cmp a b) ≡ nat_lt b a
is_gt_cmp a b = elim (order_of a b) [
  | inl l ↦ ap is_gt (cmp_less a b l) ∙ sym (le-ltb b a (omega arith))
  | inr (inl l) ↦ ap is_gt (cmp_equal a b l) ∙ sym (le-ltb b a (omega arith))
  | inr (inr l) ↦ ap is_gt (cmp_greater a b l) ∙ sym (lt-ltb b a l)
]

square_above : (x : ℕ) → nat_lt 0 (x * x) ≡ nat_lt 0 (x + 0)
square_above zero = refl
square_above (suc x) = lt-ltb 0 (suc x * suc x) (square_positive (suc x) (omega arith)) ∙ sym (lt-ltb 0 (suc x + 0) (omega arith))

pub is_gt_positive : (x y : ℤ) → pos 0 ≤ℤ x → pos 0 ≤ℤ y → is_gt (nat_cmp (nat_abs x * nat_abs x) (2 * (nat_abs y * nat_abs y))) ≡ is_positive x (neg_ℤ y)
is_gt_positive (pos x) (pos zero) h k = is_gt_cmp (x * x) 0 ∙ square_above x
is_gt_positive (pos x) (pos (suc y)) h k = is_gt_cmp (x * x) (2 * (suc y * suc y))
is_gt_positive (pos x) (negsuc y) h k = absurd (omega (arith, ints))
is_gt_positive (negsuc x) y h k = absurd (omega (arith, ints))
