-- A quotient in its one form, and whether it is within the bounds of a value.
use Rattle.std.proofs.Common.{◌≡◌, refl, sym, ◌∙◌, ap, ap₂, subst, ℕ, zero, suc, ◌+◌, ◌-◌, ◌^◌, ◌<◌, ◌≤◌, Bool, true, false, ◌&&◌, Result, Ok, Err, if◌then◌else◌, arith}
use Rattle.std.specs.Prelude.{ℤ, ◌+ℤ◌, ◌-ℤ◌, nat_abs, nat_le}
use Rattle.std.proofs.lemmas.Int.{ints}
use Rattle.std.proofs.lemmas.Bool.{and_parts, leb-true, leb-false, le-leb, false_from_ne_true}
use Rattle.std.proofs.Math.Logic.{∥∥₁_elim}
use Rattle.qvm_ring.specs.Ring.{Element, nought, times, root_two, is_divisible, is_zero, quotient}
use Rattle.qvm_ring.specs.Multiply.{IsWithin}
use Rattle.quil_value.specs.declared.lack.Lack.{Lack}
use Rattle.quil_value.specs.declared.lack.Lack.TheVariants.{NotExact, ZeroDivisor, NumberTooWide}
use Rattle.quil_value.specs.Exact.{Exact, Ring, least, root_power, is_near, is_within, bounded, quotient_of}
use Rattle.quil_value.specs.Division.{IsQuotient, IsFar}
use Rattle.quil_value.proofs.Divisions.{quotient_by_zero}
use Rattle.quil_value.proofs.Leasts.{root_first}
use Rattle.quil_value.proofs.OddMultiples.{IsOddMultiple, IsStripped, quotient_found, quotient_least}
use Rattle.quil_value.proofs.Powers.{root_power_sum}
use Rattle.quil_value.proofs.RingQuotients.{ring_found}
use Rattle.quil_value.proofs.RootTwos.{times_root_two}
use Rattle.quil_value.proofs.RootPowers.{least_over, root_times_power}
use Rattle.quil_value.proofs.Turns.{abs_parts, one_part}
use Rattle.qvm_ring.proofs.Associative.{times_assoc}
use Rattle.quil_value.proofs.Powers.{times_unit_right}
use Rattle.qvm_ring.proofs.Elements.{nought_if_zero, times_nought}

-- ---- a factor √2 makes no largest coordinate smaller

half_within : (x y : ℤ) (n : ℕ) → nat_abs (x +ℤ y) ≤ n → nat_abs (x -ℤ y) ≤ n → nat_abs x ≤ n
half_within x y n h k = omega (arith, ints, h, k, abs_parts x, abs_parts (x +ℤ y), abs_parts (x -ℤ y), one_part x, one_part (x +ℤ y), one_part (x -ℤ y))

other_within : (x y : ℤ) (n : ℕ) → nat_abs (x +ℤ y) ≤ n → nat_abs (y -ℤ x) ≤ n → nat_abs x ≤ n
other_within x y n h k = omega (arith, ints, h, k, abs_parts x, abs_parts (x +ℤ y), abs_parts (y -ℤ x), one_part x, one_part (x +ℤ y), one_part (y -ℤ x))

last_within : (x y : ℤ) (n : ℕ) → nat_abs (x +ℤ y) ≤ n → nat_abs (x -ℤ y) ≤ n → nat_abs y ≤ n
last_within x y n h k = omega (arith, ints, h, k, abs_parts y, abs_parts (x +ℤ y), abs_parts (x -ℤ y), one_part y, one_part (x +ℤ y), one_part (x -ℤ y))

back_within : (x y : ℤ) (n : ℕ) → nat_abs (x +ℤ y) ≤ n → nat_abs (y -ℤ x) ≤ n → nat_abs y ≤ n
back_within x y n h k = omega (arith, ints, h, k, abs_parts y, abs_parts (x +ℤ y), abs_parts (y -ℤ x), one_part y, one_part (x +ℤ y), one_part (y -ℤ x))

pub root_within : (n : ℕ) (z : Element) → IsWithin n (times root_two z) → IsWithin n z
root_within n z h =
    let k = subst (IsWithin n) (times_root_two z) h in
    record { a = other_within z.a z.c n k.b k.d; b = half_within z.b z.d n k.c k.a; c = back_within z.a z.c n k.b k.d; d = last_within z.b z.d n k.c k.a }

pub power_within : (n : ℕ) (z : Element) (k : ℕ) → IsWithin n (times z (root_power k)) → IsWithin n z
power_within n z zero h = subst (IsWithin n) (times_unit_right z) h
power_within n z (suc k) h = power_within n z k (root_within n (times z (root_power k)) (subst (IsWithin n) (root_first z (root_power k)) h))

-- ---- the form

le_true : (m n : ℕ) → m ≤ n → m + (n - m) ≡ n
le_true m n h = omega (arith, h)

least_self : (z : Element) (m : ℕ) → is_divisible z ≡ false → least z m ≡ Ring z m
least_self z zero h = refl
least_self z (suc m) h = ap (λ (t : Bool). if t then least (quotient z) m else Ring z (suc m)) h

pub least_lowered : (z : Element) (up down : ℕ) → up ≤ down → is_divisible z ≡ false → least (times z (root_power up)) down ≡ Ring z (down - up)
least_lowered z up down h d = ap (least (times z (root_power up))) (sym (le_true up down h)) ∙ least_over z up (down - up) ∙ least_self z (down - up) d

pub least_raised : (z : Element) (up down : ℕ) → down ≤ up → least (times z (root_power up)) down ≡ Ring (times z (root_power (up - down))) 0
least_raised z up down h =
    let k = up - down in
    ap₂ least
    (ap (λ (n : ℕ). times z (root_power n)) (let e : up ≡ k + down = omega (arith, h) in e) ∙ ap (times z) (sym (root_power_sum k down)) ∙ sym (times_assoc z (root_power k) (root_power down)))
    (let e : down ≡ down + 0 = omega arith in e)
    ∙ least_over (times z (root_power k)) down 0

-- ---- what is too wide

near_is : (z : ℤ) → is_near z ≡ true → nat_abs z ≤ 2 ^ 62
near_is z h = leb-true (nat_abs z) (2 ^ 62) h

pub within_number : (z : Element) (m : ℕ) → is_within (Ring z m) ≡ true → IsWithin (2 ^ 62) z
within_number z m h =
    let fourth = and_parts (is_near z.a && is_near z.b && is_near z.c && is_near z.d) (nat_le m 124) h in
    let third = and_parts (is_near z.a && is_near z.b && is_near z.c) (is_near z.d) fourth.0 in
    let second = and_parts (is_near z.a && is_near z.b) (is_near z.c) third.0 in
    let first = and_parts (is_near z.a) (is_near z.b) second.0 in
    record { a = near_is z.a first.0; b = near_is z.b first.1; c = near_is z.c second.1; d = near_is z.d third.1 }

pub within_power : (z : Element) (m : ℕ) → is_within (Ring z m) ≡ true → m ≤ 124
within_power z m h = leb-true m 124 (and_parts (is_near z.a && is_near z.b && is_near z.c && is_near z.d) (nat_le m 124) h).1

pub far_number : (z : Element) (m : ℕ) → (IsWithin (2 ^ 62) z → ⊥) → bounded (Ok (Ring z m)) ≡ Err NumberTooWide
far_number z m far =
    ap (λ (b : Bool). if b then (let r : Result Exact Lack = Ok (Ring z m) in r) else Err NumberTooWide) (false_from_ne_true (is_within (Ring z m)) (λ h. absurd (far (within_number z m h))))

pub far_least : (z : Element) (up down : ℕ) → is_divisible z ≡ false → (IsWithin (2 ^ 62) z → ⊥) → bounded (Ok (least (times z (root_power up)) down)) ≡ Err NumberTooWide
far_least z up down d far = elim (nat_le up down) as (λ b. nat_le up down ≡ b → bounded (Ok (least (times z (root_power up)) down)) ≡ Err NumberTooWide) [
  | true ↦ λ e. ap (λ (w : Exact). bounded (Ok w)) (least_lowered z up down (leb-true up down e) d) ∙ far_number z (down - up) far
  | false ↦ λ e. ap (λ (w : Exact). bounded (Ok w)) (least_raised z up down (let h : down < up = leb-false up down e in omega (arith, h))) ∙ far_number (times z (root_power (up - down))) 0 (λ h. far (power_within (2 ^ 62) z (up - down) h))
] refl

-- ---- the answers

pub exact_answer : (z : Element) (m : ℕ) (v : Element) (n : ℕ) (f s h x q : Element) (p a : ℕ) → is_zero v ≡ false → IsOddMultiple v f s h p → IsStripped z f s x a → IsQuotient x h q
    → quotient_of (Ring z m) (Ring v n) ≡ bounded (Ok (least (times q (root_power (a + n))) (p + m)))
exact_answer z m v n f s h x q p a o e g i = ap bounded (ring_found z m v n (times q (root_power (a + n))) (p + m) o (quotient_found z m v n f s h x q p a e g i))

far_answer_of : (z : Element) (m : ℕ) (v : Element) (n : ℕ) (f s h x : Element) (p a : ℕ) → is_zero v ≡ false → IsOddMultiple v f s h p → IsStripped z f s x a → is_divisible x ≡ false
    → IsFar x h → quotient_of (Ring z m) (Ring v n) ≡ Err NumberTooWide
far_answer_of z m v n f s h x p a o e g d i =
    exact_answer z m v n f s h x i.quotient p a o e g i.product ∙ far_least i.quotient (a + n) (p + m) (quotient_least x h i.quotient d i.product) i.far

wide_if : (r : Result Exact Lack) → ((r ≡ Err NumberTooWide → ⊥) → ⊥) → r ≡ Err NumberTooWide
wide_if (Ok w) h = absurd (h (λ e. cc e))
wide_if (Err NotExact) h = absurd (h (λ e. cc e))
wide_if (Err ZeroDivisor) h = absurd (h (λ e. cc e))
wide_if (Err NumberTooWide) h = refl

pub far_answer : (z : Element) (m : ℕ) (v : Element) (n : ℕ) (f s h x : Element) (p a : ℕ) → is_zero v ≡ false → IsOddMultiple v f s h p → IsStripped z f s x a → is_divisible x ≡ false
    → ∥ IsFar x h ∥₁ → quotient_of (Ring z m) (Ring v n) ≡ Err NumberTooWide
far_answer z m v n f s h x p a o e g d i =
    wide_if (quotient_of (Ring z m) (Ring v n)) (λ none. ∥∥₁_elim i (λ k l. absurd k) (λ k. none (far_answer_of z m v n f s h x p a o e g d k)))

-- ---- a quotient times √2, again and again

pub record IsRaised (z : Element) (i : ℕ) (w : Element) : Type 0 where
  pub value : w ≡ times z (root_power i)
  pub bound : IsWithin (2 ^ 62) w

pub raised_first : (z : Element) → IsWithin (2 ^ 62) z → IsRaised z 0 z
raised_first z h = record { value = sym (times_unit_right z); bound = h }

raised_value : (z w v : Element) (i : ℕ) → v ≡ times root_two w → IsRaised z i w → v ≡ times z (root_power (i + 1))
raised_value z w v i e r = e ∙ root_times_power z w i r.value ∙ ap (λ (n : ℕ). times z (root_power n)) (let f : suc i ≡ i + 1 = omega arith in f)

pub raised_next : (z w v : Element) (i : ℕ) → v ≡ times root_two w → IsWithin (2 ^ 62) v → IsRaised z i w → IsRaised z (i + 1) v
raised_next z w v i e h r = record { value = raised_value z w v i e r; bound = h }

pub raised_none : (z w v : Element) (i k : ℕ) → v ≡ times root_two w → (IsWithin (2 ^ 62) v → ⊥) → i < k → IsRaised z i w → IsWithin (2 ^ 62) (times z (root_power k)) → ⊥
raised_none z w v i k e far less r h =
    let j = k - (i + 1) in
    let f : k ≡ i + 1 + j = omega (arith, less) in
    let g : times z (root_power k) ≡ times v (root_power j) =
    ap (λ (n : ℕ). times z (root_power n)) f ∙ ap (times z) (sym (root_power_sum (i + 1) j)) ∙ sym (times_assoc z (root_power (i + 1)) (root_power j))
    ∙ ap (λ (t : Element). times t (root_power j)) (sym (raised_value z w v i e r)) in
    far (power_within (2 ^ 62) v j (subst (IsWithin (2 ^ 62)) g h))

near_if : (z : ℤ) → nat_abs z ≤ 2 ^ 62 → is_near z ≡ true
near_if z h = le-leb (nat_abs z) (2 ^ 62) h

within_if : (z : Element) → IsWithin (2 ^ 62) z → is_within (Ring z 0) ≡ true
within_if z h = rw (near_if z.a h.a, near_if z.b h.b, near_if z.c h.c, near_if z.d h.d) refl

pub placed_near : (z w : Element) (up down : ℕ) → down < up → w ≡ times z (root_power (up - down)) → IsWithin (2 ^ 62) w → (let r : Result Exact Lack = Ok (Ring w 0) in r) ≡ bounded (Ok (least (times z (root_power up)) down))
placed_near z w up down less e h =
    sym (ap (λ (y : Exact). bounded (Ok y)) (least_raised z up down (omega (arith, less)) ∙ ap (λ (t : Element). Ring t 0) (sym e))
    ∙ ap (λ (b : Bool). if b then (let r : Result Exact Lack = Ok (Ring w 0) in r) else Err NumberTooWide) (within_if w h))

pub placed_far : (z : Element) (up down : ℕ) → down < up → (IsWithin (2 ^ 62) (times z (root_power (up - down))) → ⊥) → (let r : Result Exact Lack = Err NumberTooWide in r) ≡ bounded (Ok (least (times z (root_power up)) down))
placed_far z up down less far =
    sym (ap (λ (y : Exact). bounded (Ok y)) (least_raised z up down (omega (arith, less))) ∙ far_number (times z (root_power (up - down))) 0 far)

-- ---- 0

nought_times : (z w : Element) → is_zero z ≡ true → times z w ≡ nought
nought_times z w h = ap (λ (t : Element). times t w) (nought_if_zero z h) ∙ times_nought w

pub zero_divisor : (z : Element) (m : ℕ) (v : Element) (n : ℕ) → is_zero v ≡ true → quotient_of (Ring z m) (Ring v n) ≡ Err ZeroDivisor
zero_divisor z m v n h = ap bounded (quotient_by_zero (Ring z m) (Ring v n) (ap is_zero (nought_times v (root_power n) h)))

pub zero_dividend : (z : Element) (m : ℕ) (v : Element) (n : ℕ) → is_zero z ≡ true → is_zero v ≡ false → IsWithin (2 ^ 62) z → quotient_of (Ring z m) (Ring v n) ≡ Ok (Ring z 0)
zero_dividend z m v n h s w =
    ap bounded (ring_found z m v n z 0 s
    (ap (λ (t : Element). times t (root_power m)) (nought_times z v h) ∙ times_nought (root_power m)
    ∙ sym (ap (λ (t : Element). times t (root_power 0)) (nought_times z (root_power n) h) ∙ times_nought (root_power 0))))
    ∙ ap (λ (b : Bool). if b then (let r : Result Exact Lack = Ok (Ring z 0) in r) else Err NumberTooWide) (within_if z w)
