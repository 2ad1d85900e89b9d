-- What has no quotient: a value that is no ring number, over a ring number that is neither a rational nor a rational times i.
use Rattle.std.proofs.Common.{◌≡◌, refl, sym, ◌∙◌, ap, ap₂, subst, ℕ, zero, suc, ◌+◌, ◌*◌, ◌^◌, ◌<◌, ◌==◌, Bool, true, false, ◌&&◌, ◌||◌, Some, None, Result, Ok, Err, arith}
use Rattle.std.specs.Prelude.{ℤ, pos, negsuc, ◌*ℤ◌, ◌-ℤ◌, neg_ℤ, nat_abs}
use Rattle.std.specs.Int.{IsGcd, ◌∣◌}
use Rattle.std.proofs.lemmas.Int.{unsigned_abs-mul}
use Rattle.std.proofs.lemmas.Nat.{pow-add}
use Rattle.std.proofs.lemmas.Nat.Gcd.{IsGcd-swap}
use Rattle.std.proofs.Math.Nat.{mul-pos, mul_comm, dvd-mul_right}
use Rattle.qvm_ring.specs.Ring.{Element, nought, whole_number, times, is_zero}
use Rattle.qvm_ring.proofs.Associative.{times_assoc}
use Rattle.qvm_ring.proofs.Bits.{power_positive}
use Rattle.qvm_ring.proofs.Elements.{abs_neg, nought_if_zero, times_nought}
use Rattle.quil_number.specs.declared.fraction.Fraction.{Fraction}
use Rattle.quil_number.proofs.Fractions.{divides_other}
use Rattle.quil_value.specs.declared.lack.Lack.{Lack}
use Rattle.quil_value.specs.declared.lack.Lack.TheVariants.{NotExact}
use Rattle.quil_value.specs.declared.value.Kind.{Kind}
use Rattle.quil_value.specs.declared.value.Kind.TheVariants as kind
use Rattle.quil_value.specs.declared.value.RingNumber.{RingNumber}
use Rattle.quil_value.specs.Exact.{Exact, Ring, Rational, Pi, ImagPi, is_rational, is_imaginary, exponent_of_two, root_power, numerator, denominator, power_of_pi, scaled_by, settled, bounded, cofactor, whole_norm, quotient_of}
use Rattle.quil_value.specs.RealNumbers.{real_number, imaginary_number}
use Rattle.quil_value.specs.Forms.{IsForm, IsRational}
use Rattle.quil_value.specs.Value.{exact_of}
use Rattle.quil_value.specs.Views.{AreParts, is_lone, is_ring}
use Rattle.quil_value.proofs.Powers.{times_comm, whole_times, zero_factor}
use Rattle.quil_value.proofs.Twos.{exponent_is, power_divisor}
use Rattle.quil_value.proofs.Scales.{scaled_twice, scaled_first, scaled_second, cancel_scaled, is_zero_by, is_rational_by, is_imaginary_by}
use Rattle.quil_value.proofs.Settled.{zero_test}
use Rattle.quil_value.proofs.Identity.{not_none, rational_some}
use Rattle.quil_value.proofs.Quotients.{settled_number_same, settled_power_same}
use Rattle.quil_value.proofs.SettledForms.{IsSettled, settled_is, denominator_positive}
use Rattle.quil_value.proofs.WholeNorms.{times_cofactor, whole_norm_positive}
use Rattle.quil_value.proofs.LoneProducts.{real_times, imaginary_times, real_is, imaginary_if, imaginary_lone}
use Rattle.quil_value.proofs.SmallParts.{zero_parts, quotient_some}

-- ---- a rational times 1 or i stays one

pub is_lone_by : (z : Element) (c : ℕ) → 0 < c → is_lone (scaled_by c z) ≡ is_lone z
is_lone_by z c some = ap₂ (λ (s t : Bool). s || t) (is_rational_by z c some) (is_imaginary_by z c some)

zero_product : (p x : ℤ) → (nat_abs p == 0) ≡ false → (nat_abs (p *ℤ x) == 0) ≡ (nat_abs x == 0)
zero_product p x h =
    ap (λ (n : ℕ). n == 0) (unsigned_abs-mul p x)
    ∙ zero_test (nat_abs p * nat_abs x) (nat_abs x) (λ e. zero_factor (nat_abs x) (nat_abs p) (some (nat_abs p) h) (mul_comm (nat_abs x) (nat_abs p) ∙ e)) (λ e. ap (λ (n : ℕ). nat_abs p * n) e ∙ (omega arith))
  where
    some : (n : ℕ) → (n == 0) ≡ false → 0 < n
    some zero e = absurd (cc e)
    some (suc n) e = omega arith

zero_negated : (p x : ℤ) → (nat_abs p == 0) ≡ false → (nat_abs (neg_ℤ (p *ℤ x)) == 0) ≡ (nat_abs x == 0)
zero_negated p x h = ap (λ (n : ℕ). n == 0) (abs_neg (p *ℤ x)) ∙ zero_product p x h

lone_real : (p : ℤ) (z : Element) → (nat_abs p == 0) ≡ false → is_lone (times (real_number p) z) ≡ is_lone z
lone_real p z h =
    ap is_lone (real_times p z)
    ∙ cc (zero_product p z.a h, zero_product p z.b h, zero_product p z.c h, zero_product p z.d h)

turned_tests : (a b c d : Bool) → ((d && a && b) || (c && d && b)) ≡ ((b && c && d) || (a && b && d))
turned_tests true true true true = refl
turned_tests true true true false = refl
turned_tests true true false true = refl
turned_tests true true false false = refl
turned_tests true false true true = refl
turned_tests true false true false = refl
turned_tests true false false true = refl
turned_tests true false false false = refl
turned_tests false true true true = refl
turned_tests false true true false = refl
turned_tests false true false true = refl
turned_tests false true false false = refl
turned_tests false false true true = refl
turned_tests false false true false = refl
turned_tests false false false true = refl
turned_tests false false false false = refl

abbrev tests_of : Bool → Bool → Bool → Bool → Bool
tests_of a b c d = (b && c && d) || (a && b && d)

lone_imaginary : (p : ℤ) (z : Element) → (nat_abs p == 0) ≡ false → is_lone (times (imaginary_number p) z) ≡ is_lone z
lone_imaginary p z h =
    ap is_lone (imaginary_times p z)
    ∙ ap₂ (λ (s t : Bool). tests_of s t (nat_abs (p *ℤ z.a) == 0) (nat_abs (p *ℤ z.b) == 0)) (zero_negated p z.c h) (zero_negated p z.d h)
    ∙ ap₂ (λ (s t : Bool). tests_of (nat_abs z.c == 0) (nat_abs z.d == 0) s t) (zero_product p z.a h) (zero_product p z.b h)
    ∙ turned_tests (nat_abs z.a == 0) (nat_abs z.b == 0) (nat_abs z.c == 0) (nat_abs z.d == 0)

real_some : (p : ℤ) → is_zero (real_number p) ≡ false → (nat_abs p == 0) ≡ false
real_some p h = first (nat_abs p == 0) h
  where
    first : (s : Bool) → (s && true && true && true) ≡ false → s ≡ false
    first true e = e
    first false e = refl

imaginary_some : (p : ℤ) → is_zero (imaginary_number p) ≡ false → (nat_abs p == 0) ≡ false
imaginary_some p h = third (nat_abs p == 0) h
  where
    third : (s : Bool) → (true && true && s && true) ≡ false → s ≡ false
    third true e = e
    third false e = refl

pub lone_times : (u z : Element) → is_lone u ≡ true → is_zero u ≡ false → is_lone (times u z) ≡ is_lone z
lone_times u z h some = elim (is_rational u) as (λ b. is_rational u ≡ b → is_lone (times u z) ≡ is_lone z) [
  | true ↦ λ e.
      let same = real_is u e in
      ap (λ (t : Element). is_lone (times t z)) (sym same) ∙ lone_real u.a z (real_some u.a (ap is_zero same ∙ some))
  | false ↦ λ e.
      let same = imaginary_if u h e in
      ap (λ (t : Element). is_lone (times t z)) (sym same) ∙ lone_imaginary u.c z (imaginary_some u.c (ap is_zero same ∙ some))
] refl

-- ---- values that are no ring numbers

pub numerator_lone : (x : Exact) → is_ring x ≡ false → is_lone (numerator x) ≡ true
numerator_lone (Ring z m) h = absurd (let f : true ≡ false = h in cc f)
numerator_lone (Rational x) h = refl
numerator_lone (Pi x) h = refl
numerator_lone (ImagPi x) h = imaginary_lone x.p

pub numerator_some : (x : Exact) → IsForm x → is_ring x ≡ false → is_zero (numerator x) ≡ false
numerator_some (Ring z m) h r = absurd (let f : true ≡ false = r in cc f)
numerator_some (Rational x) h r = ap (λ (s : Bool). s && true && true && true) (rational_some x h)
numerator_some (Pi x) h r = ap (λ (s : Bool). s && true && true && true) (not_none (nat_abs x.p) h.some)
numerator_some (ImagPi x) h r = ap (λ (s : Bool). true && true && s && true) (not_none (nat_abs x.p) h.some)

pub lone_parts : (x : Exact) (z : Element) (n : ℕ) (k : ℤ) → AreParts x z n k → is_lone (numerator x) ≡ is_lone z
lone_parts x z n k h = sym (is_lone_by (numerator x) n h.some) ∙ ap is_lone (sym h.same) ∙ is_lone_by z (denominator x) (denominator_positive x h.value.form)

-- ---- a quotient w of x by y

abbrev top : Exact → Exact → Element
top x y = scaled_by (denominator y) (times (numerator x) (cofactor (numerator y)))

abbrev bottom : Exact → Exact → ℕ
bottom x y = denominator x * whole_norm (numerator y)

-- the quotient's numerator, times the divisor
top_times : (x y : Exact) → times (top x y) (numerator y) ≡ scaled_by (denominator y * whole_norm (numerator y)) (numerator x)
top_times x y =
    let b = denominator y in
    let v = numerator y in
    scaled_first b (times (numerator x) (cofactor v)) v
    ∙ ap (scaled_by b) (times_assoc (numerator x) (cofactor v) v ∙ ap (times (numerator x)) (times_comm (cofactor v) v ∙ times_cofactor v) ∙ times_comm (numerator x) (whole_number (whole_norm v)))
    ∙ scaled_twice b (whole_norm v) (numerator x)

-- d (w y) = c x, for whole numbers d and c
pub quotient_times : (x y w : Exact) → IsForm x → is_zero (numerator y) ≡ false → scaled_by (bottom x y) (numerator w) ≡ scaled_by (denominator w) (top x y)
    → scaled_by (denominator x) (times (numerator w) (numerator y)) ≡ scaled_by (denominator w * denominator y) (numerator x)
quotient_times x y w h s e =
    let d = denominator x in
    let b = denominator y in
    let c = denominator w in
    let n = whole_norm (numerator y) in
    cancel_scaled n (scaled_by d (times (numerator w) (numerator y))) (scaled_by (c * b) (numerator x)) (whole_norm_positive (numerator y) s)
    (scaled_twice n d (times (numerator w) (numerator y)) ∙ ap (λ (i : ℕ). scaled_by i (times (numerator w) (numerator y))) (mul_comm n d)
    ∙ sym (scaled_first (d * n) (numerator w) (numerator y)) ∙ ap (λ (t : Element). times t (numerator y)) e
    ∙ scaled_first c (top x y) (numerator y) ∙ ap (scaled_by c) (top_times x y) ∙ scaled_twice c (b * n) (numerator x)
    ∙ ap (λ (i : ℕ). scaled_by i (numerator x)) (let f : c * (b * n) ≡ n * (c * b) = omega arith in f) ∙ sym (scaled_twice n (c * b) (numerator x)))

-- one that is no ring number leaves the divisor a rational times 1 or i
not_other : (x y w : Exact) → IsForm x → IsForm y → IsForm w → is_ring x ≡ false → is_ring w ≡ false
    → scaled_by (denominator x) (times (numerator w) (numerator y)) ≡ scaled_by (denominator w * denominator y) (numerator x) → is_lone (numerator y) ≡ true
not_other x y w h i j r s e =
    sym (lone_times (numerator w) (numerator y) (numerator_lone w s) (numerator_some w j s))
    ∙ sym (is_lone_by (times (numerator w) (numerator y)) (denominator x) (denominator_positive x h))
    ∙ ap is_lone e
    ∙ is_lone_by (numerator x) (denominator w * denominator y) (mul-pos (denominator_positive w j) (denominator_positive y i))
    ∙ numerator_lone x r

-- a ring number is no quotient of a rational by one: the rational's denominator would divide a power of two
not_rational : (x : Fraction) (z v : Element) (m j : ℕ) → IsRational x → scaled_by x.q (times (times z (root_power j)) (times v (root_power m))) ≡ scaled_by (2 ^ j * 2 ^ m) (real_number x.p) → ⊥
not_rational x z v m j h e =
    let t = times (times z (root_power j)) (times v (root_power m)) in
    let s : scaled_by x.q t ≡ scaled_by (2 ^ (j + m)) (real_number x.p) = e ∙ ap (λ (i : ℕ). scaled_by i (real_number x.p)) (sym (pow-add 2 j m)) in
    let f : pos x.q *ℤ t.a ≡ pos (2 ^ (j + m)) *ℤ x.p = sym (ap (λ (y : Element). y.a) (real_times (pos x.q) t)) ∙ ap (λ (y : Element). y.a) s ∙ ap (λ (y : Element). y.a) (real_times (pos (2 ^ (j + m))) (real_number x.p)) in
    let g : x.q * nat_abs t.a ≡ nat_abs x.p * 2 ^ (j + m) = sym (unsigned_abs-mul (pos x.q) t.a) ∙ ap nat_abs f ∙ unsigned_abs-mul (pos (2 ^ (j + m))) x.p ∙ mul_comm (2 ^ (j + m)) (nat_abs x.p) in
    let part : x.q ∣ nat_abs x.p * 2 ^ (j + m) = subst (λ (n : ℕ). x.q ∣ n) g (dvd-mul_right x.q (nat_abs t.a)) in
    let power = power_divisor (j + m) x.q (divides_other x.q (nat_abs x.p) (2 ^ (j + m)) (IsGcd-swap (nat_abs x.p) x.q 1 h.form.lowest) part) in
    let found : Some power.0 ≡ None = sym (ap exponent_of_two power.1 ∙ exponent_is power.0) ∙ h.other in
    absurd (cc found)

-- nor of a multiple of π
not_angle : (x y : Exact) (z : Element) (j : ℕ) → IsForm x → IsForm y → is_ring x ≡ false → is_zero (numerator y) ≡ false → power_of_pi x -ℤ power_of_pi y ≡ pos 1
    → settled (top x y) (bottom x y) (power_of_pi x -ℤ power_of_pi y) ≡ Ok (Ring z j) → ⊥
not_angle x y z j h i r s k e =
    let n = whole_norm (numerator y) in
    let some : 0 < denominator y * n = mul-pos (denominator_positive y i) (whole_norm_positive (numerator y) s) in
    let up : 0 < bottom x y = mul-pos (denominator_positive x h) (whole_norm_positive (numerator y) s) in
    elim (is_zero (top x y)) as (λ b. is_zero (top x y) ≡ b → ⊥) [
      | true ↦ λ f.
          let none : is_zero (numerator x) ≡ true =
          sym (is_zero_by (numerator x) (denominator y * n) some) ∙ ap is_zero (sym (top_times x y)) ∙ ap (λ (t : Element). is_zero (times t (numerator y))) (nought_if_zero (top x y) f) ∙ ap is_zero (times_nought (numerator y)) in
          absurd (let g : true ≡ false = sym none ∙ numerator_some x h r in cc g)
      | false ↦ λ f. absurd (let g : pos 0 ≡ pos 1 = settled_power_same (top x y) (bottom x y) (power_of_pi x -ℤ power_of_pi y) (Ring z j) e up f ∙ k in cc g)
    ] refl

not_ring : (x y : Exact) (z : Element) (j : ℕ) → IsForm x → IsForm y → is_ring x ≡ false → is_ring y ≡ true → is_zero (numerator y) ≡ false
    → settled (top x y) (bottom x y) (power_of_pi x -ℤ power_of_pi y) ≡ Ok (Ring z j)
    → scaled_by (denominator x) (times (numerator (Ring z j)) (numerator y)) ≡ scaled_by (2 ^ j * denominator y) (numerator x) → ⊥
not_ring x (Rational y) z j h i r s o e f = absurd (let g : false ≡ true = s in cc g)
not_ring x (Pi y) z j h i r s o e f = absurd (let g : false ≡ true = s in cc g)
not_ring x (ImagPi y) z j h i r s o e f = absurd (let g : false ≡ true = s in cc g)
not_ring (Ring u l) (Ring v m) z j h i r s o e f = absurd (let g : true ≡ false = r in cc g)
not_ring (Rational x) (Ring v m) z j h i r s o e f = not_rational x z v m j h f
not_ring (Pi x) (Ring v m) z j h i r s o e f = not_angle (Pi x) (Ring v m) z j h i r o refl e
not_ring (ImagPi x) (Ring v m) z j h i r s o e f = not_angle (ImagPi x) (Ring v m) z j h i r o refl e

not_quotient : (x y w : Exact) → IsForm x → IsForm y → IsForm w → is_ring x ≡ false → is_ring y ≡ true → is_zero (numerator y) ≡ false → is_lone (numerator y) ≡ false
    → settled (top x y) (bottom x y) (power_of_pi x -ℤ power_of_pi y) ≡ Ok w → ⊥
not_quotient x y w h i j r s o l e =
    let up : 0 < bottom x y = mul-pos (denominator_positive x h) (whole_norm_positive (numerator y) o) in
    let same = quotient_times x y w h o (settled_number_same (top x y) (bottom x y) (power_of_pi x -ℤ power_of_pi y) w e up) in
    by_kind w j e same
  where
    other : (w : Exact) → IsForm w → is_ring w ≡ false → scaled_by (denominator x) (times (numerator w) (numerator y)) ≡ scaled_by (denominator w * denominator y) (numerator x) → ⊥
    other w j q f = absurd (let g : true ≡ false = sym (not_other x y w h i j r q f) ∙ l in cc g)

    by_kind : (w : Exact) → IsForm w → settled (top x y) (bottom x y) (power_of_pi x -ℤ power_of_pi y) ≡ Ok w
        → scaled_by (denominator x) (times (numerator w) (numerator y)) ≡ scaled_by (denominator w * denominator y) (numerator x) → ⊥
    by_kind (Ring z n) j e f = not_ring x y z n h i r s o e f
    by_kind (Rational v) j e f = other (Rational v) j refl f
    by_kind (Pi v) j e f = other (Pi v) j refl f
    by_kind (ImagPi v) j e f = other (ImagPi v) j refl f

lack_of : (r : Result Exact Lack) → IsSettled r → ((w : Exact) → IsForm w → r ≡ Ok w → ⊥) → r ≡ Err NotExact
lack_of (Ok w) h none = absurd (none w h refl)
lack_of (Err e) h none = ap (λ (l : Lack). let r : Result Exact Lack = Err l in r) h

ring_divisor : (y : Exact) (w : Element) (m : ℕ) (j : ℤ) → AreParts y w m j → is_lone w ≡ false → is_ring y ≡ true
ring_divisor (Ring v n) w m j h e = refl
ring_divisor (Rational v) w m j h e = absurd (let g : true ≡ false = sym (h.lone refl) ∙ e in cc g)
ring_divisor (Pi v) w m j h e = absurd (let g : true ≡ false = sym (h.lone refl) ∙ e in cc g)
ring_divisor (ImagPi v) w m j h e = absurd (let g : true ≡ false = sym (h.lone refl) ∙ e in cc g)

other_dividend : (s t : Bool) → (s && t) ≡ false → t ≡ true → s ≡ false
other_dividend true t h e = absurd (let g : true ≡ false = sym e ∙ h in cc g)
other_dividend false t h e = refl

pub quotient_none : (x y : Exact) (z w : Element) (n m : ℕ) (k j : ℤ) → AreParts x z n k → AreParts y w m j → is_zero w ≡ false → is_lone w ≡ false → (is_ring x && is_ring y) ≡ false → Err NotExact ≡ quotient_of x y
quotient_none x y z w n m k j h i s l r =
    let ring : is_ring y ≡ true = ring_divisor y w m j i l in
    let other : is_ring x ≡ false = other_dividend (is_ring x) (is_ring y) r ring in
    let some : is_zero (numerator y) ≡ false = zero_parts y w m j i ∙ s in
    let odd : is_lone (numerator y) ≡ false = lone_parts y w m j i ∙ l in
    let up : 0 < bottom x y = mul-pos (denominator_positive x h.value.form) (whole_norm_positive (numerator y) some) in
    sym (ap bounded (lack_of (settled (top x y) (bottom x y) (power_of_pi x -ℤ power_of_pi y)) (settled_is (top x y) (bottom x y) (power_of_pi x -ℤ power_of_pi y) up)
    (λ v q e. not_quotient x y v h.value.form i.value.form q other ring some odd e)))
    ∙ quotient_some x y w m j i s

-- ---- what kinds two values aren't

pub other_kind : (k : Kind) (x : Exact) → exact_of k ≡ x → ((r : RingNumber) → k ≡ kind.Ring r → ⊥) → is_ring x ≡ false
other_kind (kind.Ring r) x e none = absurd (none r refl)
other_kind (kind.Rational r) x e none = ap is_ring (sym e)
other_kind (kind.Pi r) x e none = ap is_ring (sym e)
other_kind (kind.ImagPi r) x e none = ap is_ring (sym e)

pub apart_left : (s t : Bool) → s ≡ false → (s && t) ≡ false
apart_left s t e = ap (λ (r : Bool). r && t) e

pub apart_right : (s t : Bool) → t ≡ false → (s && t) ≡ false
apart_right true t e = e
apart_right false t e = refl
