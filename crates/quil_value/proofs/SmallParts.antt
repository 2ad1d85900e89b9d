-- Sums, products and quotients by the parts of values.
use Rattle.std.proofs.Common.{◌≡◌, refl, sym, ◌∙◌, ap, ap₂, ℕ, suc, ◌+◌, ◌*◌, ◌^◌, ◌<◌, Bool, true, false, Result, Ok, Err, if◌then◌else◌, arith}
use Rattle.std.specs.Prelude.{ℤ, pos, ◌+ℤ◌, ◌-ℤ◌, neg_ℤ}
use Rattle.std.specs.Ordering.{int_eq}
use Rattle.std.proofs.lemmas.Bool.Decides.{Decides-int_eq}
use Rattle.std.proofs.lemmas.Nat.{pow-add}
use Rattle.std.proofs.Math.Nat.{mul-pos, mul_comm}
use Rattle.std.proofs.Math.IntN.{+ℤ_comm}
use Rattle.qvm_ring.specs.Ring.{Element, whole_number, plus, times, root_two, is_zero}
use Rattle.qvm_ring.proofs.Associative.{times_assoc, times_plus}
use Rattle.qvm_ring.proofs.Bits.{power_positive}
use Rattle.quil_number.specs.declared.fraction.Fraction.{Fraction}
use Rattle.quil_value.specs.declared.lack.Lack.{Lack}
use Rattle.quil_value.specs.declared.lack.Lack.TheVariants.{NotExact, ZeroDivisor, NumberTooWide}
use Rattle.quil_value.specs.Exact.{Exact, Ring, Rational, Pi, ImagPi, root_power, numerator, denominator, power_of_pi, scaled_by, settled, bounded, is_within, cofactor, whole_norm, exact_sum, exact_product, exact_quotient, sum_of, product_of, quotient_of}
use Rattle.quil_value.specs.RealNumbers.{real_number, imaginary_number}
use Rattle.quil_value.specs.Value.{IsValue}
use Rattle.quil_value.specs.Views.{AreParts, is_lone, is_ring}
use Rattle.quil_value.proofs.Powers.{times_comm, whole_times, root_power_twice}
use Rattle.quil_value.proofs.LoneProducts.{imaginary_lone}
use Rattle.quil_value.proofs.Scales.{scaled_twice, scaled_plus, scaled_first, scaled_second, scaled_both, cancel_scaled, crossed, is_zero_by}
use Rattle.quil_value.proofs.Settled.{same_settled}
use Rattle.quil_value.proofs.SettledForms.{denominator_positive}
use Rattle.quil_value.proofs.WholeNorms.{times_cofactor, whole_norm_positive}

-- ---- the parts of a value

twofold_power : (h m : ℕ) → m ≡ 2 * h → 2 ^ h * 2 ^ h ≡ 2 ^ m
twofold_power h m e = sym (pow-add 2 h h) ∙ ap (λ (i : ℕ). 2 ^ i) (let f : h + h ≡ m = omega (arith, e) in f)

-- z √2^m, over 2^m, for m = 2h
pub even_parts : (z : Element) (m h : ℕ) → IsValue (Ring z m) → m ≡ 2 * h → AreParts (Ring z m) z (2 ^ h) (pos 0)
even_parts z m h v e = record {
  value = v;
  same = sym (ap (λ (t : Element). scaled_by (2 ^ h) (times z t)) (ap root_power e ∙ root_power_twice h)
      ∙ ap (scaled_by (2 ^ h)) (times_comm z (whole_number (2 ^ h)))
      ∙ scaled_twice (2 ^ h) (2 ^ h) z ∙ ap (λ (i : ℕ). scaled_by i z) (twofold_power h m e));
  some = power_positive h;
  power = refl;
  lone = λ r. absurd (let f : true ≡ false = r in cc f);
}

next_power : (h m : ℕ) → m ≡ suc (2 * h) → 2 ^ suc h * 2 ^ h ≡ 2 ^ m
next_power h m e = sym (pow-add 2 (suc h) h) ∙ ap (λ (i : ℕ). 2 ^ i) (let f : suc h + h ≡ m = omega (arith, e) in f)

-- and for m = 2h + 1
pub odd_parts : (z w : Element) (m h : ℕ) → IsValue (Ring z m) → m ≡ suc (2 * h) → w ≡ times root_two z → AreParts (Ring z m) w (2 ^ suc h) (pos 0)
odd_parts z w m h v e f = record {
  value = v;
  same = ap (scaled_by (2 ^ m)) f ∙ sym (ap (λ (t : Element). scaled_by (2 ^ suc h) (times z t)) (ap root_power e ∙ ap (times root_two) (root_power_twice h))
      ∙ ap (scaled_by (2 ^ suc h)) (sym (times_assoc z root_two (whole_number (2 ^ h))) ∙ times_comm (times z root_two) (whole_number (2 ^ h)) ∙ ap (scaled_by (2 ^ h)) (times_comm z root_two))
      ∙ scaled_twice (2 ^ suc h) (2 ^ h) (times root_two z) ∙ ap (λ (i : ℕ). scaled_by i (times root_two z)) (next_power h m e));
  some = power_positive (suc h);
  power = refl;
  lone = λ r. absurd (let g : true ≡ false = r in cc g);
}

pub rational_parts : (x : Fraction) → IsValue (Rational x) → AreParts (Rational x) (real_number x.p) x.q (pos 0)
rational_parts x v = record { value = v; same = refl; some = v.form.form.some; power = refl; lone = λ r. refl }

pub pi_parts : (x : Fraction) → IsValue (Pi x) → AreParts (Pi x) (real_number x.p) x.q (pos 1)
pi_parts x v = record { value = v; same = refl; some = v.form.form.some; power = refl; lone = λ r. refl }

pub imag_pi_parts : (x : Fraction) → IsValue (ImagPi x) → AreParts (ImagPi x) (imaginary_number x.p) x.q (pos 1)
imag_pi_parts x v = record { value = v; same = refl; some = v.form.form.some; power = refl; lone = λ r. imaginary_lone x.p }

-- a value is 0 where its parts are
pub zero_parts : (x : Exact) (z : Element) (n : ℕ) (k : ℤ) → AreParts x z n k → is_zero (numerator x) ≡ is_zero z
zero_parts x z n k h = sym (is_zero_by (numerator x) n h.some) ∙ ap is_zero (sym h.same) ∙ is_zero_by z (denominator x) (denominator_positive x h.value.form)

-- ---- sums

-- a sum by the tests that it makes
abbrev by_tests : Bool → Bool → Bool → Exact → Exact → Result Exact Lack → Result Exact Lack
by_tests s t same x y both = if s then Ok y else (if t then Ok x else (if same then both else Err NotExact))

abbrev both_of : Exact → Exact → Result Exact Lack
both_of x y = settled (plus (scaled_by (denominator y) (numerator x)) (scaled_by (denominator x) (numerator y))) (denominator x * denominator y) (power_of_pi x)

within_again : (x : Exact) → IsValue x → (let r : Result Exact Lack = Ok x in r) ≡ bounded (Ok x)
within_again x v = sym (ap (λ (b : Bool). (let r : Result Exact Lack = (if b then Ok x else Err NumberTooWide) in r)) v.within)

-- 0 + y
pub sum_left : (x y : Exact) (z : Element) (n : ℕ) (k : ℤ) → AreParts x z n k → IsValue y → is_zero z ≡ true → Ok y ≡ sum_of x y
sum_left x y z n k h v e =
    within_again y v
    ∙ sym (ap (λ (b : Bool). bounded (by_tests b (is_zero (numerator y)) (int_eq (power_of_pi x) (power_of_pi y)) x y (both_of x y))) (zero_parts x z n k h ∙ e))

-- x + 0
pub sum_right : (x y : Exact) (z w : Element) (n m : ℕ) (k j : ℤ) → AreParts x z n k → AreParts y w m j → is_zero z ≡ false → is_zero w ≡ true → Ok x ≡ sum_of x y
sum_right x y z w n m k j h i e f =
    within_again x h.value
    ∙ sym (ap₂ (λ (b c : Bool). bounded (by_tests b c (int_eq (power_of_pi x) (power_of_pi y)) x y (both_of x y))) (zero_parts x z n k h ∙ e) (zero_parts y w m j i ∙ f))

other_sum : (x y : Exact) (z w : Element) (n m : ℕ) (k j : ℤ) → AreParts x z n k → AreParts y w m j → is_zero z ≡ false → is_zero w ≡ false → sum_of x y ≡ bounded (if int_eq k j then both_of x y else Err NotExact)
other_sum x y z w n m k j h i e f =
    ap₂ (λ (b c : Bool). bounded (by_tests b c (int_eq (power_of_pi x) (power_of_pi y)) x y (both_of x y))) (zero_parts x z n k h ∙ e) (zero_parts y w m j i ∙ f)
    ∙ ap₂ (λ (p q : ℤ). bounded (if int_eq p q then both_of x y else Err NotExact)) (sym h.power) (sym i.power)

-- powers of π that differ
pub sum_apart : (x y : Exact) (z w : Element) (n m : ℕ) (k j : ℤ) → AreParts x z n k → AreParts y w m j → is_zero z ≡ false → is_zero w ≡ false → int_eq k j ≡ false → Err NotExact ≡ sum_of x y
sum_apart x y z w n m k j h i e f g =
    sym (other_sum x y z w n m k j h i e f ∙ ap (λ (b : Bool). bounded (if b then both_of x y else Err NotExact)) g)

-- z/n + w/m over n m
sum_same : (x y : Exact) (z w : Element) (n m : ℕ) (k j : ℤ) → AreParts x z n k → AreParts y w m j
    → scaled_by (denominator x * denominator y) (plus (scaled_by m z) (scaled_by n w)) ≡ scaled_by (n * m) (plus (scaled_by (denominator y) (numerator x)) (scaled_by (denominator x) (numerator y)))
sum_same x y z w n m k j h i =
    let d = denominator x in
    let b = denominator y in
    scaled_plus (d * b) (scaled_by m z) (scaled_by n w)
    ∙ ap₂ plus
    (crossed d n (d * b) m (b * m) (n * m) b z (numerator x) h.same (let e : d * b * m ≡ b * m * d = omega arith in e) (let e : b * m * n ≡ n * m * b = omega arith in e))
    (crossed b m (d * b) n (d * n) (n * m) d w (numerator y) i.same (let e : d * b * n ≡ d * n * b = omega arith in e) (let e : d * n * m ≡ n * m * d = omega arith in e))
    ∙ sym (scaled_plus (n * m) (scaled_by b (numerator x)) (scaled_by d (numerator y)))

pub sum_both : (x y : Exact) (z w : Element) (n m : ℕ) (k j : ℤ) → AreParts x z n k → AreParts y w m j → is_zero z ≡ false → is_zero w ≡ false → int_eq k j ≡ true → bounded (settled (plus (scaled_by m z) (scaled_by n w)) (n * m) k) ≡ sum_of x y
sum_both x y z w n m k j h i e f g =
    let d = denominator x in
    let b = denominator y in
    ap bounded (same_settled (plus (scaled_by m z) (scaled_by n w)) (n * m) (plus (scaled_by b (numerator x)) (scaled_by d (numerator y))) (d * b) k
    (mul-pos h.some i.some) (mul-pos (denominator_positive x h.value.form) (denominator_positive y i.value.form)) (sum_same x y z w n m k j h i)
    ∙ ap (settled (plus (scaled_by b (numerator x)) (scaled_by d (numerator y))) (d * b)) h.power)
    ∙ sym (other_sum x y z w n m k j h i e f ∙ ap (λ (c : Bool). bounded (if c then both_of x y else Err NotExact)) g)

-- ---- products

pub product_left : (x y : Exact) (z w : Element) (n m : ℕ) (k j : ℤ) → AreParts x z n k → AreParts y w m j → bounded (settled (times z w) (n * m) (k +ℤ j)) ≡ product_of x y
product_left x y z w n m k j h i =
    let d = denominator x in
    let b = denominator y in
    ap bounded (same_settled (times z w) (n * m) (times (numerator x) (numerator y)) (d * b) (k +ℤ j)
    (mul-pos h.some i.some) (mul-pos (denominator_positive x h.value.form) (denominator_positive y i.value.form))
    (sym (scaled_both d b z w) ∙ ap₂ times h.same i.same ∙ scaled_both n m (numerator x) (numerator y))
    ∙ ap₂ (λ (p q : ℤ). settled (times (numerator x) (numerator y)) (d * b) (p +ℤ q)) h.power i.power)

pub product_right : (x y : Exact) (z w : Element) (n m : ℕ) (k j : ℤ) → AreParts x z n k → AreParts y w m j → bounded (settled (times w z) (m * n) (j +ℤ k)) ≡ product_of x y
product_right x y z w n m k j h i =
    ap bounded (ap₂ (λ (t : Element) (c : ℕ). settled t c (j +ℤ k)) (times_comm w z) (mul_comm m n) ∙ ap (settled (times z w) (n * m)) (+ℤ_comm j k))
    ∙ product_left x y z w n m k j h i

-- ---- quotients

abbrev quotient_settled : Exact → Exact → Result Exact Lack
quotient_settled x y = settled (scaled_by (denominator y) (times (numerator x) (cofactor (numerator y)))) (denominator x * whole_norm (numerator y)) (power_of_pi x -ℤ power_of_pi y)

pub quotient_zero : (x y : Exact) (w : Element) (m : ℕ) (j : ℤ) → AreParts y w m j → is_zero w ≡ true → Err ZeroDivisor ≡ quotient_of x y
quotient_zero x y w m j i e = sym (ap (λ (b : Bool). bounded (if b then Err ZeroDivisor else quotient_settled x y)) (zero_parts y w m j i ∙ e))

pub quotient_some : (x y : Exact) (w : Element) (m : ℕ) (j : ℤ) → AreParts y w m j → is_zero w ≡ false → bounded (quotient_settled x y) ≡ quotient_of x y
quotient_some x y w m j i e = sym (ap (λ (b : Bool). bounded (if b then Err ZeroDivisor else quotient_settled x y)) (zero_parts y w m j i ∙ e))

-- u/i is 1 over w/m
inverse_norm : (y : Exact) (w u : Element) (m i : ℕ) (j : ℤ) → AreParts y w m j → times u w ≡ whole_number (i * m) → scaled_by (whole_norm (numerator y)) u ≡ scaled_by (denominator y * i) (cofactor (numerator y))
inverse_norm y w u m i j h e =
    let b = denominator y in
    let v = numerator y in
    let over : scaled_by m (times u v) ≡ scaled_by m (whole_number (b * i)) =
    sym (scaled_second m u v) ∙ ap (times u) (sym h.same) ∙ scaled_second b u w ∙ ap (scaled_by b) e
    ∙ whole_times b (i * m) ∙ ap whole_number (let f : b * (i * m) ≡ m * (b * i) = omega arith in f) ∙ sym (whole_times m (b * i)) in
    times_comm (whole_number (whole_norm v)) u ∙ ap (times u) (sym (times_cofactor v)) ∙ sym (times_assoc u v (cofactor v))
    ∙ ap (λ (t : Element). times t (cofactor v)) (cancel_scaled m (times u v) (whole_number (b * i)) h.some over)

quotient_same : (x y : Exact) (z w u : Element) (n m i : ℕ) (k j : ℤ) → AreParts x z n k → AreParts y w m j → times u w ≡ whole_number (i * m)
    → scaled_by (denominator x * whole_norm (numerator y)) (times u z) ≡ scaled_by (i * n) (scaled_by (denominator y) (times (numerator x) (cofactor (numerator y))))
quotient_same x y z w u n m i k j h l e =
    let d = denominator x in
    let b = denominator y in
    let c = cofactor (numerator y) in
    let norm = whole_norm (numerator y) in
    ap (λ (a : ℕ). scaled_by a (times u z)) (mul_comm d norm)
    ∙ sym (scaled_both norm d u z) ∙ ap₂ times (inverse_norm y w u m i j l e) h.same
    ∙ scaled_both (b * i) n c (numerator x) ∙ ap (λ (a : ℕ). scaled_by a (times c (numerator x))) (let f : b * i * n ≡ i * n * b = omega arith in f)
    ∙ sym (scaled_twice (i * n) b (times c (numerator x))) ∙ ap (λ (t : Element). scaled_by (i * n) (scaled_by b t)) (times_comm c (numerator x))

pub quotient_by : (x y : Exact) (z w u : Element) (n m i : ℕ) (k j l : ℤ) → AreParts x z n k → AreParts y w m j → is_zero w ≡ false → times u w ≡ whole_number (i * m) → 0 < i → l ≡ neg_ℤ j
    → bounded (settled (times u z) (i * n) (l +ℤ k)) ≡ quotient_of x y
quotient_by x y z w u n m i k j l h o s e some f =
    let d = denominator x in
    let b = denominator y in
    let c = cofactor (numerator y) in
    let norm = whole_norm (numerator y) in
    let top = scaled_by b (times (numerator x) c) in
    ap bounded (same_settled (times u z) (i * n) top (d * norm) (l +ℤ k)
    (mul-pos some h.some) (mul-pos (denominator_positive x h.value.form) (whole_norm_positive (numerator y) (zero_parts y w m j o ∙ s)))
    (quotient_same x y z w u n m i k j h o e)
    ∙ ap (settled top (d * norm)) (ap₂ (λ (p q : ℤ). p +ℤ q) f h.power ∙ +ℤ_comm (neg_ℤ j) (power_of_pi x) ∙ ap (λ (p : ℤ). power_of_pi x -ℤ p) o.power))
    ∙ quotient_some x y w m j o s
