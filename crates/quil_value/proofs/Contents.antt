-- What divides n and all coordinates of z.
use Rattle.std.proofs.Common.{◌≡◌, sym, ◌∙◌, ap, subst, ℕ, zero, suc, ◌*◌, ◌/◌, ◌<◌, arith}
use Rattle.std.specs.Prelude.{ℤ, pos, negsuc, ◌*ℤ◌, neg_ℤ, nat_abs, int_div}
use Rattle.std.specs.Int.{◌∣◌}
use Rattle.std.proofs.lemmas.Int.{unsigned_abs-mul}
use Rattle.std.proofs.lemmas.Nat.Gcd.{dvd_trans, dvd-zero, dvd_refl}
use Rattle.std.proofs.Math.Nat.{div-mul_cancel, pos_of_dvd_of_pos, dvd-mul_left, dvd_of_mul-dvd-mul_right, mul_comm}
use Rattle.qvm_ring.specs.Ring.{Element, whole_number, times}
use Rattle.qvm_ring.proofs.RingLemmas.{same_element, neg_product}
use Rattle.quil_number.specs.Divisor.{common_divisor}
use Rattle.quil_number.proofs.Divisors.{common_divisor_is, common_divisor_from}
use Rattle.quil_number.proofs.Fractions.{common_divisor-scaled}
use Rattle.quil_value.specs.Exact.{content, divided_by}
use Rattle.quil_value.proofs.Spans.{scaled, times_whole}

pub record DividesAll (g : ℕ) (z : Element) (n : ℕ) : Type 0 where
  pub a : g ∣ nat_abs z.a
  pub b : g ∣ nat_abs z.b
  pub c : g ∣ nat_abs z.c
  pub d : g ∣ nat_abs z.d
  pub whole : g ∣ n

pub content_divides : (z : Element) (n : ℕ) → DividesAll (content z n) z n
content_divides z n =
    let fourth = common_divisor_is (nat_abs z.d) n in
    let third = common_divisor_is (nat_abs z.c) (common_divisor (nat_abs z.d) n) in
    let second = common_divisor_is (nat_abs z.b) (common_divisor (nat_abs z.c) (common_divisor (nat_abs z.d) n)) in
    let first = common_divisor_is (nat_abs z.a) (common_divisor (nat_abs z.b) (common_divisor (nat_abs z.c) (common_divisor (nat_abs z.d) n))) in
    let in_second = dvd_trans (content z n) first.1 second.1 in
    let in_third = dvd_trans (content z n) in_second third.1 in
    record {
      a = first.0;
      b = dvd_trans (content z n) first.1 second.0;
      c = dvd_trans (content z n) in_second third.0;
      d = dvd_trans (content z n) in_third fourth.0;
      whole = dvd_trans (content z n) in_third fourth.1;
    }

-- what divides all of it k times divides k times the greatest divisor
common_scaled : (k a b m : ℕ) → 0 < k → m ∣ k * a → m ∣ k * b → m ∣ k * common_divisor a b
common_scaled k a b m some h i = subst (λ n. m ∣ n) (common_divisor-scaled k a b some) ((common_divisor_is (k * a) (k * b)).2 m h i)

pub content_scaled : (z : Element) (n k m : ℕ) → 0 < k → m ∣ k * nat_abs z.a → m ∣ k * nat_abs z.b → m ∣ k * nat_abs z.c → m ∣ k * nat_abs z.d → m ∣ k * n → m ∣ k * content z n
content_scaled z n k m some a b c d e =
    common_scaled k (nat_abs z.a) _ m some a (common_scaled k (nat_abs z.b) _ m some b (common_scaled k (nat_abs z.c) _ m some c (common_scaled k (nat_abs z.d) n m some d e)))

pub content_positive : (z : Element) (n : ℕ) → 0 < n → 0 < content z n
content_positive z n some = pos_of_dvd_of_pos (content_divides z n).whole some

int_whole : (z : ℤ) (g : ℕ) → g ∣ nat_abs z → int_div z (pos g) *ℤ pos g ≡ z
int_whole (pos m) g h = ap pos (div-mul_cancel g h)
int_whole (negsuc m) g h = neg_product (pos (suc m / g)) (pos g) ∙ ap (λ (k : ℕ). neg_ℤ (pos k)) (div-mul_cancel g h)

-- z over its greatest divisor, times that, is z
pub divided_times : (z : Element) (n : ℕ) → times (divided_by (content z n) z) (whole_number (content z n)) ≡ z
divided_times z n =
    let g = content z n in
    let h = content_divides z n in
    times_whole (divided_by g z) g ∙ same_element (scaled (divided_by g z) g) z (int_whole z.a g h.a) (int_whole z.b g h.b) (int_whole z.c g h.c) (int_whole z.d g h.d)

pub divided_whole : (z : Element) (n : ℕ) → n / content z n * content z n ≡ n
divided_whole z n = div-mul_cancel (content z n) (content_divides z n).whole

pub rest_positive : (z : Element) (n : ℕ) → 0 < n → 0 < n / content z n
rest_positive z n some = factor (n / content z n) (content z n) (subst (λ (m : ℕ). 0 < m) (sym (divided_whole z n)) some)
  where
    factor : (m g : ℕ) → 0 < m * g → 0 < m
    factor zero g h = let z : 0 * g ≡ 0 = omega arith in absurd (omega (arith, z, h))
    factor (suc m) g h = omega arith

-- where z k is a multiple of n, n in lowest terms divides k
pub rest_divides : (z w : Element) (n k : ℕ) → 0 < n → 0 < k → scaled w n ≡ scaled z k → n / content z n ∣ k
rest_divides z w n k some up e =
    let all : n ∣ k * content z n = content_scaled z n k n up
    (multiple z.a w.a (ap (λ (x : Element). x.a) e)) (multiple z.b w.b (ap (λ (x : Element). x.b) e))
    (multiple z.c w.c (ap (λ (x : Element). x.c) e)) (multiple z.d w.d (ap (λ (x : Element). x.d) e))
    (dvd-mul_left n k) in
    dvd_of_mul-dvd-mul_right (n / content z n) (content_positive z n some) (subst (λ m. m ∣ k * content z n) (sym (divided_whole z n)) all)
  where
    multiple : (x y : ℤ) → y *ℤ pos n ≡ x *ℤ pos k → n ∣ k * nat_abs x
    multiple x y f = subst (λ m. n ∣ m) (sym (unsigned_abs-mul y (pos n)) ∙ ap nat_abs f ∙ unsigned_abs-mul x (pos k) ∙ mul_comm (nat_abs x) k) (dvd-mul_left n (nat_abs y))

-- a number whose other coordinates are 0
none_common : (n : ℕ) → common_divisor 0 n ≡ n
none_common n = common_divisor_from 0 n n (dvd-zero n, dvd_refl n, λ d h k. k)

pub content_rational : (z : Element) (n : ℕ) → z.b ≡ pos 0 → z.c ≡ pos 0 → z.d ≡ pos 0 → content z n ≡ common_divisor (nat_abs z.a) n
content_rational z n b c d =
    ap (λ (k : ℤ). common_divisor (nat_abs z.a) (common_divisor (nat_abs k) (common_divisor (nat_abs z.c) (common_divisor (nat_abs z.d) n)))) b
    ∙ ap (λ (k : ℤ). common_divisor (nat_abs z.a) (common_divisor 0 (common_divisor (nat_abs k) (common_divisor (nat_abs z.d) n)))) c
    ∙ ap (λ (k : ℤ). common_divisor (nat_abs z.a) (common_divisor 0 (common_divisor 0 (common_divisor (nat_abs k) n)))) d
    ∙ ap (common_divisor (nat_abs z.a)) (none_common (common_divisor 0 (common_divisor 0 n)) ∙ none_common (common_divisor 0 n) ∙ none_common n)
