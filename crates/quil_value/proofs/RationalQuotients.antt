-- Rational quotients of ring numbers, by cross products.
use Rattle.std.proofs.Common.{◌≡◌, refl, sym, ◌∙◌, ap, ap₂, subst, ℕ, suc, ◌+◌, ◌-◌, ◌*◌, ◌/◌, ◌%◌, ◌^◌, ◌<◌, ◌≤◌, true, false, Some, None, Ok, Err, arith}
use Rattle.std.specs.Prelude.{ℤ, pos, ◌*ℤ◌, nat_abs, nat_le}
use Rattle.std.proofs.lemmas.Int.{ints, unsigned_abs-mul}
use Rattle.std.proofs.lemmas.Bool.{leb-true, leb-false}
use Rattle.qvm_ring.proofs.Bits.{power_positive}
use Rattle.std.proofs.Math.IntN.{*ℤ_comm}
use Rattle.std.proofs.Math.Nat.{mul-pos, mul-le-mul}
use Rattle.std.proofs.Math.Pow.{pow_mono}
use borrow.Author.Differences.{same_in}
use Rattle.qvm_ring.specs.Ring.{Element, whole_number, times, root_two, is_zero}
use Rattle.qvm_ring.specs.Multiply.{IsWithin}
use Rattle.qvm_ring.proofs.Associative.{int_assoc, times_assoc}
use Rattle.qvm_ring.proofs.Elements.{times_unit}
use Rattle.qvm_ring.proofs.RingLemmas.{same_element}
use Rattle.quil_number.specs.declared.fraction.Fraction.{Fraction}
use Rattle.quil_number.specs.Fraction.{lowest}
use Rattle.quil_number.proofs.Meanings.{lowest_terms}
use Rattle.quil_value.specs.declared.lack.Lack.TheVariants.{NotExact}
use Rattle.quil_value.specs.Exact.{Ring, Rational, root_power, exponent_of_two, exact_quotient}
use Rattle.quil_value.specs.Forms.{IsRational, IsInLowestTerms}
use Rattle.quil_value.specs.RealNumbers.{real_number}
use Rattle.quil_value.specs.Views.{HasNone, stretched}
use Rattle.quil_value.proofs.Powers.{times_comm, whole_times, root_power_sum, root_power_twice, cancel_int, cancel_whole, cancel_root_power}
use Rattle.quil_value.proofs.Reordered.{IsAbelian, rational_up, rational_down, rational_last}
use Rattle.quil_value.proofs.RingQuotients.{IsQuotientOver, rational_found, none_found, cancel_both}
use Rattle.quil_value.proofs.RootTwos.{times_root_two}
use Rattle.quil_value.proofs.SettledForms.{in_lowest_terms}
use Rattle.quil_value.proofs.Spans.{scaled, times_whole}
use Rattle.quil_value.proofs.Twos.{exponent_found}

-- ---- products of whole numbers in another order

abelian : IsAbelian ◌*ℤ◌
abelian = record {
  assoc = int_assoc;
  comm = *ℤ_comm;
  left = λ x y z. sym (int_assoc x y z) ∙ ap (λ (t : ℤ). t *ℤ z) (*ℤ_comm x y) ∙ int_assoc y x z;
}

last_two_in : {A : Type 0} (op : A → A → A) (h : IsAbelian op) (x y z : A) → op (op x y) z ≡ op (op x z) y
last_two_in op h x y z = simp (h.assoc, h.comm, h.left) refl

last_two : (x y z : ℤ) → x *ℤ y *ℤ z ≡ x *ℤ z *ℤ y
last_two x y z = last_two_in ◌*ℤ◌ abelian x y z

-- ---- real factors

times_real : (p : ℤ) (z : Element) → times (real_number p) z ≡ stretched z p
times_real p z = same_element _ _ (same_in _ _ (omega (arith, ints))) (same_in _ _ (omega (arith, ints))) (same_in _ _ (omega (arith, ints))) (same_in _ _ (omega (arith, ints)))

none_times : (n : ℕ) → pos 0 *ℤ pos n ≡ pos 0
none_times n = omega (arith, ints)

real_times : (p : ℤ) (n : ℕ) → times (real_number p) (whole_number n) ≡ real_number (p *ℤ pos n)
real_times p n = times_whole (real_number p) n ∙ same_element (scaled (real_number p) n) (real_number (p *ℤ pos n)) refl (none_times n) (none_times n) (none_times n)

-- ---- powers of √2 between m and n of one parity

pub power_up : (n m : ℕ) → m ≤ n → n % 2 ≡ m % 2 → times (whole_number 1) (root_power n) ≡ times (whole_number (2 ^ ((n - m) / 2))) (root_power m)
power_up n m h e =
    let k = (n - m) / 2 in
    times_unit (root_power n) ∙ ap root_power (let f : n ≡ 2 * k + m = omega (arith, h, e) in f) ∙ sym (root_power_sum (2 * k) m) ∙ ap (λ (t : Element). times t (root_power m)) (root_power_twice k)

pub power_down : (n m : ℕ) → n ≤ m → n % 2 ≡ m % 2 → times (whole_number (2 ^ ((m - n) / 2))) (root_power n) ≡ times (whole_number 1) (root_power m)
power_down n m h e = sym (power_up m n h (sym e))

-- ---- the quotient p/q by the cross products

-- z/√2^m is t/√2^k
abbrev pub IsSameRing : Element → ℕ → Element → ℕ → Type 0
IsSameRing z m t k = times z (root_power k) ≡ times t (root_power m)

cross_left : (z : Element) (m : ℕ) (v : Element) (n : ℕ) (x : Fraction) (k down : ℕ)
    → times (times (times (real_number x.p) v) (root_power m)) (times (whole_number down) (root_power k)) ≡ times (stretched v (x.p *ℤ pos down)) (times (root_power m) (root_power k))
cross_left z m v n x k down =
    rational_up (real_number x.p) v (root_power m) (whole_number down) (root_power k)
    ∙ ap (λ (t : Element). times (times t v) (times (root_power m) (root_power k))) (real_times x.p down)
    ∙ ap (λ (t : Element). times t (times (root_power m) (root_power k))) (times_real (x.p *ℤ pos down) v)

cross_right : (z : Element) (m n : ℕ) (t : Element) (k : ℕ) (x : Fraction) (up down : ℕ) → IsSameRing z m t k → times (whole_number down) (root_power n) ≡ times (whole_number up) (root_power k)
    → times (times (times (whole_number x.q) z) (root_power n)) (times (whole_number down) (root_power k)) ≡ times (stretched t (pos (x.q * up))) (times (root_power m) (root_power k))
cross_right z m n t k x up down e f =
    rational_down (whole_number x.q) z (root_power n) (whole_number down) (root_power k)
    ∙ ap₂ (λ (r s : Element). times (whole_number x.q) (times r s)) e f
    ∙ rational_last (whole_number x.q) t (root_power m) (whole_number up) (root_power k)
    ∙ ap (λ (s : Element). times (times s t) (times (root_power m) (root_power k))) (whole_times x.q up)
    ∙ ap (λ (s : Element). times s (times (root_power m) (root_power k))) (times_real (pos (x.q * up)) t)

cancel_power : (x y : Element) (down k : ℕ) → 0 < down → times x (times (whole_number down) (root_power k)) ≡ times y (times (whole_number down) (root_power k)) → x ≡ y
cancel_power x y down k some e =
    cancel_whole x y down some
    (cancel_root_power (times x (whole_number down)) (times y (whole_number down)) k
    (times_assoc x (whole_number down) (root_power k) ∙ e ∙ sym (times_assoc y (whole_number down) (root_power k))))

pub crossed : (z : Element) (m : ℕ) (v : Element) (n : ℕ) (t : Element) (k : ℕ) (x : Fraction) (up down : ℕ) → IsSameRing z m t k → times (whole_number down) (root_power n) ≡ times (whole_number up) (root_power k) → 0 < down
    → IsQuotientOver z m v n (Rational x) → stretched t (pos (x.q * up)) ≡ stretched v (x.p *ℤ pos down)
crossed z m v n t k x up down e f some g =
    cancel_both (stretched t (pos (x.q * up))) (stretched v (x.p *ℤ pos down)) m k
    (sym (cross_right z m n t k x up down e f) ∙ ap (λ (s : Element). times s (times (whole_number down) (root_power k))) (sym g) ∙ cross_left z m v n x k down)

pub uncrossed : (z : Element) (m : ℕ) (v : Element) (n : ℕ) (t : Element) (k : ℕ) (x : Fraction) (up down : ℕ) → IsSameRing z m t k → times (whole_number down) (root_power n) ≡ times (whole_number up) (root_power k) → 0 < down
    → stretched t (pos (x.q * up)) ≡ stretched v (x.p *ℤ pos down) → IsQuotientOver z m v n (Rational x)
uncrossed z m v n t k x up down e f some g =
    cancel_power (times (times (real_number x.p) v) (root_power m)) (times (times (whole_number x.q) z) (root_power n)) down k some
    (cross_left z m v n x k down ∙ ap (λ (s : Element). times s (times (root_power m) (root_power k))) (sym g) ∙ sym (cross_right z m n t k x up down e f))

-- ---- from a pivot P/Q of t and v

-- t q = v p, where t Q = v P and P q = Q p
stretch_at : (t v p q u w : ℤ) (n : ℕ) → u ≡ pos n → 0 < n → t *ℤ u ≡ v *ℤ w → w *ℤ q ≡ u *ℤ p → t *ℤ q ≡ v *ℤ p
stretch_at t v p q u w n e some f g =
    cancel_int (t *ℤ q) (v *ℤ p) n some
    (ap (λ (s : ℤ). t *ℤ q *ℤ s) (sym e) ∙ last_two t q u ∙ ap (λ (s : ℤ). s *ℤ q) f ∙ int_assoc v w q ∙ ap (λ (s : ℤ). v *ℤ s) (g ∙ *ℤ_comm u p) ∙ sym (int_assoc v p u)
    ∙ ap (λ (s : ℤ). v *ℤ p *ℤ s) e)

stretched_by : (t v : Element) (p q w : ℤ) (n : ℕ) → 0 < n → stretched t (pos n) ≡ stretched v w → w *ℤ q ≡ pos n *ℤ p → stretched t q ≡ stretched v p
stretched_by t v p q w n some f g = same_element (stretched t q) (stretched v p)
    (stretch_at t.a v.a p q (pos n) w n refl some (ap (λ (y : Element). y.a) f) g) (stretch_at t.b v.b p q (pos n) w n refl some (ap (λ (y : Element). y.b) f) g)
    (stretch_at t.c v.c p q (pos n) w n refl some (ap (λ (y : Element). y.c) f) g) (stretch_at t.d v.d p q (pos n) w n refl some (ap (λ (y : Element). y.d) f) g)

-- p up / (q down) in lowest terms
lowest_cross : (p : ℤ) (q up down : ℕ) → 0 < q * down → (x : Fraction) → x ≡ lowest (p *ℤ pos up) (q * down) → p *ℤ pos (x.q * up) ≡ pos q *ℤ (x.p *ℤ pos down)
lowest_cross p q up down some x e =
    let h = lowest_terms (p *ℤ pos up) (q * down) some in
    let f : x.p *ℤ pos (q * down) ≡ p *ℤ pos up *ℤ pos x.q = ap (λ (y : Fraction). y.p *ℤ pos (q * down)) e ∙ h.equal ∙ ap (λ (y : Fraction). p *ℤ pos up *ℤ pos y.q) (sym e) in
    sym (int_assoc p (pos x.q) (pos up)) ∙ last_two p (pos x.q) (pos up) ∙ sym f ∙ sym (int_assoc x.p (pos q) (pos down)) ∙ ap (λ (s : ℤ). s *ℤ pos down) (*ℤ_comm x.p (pos q)) ∙ int_assoc (pos q) x.p (pos down)

-- where no ring number is the quotient, a rational's denominator is no power of two
rational_form : (z : Element) (m : ℕ) (v : Element) (n : ℕ) (x : Fraction) → HasNone z m v n → IsQuotientOver z m v n (Rational x) → exponent_of_two x.q ≡ None
rational_form z m v n x none e = elim (exponent_of_two x.q) as (λ o. exponent_of_two x.q ≡ o → exponent_of_two x.q ≡ None) [
  | Some k ↦ λ f.
      let power : root_power (2 * k) ≡ whole_number x.q = root_power_twice k ∙ ap whole_number (exponent_found x.q k f) in
      absurd (none (real_number x.p) (2 * k)
      (e ∙ times_assoc (whole_number x.q) z (root_power n) ∙ times_comm (whole_number x.q) (times z (root_power n)) ∙ ap (times (times z (root_power n))) (sym power)))
  | None ↦ λ f. f
] refl

pub record IsFound (z : Element) (m : ℕ) (v : Element) (n : ℕ) (x : Fraction) : Type 0 where
  pub form : IsRational x
  pub found : exact_quotient (Ring z m) (Ring v n) ≡ Ok (Rational x)

pub fraction_found : (z : Element) (m : ℕ) (v : Element) (n : ℕ) (t : Element) (k : ℕ) (p : ℤ) (q up down : ℕ) (x : Fraction) → is_zero v ≡ false → HasNone z m v n
    → IsSameRing z m t k → times (whole_number down) (root_power n) ≡ times (whole_number up) (root_power k) → 0 < down → 0 < q
    → stretched t (pos q) ≡ stretched v p → x ≡ lowest (p *ℤ pos up) (q * down) → IsFound z m v n x
fraction_found z m v n t k p q up down x s none e f some above g h =
    let product : 0 < q * down = mul-pos above some in
    let over : IsQuotientOver z m v n (Rational x) =
    uncrossed z m v n t k x up down e f some (stretched_by t v (x.p *ℤ pos down) (pos (x.q * up)) p q above g (lowest_cross p q up down product x h)) in
    let form : IsRational x = record { form = subst (λ (y : Fraction). IsInLowestTerms y) (sym h) (in_lowest_terms (p *ℤ pos up) (q * down) product); other = rational_form z m v n x none over } in
    record { form = form; found = rational_found z m v n x s form over }

pub fraction_none : (z : Element) (m : ℕ) (v : Element) (n : ℕ) (t : Element) (k : ℕ) (p : ℤ) (q up down : ℕ) → is_zero z ≡ false → is_zero v ≡ false → HasNone z m v n
    → IsSameRing z m t k → times (whole_number down) (root_power n) ≡ times (whole_number up) (root_power k) → 0 < down → 0 < up
    → ((r s : ℤ) → stretched t s ≡ stretched v r → p *ℤ s ≡ pos q *ℤ r) → (stretched t (pos q) ≡ stretched v p → ⊥)
    → exact_quotient (Ring z m) (Ring v n) ≡ Err NotExact
fraction_none z m v n t k p q up down o s none e f some more only apart =
    none_found z m v n o s none (λ x h g.
    let c = crossed z m v n t k x up down e f some g in
    let above : 0 < x.q * up = mul-pos h.form.some more in
    apart (stretched_by t v p (pos q) (x.p *ℤ pos down) (x.q * up) above c
    (*ℤ_comm (x.p *ℤ pos down) (pos q) ∙ sym (only (x.p *ℤ pos down) (pos (x.q * up)) c) ∙ *ℤ_comm p (pos (x.q * up)))))

-- ---- in 128 bits

pub product_bound : (x y : ℤ) → nat_abs x ≤ 2 ^ 63 → nat_abs y ≤ 2 ^ 63 → nat_abs (x *ℤ y) ≤ 2 ^ 126
product_bound x y h k = let l : nat_abs x * nat_abs y ≤ 2 ^ 63 * 2 ^ 63 = mul-le-mul h k in subst (λ (n : ℕ). n ≤ 2 ^ 126) (sym (unsigned_abs-mul x y)) (omega (arith, l))

pub power_bound : (k : ℕ) → k ≤ 62 → 2 ^ k ≤ 2 ^ 62
power_bound k h = pow_mono h

pub shifted : (k : ℕ) → k ≤ 62 → 1 * 2 ^ k % 2 ^ 128 ≡ 2 ^ k
shifted k h = let l = power_bound k h in omega (arith, l)

pub shifted_bound : (k : ℕ) → k ≤ 62 → 1 * 2 ^ k % 2 ^ 128 ≤ 2 ^ 62
shifted_bound k h = subst (λ (n : ℕ). n ≤ 2 ^ 62) (sym (shifted k h)) (power_bound k h)

pub root_bound : (z : Element) → IsWithin (2 ^ 62) z → IsWithin (2 ^ 63) (times root_two z)
root_bound z h = subst (IsWithin (2 ^ 63)) (sym (times_root_two z)) (record { a = omega (arith, ints, h.b, h.d); b = omega (arith, ints, h.a, h.c); c = omega (arith, ints, h.b, h.d); d = omega (arith, ints, h.c, h.a) })

pub root_value : (z w : Element) (m : ℕ) → w ≡ times root_two z → times z (root_power (m + 1)) ≡ times w (root_power m)
root_value z w m e =
    ap (λ (n : ℕ). times z (root_power n)) (let f : m + 1 ≡ suc m = omega arith in f) ∙ sym (times_assoc z root_two (root_power m))
    ∙ ap (λ (t : Element). times t (root_power m)) (times_comm z root_two ∙ sym e)

-- ---- no fraction is found, whatever the powers of two

pub record HasPowers (n m : ℕ) : Type 0 where
  pub up : ℕ
  pub down : ℕ
  pub equal : times (whole_number down) (root_power n) ≡ times (whole_number up) (root_power m)
  pub up_some : 0 < up
  pub down_some : 0 < down

pub powers_of : (n m : ℕ) → n % 2 ≡ m % 2 → HasPowers n m
powers_of n m e = elim (nat_le m n) as (λ b. nat_le m n ≡ b → HasPowers n m) [
  | true ↦ λ h. record { up = 2 ^ ((n - m) / 2); down = 1; equal = power_up n m (leb-true m n h) e; up_some = power_positive ((n - m) / 2); down_some = omega arith }
  | false ↦ λ h. record { up = 1; down = 2 ^ ((m - n) / 2); equal = power_down n m (let l : n < m = leb-false m n h in omega (arith, l)) e; up_some = omega arith; down_some = power_positive ((m - n) / 2) }
] refl
