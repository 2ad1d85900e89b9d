-- The quotient is the number whose product with the divisor is the dividend.
use Rattle.std.proofs.Common.{◌≡◌, refl, sym, ◌∙◌, ap, subst, ℕ, ◌*◌, ◌<◌, Bool, true, false, Result, Ok, Err, if◌then◌else◌}
use Rattle.std.specs.Prelude.{ℤ, ◌+ℤ◌, ◌-ℤ◌}
use Rattle.std.proofs.lemmas.Bool.{false_from_ne_true}
use Rattle.std.proofs.lemmas.Int.{ints}
use Rattle.std.proofs.Common.{arith}
use Rattle.std.proofs.Math.Nat.{mul-pos}
use borrow.Author.Differences.{same_in}
use Rattle.qvm_ring.specs.Ring.{Element, nought, whole_number, times, is_zero}
use Rattle.qvm_ring.proofs.Associative.{times_assoc}
use Rattle.qvm_ring.proofs.Elements.{nought_if_zero, times_nought}
use Rattle.quil_value.specs.declared.lack.Lack.{Lack}
use Rattle.quil_value.specs.declared.lack.Lack.TheVariants.{NotExact, ZeroDivisor}
use Rattle.quil_value.specs.Exact.{Exact, settled, settled_number, settled_angle, numerator, denominator, power_of_pi, cofactor, whole_norm, scaled_by, exact_product, exact_quotient}
use Rattle.quil_value.specs.Forms.{IsForm}
use Rattle.quil_value.proofs.Identity.{settled_self}
use Rattle.quil_value.proofs.Powers.{times_comm, last_two, whole_times, cancel_whole}
use Rattle.quil_value.proofs.Quotients.{settled_number_same, settled_power_same}
use Rattle.quil_value.proofs.Settled.{by_kind, same_settled}
use Rattle.quil_value.proofs.SettledForms.{settled_form, settled_lack, denominator_positive}
use Rattle.quil_value.proofs.WholeNorms.{times_cofactor, whole_norm_positive}

-- w times y is x, but for powers of π
abbrev pub IsTimes : Exact → Exact → Exact → Type 0
IsTimes w y x = scaled_by (denominator x) (times (numerator w) (numerator y)) ≡ scaled_by (denominator w * denominator y) (numerator x)

abbrev pub IsPower : Exact → Exact → Exact → Type 0
IsPower w y x = is_zero (numerator x) ≡ false → power_of_pi w ≡ power_of_pi x -ℤ power_of_pi y

-- ---- numerators and denominators

whole_both : (p q : ℕ) (z : Element) → scaled_by p (scaled_by q z) ≡ scaled_by (p * q) z
whole_both p q z = sym (times_assoc (whole_number p) (whole_number q) z) ∙ ap (λ (t : Element). times t z) (whole_times p q)

-- z · cofactor y · y = z · whole_norm y
cofactor_times : (z y : Element) → times (times z (cofactor y)) y ≡ times z (whole_number (whole_norm y))
cofactor_times z y = times_assoc z (cofactor y) y ∙ ap (times z) (times_comm (cofactor y) y ∙ times_cofactor y)

times_over : (z y : Element) → times (times z y) (cofactor y) ≡ times z (whole_number (whole_norm y))
times_over z y = times_assoc z y (cofactor y) ∙ ap (times z) (times_cofactor y)

-- (p n) w y = (p (w y)) n
pulled_out : (p n : ℕ) (w y : Element) → times (scaled_by (p * n) w) y ≡ times (scaled_by p (times w y)) (whole_number n)
pulled_out p n w y =
    times_assoc (whole_number (p * n)) w y ∙ ap (λ (t : Element). times t (times w y)) (sym (whole_times p n)) ∙ last_two (whole_number p) (whole_number n) (times w y)

-- from z/n = w/d, where z/n is the quotient, to the product
up : (p q d : ℕ) (w x y : Element) → is_zero y ≡ false
    → scaled_by (p * whole_norm y) w ≡ scaled_by d (scaled_by q (times x (cofactor y))) → scaled_by p (times w y) ≡ scaled_by (d * q) x
up p q d w x y s e =
    let n = whole_norm y in
    let a = times x (cofactor y) in
    cancel_whole (scaled_by p (times w y)) (scaled_by (d * q) x) n (whole_norm_positive y s)
    (sym (pulled_out p n w y) ∙ ap (λ (t : Element). times t y) (e ∙ whole_both d q a) ∙ times_assoc (whole_number (d * q)) a y
    ∙ ap (times (whole_number (d * q))) (cofactor_times x y) ∙ sym (times_assoc (whole_number (d * q)) x (whole_number n)))

-- and back
down : (p q d : ℕ) (w x y : Element)
    → scaled_by p (times w y) ≡ scaled_by (d * q) x → scaled_by d (scaled_by q (times x (cofactor y))) ≡ scaled_by (p * whole_norm y) w
down p q d w x y e =
    let n = whole_norm y in
    let c = cofactor y in
    whole_both d q (times x c) ∙ sym (times_assoc (whole_number (d * q)) x c) ∙ ap (λ (t : Element). times t c) (sym e)
    ∙ times_assoc (whole_number p) (times w y) c ∙ ap (times (whole_number p)) (times_over w y ∙ times_comm w (whole_number n)) ∙ whole_both p n w

-- ---- the quotient

abbrev by_zero : Bool → Result Exact Lack → Result Exact Lack
by_zero none found = if none then Err ZeroDivisor else found

-- x/y before it is settled
abbrev top : Exact → Exact → Element
top x y = scaled_by (denominator y) (times (numerator x) (cofactor (numerator y)))

abbrev bottom : Exact → Exact → ℕ
bottom x y = denominator x * whole_norm (numerator y)

over : Exact → Exact → Result Exact Lack
over x y = settled (top x y) (bottom x y) (power_of_pi x -ℤ power_of_pi y)

quotient_over : (x y : Exact) → is_zero (numerator y) ≡ false → exact_quotient x y ≡ over x y
unfolding over
quotient_over x y s = ap (λ (b : Bool). by_zero b (over x y)) s

pub quotient_by_zero : (x y : Exact) → is_zero (numerator y) ≡ true → exact_quotient x y ≡ Err ZeroDivisor
unfolding over
quotient_by_zero x y z = ap (λ (b : Bool). by_zero b (over x y)) z

bottom_positive : (x y : Exact) → is_zero (numerator y) ≡ false → 0 < denominator x → 0 < bottom x y
bottom_positive x y s h = mul-pos h (whole_norm_positive (numerator y) s)

pub quotient_times : (x y w : Exact) → is_zero (numerator y) ≡ false → 0 < denominator x → exact_quotient x y ≡ Ok w → IsTimes w y x
unfolding over
quotient_times x y w s h e =
    up (denominator x) (denominator y) (denominator w) (numerator w) (numerator x) (numerator y) s
    (settled_number_same (top x y) (bottom x y) (power_of_pi x -ℤ power_of_pi y) w (sym (quotient_over x y s) ∙ e) (bottom_positive x y s h))

pub quotient_form : (x y w : Exact) → is_zero (numerator y) ≡ false → 0 < denominator x → exact_quotient x y ≡ Ok w → IsForm w
unfolding over
quotient_form x y w s h e =
    settled_form (top x y) (bottom x y) (power_of_pi x -ℤ power_of_pi y) w (sym (quotient_over x y s) ∙ e) (bottom_positive x y s h)

-- 0 has no power of π of its own
any_power : (z : Element) (n : ℕ) (j k : ℤ) → is_zero z ≡ true → settled z n j ≡ settled z n k
any_power z n j k h = ap (λ (b : Bool). by_kind b j (settled_number z n) (settled_angle z n)) h ∙ sym (ap (λ (b : Bool). by_kind b k (settled_number z n) (settled_angle z n)) h)

-- what is settled by its number, whatever the power of 0
number_settled : (w : Exact) (k : ℤ) → IsForm w → (is_zero (numerator w) ≡ false → power_of_pi w ≡ k) → settled (numerator w) (denominator w) k ≡ Ok w
number_settled w k h f = elim (is_zero (numerator w)) as (λ b. is_zero (numerator w) ≡ b → settled (numerator w) (denominator w) k ≡ Ok w) [
  | true ↦ λ e. any_power (numerator w) (denominator w) k (power_of_pi w) e ∙ settled_self w h
  | false ↦ λ e. ap (λ (j : ℤ). settled (numerator w) (denominator w) j) (sym (f e)) ∙ settled_self w h
] refl

-- ---- no factor of what isn't 0 is 0

scaled_nought : (n : ℕ) → scaled_by n nought ≡ nought
scaled_nought n = times_comm (whole_number n) nought ∙ times_nought (whole_number n)

scaled_zero : (n : ℕ) (z : Element) → 0 < n → scaled_by n z ≡ nought → z ≡ nought
scaled_zero n z some e = cancel_whole z nought n some (times_comm z (whole_number n) ∙ e ∙ sym (times_nought (whole_number n)))

-- where z is 0, the dividend and the quotient are
dividend_zero : (q : ℕ) (x y : Element) → 0 < q → is_zero y ≡ false → scaled_by q (times x (cofactor y)) ≡ nought → x ≡ nought
dividend_zero q x y some s e =
    let f : scaled_by 1 (times nought y) ≡ scaled_by (1 * q) x =
    up 1 q 1 nought x y s (scaled_nought (1 * whole_norm y) ∙ sym (scaled_nought 1) ∙ ap (scaled_by 1) (sym e)) in
    scaled_zero (1 * q) x (mul-pos (omega arith) some) (sym f ∙ ap (scaled_by 1) (times_nought y) ∙ scaled_nought 1)

quotient_zero : (p q d : ℕ) (w x y : Element) → 0 < p → is_zero y ≡ false → scaled_by p (times w y) ≡ scaled_by (d * q) x → x ≡ nought → w ≡ nought
quotient_zero p q d w x y some s e zero =
    scaled_zero (p * whole_norm y) w (mul-pos some (whole_norm_positive y s))
    (sym (down p q d w x y e) ∙ ap (λ (t : Element). scaled_by d (scaled_by q (times t (cofactor y)))) zero
    ∙ ap (λ (t : Element). scaled_by d (scaled_by q t)) (times_nought (cofactor y)) ∙ ap (scaled_by d) (scaled_nought q) ∙ scaled_nought d)

pub some_if : (z w : Element) → (z ≡ nought → w ≡ nought) → is_zero w ≡ false → is_zero z ≡ false
some_if z w f h = false_from_ne_true (is_zero z) (λ e. let i : true ≡ false = sym (ap is_zero (f (nought_if_zero z e))) ∙ h in absurd (cc i))

-- ---- the laws

pub times_quotient : (x y w : Exact) → is_zero (numerator y) ≡ false → 0 < denominator x → 0 < denominator y → IsForm w → IsTimes w y x → IsPower w y x → exact_quotient x y ≡ Ok w
unfolding over
times_quotient x y w s h k f e power =
    quotient_over x y s
    ∙ same_settled (top x y) (bottom x y) (numerator w) (denominator w) (power_of_pi x -ℤ power_of_pi y) (bottom_positive x y s h) (denominator_positive w f)
    (down (denominator x) (denominator y) (denominator w) (numerator w) (numerator x) (numerator y) e)
    ∙ number_settled w (power_of_pi x -ℤ power_of_pi y) f
    (λ o. power (some_if (numerator x) (numerator w) (quotient_zero (denominator x) (denominator y) (denominator w) (numerator w) (numerator x) (numerator y) h s e) o))

pub quotient_power : (x y w : Exact) → is_zero (numerator y) ≡ false → 0 < denominator x → 0 < denominator y → exact_quotient x y ≡ Ok w → IsPower w y x
unfolding over
quotient_power x y w s h k e o =
    settled_power_same (top x y) (bottom x y) (power_of_pi x -ℤ power_of_pi y) w (sym (quotient_over x y s) ∙ e) (bottom_positive x y s h)
    (some_if (top x y) (numerator x) (dividend_zero (denominator y) (numerator x) (numerator y) k s) o)

quotient_lack : (x y : Exact) (l : Lack) → is_zero (numerator y) ≡ false → 0 < denominator x → exact_quotient x y ≡ Err l → l ≡ NotExact
unfolding over
quotient_lack x y l s h e = settled_lack (top x y) (bottom x y) (power_of_pi x -ℤ power_of_pi y) l (sym (quotient_over x y s) ∙ e) (bottom_positive x y s h)

pub no_quotient : (x y : Exact) → is_zero (numerator y) ≡ false → 0 < denominator x → 0 < denominator y → ((w : Exact) → IsForm w → IsTimes w y x → IsPower w y x → ⊥) → exact_quotient x y ≡ Err NotExact
no_quotient x y s h k none = elim (exact_quotient x y) as (λ (r : Result Exact Lack). exact_quotient x y ≡ r → exact_quotient x y ≡ Err NotExact) [
  | Ok w ↦ λ e. absurd (none w (quotient_form x y w s h e) (quotient_times x y w s h e) (quotient_power x y w s h k e))
  | Err l ↦ λ e. e ∙ ap (λ (t : Lack). Err t) (quotient_lack x y l s h e)
] refl

-- ---- by products

pub product_times : (w y x : Exact) → 0 < denominator w → 0 < denominator y → exact_product w y ≡ Ok x → IsTimes w y x
product_times w y x h k e =
    sym (settled_number_same (times (numerator w) (numerator y)) (denominator w * denominator y) (power_of_pi w +ℤ power_of_pi y) x e (mul-pos h k))

pub times_product : (w y x : Exact) → 0 < denominator w → 0 < denominator y → IsForm x → IsTimes w y x → (is_zero (numerator x) ≡ false → power_of_pi x ≡ power_of_pi w +ℤ power_of_pi y) → exact_product w y ≡ Ok x
times_product w y x h k f e power =
    same_settled (times (numerator w) (numerator y)) (denominator w * denominator y) (numerator x) (denominator x) (power_of_pi w +ℤ power_of_pi y) (mul-pos h k) (denominator_positive x f) e
    ∙ number_settled x (power_of_pi w +ℤ power_of_pi y) f power

power_up : (i j k : ℤ) → i ≡ k -ℤ j → k ≡ i +ℤ j
power_up i j k e = same_in _ _ (omega (arith, ints, e))

power_down : (i j k : ℤ) → k ≡ i +ℤ j → i ≡ k -ℤ j
power_down i j k e = same_in _ _ (omega (arith, ints, e))

product_zero : (w y : Element) → w ≡ nought → times w y ≡ nought
product_zero w y e = ap (λ (t : Element). times t y) e ∙ times_nought y

-- a product that isn't 0 has no factor 0
product_some : (w y x : Exact) → 0 < denominator w → 0 < denominator y → exact_product w y ≡ Ok x → is_zero (numerator x) ≡ false → is_zero (times (numerator w) (numerator y)) ≡ false
product_some w y x h k e o = some_if (times (numerator w) (numerator y)) (numerator x)
    (λ z. scaled_zero (denominator w * denominator y) (numerator x) (mul-pos h k) (sym (product_times w y x h k e) ∙ ap (scaled_by (denominator x)) z ∙ scaled_nought (denominator x))) o

unfolded : (x y w : Exact) → exact_quotient x y ≡ Ok w → by_zero (is_zero (numerator y)) (over x y) ≡ Ok w
unfolding over
unfolded x y w e = e

pub quotient_product : (x y w : Exact) → IsForm x → IsForm y → exact_quotient x y ≡ Ok w → exact_product w y ≡ Ok x
quotient_product x y w f g e = elim (is_zero (numerator y)) as (λ b. is_zero (numerator y) ≡ b → exact_product w y ≡ Ok x) [
  | true ↦ λ z. let i : by_zero true (over x y) ≡ Ok w = subst (λ (b : Bool). by_zero b (over x y) ≡ Ok w) z (unfolded x y w e) in absurd (cc i)
  | false ↦ λ s.
      let h = denominator_positive x f in
      let k = denominator_positive y g in
      times_product w y x (denominator_positive w (quotient_form x y w s h e)) k f (quotient_times x y w s h e)
      (λ o. power_up (power_of_pi w) (power_of_pi y) (power_of_pi x) (quotient_power x y w s h k e o))
] refl

product_power : (x y w : Exact) → IsForm w → IsForm y → exact_product w y ≡ Ok x → IsPower w y x
product_power x y w f g e o =
    let h = denominator_positive w f in
    let k = denominator_positive y g in
    power_down (power_of_pi w) (power_of_pi y) (power_of_pi x)
    (settled_power_same (times (numerator w) (numerator y)) (denominator w * denominator y) (power_of_pi w +ℤ power_of_pi y) x e (mul-pos h k) (product_some w y x h k e o))

pub product_quotient : (x y w : Exact) → IsForm x → IsForm y → IsForm w → is_zero (numerator y) ≡ false → exact_product w y ≡ Ok x → exact_quotient x y ≡ Ok w
product_quotient x y w f g i s e =
    times_quotient x y w s (denominator_positive x f) (denominator_positive y g) i (product_times w y x (denominator_positive w i) (denominator_positive y g) e) (product_power x y w i g e)

pub no_product : (x y : Exact) → IsForm x → IsForm y → is_zero (numerator y) ≡ false → ((w : Exact) → IsForm w → exact_product w y ≡ Ok x → ⊥) → exact_quotient x y ≡ Err NotExact
no_product x y f g s none =
    no_quotient x y s (denominator_positive x f) (denominator_positive y g)
    (λ w i e p. none w i (times_product w y x (denominator_positive w i) (denominator_positive y g) f e (λ o. power_up (power_of_pi w) (power_of_pi y) (power_of_pi x) (p o))))
