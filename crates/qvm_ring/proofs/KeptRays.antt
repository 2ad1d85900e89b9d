-- A unitary gate loses nothing: the conjugate transpose gives back 2^m times the amplitudes, so a map that isn't empty stays so.
use Rattle.std.proofs.Common.{◌≡◌, ◌≢◌, refl, sym, ◌∙◌, ap, ℕ, zero, suc, ◌^◌, ◌<◌, ◌==◌, Bool, true, false, List, [], ◌∷◌, length, All, arith}
use Rattle.std.specs.Prelude.{if◌then◌else◌, ℤ, pos, negsuc, ◌*ℤ◌}
use Rattle.std.proofs.lemmas.Bool.Decides.{nat_tests}
use Rattle.std.proofs.lemmas.Int.{ints}
use borrow.Author.Differences.{same_in}
use Rattle.qvm_ring.specs.Ring.{Element, nought, whole_number, times, conjugate}
use Rattle.qvm_ring.specs.Ray.{Ray, amplitude_at, ray_of, IsFiniteMap}
use Rattle.qvm_ring.specs.Gate.{Gate, local_state, with_local, summed, product_at, IsUnitary}
use Rattle.qvm_ring.proofs.RingLemmas.{same_element}
use Rattle.qvm_ring.proofs.Elements.{times_nought}
use Rattle.qvm_ring.proofs.Bits.{power_positive}
use Rattle.qvm_ring.proofs.Summed.{sum_same, sum_nought, sum_lone}
use Rattle.qvm_ring.proofs.FiniteMaps.{amplitude_at_head, amplitude_at_ray_of, not_zero}
use Rattle.qvm_ring.proofs.LocalStates.{AreDifferent, local_below, with_own_local, with_local_below, with_local_twice, local_of_with}
use Rattle.qvm_ring.proofs.Associative.{times_assoc, times_summed, summed_times, summed_swap, times_zero}

both : (ray : Ray) (a a' : Element) (y y' : ℕ) → a ≡ a' → y ≡ y' → times a (amplitude_at ray y) ≡ times a' (amplitude_at ray y')
both ray a a' y y' e f = ap (λ (z : Element). times z (amplitude_at ray y)) e ∙ ap (λ (x : ℕ). times a' (amplitude_at ray x)) f

none : (ray : Ray) (a : Element) (y : ℕ) → a ≡ nought → times a (amplitude_at ray y) ≡ nought
none ray a y e = ap (λ (z : Element). times z (amplitude_at ray y)) e ∙ times_nought (amplitude_at ray y)

if_true : (b : Bool) (x y : Element) → b ≡ true → (if b then x else y) ≡ x
if_true b x y e = ap (λ (t : Bool). if t then x else y) e

if_false : (b : Bool) (x y : Element) → b ≡ false → (if b then x else y) ≡ y
if_false b x y e = ap (λ (t : Bool). if t then x else y) e

isnt_same : (m n : ℕ) → m ≢ n → (m == n) ≡ false
isnt_same m n h = grind (arith, nat_tests)

is_same : (m : ℕ) → (m == m) ≡ true
is_same m = grind (arith, nat_tests)

abbrev wanted : Gate → ℕ → ℕ → Element
wanted g row column = if row == column then whole_number (2 ^ g.root_twos) else nought

module _ (g : Gate) (u : IsUnitary g) (qs : List ℕ) (ray : Ray) (x : ℕ) (size : 2 ^ g.arity ≡ 2 ^ length qs) (different : AreDifferent qs) where
  below : (k : ℕ) → k < 2 ^ length qs → k < 2 ^ g.arity
  below k l = omega (arith, size, l)

  given_back : summed (2 ^ length qs) (λ r. times (conjugate (g.entry r (local_state qs x))) (product_at g qs ray (with_local qs r x))) ≡ times (whole_number (2 ^ g.root_twos)) (amplitude_at ray x)
  given_back =
      let n = 2 ^ length qs in
      let j = local_state qs x in
      let amp : ℕ → Element = λ k. amplitude_at ray (with_local qs k x) in
      let c : ℕ → Element = λ r. conjugate (g.entry r j) in
      let w = whole_number (2 ^ g.root_twos) in
      let here : (r : ℕ) → r < n → product_at g qs ray (with_local qs r x) ≡ summed n (λ k. times (g.entry r k) (amp k)) = λ r l.
      sum_same n (λ k. times (g.entry (local_state qs (with_local qs r x)) k) (amplitude_at ray (with_local qs k (with_local qs r x)))) (λ k. times (g.entry r k) (amp k)) (λ k m.
      both ray _ _ _ _ (ap (λ (t : ℕ). g.entry t k) (local_of_with qs r x different l)) (with_local_twice qs k r x different)) in
      let one : (r : ℕ) → r < n → times (c r) (product_at g qs ray (with_local qs r x)) ≡ summed n (λ k. times (times (c r) (g.entry r k)) (amp k)) = λ r l.
      ap (times (c r)) (here r l) ∙ times_summed n (c r) (λ k. times (g.entry r k) (amp k))
      ∙ sum_same n (λ k. times (c r) (times (g.entry r k) (amp k))) (λ k. times (times (c r) (g.entry r k)) (amp k)) (λ k m. sym (times_assoc (c r) (g.entry r k) (amp k))) in
      let two : (k : ℕ) → k < n → summed n (λ r. times (times (c r) (g.entry r k)) (amp k)) ≡ times (wanted g j k) (amp k) = λ k l.
      sym (summed_times n (amp k) (λ r. times (c r) (g.entry r k)))
      ∙ ap (λ (m : ℕ). times (summed m (λ r. times (c r) (g.entry r k))) (amp k)) (sym size)
      ∙ ap (λ (t : Element). times t (amp k)) (u.columns j k (below j (local_below qs x)) (below k l)) in
      sum_same n (λ r. times (c r) (product_at g qs ray (with_local qs r x))) (λ r. summed n (λ k. times (times (c r) (g.entry r k)) (amp k))) one
      ∙ summed_swap n n (λ r k. times (times (c r) (g.entry r k)) (amp k))
      ∙ sum_same n (λ k. summed n (λ r. times (times (c r) (g.entry r k)) (amp k))) (λ k. times (wanted g j k) (amp k)) two
      ∙ sum_lone n j (λ k. times (wanted g j k) (amp k)) (local_below qs x) (λ k l o. none ray _ _ (if_false (j == k) _ _ (isnt_same j k (λ e. o (sym e)))))
      ∙ both ray _ _ _ _ (if_true (j == j) w nought (is_same j)) (with_own_local qs x)

  -- if the product is 0 at each state that differs from x in the gate's qubits only, then so is the amplitude of x
  nought_before : ((r : ℕ) → r < 2 ^ length qs → product_at g qs ray (with_local qs r x) ≡ nought) → times (whole_number (2 ^ g.root_twos)) (amplitude_at ray x) ≡ nought
  nought_before h = sym given_back ∙ sum_nought (2 ^ length qs) (λ r. times (conjugate (g.entry r (local_state qs x))) (product_at g qs ray (with_local qs r x)))
      (λ r l. ap (times (conjugate (g.entry r (local_state qs x)))) (h r l) ∙ times_zero (conjugate (g.entry r (local_state qs x))))

positive_times : (n : ℕ) (y : ℤ) → pos (suc n) *ℤ y ≡ pos 0 → y ≡ pos 0
positive_times n (pos zero) h = refl
positive_times n (pos (suc m)) h = absurd (omega (arith, ints, h))
positive_times n (negsuc m) h = absurd (omega (arith, ints, h))

times_whole : (n : ℕ) (z : Element) → times (whole_number n) z ≡ record { a = pos n *ℤ z.a; b = pos n *ℤ z.b; c = pos n *ℤ z.c; d = pos n *ℤ z.d }
times_whole n z = same_element _ _ (same_in _ _ (omega (arith, ints))) (same_in _ _ (omega (arith, ints))) (same_in _ _ (omega (arith, ints))) (same_in _ _ (omega (arith, ints)))

nought_of_multiple : (n : ℕ) (z : Element) → 0 < n → times (whole_number n) z ≡ nought → z ≡ nought
nought_of_multiple zero z h e = absurd (omega arith)
nought_of_multiple (suc n) z h e =
    let f = sym (times_whole (suc n) z) ∙ e in
    same_element z nought (positive_times n z.a (ap (λ (y : Element). y.a) f)) (positive_times n z.b (ap (λ (y : Element). y.b) f))
    (positive_times n z.c (ap (λ (y : Element). y.c) f)) (positive_times n z.d (ap (λ (y : Element). y.d) f))

pub product_some : (n : ℕ) (g : Gate) (qs : List ℕ) (ray : Ray) → IsUnitary g → g.arity ≡ length qs → AreDifferent qs → All (λ q. q < n) qs →
    IsFiniteMap 0 (2 ^ n) ray → ray ≢ [] → ray_of (2 ^ n) (product_at g qs ray) ≢ []
product_some n g qs [] u a d b m s h = s refl
product_some n g qs (e ∷ es) u a d b m s h =
    let ray : Ray = e ∷ es in
    let w : times (whole_number (2 ^ g.root_twos)) (amplitude_at ray e.0) ≡ nought =
    nought_before g u qs ray e.0 (ap (λ (k : ℕ). 2 ^ k) a) d (λ r l.
    sym (amplitude_at_ray_of (2 ^ n) (product_at g qs ray) (with_local qs r e.0) (with_local_below n qs r e.0 b m.1))
    ∙ ap (λ (t : Ray). amplitude_at t (with_local qs r e.0)) h) in
    not_zero e.1 m.2 (sym (amplitude_at_head e es e.0 refl) ∙ nought_of_multiple (2 ^ g.root_twos) (amplitude_at ray e.0) (power_positive g.root_twos) w)
