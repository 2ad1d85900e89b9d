-- What is settled is the same number.
use Rattle.std.proofs.Common.{◌≡◌, refl, sym, ◌∙◌, ap, subst, ℕ, zero, suc, ◌*◌, ◌/◌, ◌^◌, ◌<◌, true, false, Some, None, Result, Ok, Err, if◌then◌else◌}
use Rattle.std.specs.Prelude.{ℤ, pos, ◌*ℤ◌}
use Rattle.std.specs.Ordering.{int_eq}
use Rattle.std.proofs.lemmas.Bool.Decides.{Decides-int_eq}
use Rattle.std.proofs.Math.IntN.{zero-*ℤ}
use Rattle.qvm_ring.specs.Ring.{Element, nought, unit, whole_number, times, is_zero, root_two, is_divisible, quotient}
use Rattle.qvm_ring.proofs.Associative.{times_assoc}
use Rattle.qvm_ring.proofs.Elements.{nought_if_zero, times_nought}
use Rattle.qvm_ring.proofs.RingLemmas.{same_element, root_two_times_quotient}
use Rattle.quil_number.specs.Fraction.{lowest}
use Rattle.quil_number.proofs.Meanings.{lowest_terms}
use Rattle.quil_value.specs.declared.lack.Lack.{Lack}
use Rattle.quil_value.specs.declared.lack.Lack.TheVariants.{NotExact}
use Rattle.quil_value.specs.Exact.{Exact, Ring, Rational, Pi, ImagPi, least, content, divided_by, exponent_of_two, is_rational, is_imaginary, settled_number, settled_angle, settled, root_power, numerator, denominator, power_of_pi, scaled_by}
use Rattle.quil_value.proofs.Contents.{divided_times, divided_whole}
use Rattle.quil_value.proofs.Powers.{times_comm, times_unit_right, last_two, whole_times, root_power_squared, root_power_twice}
use Rattle.quil_value.proofs.Spans.{scaled, times_whole}
use Rattle.quil_value.proofs.Twos.{exponent_found}
use Rattle.quil_value.proofs.Settled.{by_kind}
use Rattle.quil_value.proofs.Identity.{by_exponent}

-- w is z/n
abbrev IsOver : Element → ℕ → Exact → Type 0
IsOver z n w = times (numerator w) (whole_number n) ≡ times z (whole_number (denominator w))

abbrev IsMade : Element → ℕ → ℤ → Exact → Type 0
IsMade z n k w = IsOver z n w × (is_zero z ≡ false → power_of_pi w ≡ k)

root_first : (x y : Element) → times x (times root_two y) ≡ times root_two (times x y)
root_first x y = sym (times_assoc x root_two y) ∙ ap (λ (t : Element). times t y) (times_comm x root_two) ∙ times_assoc root_two x y

abbrev IsLeastOf : Element → ℕ → Exact → Type 0
IsLeastOf z m x = (times (numerator x) (root_power m) ≡ times z (whole_number (denominator x))) × (power_of_pi x ≡ pos 0)

least_up : (z : Element) (m : ℕ) (x : Exact) → is_divisible z ≡ true → IsLeastOf (quotient z) m x → IsLeastOf z (suc m) x
least_up z m x h e = (
  root_first (numerator x) (root_power m) ∙ ap (times root_two) e.0 ∙ sym (times_assoc root_two (quotient z) (whole_number (denominator x)))
      ∙ ap (λ (t : Element). times t (whole_number (denominator x))) (root_two_times_quotient z h),
  e.1,
)

least_means : (z : Element) (m : ℕ) → IsLeastOf z m (least z m)
least_means z zero = (ap (λ (t : Element). times t unit) (times_unit_right z), refl)
least_means z (suc m) = elim (is_divisible z) as (λ t. is_divisible z ≡ t → IsLeastOf z (suc m) (if t then least (quotient z) m else Ring z (suc m))) [
  | true ↦ λ e. least_up z m (least (quotient z) m) e (least_means (quotient z) m)
  | false ↦ λ e. (times_assoc z (root_power (suc m)) (root_power (suc m)) ∙ ap (times z) (root_power_squared (suc m)), refl)
] refl

ring_made : (z : Element) (n j : ℕ) → exponent_of_two (n / content z n) ≡ Some j → IsMade z n (pos 0) (least (divided_by (content z n) z) (2 * j))
ring_made z n j h =
    let g = content z n in
    let w = divided_by g z in
    let x = least w (2 * j) in
    let m = least_means w (2 * j) in
    let e : n ≡ 2 ^ j * g = sym (divided_whole z n) ∙ ap (λ (k : ℕ). k * g) (sym (exponent_found (n / g) j h)) in (
      ap (times (numerator x)) (ap whole_number e ∙ sym (whole_times (2 ^ j) g)) ∙ sym (times_assoc (numerator x) (whole_number (2 ^ j)) (whole_number g))
          ∙ ap (λ (t : Element). times t (whole_number g)) (ap (times (numerator x)) (sym (root_power_twice j)) ∙ m.0)
          ∙ last_two w (whole_number (denominator x)) (whole_number g) ∙ ap (λ (t : Element). times t (whole_number (denominator x))) (divided_times z n),
      λ s. m.1,
    )

none_either : (y : ℤ) (n q : ℕ) → y ≡ pos 0 → pos 0 *ℤ pos n ≡ y *ℤ pos q
none_either y n q e = zero-*ℤ (pos n) ∙ sym (zero-*ℤ (pos q)) ∙ ap (λ (t : ℤ). t *ℤ pos q) (sym e)

real_over : (z : Element) (n : ℕ) → 0 < n → is_rational z ≡ true → IsOver z n (Rational (lowest z.a n))
real_over z n some h =
    let x = lowest z.a n in
    let w : Element = record { a = x.p; b = pos 0; c = pos 0; d = pos 0 } in
    let e = nought_if_zero (record { a = pos 0; b = z.b; c = z.c; d = z.d }) h in
    times_whole w n ∙ same_element (scaled w n) (scaled z x.q) ((lowest_terms z.a n some).equal) (none_either z.b n x.q (ap (λ (t : Element). t.b) e))
    (none_either z.c n x.q (ap (λ (t : Element). t.c) e)) (none_either z.d n x.q (ap (λ (t : Element). t.d) e)) ∙ sym (times_whole z x.q)

imag_over : (z : Element) (n : ℕ) → 0 < n → is_imaginary z ≡ true → IsOver z n (ImagPi (lowest z.c n))
imag_over z n some h =
    let x = lowest z.c n in
    let w : Element = record { a = pos 0; b = pos 0; c = x.p; d = pos 0 } in
    let e = nought_if_zero (record { a = pos 0; b = z.a; c = z.b; d = z.d }) h in
    times_whole w n ∙ same_element (scaled w n) (scaled z x.q) (none_either z.a n x.q (ap (λ (t : Element). t.b) e)) (none_either z.b n x.q (ap (λ (t : Element). t.c) e))
    ((lowest_terms z.c n some).equal) (none_either z.d n x.q (ap (λ (t : Element). t.d) e)) ∙ sym (times_whole z x.q)

told : (z : Element) (n : ℕ) (k : ℤ) (v w : Exact) → IsMade z n k v → (let r : Result Exact Lack = Ok v in r) ≡ Ok w → IsMade z n k w
told z n k v w m e = let same : v ≡ w = cc e in subst (IsMade z n k) same m

refused : (z : Element) (n : ℕ) (k : ℤ) (w : Exact) (l : Lack) → (let r : Result Exact Lack = Err l in r) ≡ Ok w → IsMade z n k w
refused z n k w l e = absurd (cc e)

number_made : (z : Element) (n : ℕ) (w : Exact) → 0 < n → settled_number z n ≡ Ok w → IsMade z n (pos 0) w
number_made z n w some e =
    let x = divided_by (content z n) z in
    elim (exponent_of_two (n / content z n)) as (λ o. exponent_of_two (n / content z n) ≡ o → by_exponent o x (is_rational z) (lowest z.a n) ≡ Ok w → IsMade z n (pos 0) w) [
      | Some j ↦ λ h f. told z n (pos 0) (least x (2 * j)) w (ring_made z n j h) f
      | None ↦ λ h. elim (is_rational z) as (λ b. is_rational z ≡ b → by_exponent None x b (lowest z.a n) ≡ Ok w → IsMade z n (pos 0) w) [
        | true ↦ λ r f. told z n (pos 0) (Rational (lowest z.a n)) w (real_over z n some r, λ s. refl) f
        | false ↦ λ r f. refused z n (pos 0) w NotExact f
      ] refl
    ] refl e

angle_made : (z : Element) (n : ℕ) (w : Exact) → 0 < n → settled_angle z n ≡ Ok w → IsMade z n (pos 1) w
angle_made z n w some e =
    elim (is_rational z) as (λ b. is_rational z ≡ b → (if b then Ok (Pi (lowest z.a n)) else (if is_imaginary z then Ok (ImagPi (lowest z.c n)) else Err NotExact)) ≡ Ok w → IsMade z n (pos 1) w) [
      | true ↦ λ r f. told z n (pos 1) (Pi (lowest z.a n)) w (real_over z n some r, λ s. refl) f
      | false ↦ λ r. elim (is_imaginary z) as (λ b. is_imaginary z ≡ b → (if b then Ok (ImagPi (lowest z.c n)) else Err NotExact) ≡ Ok w → IsMade z n (pos 1) w) [
        | true ↦ λ i f. told z n (pos 1) (ImagPi (lowest z.c n)) w (imag_over z n some i, λ s. refl) f
        | false ↦ λ i f. refused z n (pos 1) w NotExact f
      ] refl
    ] refl e

nought_made : (z : Element) (n : ℕ) (k : ℤ) → is_zero z ≡ true → IsMade z n k (Ring nought 0)
nought_made z n k h =
    (times_nought (whole_number n) ∙ sym (times_nought (whole_number 1)) ∙ ap (λ (t : Element). times t (whole_number 1)) (sym (nought_if_zero z h)), λ s. absurd (let f : true ≡ false = sym h ∙ s in cc))

other_made : (z : Element) (n : ℕ) (k : ℤ) (w : Exact) → 0 < n → by_kind false k (settled_number z n) (settled_angle z n) ≡ Ok w → IsMade z n k w
other_made z n k w some e =
    elim (int_eq k (pos 0)) as (λ b. int_eq k (pos 0) ≡ b → (if b then settled_number z n else (if int_eq k (pos 1) then settled_angle z n else Err NotExact)) ≡ Ok w → IsMade z n k w) [
      | true ↦ λ h f. subst (λ i. IsMade z n i w) (sym ((Decides-int_eq k (pos 0)).0 h)) (number_made z n w some f)
      | false ↦ λ h. elim (int_eq k (pos 1)) as (λ b. int_eq k (pos 1) ≡ b → (if b then settled_angle z n else Err NotExact) ≡ Ok w → IsMade z n k w) [
        | true ↦ λ i f. subst (λ j. IsMade z n j w) (sym ((Decides-int_eq k (pos 1)).0 i)) (angle_made z n w some f)
        | false ↦ λ i f. refused z n k w NotExact f
      ] refl
    ] refl e

made : (z : Element) (n : ℕ) (k : ℤ) (w : Exact) → settled z n k ≡ Ok w → 0 < n → IsMade z n k w
made z n k w e some = elim (is_zero z) as (λ b. is_zero z ≡ b → by_kind b k (settled_number z n) (settled_angle z n) ≡ Ok w → IsMade z n k w) [
  | true ↦ λ h f. told z n k (Ring nought 0) w (nought_made z n k h) f
  | false ↦ λ h f. other_made z n k w some f
] refl e

pub settled_number_same : (z : Element) (n : ℕ) (k : ℤ) (w : Exact) → settled z n k ≡ Ok w → 0 < n → scaled_by n (numerator w) ≡ scaled_by (denominator w) z
settled_number_same z n k w e some = times_comm (whole_number n) (numerator w) ∙ (made z n k w e some).0 ∙ times_comm z (whole_number (denominator w))

pub settled_power_same : (z : Element) (n : ℕ) (k : ℤ) (w : Exact) → settled z n k ≡ Ok w → 0 < n → is_zero z ≡ false → power_of_pi w ≡ k
settled_power_same z n k w e some = (made z n k w e some).1
