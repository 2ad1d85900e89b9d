-- The least power of √2 below a number: there is one form, and it is found.
use Rattle.std.proofs.Common.{◌≡◌, refl, sym, ◌∙◌, ap, ap₂, ℕ, zero, suc, true, false, Bool, if◌then◌else◌, arith}
use Rattle.qvm_ring.specs.Ring.{Element, times, root_two, is_divisible, quotient}
use Rattle.qvm_ring.proofs.RingLemmas.{root_two_times_quotient}
use Rattle.qvm_ring.proofs.Associative.{times_assoc}
use Rattle.quil_value.specs.Exact.{Ring, least, root_power}
use Rattle.quil_value.specs.Forms.{IsLeast}
use Rattle.quil_value.proofs.Powers.{times_comm, times_unit_right, last_two, cancel_root, cancel_root_power, root_two_divides}

-- x (√2 y) = √2 (x y)
pub root_first : (x y : Element) → times x (times root_two y) ≡ times root_two (times x y)
root_first x y = sym (times_assoc x root_two y) ∙ ap (λ (t : Element). times t y) (times_comm x root_two) ∙ times_assoc root_two x y

-- z/√2^m is w/√2^j
abbrev pub AreSame : Element → ℕ → Element → ℕ → Type 0
AreSame z m w j = times z (root_power j) ≡ times w (root_power m)

pub record Settles (z : Element) (m : ℕ) : Type 0 where
  pub w : Element
  pub j : ℕ
  pub found : least z m ≡ Ring w j
  pub form : IsLeast w j
  pub same : AreSame z m w j

same_up : (z w : Element) (m j : ℕ) → is_divisible z ≡ true → AreSame (quotient z) m w j → AreSame z (suc m) w j
same_up z w m j h e =
    ap (λ (t : Element). times t (root_power j)) (sym (root_two_times_quotient z h)) ∙ times_assoc root_two (quotient z) (root_power j)
    ∙ ap (times root_two) e ∙ sym (root_first w (root_power m))

pub settles : (z : Element) (m : ℕ) → Settles z m
settles z zero = record { w = z; j = 0; found = refl; form = λ h. absurd (omega arith); same = refl }
settles z (suc m) = elim (is_divisible z) as (λ t. is_divisible z ≡ t → Settles z (suc m)) [
  | true ↦ λ e. let s = settles (quotient z) m in
      record { w = s.w; j = s.j; found = ap (λ (t : Bool). if t then least (quotient z) m else Ring z (suc m)) e ∙ s.found; form = s.form; same = same_up z s.w m s.j e s.same }
  | false ↦ λ e. record { w = z; j = suc m; found = ap (λ (t : Bool). if t then least (quotient z) m else Ring z (suc m)) e; form = λ h. e; same = refl }
] refl

not_least : (w t : Element) (j : ℕ) → IsLeast w (suc j) → w ≡ times root_two t → ⊥
not_least w t j h e =
    let d : is_divisible w ≡ true = ap is_divisible e ∙ root_two_divides t in
    let n : is_divisible w ≡ false = h (omega arith) in
    let f : true ≡ false = sym d ∙ n in
    cc

pub one_least : (v w : Element) (i j : ℕ) → IsLeast v i → IsLeast w j → AreSame v i w j → (v ≡ w) × (i ≡ j)
one_least v w zero zero h k e = (sym (times_unit_right v) ∙ e ∙ times_unit_right w, refl)
one_least v w zero (suc j) h k e = absurd (not_least w (times v (root_power j)) j k (sym (times_unit_right w) ∙ sym e ∙ root_first v (root_power j)))
one_least v w (suc i) zero h k e = absurd (not_least v (times w (root_power i)) i h (sym (times_unit_right v) ∙ e ∙ root_first w (root_power i)))
one_least v w (suc i) (suc j) h k e =
    let s = one_least v w i j (λ l. h (omega arith)) (λ l. k (omega arith))
    (cancel_root (times v (root_power j)) (times w (root_power i)) (sym (root_first v (root_power j)) ∙ e ∙ root_first w (root_power i))) in
    (s.0, ap (λ (n : ℕ). suc n) s.1)

-- what is least and the same is what is found
pub least_is : (z : Element) (m : ℕ) (w : Element) (j : ℕ) → IsLeast w j → AreSame z m w j → least z m ≡ Ring w j
least_is z m w j h e =
    let s = settles z m in
    let through : times (times s.w (root_power j)) (root_power m) ≡ times (times w (root_power s.j)) (root_power m) =
    last_two s.w (root_power j) (root_power m) ∙ ap (λ (t : Element). times t (root_power j)) (sym s.same) ∙ last_two z (root_power s.j) (root_power j)
    ∙ ap (λ (t : Element). times t (root_power s.j)) e ∙ last_two w (root_power m) (root_power s.j) in
    let one = one_least s.w w s.j j s.form h (cancel_root_power (times s.w (root_power j)) (times w (root_power s.j)) m through) in
    s.found ∙ ap₂ Ring one.0 one.1
