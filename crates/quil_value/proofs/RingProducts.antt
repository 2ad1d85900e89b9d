-- The product of two ring numbers: z/√2^j is settled in its least form.
use Rattle.std.proofs.Common.{◌≡◌, sym, ◌∙◌, ap, ap₂, subst, ℕ, ◌+◌, ◌*◌, ◌^◌, Result, Ok}
use Rattle.std.specs.Prelude.{pos}
use Rattle.std.proofs.lemmas.Nat.{pow-add}
use Rattle.qvm_ring.specs.Ring.{Element, whole_number, times}
use Rattle.qvm_ring.proofs.Associative.{times_assoc}
use Rattle.qvm_ring.proofs.Bits.{power_positive}
use Rattle.quil_value.specs.declared.lack.Lack.{Lack}
use Rattle.quil_value.specs.Exact.{Exact, Ring, least, root_power, scaled_by, settled, bounded, exact_product, product_of}
use Rattle.quil_value.specs.Forms.{IsForm}
use Rattle.quil_value.proofs.Powers.{times_comm, last_two, exchanged, root_power_sum, root_power_squared}
use Rattle.quil_value.proofs.Leasts.{AreSame, settles}
use Rattle.quil_value.proofs.Settled.{same_settled}
use Rattle.quil_value.proofs.Identity.{settled_self}

-- t/√2^j is w/√2^i, over 2^j and over 2^i
same_over : (t w : Element) (j i : ℕ) → AreSame t j w i → scaled_by (2 ^ i) (times t (root_power j)) ≡ scaled_by (2 ^ j) (times w (root_power i))
same_over t w j i e =
    let a = root_power j in
    let b = root_power i in
    times_comm (whole_number (2 ^ i)) (times t a)
    ∙ ap (times (times t a)) (sym (root_power_squared i))
    ∙ sym (times_assoc (times t a) b b)
    ∙ ap (λ (s : Element). times s b) (last_two t a b ∙ ap (λ (s : Element). times s a) e ∙ times_assoc w a a ∙ ap (times w) (root_power_squared j))
    ∙ last_two w (whole_number (2 ^ j)) b ∙ times_comm (times w b) (whole_number (2 ^ j))

pub settled_power : (t : Element) (j : ℕ) → settled (times t (root_power j)) (2 ^ j) (pos 0) ≡ Ok (least t j)
settled_power t j =
    let s = settles t j in
    same_settled (times t (root_power j)) (2 ^ j) (times s.w (root_power s.j)) (2 ^ s.j) (pos 0) (power_positive j) (power_positive s.j) (same_over t s.w j s.j s.same)
    ∙ settled_self (Ring s.w s.j) s.form ∙ ap (λ (x : Exact). Ok x) (sym s.found)

-- what is divided by √2 as long as it can be is in its one form
pub least_form : (w : Element) (j : ℕ) (z : Element) (m : ℕ) → Ring w j ≡ least z m → IsForm (Ring w j)
least_form w j z m e = let s = settles z m in subst IsForm (sym (e ∙ s.found)) s.form

product_settled : (z : Element) (m : ℕ) (w : Element) (j : ℕ) → exact_product (Ring z m) (Ring w j) ≡ Ok (least (times z w) (m + j))
product_settled z m w j =
    ap₂ (λ (t : Element) (n : ℕ). settled t n (pos 0)) (exchanged z (root_power m) w (root_power j) ∙ ap (times (times z w)) (root_power_sum m j)) (sym (pow-add 2 m j))
    ∙ settled_power (times z w) (m + j)

pub product_least : (z : Element) (m : ℕ) (w : Element) (j : ℕ) → bounded (Ok (least (times z w) (m + j))) ≡ product_of (Ring z m) (Ring w j)
product_least z m w j = ap bounded (sym (product_settled z m w j))
