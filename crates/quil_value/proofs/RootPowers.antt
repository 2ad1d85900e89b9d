-- Powers of √2, and ring numbers over them.
use Rattle.std.proofs.Common.{◌≡◌, refl, sym, ◌∙◌, ap, ap₂, ℕ, zero, suc, ◌+◌, Bool, if◌then◌else◌, arith}
use Rattle.std.specs.Prelude.{ℤ, pos, ◌+ℤ◌, ◌*ℤ◌}
use Rattle.std.proofs.lemmas.Int.{ints}
use borrow.Author.Differences.{same_in}
use Rattle.qvm_ring.specs.Ring.{Element, plus, times, root_two, quotient, whole_number}
use Rattle.qvm_ring.proofs.RingLemmas.{same_element, root_two_times_quotient}
use Rattle.qvm_ring.proofs.Associative.{times_assoc}
use Rattle.quil_value.specs.Exact.{Ring, least, root_power}
use Rattle.quil_value.specs.Division.{double}
use Rattle.quil_value.proofs.Spans.{scaled, times_whole}
use Rattle.quil_value.proofs.Powers.{times_comm, times_unit_right, cancel_root, root_two_divides}

two_times : (x : ℤ) → x *ℤ pos 2 ≡ x +ℤ x
two_times x = same_in _ _ (omega (arith, ints))

pub twice : (z : Element) → times z (whole_number 2) ≡ double z
twice z = times_whole z 2 ∙ same_element (scaled z 2) (double z) (two_times z.a) (two_times z.b) (two_times z.c) (two_times z.d)

pub root_times_power : (z w : Element) (m : ℕ) → w ≡ times z (root_power m) → times root_two w ≡ times z (root_power (suc m))
root_times_power z w m e =
    ap (times root_two) e ∙ times_comm root_two (times z (root_power m)) ∙ times_assoc z (root_power m) root_two
    ∙ ap (times z) (times_comm (root_power m) root_two)

-- ---- one exponent

least_root : (t : Element) (m : ℕ) → least (times root_two t) (suc m) ≡ least t m
least_root t m =
    let d = root_two_divides t in
    ap (λ (s : Bool). if s then least (quotient (times root_two t)) m else Ring (times root_two t) (suc m)) d
    ∙ ap (λ (s : Element). least s m) (cancel_root (quotient (times root_two t)) t (root_two_times_quotient (times root_two t) d))

-- z√2^k/√2^(k + m) is z/√2^m
pub least_over : (z : Element) (k m : ℕ) → least (times z (root_power k)) (k + m) ≡ least z m
least_over z zero m = ap₂ least (times_unit_right z) (let e : 0 + m ≡ m = omega arith in e)
least_over z (suc k) m =
    ap₂ least (sym (root_times_power z (times z (root_power k)) k refl)) (let e : suc k + m ≡ suc (k + m) = omega arith in e)
    ∙ least_root (times z (root_power k)) (k + m) ∙ least_over z k m
