-- What the tests find out of lists of qubits.
use Rattle.std.proofs.Common.{◌≡◌, subst, ℕ, zero, suc, ◌-◌, ◌≤◌, List, [], ◌∷◌, length, take, drop, slice_index_or, arith}
use Rattle.std.proofs.lemmas.List.{take_all}
use Rattle.qvm_ring.proofs.LocalStates.{IsOther, AreDifferent}

different_cons : (q : ℕ) (qs : List ℕ) → IsOther q qs → AreDifferent qs → AreDifferent (q ∷ qs)
different_cons q qs o h zero zero d k l = absurd (omega arith)
different_cons q qs o h zero (suc j) d k l = o j d (omega arith)
different_cons q qs o h (suc i) zero d k l = absurd (omega arith)
different_cons q qs o h (suc i) (suc j) d k l = h i j d (omega arith) (omega arith)

pub different_first : (qs : List ℕ) (d n : ℕ) → 1 ≤ length qs → n ≡ length qs → IsOther (slice_index_or qs 0 d) (take (n - 1) (drop 1 qs)) → AreDifferent (take (n - 1) (drop 1 qs)) → AreDifferent qs
different_first [] d n l e o h = absurd (omega arith)
different_first (q ∷ qs) d n l e o h =
    let all : take (n - 1) qs ≡ qs = take_all (n - 1) qs (omega (arith, e)) in
    different_cons q qs (subst (λ (rs : List ℕ). IsOther q rs) all o) (subst (λ (rs : List ℕ). AreDifferent rs) all h)
