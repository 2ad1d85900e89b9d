-- An array that is filled from its front: what was written, and zeros behind it.
use Rattle.std.proofs.Common.{◌≡◌, sym, ◌∙◌, ap, ℕ, suc, ◌+◌, ◌-◌, ◌<◌, ◌≤◌, List, [], ◌∷◌, ◌++◌, length, take, get_or, replicate, slice_set, take_all, length-take-le, append_assoc, arith, length-append}
use Rattle.std.proofs.Math.Seq.{set-append_seam}
use Rattle.std.proofs.lemmas.List.{map-set, map-append, take_more}
use Rattle.qvm_ring.specs.Ring.{Element, nought, times}
use Rattle.qvm_ring.specs.declared.amp.Amp.{Amp}
use Rattle.qvm_ring.specs.Views.{element_of, elements_of, wide_element}
use Rattle.quil_value.specs.declared.value.RingNumber.{RingNumber}
use Rattle.quil_gate.proofs.Numbers.{numerators_length}
use Rattle.quil_code.specs.Controls.{root_two_to}
use Rattle.quil_gate.specs.Definitions.{Entry, numerators, padded}
use Rattle.quil_gate.specs.Reading.{number_entry, entries_of}

written : (xs : List Element) (m : ℕ) (w : Element) → slice_set (xs ++ replicate (suc m) nought) (length xs) w ≡ (xs ++ w ∷ []) ++ replicate m nought
written xs m w = set-append_seam xs nought (replicate m nought) w ∙ sym (append_assoc xs (w ∷ []) (replicate m nought))

room_left : (n m : ℕ) → n < 64 → m ≡ n + 1 → 64 - n ≡ suc (64 - m)
room_left n m h e = omega arith

-- one more is written
pub padded_push : (zs : List Amp) (xs : List Element) (z : Amp) (i : ℕ) → i ≡ length xs → i < 64 → elements_of zs ≡ padded xs → elements_of (slice_set zs i z) ≡ padded (xs ++ element_of z ∷ [])
padded_push zs xs z i e h so_far =
    let w = element_of z in
    map-set element_of zs i z
    ∙ ap (λ (ys : List Element). slice_set ys i w) so_far
    ∙ ap (λ (j : ℕ). slice_set (padded xs) j w) e
    ∙ ap (λ (n : ℕ). slice_set (xs ++ replicate n nought) (length xs) w)
    (room_left (length xs) (length (xs ++ w ∷ [])) (omega (arith, e, h)) (omega (arith, length-append xs (w ∷ []))))
    ∙ written xs (64 - length (xs ++ w ∷ [])) w

-- ---- numerators

pub numerators_next : (m : ℕ) (rs : List RingNumber) (i : ℕ) (d : RingNumber) → i < length rs →
    numerators m (entries_of (take (i + 1) rs)) ≡ numerators m (entries_of (take i rs)) ++ times (wide_element (get_or rs i d).num) (root_two_to (m - (get_or rs i d).m)) ∷ []
numerators_next m rs i d h =
    ap (λ (ss : List RingNumber). numerators m (entries_of ss)) (take_more rs i d h)
    ∙ ap (numerators m) (map-append number_entry (take i rs) (get_or rs i d ∷ []))
    ∙ map-append (λ (e : Entry). times e.0 (root_two_to (m - e.1))) (entries_of (take i rs)) (number_entry (get_or rs i d) ∷ [])

pub numerators_push : (m : ℕ) (rs : List RingNumber) (i : ℕ) (d : RingNumber) (zs : List Amp) (z : Amp) → i < length rs → length rs ≤ 64 →
    element_of z ≡ times (wide_element (get_or rs i d).num) (root_two_to (m - (get_or rs i d).m)) → elements_of zs ≡ padded (numerators m (entries_of (take i rs))) →
    elements_of (slice_set zs i z) ≡ padded (numerators m (entries_of (take (i + 1) rs)))
numerators_push m rs i d zs z h room e so_far =
    padded_push zs (numerators m (entries_of (take i rs))) z i (omega (arith, numerators_length m (take i rs), length-take-le i rs (omega (arith, h)))) (omega (arith, h, room)) so_far
    ∙ ap (λ (w : Element). padded (numerators m (entries_of (take i rs)) ++ w ∷ [])) e
    ∙ sym (ap padded (numerators_next m rs i d h))

pub numerators_all : (m : ℕ) (rs : List RingNumber) (i : ℕ) (zs : List Amp) → length rs ≤ i → elements_of zs ≡ padded (numerators m (entries_of (take i rs))) → elements_of zs ≡ padded (numerators m (entries_of rs))
numerators_all m rs i zs h so_far = so_far ∙ ap (λ (ss : List RingNumber). padded (numerators m (entries_of ss))) (take_all i rs h)
