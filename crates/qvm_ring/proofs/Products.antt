-- The product of a table's gate with a vector, entry by entry.
use Rattle.std.proofs.Common.{◌≡◌, refl, sym, ◌∙◌, ap, subst, ℕ, zero, suc, ◌+◌, ◌*◌, ◌^◌, ◌<◌, ◌≤◌, true, List, [], ◌∷◌, length, get_or, arith}
use Rattle.std.proofs.lemmas.List.{length-map}
use Rattle.std.proofs.lemmas.Nat.{row_fits}
use Rattle.qvm_ring.specs.declared.amp.Amp.{Amp}
use Rattle.qvm_ring.specs.declared.table.Table.{Table}
use Rattle.qvm_ring.specs.Ring.{Element, plus, times, is_zero}
use Rattle.qvm_ring.specs.Ray.{Ray, amplitude_at, ray_of}
use Rattle.qvm_ring.specs.Gate.{Gate, local_state, with_local, summed, product_at}
use Rattle.qvm_ring.specs.Views.{element_of, at, elements_of, map_of}
use Rattle.qvm_ring.specs.Table.{table_gate, IsTableOf}
use Rattle.qvm_ring.proofs.Elements.{nought_if_zero, plus_nought, times_nought}
use Rattle.qvm_ring.proofs.FiniteMaps.{amplitude_at_ray_of}
use Rattle.qvm_ring.proofs.Vectors.{same_ray_of}
use Rattle.qvm_ring.proofs.Summed.{sum_same}
use Rattle.qvm_ring.proofs.Associative.{times_zero}
use Rattle.qvm_ring.proofs.LocalStates.{local_below}

-- ---- elements of lists

pub at_elements : (zs : List Amp) (i : ℕ) (d : Amp) → i < length zs → at (elements_of zs) i ≡ element_of (get_or zs i d)
at_elements [] i d h = absurd (omega arith)
at_elements (z ∷ zs) zero d h = refl
at_elements (z ∷ zs) (suc i) d h = at_elements zs i d (omega arith)

pub entry_of_list : (zs : List Amp) (row column m n : ℕ) (d : Amp) → m ≡ n → row < n → column < n → length zs ≡ n * n →
    element_of (get_or zs (row * m + column) d) ≡ at (elements_of zs) (row * n + column)
entry_of_list zs row column m n d e h k l =
    ap (λ (i : ℕ). element_of (get_or zs (row * i + column) d)) e
    ∙ sym (at_elements zs (row * n + column) d (omega (arith, row_fits row n n n h (let r : n ≤ n = omega arith in r), k, l)))

pub amplitude_of_list : (zs : List Amp) (x : ℕ) (d : Amp) → x < length zs → element_of (get_or zs x d) ≡ amplitude_at (map_of (elements_of zs)) x
amplitude_of_list zs x d h =
    sym (at_elements zs x d h) ∙ sym (amplitude_at_ray_of (length (elements_of zs)) (at (elements_of zs)) x (subst (λ (n : ℕ). x < n) (sym (length-map zs element_of)) h))

-- ---- one sum

pub plus_zero_entry : (s x y : Element) → is_zero x ≡ true → plus s (times x y) ≡ s
plus_zero_entry s x y h = ap (λ (z : Element). plus s (times z y)) (nought_if_zero x h) ∙ ap (plus s) (times_nought y) ∙ plus_nought s

pub plus_zero_amplitude : (s x y : Element) → is_zero y ≡ true → plus s (times x y) ≡ s
plus_zero_amplitude s x y h = ap (λ (z : Element). plus s (times x z)) (nought_if_zero y h) ∙ ap (plus s) (times_zero x) ∙ plus_nought s

-- what column k adds to the sum at basis state x
abbrev pub term : Gate → Ray → List ℕ → ℕ → ℕ → Element
term g ray qs x k = times (g.entry (local_state qs x) k) (amplitude_at ray (with_local qs k x))

pub summed_more : (n : ℕ) (f : ℕ → Element) → summed (n + 1) f ≡ plus (summed n f) (f n)
summed_more n f = ap (λ (k : ℕ). summed k f) (let e : n + 1 ≡ suc n = omega arith in e)

pub sum_more : (g : Gate) (ray : Ray) (qs : List ℕ) (x k row other : ℕ) (s e z : Element) → s ≡ summed k (term g ray qs x) → row ≡ local_state qs x → other ≡ with_local qs k x →
    e ≡ g.entry row k → z ≡ amplitude_at ray other → plus s (times e z) ≡ summed (k + 1) (term g ray qs x)
sum_more g ray qs x k row other s e z hs hr ho he hz =
    let before = summed k (term g ray qs x) in
    ap (λ (t : Element). plus t (times e z)) hs
    ∙ ap (λ (t : Element). plus before (times t z)) (he ∙ ap (λ (r : ℕ). g.entry r k) hr)
    ∙ ap (λ (t : Element). plus before (times (g.entry (local_state qs x) k) t)) (hz ∙ ap (amplitude_at ray) ho)
    ∙ sym (summed_more k (term g ray qs x))

-- ---- a gate by its table

pub product_of_table : (g : Gate) (t : Table) (qs : List ℕ) (ray : Ray) (x : ℕ) → IsTableOf g t → length qs ≡ g.arity → product_at (table_gate t) qs ray x ≡ product_at g qs ray x
product_of_table g t qs ray x h a = sum_same (2 ^ length qs) _ _ (λ k l.
    let size : 2 ^ length qs ≡ 2 ^ g.arity = ap (λ (n : ℕ). 2 ^ n) a in
    ap (λ (z : Element). times z (amplitude_at ray (with_local qs k x)))
    (h.entries (local_state qs x) k (subst (λ (n : ℕ). local_state qs x < n) size (local_below qs x)) (subst (λ (n : ℕ). k < n) size l)))

pub ray_of_table : (n : ℕ) (g : Gate) (t : Table) (qs : List ℕ) (ray : Ray) → IsTableOf g t → length qs ≡ g.arity →
    ray_of n (product_at (table_gate t) qs ray) ≡ ray_of n (product_at g qs ray)
ray_of_table n g t qs ray h a = same_ray_of n _ _ (λ x l. product_of_table g t qs ray x h a)
