-- When the vector of a ray is a state, and what the methods need of one.
use Rattle.std.proofs.Common.{◌≡◌, ◌≢◌, refl, sym, ◌∙◌, ap, subst, ℕ, ◌^◌, ◌<◌, ◌≤◌, inl, inr, List, [], ◌∷◌, ◌++◌, take, length, set, get_or, arith}
use Rattle.std.specs.Prelude.{All}
use Rattle.std.proofs.Math.ListN.{length-set}
use Rattle.std.proofs.Math.Seq.{take-append_seam}
use Rattle.std.proofs.Math.Nat.{pow-le-pow_right}
use Rattle.std.proofs.lemmas.List.{length-map}
use Rattle.qvm_ring.specs.declared.amp.Amp.{Amp}
use Rattle.qvm_ring.specs.Ring.{Element, nought, unit}
use Rattle.qvm_ring.specs.Ray.{Ray, State, IsFiniteMap, amplitude_at, ray_of, weight, weight_limit, reduced}
use Rattle.qvm_ring.specs.Gate.{zero_ray, x_gate, product_at}
use Rattle.qvm_ring.specs.Measure.{kept, projected}
use Rattle.qvm_ring.specs.Views.{at, map_of, element_of, elements_of, IsBelow}
use Rattle.qvm_ring.specs.Vector.{IsVector}
use Rattle.qvm_ring.proofs.FiniteMaps.{order_of, is_ray_of, IsFiniteMap-ray_of, amplitude_at_ray_of, amplitude_at_head, amplitude_at_tail}
use Rattle.qvm_ring.proofs.Reductions.{IsBelow-norm_whole, reduced_some, weight_positive, weight_reduced_le}
use Rattle.qvm_ring.proofs.Vectors.{weight_room, kept_at, kept_ray_of}
use Rattle.qvm_ring.proofs.NormLoops.{weight_kept}
use Rattle.qvm_ring.proofs.Flips.{weight_x_product, x_product_some}
use Rattle.qvm_ring.proofs.Lists.{at_map, at_set_here, at_set_other, All_from_at}

-- ---- light vectors have small elements

pub light_below : (zs : List Element) → weight (map_of zs) ≤ weight_limit → All (IsBelow (2 ^ 62)) zs
light_below zs w = All_from_at (IsBelow (2 ^ 62)) zs (λ i l.
    IsBelow-norm_whole (at zs i) (omega (arith, weight_room (length zs) (at zs) i l, w)))

-- ---- one state

-- a list of 2^n elements that aren't all 0 and don't weigh too much
pub IsVector-made : (n : ℕ) (zs : List Element) → n ≤ 16 → length zs ≡ 2 ^ n → map_of zs ≢ [] → weight (map_of zs) ≤ weight_limit → IsVector n zs
IsVector-made n zs h e s w = record {
  size = e;
  state = record { few = h; map = subst (λ (k : ℕ). IsFiniteMap 0 k (map_of zs)) e (IsFiniteMap-ray_of (length zs) (at zs)); some = s; light = w };
}

pub map_heavy : (zs : List Element) → map_of zs ≢ [] → 0 < weight (map_of zs)
map_heavy zs s = weight_positive (map_of zs) 0 (length zs) (IsFiniteMap-ray_of (length zs) (at zs)) s

-- its reduced form
pub IsVector-reduced : (n : ℕ) (zs ys : List Element) → n ≤ 16 → length zs ≡ 2 ^ n → length ys ≡ length zs → map_of zs ≢ [] → weight (map_of zs) ≤ weight_limit →
    map_of ys ≡ reduced (map_of zs) → IsVector n ys
IsVector-reduced n zs ys h e l s w p =
    IsVector-made n ys h (l ∙ e) (λ f. reduced_some (map_of zs) s (sym p ∙ f))
    (omega (arith, ap weight p, weight_reduced_le (map_of zs) (map_heavy zs s), w))

few_states : (n : ℕ) → n ≤ 16 → 2 ^ n ≤ 2 ^ 16
few_states n h = pow-le-pow_right {n = 2} (omega arith) h

pub few_elements : (n : ℕ) (zs : List Element) → IsVector n zs → length zs ≤ 2 ^ 16
few_elements n zs v = omega (arith, v.size, few_states n v.state.few)

-- ---- all at 0

pub zero_listed : (zs : List Element) (u : Element) → 0 < length zs → u ≡ unit → ((x : ℕ) → x < length zs → at zs x ≡ nought) → map_of (set zs 0 u) ≡ zero_ray
zero_listed zs u h e z =
    ap (λ (n : ℕ). ray_of n (at (set zs 0 u))) (length-set zs 0 u)
    ∙ sym (is_ray_of zero_ray (length zs) (at (set zs 0 u)) (omega arith, h, refl, tt) (λ x l. elim (order_of x 0) [
      | inl j ↦ absurd (omega arith)
      | inr (inl f) ↦ amplitude_at_head (0, unit) [] x (sym f) ∙ sym (ap (at (set zs 0 u)) f ∙ at_set_here zs 0 u h ∙ e)
      | inr (inr j) ↦ amplitude_at_tail (0, unit) [] x (λ f. omega arith) ∙ sym (at_set_other zs 0 x u (λ f. omega arith) ∙ z x l)
    ]))

-- ---- an amplitude

pub amp_at : (zs : List Amp) (x : ℕ) (d : Amp) → x < length zs → element_of (get_or zs x d) ≡ amplitude_at (map_of (elements_of zs)) x
amp_at zs x d h =
    sym (at_map element_of zs x d h)
    ∙ sym (amplitude_at_ray_of (length (elements_of zs)) (at (elements_of zs)) x (omega (arith, length-map zs element_of)))

-- ---- what is left of a vector

kept_heavy : (q bit : ℕ) (zs : List Element) → kept (map_of zs) q bit ≢ [] → 0 < weight (kept (map_of zs) q bit)
kept_heavy q bit zs s =
    let m : IsFiniteMap 0 (length zs) (kept (map_of zs) q bit) = subst (IsFiniteMap 0 (length zs)) (sym (kept_ray_of (length zs) q bit (at zs))) (IsFiniteMap-ray_of (length zs) (kept_at q bit (at zs))) in
    weight_positive (kept (map_of zs) q bit) 0 (length zs) m s

pub IsVector-projected : (n q bit : ℕ) (zs ys : List Element) → IsVector n zs → kept (map_of zs) q bit ≢ [] → length ys ≡ length zs → map_of ys ≡ projected (map_of zs) q bit → IsVector n ys
unfolding projected
IsVector-projected n q bit zs ys v s l p =
    IsVector-made n ys v.state.few (l ∙ v.size) (λ f. reduced_some (kept (map_of zs) q bit) s (sym p ∙ f))
    (omega (arith, ap weight p, weight_reduced_le (kept (map_of zs) q bit) (kept_heavy q bit zs s), weight_kept q bit (map_of zs), v.state.light))

pub x_some : (n q : ℕ) (zs ys : List Element) → q < n → IsVector n zs → map_of ys ≡ ray_of (2 ^ n) (product_at x_gate (q ∷ []) (map_of zs)) → map_of ys ≢ []
x_some n q zs ys h v p e =
    let m = ap (λ (k : ℕ). ray_of k (at zs)) v.size in
    x_product_some n q (at zs) h (λ f. v.state.some (m ∙ f)) (sym (ap (λ (r : Ray). ray_of (2 ^ n) (product_at x_gate (q ∷ []) r)) m) ∙ sym p ∙ e)

pub x_light : (n q : ℕ) (zs ys : List Element) → q < n → IsVector n zs → map_of ys ≡ ray_of (2 ^ n) (product_at x_gate (q ∷ []) (map_of zs)) → weight (map_of ys) ≤ weight_limit
x_light n q zs ys h v p =
    let m = ap (λ (k : ℕ). ray_of k (at zs)) v.size in
    omega (arith, ap weight p, ap (λ (r : Ray). weight (ray_of (2 ^ n) (product_at x_gate (q ∷ []) r))) m, weight_x_product n q (at zs) h, ap weight m, v.state.light)

-- ---- the same, from what a method has in hand: the fields n and zs of a ray that is seen as s, and the slice l of its amplitudes

pub few_of : (n : ℕ) (zs l : List Amp) → l ≡ zs → IsVector n (elements_of zs) → length l ≤ 2 ^ 16
few_of n zs l e v = omega (arith, ap length e, length-map zs element_of, few_elements n (elements_of zs) v)

pub room_for : (n x : ℕ) (s : State) (zs l : List Amp) → record { qubits = n; amplitudes = map_of (elements_of zs) } ≡ s → l ≡ zs → IsVector n (elements_of zs) → x < 2 ^ s.qubits → x < length l
room_for n x s zs l p e v h =
    omega (arith, ap length e, length-map zs element_of, v.size, ap (λ (t : State). 2 ^ t.qubits) p)

-- what a slice of a whole vector writes back is the slice
pub written_back : (n : ℕ) (l rest : List Amp) → length l ≡ n → take n (l ++ rest) ≡ l
written_back n l rest e = ap (λ (k : ℕ). take k (l ++ rest)) (sym e) ∙ take-append_seam l rest

pub IsVector-written : (n m : ℕ) (l rest : List Amp) → length l ≡ m → IsVector n (elements_of l) → IsVector n (elements_of (take m (l ++ rest)))
IsVector-written n m l rest e v = subst (λ (k : List Amp). IsVector n (elements_of k)) (sym (written_back m l rest e)) v

-- the reduced form of a copy l of zs
pub IsVector-copied : (n : ℕ) (zs l ys : List Amp) → n ≤ 16 → length zs ≡ 2 ^ n → l ≡ zs → length ys ≡ length l → map_of (elements_of zs) ≢ [] → weight (map_of (elements_of zs)) ≤ weight_limit →
    map_of (elements_of ys) ≡ reduced (map_of (elements_of l)) → IsVector n (elements_of ys)
IsVector-copied n zs l ys h e p q s w r =
    IsVector-reduced n (elements_of zs) (elements_of ys) h (length-map zs element_of ∙ e)
    (length-map ys element_of ∙ q ∙ ap length p ∙ sym (length-map zs element_of)) s w (r ∙ ap (λ (k : List Amp). reduced (map_of (elements_of k))) p)
