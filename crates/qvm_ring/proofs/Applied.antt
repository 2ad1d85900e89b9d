-- A standard gate on a vector: from the sums of its table to the gate applied.
use Rattle.std.proofs.Common.{◌≡◌, ◌≢◌, refl, sym, ◌∙◌, ap, subst, ℕ, ◌*◌, ◌^◌, ◌<◌, ◌≤◌, ◌==◌, true, false, List, [], ◌∷◌, length, All, AllPairs, arith}
use Rattle.std.specs.Prelude.{nat_lt, nat_abs, if◌then◌else◌}
use Rattle.std.proofs.Math.Nat.{mul-le-mul}
use Rattle.std.proofs.lemmas.Bool.{ltb-true, ltb-false}
use Rattle.std.proofs.lemmas.List.{length-map}
use Rattle.qvm_ring.specs.declared.amp.Amp.{Amp}
use Rattle.qvm_ring.specs.declared.wide.Wide.{Wide}
use Rattle.qvm_ring.specs.declared.table.Table.{Table}
use Rattle.qvm_ring.specs.declared.table.StandardGate.{StandardGate}
use Rattle.qvm_ring.specs.Ring.{Element, nought, norm_whole}
use Rattle.qvm_ring.specs.Ray.{Ray, amplitude_at, ray_of, reduced, weight, weight_limit}
use Rattle.qvm_ring.specs.Gate.{Gate, product_at, applied}
use Rattle.qvm_ring.specs.Views.{element_of, elements_of, wide_elements_of, at, map_of, IsBelow}
use Rattle.qvm_ring.specs.Vector.{IsVector}
use Rattle.qvm_ring.specs.Table.{table_gate, IsTableOf, standard_gate}
use Rattle.qvm_ring.proofs.Vectors.{weight_room}
use Rattle.qvm_ring.proofs.Reductions.{reduced_some}
use Rattle.qvm_ring.proofs.States.{IsVector-made}
use Rattle.qvm_ring.proofs.Products.{at_elements, ray_of_table}
use Rattle.qvm_ring.proofs.KeptRays.{product_some}
use Rattle.qvm_ring.proofs.UnitaryGates.{unitary_gate}

-- ---- the amplitudes of a light vector are below 2^48

below_by_square : (n : ℕ) → n * n ≤ 2 ^ 94 → n < 2 ^ 48
below_by_square n h = elim (nat_lt n (2 ^ 48)) as (λ b. nat_lt n (2 ^ 48) ≡ b → n < 2 ^ 48) [
  | true ↦ λ e. ltb-true n (2 ^ 48) e
  | false ↦ λ e. let l : 2 ^ 48 ≤ n = ltb-false n (2 ^ 48) e in let m : 2 ^ 48 * 2 ^ 48 ≤ n * n = mul-le-mul l l in absurd (omega arith)
] refl

small_element : (z : Element) → norm_whole z ≤ 2 ^ 94 → IsBelow (2 ^ 48) z
small_element z h = record {
  a = below_by_square (nat_abs z.a) (omega arith);
  b = below_by_square (nat_abs z.b) (omega arith);
  c = below_by_square (nat_abs z.c) (omega arith);
  d = below_by_square (nat_abs z.d) (omega arith);
}

nought_below : IsBelow (2 ^ 48) nought
nought_below = record { a = omega arith; b = omega arith; c = omega arith; d = omega arith }

pub light_amplitude : (ray : Ray) (x : ℕ) → weight ray ≤ weight_limit → IsBelow (2 ^ 48) (amplitude_at ray x)
light_amplitude [] x h = nought_below
light_amplitude (e ∷ es) x h = elim (e.0 == x) as (λ b. IsBelow (2 ^ 48) (if b then e.1 else amplitude_at es x)) [
  | true ↦ small_element e.1 (omega (arith, h))
  | false ↦ light_amplitude es x (omega (arith, h))
]

pub small_amplitudes : (zs : List Amp) → weight (map_of (elements_of zs)) ≤ weight_limit → All (λ z. IsBelow (2 ^ 48) (element_of z)) zs
small_amplitudes zs w = λ i d l.
    let es = elements_of zs in
    let k : i < length es = subst (λ (n : ℕ). i < n) (sym (length-map zs element_of)) l in
    subst (λ (z : Element). IsBelow (2 ^ 48) z) (at_elements zs i d l) (small_element (at es i) (omega (arith, weight_room (length es) (at es) i k, w)))

-- ---- the product and the gate applied

module _ (gate : StandardGate) (t : Table) (n : ℕ) (qs : List ℕ) (zs : List Element) (ws : List Wide) (table : IsTableOf (standard_gate gate) t) (arity : length qs ≡ (standard_gate gate).arity)
    (sums : map_of (wide_elements_of ws) ≡ ray_of (2 ^ n) (product_at (table_gate t) qs (map_of zs))) where
  pub sums_are : map_of (wide_elements_of ws) ≡ ray_of (2 ^ n) (product_at (standard_gate gate) qs (map_of zs))
  sums_are = sums ∙ ray_of_table (2 ^ n) (standard_gate gate) t qs (map_of zs) table arity

  pub sums_some : IsVector n zs → All (λ q. q < n) qs → AllPairs (λ p q. p ≢ q) qs → map_of (wide_elements_of ws) ≢ []
  sums_some v below different e = product_some n (standard_gate gate) qs (map_of zs) (unitary_gate gate) (sym arity) different below v.state.map v.state.some (sym sums_are ∙ e)

pub reduced_product : (n : ℕ) (g : Gate) (qs : List ℕ) (ray sums : Ray) → sums ≡ ray_of (2 ^ n) (product_at g qs ray) → reduced sums ≡ applied n g qs ray
unfolding applied
reduced_product n g qs ray sums e = ap reduced e

-- the vector that is left
pub IsVector-applied : (n : ℕ) (zs ys : List Element) (ws : List Wide) → IsVector n zs → length ws ≡ 2 ^ n → length ys ≡ length ws → map_of (wide_elements_of ws) ≢ [] →
    map_of ys ≡ reduced (map_of (wide_elements_of ws)) → weight (reduced (map_of (wide_elements_of ws))) ≤ weight_limit → IsVector n ys
IsVector-applied n zs ys ws v l k s e w =
    IsVector-made n ys v.state.few (k ∙ l) (λ f. reduced_some (map_of (wide_elements_of ws)) s (sym e ∙ f)) (omega (arith, ap weight e, w))
