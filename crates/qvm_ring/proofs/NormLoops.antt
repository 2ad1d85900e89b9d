-- Steps of the loops that add norms over a list of amplitudes.
use Rattle.std.proofs.Common.{◌≡◌, sym, ◌∙◌, ap, subst, ℕ, suc, ◌+◌, ◌^◌, ◌<◌, ◌≤◌, ◌==◌, Bool, true, false, cond, ◌≢◌, [], ◌∷◌, arith, add-one}
use Rattle.std.specs.Prelude.{ℤ, pos, negsuc, ◌+ℤ◌, ◌-ℤ◌, ◌*ℤ◌, nat_abs, ◌≤ℤ◌, if◌then◌else◌}
use Rattle.std.proofs.lemmas.Int.{ints}
use Rattle.std.proofs.lemmas.Bool.{eq-eqb}
use Rattle.std.proofs.lemmas.Bool.Decides.{nat_tests}
use Rattle.std.proofs.Math.IntN.{+ℤ_idr}
use mir.Val.{to_z, of_z}
use mir.Syntax.{w128}
use borrow.Author.Differences.{same_in}
use Rattle.qvm_ring.specs.Ring.{Element, nought, norm_whole, norm_root}
use Rattle.qvm_ring.specs.Ray.{Ray, ray_of, weight, weight_limit}
use Rattle.qvm_ring.specs.Gate.{bit_of}
use Rattle.qvm_ring.specs.Measure.{Norm, norm_of, sum_of_roots, kept}
use Rattle.qvm_ring.specs.declared.signed_norm.Norm.{Norm as SignedNorm}
use Rattle.qvm_ring.specs.NormViews.{norm_seen, IsNorm}
use Rattle.qvm_ring.proofs.Norms.{abs_sum}
use Rattle.qvm_ring.proofs.Vectors.{weight_step, roots_step, weight_room, kept_at, kept_ray_of}

root_sum : (x y z w : ℤ) → x +ℤ y +ℤ (z -ℤ w) ≡ x +ℤ y +ℤ z -ℤ w
root_sum x y z w = same_in _ _ (omega (arith, ints))

pub root_parts : (z : Element) (p q f r s g t : ℤ) → p ≡ z.a *ℤ z.b → q ≡ z.b *ℤ z.c → f ≡ p +ℤ q → r ≡ z.c *ℤ z.d → s ≡ z.d *ℤ z.a → g ≡ r -ℤ s → t ≡ f +ℤ g →
    t ≡ norm_root z
root_parts z p q f r s g t hp hq hf hr hs hg ht =
    let e : t ≡ p +ℤ q +ℤ (r -ℤ s) = cc in
    e ∙ root_sum p q r s ∙ (cc)

pub same_norm : (m n : Norm) → m.u ≡ n.u → m.v ≡ n.v → m ≡ n
same_norm m n p q i = record { u = p i; v = q i }

-- ---- the sums of `add`

pub added_u : (u : ℤ) (w : ℕ) → pos 0 ≤ℤ u → nat_abs u + w ≤ 2 ^ 94 → to_z w128 (of_z w128 (to_z w128 (of_z w128 u) +ℤ to_z w128 w)) ≡ u +ℤ pos w
added_u u w h k = same_in _ _ (omega (arith, ints))

pub added_v : (x y : ℤ) (u r : ℕ) → nat_abs x ≤ u → nat_abs y ≤ r → u + r ≤ 2 ^ 94 → to_z w128 (of_z w128 (to_z w128 (of_z w128 x) +ℤ to_z w128 (of_z w128 y))) ≡ x +ℤ y
added_v x y u r h k l = same_in _ _ (omega (arith, ints))

sum_size : (u : ℤ) (w : ℕ) → pos 0 ≤ℤ u → nat_abs (u +ℤ pos w) ≡ nat_abs u + w
sum_size u w h = omega (arith, ints)

sum_not_negative : (u : ℤ) (w : ℕ) → pos 0 ≤ℤ u → pos 0 ≤ℤ (u +ℤ pos w)
sum_not_negative u w h = omega (arith, ints)

-- the norm with an amplitude added
pub record IsAdded (n n' : SignedNorm) (w : ℕ) (r : ℤ) : Type 0 where
  pub u : n'.u ≡ n.u +ℤ pos w
  pub v : n'.v ≡ n.v +ℤ r

pub IsAdded-made : (n n' : SignedNorm) (w : ℕ) (r : ℤ) (z : Element) → IsNorm n → w ≡ norm_whole z → nat_abs r ≤ norm_whole z → (norm_seen n).u + norm_whole z ≤ weight_limit →
    n'.u ≡ to_z w128 (of_z w128 (to_z w128 (of_z w128 n.u) +ℤ to_z w128 w)) → n'.v ≡ to_z w128 (of_z w128 (to_z w128 (of_z w128 n.v) +ℤ to_z w128 (of_z w128 r))) → IsAdded n n' w r
IsAdded-made n n' w r z b p k h e f = record {
  u = e ∙ added_u n.u w b.not_negative (omega (arith, p, h));
  v = f ∙ added_v n.v r (nat_abs n.u) (norm_whole z) b.root k (omega (arith, h));
}

pub IsAdded-value : (n n' : SignedNorm) (w : ℕ) (r : ℤ) (z : Element) → IsNorm n → w ≡ norm_whole z → r ≡ norm_root z → IsAdded n n' w r →
    norm_seen n' ≡ record { u = (norm_seen n).u + norm_whole z; v = n.v +ℤ norm_root z }
IsAdded-value n n' w r z b p q m = same_norm _ _
    (ap nat_abs m.u ∙ sum_size n.u w b.not_negative ∙ ap (λ (k : ℕ). nat_abs n.u + k) p)
    (m.v ∙ ap (λ (x : ℤ). n.v +ℤ x) q)

pub IsAdded-bounds : (n n' : SignedNorm) (w : ℕ) (r : ℤ) (z : Element) → IsNorm n → w ≡ norm_whole z → nat_abs r ≤ norm_whole z → (norm_seen n).u + norm_whole z ≤ weight_limit →
    IsAdded n n' w r → IsNorm n'
IsAdded-bounds n n' w r z b p k h m =
    let s : nat_abs n'.u ≡ nat_abs n.u + w = ap nat_abs m.u ∙ sum_size n.u w b.not_negative in
    record {
      not_negative = subst (λ (x : ℤ). pos 0 ≤ℤ x) (sym m.u) (sum_not_negative n.u w b.not_negative);
      light = omega (arith, s, p, h);
      root = omega (arith, s, p, k, b.root, ap nat_abs m.v, abs_sum n.v r);
    }

-- ---- the norm of the basis states below i

pub record Adds (f : ℕ → Element) (i : ℕ) (n : SignedNorm) : Type 0 where
  pub seen : norm_seen n ≡ norm_of (ray_of i f)
  pub bounds : IsNorm n

pub Adds-none : (f : ℕ → Element) (n : SignedNorm) → n.u ≡ pos 0 → n.v ≡ pos 0 → Adds f 0 n
Adds-none f n p q = record {
  seen = same_norm _ _ (ap nat_abs p) q;
  bounds = record { not_negative = subst (λ (z : ℤ). pos 0 ≤ℤ z) (sym p) (omega (arith, ints)); light = omega (arith, ap nat_abs p); root = omega (arith, ap nat_abs q) };
}

pub Adds-room : (m : ℕ) (f : ℕ → Element) (i : ℕ) (z : Element) (n : SignedNorm) → i < m → z ≡ f i → weight (ray_of m f) ≤ weight_limit → Adds f i n →
    (norm_seen n).u + norm_whole z ≤ weight_limit
Adds-room m f i z n h e w a = omega (arith, weight_room m f i h, ap norm_whole e, ap (λ (k : Norm). k.u) a.seen, w)

pub Adds-next : (f : ℕ → Element) (i : ℕ) (z : Element) (n n' : SignedNorm) → z ≡ f i → norm_seen n' ≡ record { u = (norm_seen n).u + norm_whole z; v = n.v +ℤ norm_root z } → IsNorm n' →
    Adds f i n → Adds f (i + 1) n'
Adds-next f i z n n' e p b a = record {
  seen = p ∙ same_norm _ _
      (omega (arith, weight_step i f, ap norm_whole e, ap (λ (k : Norm). k.u) a.seen, ap (λ (k : ℕ). weight (ray_of k f)) (add-one i)))
      (ap (λ (x : ℤ). x +ℤ norm_root z) (ap (λ (k : Norm). k.v) a.seen) ∙ ap (λ (y : Element). sum_of_roots (ray_of i f) +ℤ norm_root y) e
      ∙ sym (roots_step i f) ∙ sym (ap (λ (k : ℕ). sum_of_roots (ray_of k f)) (add-one i)));
  bounds = b;
}

pub Adds-skip : (f : ℕ → Element) (i : ℕ) (n n' : SignedNorm) → f i ≡ nought → n' ≡ n → Adds f i n → Adds f (i + 1) n'
Adds-skip f i n n' e p a = subst (Adds f (i + 1)) (sym p) (record {
  seen = a.seen ∙ same_norm _ _
      (omega (arith, weight_step i f, ap norm_whole e, ap (λ (k : ℕ). weight (ray_of k f)) (add-one i)))
      (sym (+ℤ_idr (sum_of_roots (ray_of i f))) ∙ ap (λ (y : Element). sum_of_roots (ray_of i f) +ℤ norm_root y) (sym e)
      ∙ sym (roots_step i f) ∙ sym (ap (λ (k : ℕ). sum_of_roots (ray_of k f)) (add-one i)));
  bounds = a.bounds;
})

-- ---- the part in which a qubit has a value

pub weight_kept : (q bit : ℕ) (ray : Ray) → weight (kept ray q bit) ≤ weight ray
weight_kept q bit [] = omega arith
weight_kept q bit (e ∷ es) = elim (bit_of e.0 q == bit) as (λ t. weight (cond t (e ∷ kept es q bit) (kept es q bit)) ≤ weight (e ∷ es)) [
  | true ↦ omega (arith, weight_kept q bit es)
  | false ↦ omega (arith, weight_kept q bit es)
]

pub kept_light : (n q bit : ℕ) (f : ℕ → Element) → weight (ray_of n f) ≤ weight_limit → weight (ray_of n (kept_at q bit f)) ≤ weight_limit
kept_light n q bit f w = omega (arith, w, weight_kept q bit (ray_of n f), ap weight (kept_ray_of n q bit f))

differ : (x y : ℕ) → x ≢ y → (x == y) ≡ false
differ x y h = grind (arith, nat_tests)

pub kept_at_here : (q bit r i : ℕ) (f : ℕ → Element) → r ≡ bit_of i q → r ≡ bit → kept_at q bit f i ≡ f i
kept_at_here q bit r i f p k = ap (λ (b : Bool). if b then f i else nought) (eq-eqb (bit_of i q) bit (sym p ∙ k))

pub kept_at_other : (q bit r i : ℕ) (f : ℕ → Element) → r ≡ bit_of i q → r ≢ bit → kept_at q bit f i ≡ nought
kept_at_other q bit r i f p k = ap (λ (b : Bool). if b then f i else nought) (differ (bit_of i q) bit (λ e. k (p ∙ e)))

zero_of_size : (z : ℤ) → nat_abs z ≡ 0 → z ≡ pos 0
zero_of_size (pos n) h = ap pos h
zero_of_size (negsuc n) h = absurd (let e : suc n ≡ 0 = h in omega arith)

-- a part whose norm isn't 0 isn't empty
pub kept_by_norm : (n : SignedNorm) (ray : Ray) → norm_seen n ≡ norm_of ray → n.u ≢ pos 0 → ray ≢ []
kept_by_norm n ray e f g =
    let u : nat_abs n.u ≡ 0 = ap (λ (m : Norm). m.u) e ∙ ap weight g in
    f (zero_of_size n.u u)
