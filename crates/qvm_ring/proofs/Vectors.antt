-- The finite map of a function below n, step by step: what a loop over a vector of amplitudes adds.
use Rattle.std.proofs.Common.{◌≡◌, ◌≢◌, refl, sym, ◌∙◌, ap, ℕ, zero, suc, ◌+◌, ◌<◌, ◌≤◌, ◌==◌, inl, inr, Bool, true, false, ◌&&◌, cond, [], ◌∷◌, ◌++◌, arith}
use Rattle.std.specs.Prelude.{if◌then◌else◌, ℤ, ◌+ℤ◌}
use Rattle.std.proofs.lemmas.Int.{ints}
use borrow.Author.Differences.{same_in}
use Rattle.std.proofs.Math.IntN.{+ℤ_idl, +ℤ_idr}
use Rattle.qvm_ring.specs.Ring.{Element, nought, norm_whole, norm_root, is_zero, is_divisible, quotient}
use Rattle.qvm_ring.specs.Ray.{Ray, amplitude_at, entry_if_any, ray_of, weight, all_divisible, all_divided}
use Rattle.qvm_ring.specs.Gate.{bit_of}
use Rattle.qvm_ring.specs.Measure.{sum_of_roots, kept}
use Rattle.qvm_ring.proofs.Elements.{nought_if_zero}
use Rattle.qvm_ring.proofs.RingLemmas.{and_left, and_right}
use Rattle.qvm_ring.proofs.Reductions.{quotient_not_zero}
use Rattle.qvm_ring.proofs.FiniteMaps.{amplitude_at_ray_of, not_zero, order_of}

-- ---- two functions that agree below n

pub same_ray_of : (n : ℕ) (f g : ℕ → Element) → ((x : ℕ) → x < n → f x ≡ g x) → ray_of n f ≡ ray_of n g
same_ray_of zero f g h = refl
same_ray_of (suc n) f g h =
    ap (λ (r : Ray). r ++ entry_if_any n (f n)) (same_ray_of n f g (λ x l. h x (omega arith)))
    ∙ ap (λ (z : Element). ray_of n g ++ entry_if_any n z) (h n (omega arith))

-- ---- the weight

weight_append : (r s : Ray) → weight (r ++ s) ≡ weight r + weight s
weight_append [] s = omega arith
weight_append (e ∷ es) s = omega (arith, weight_append es s)

weight_any : (n : ℕ) (z : Element) → weight (entry_if_any n z) ≡ norm_whole z
weight_any n z = elim (is_zero z) as (λ b. is_zero z ≡ b → weight (if b then [] else (n, z) ∷ []) ≡ norm_whole z) [
  | true ↦ λ e. sym (ap norm_whole (nought_if_zero z e))
  | false ↦ λ e. omega arith
] refl

pub weight_step : (n : ℕ) (f : ℕ → Element) → weight (ray_of (suc n) f) ≡ weight (ray_of n f) + norm_whole (f n)
weight_step n f = weight_append (ray_of n f) (entry_if_any n (f n)) ∙ ap (λ (k : ℕ). weight (ray_of n f) + k) (weight_any n (f n))

pub weight_part : (i n : ℕ) (f : ℕ → Element) → i ≤ n → weight (ray_of i f) ≤ weight (ray_of n f)
weight_part i zero f h = let e : i ≡ 0 = omega arith in omega (arith, ap (λ (k : ℕ). weight (ray_of k f)) e)
weight_part i (suc n) f h = elim (order_of i (suc n)) [
  | inl l ↦ omega (arith, weight_part i n f (omega arith), weight_step n f)
  | inr (inl e) ↦ omega (arith, ap (λ (k : ℕ). weight (ray_of k f)) e)
  | inr (inr l) ↦ absurd (omega arith)
]

-- ---- the roots of the norm

roots_sum : (x y z : ℤ) → x +ℤ (y +ℤ z) ≡ x +ℤ y +ℤ z
roots_sum x y z = same_in _ _ (omega (arith, ints))

roots_append : (r s : Ray) → sum_of_roots (r ++ s) ≡ sum_of_roots r +ℤ sum_of_roots s
roots_append [] s = sym (+ℤ_idl (sum_of_roots s))
roots_append (e ∷ es) s = ap (λ (x : ℤ). norm_root e.1 +ℤ x) (roots_append es s) ∙ roots_sum (norm_root e.1) (sum_of_roots es) (sum_of_roots s)

roots_any : (n : ℕ) (z : Element) → sum_of_roots (entry_if_any n z) ≡ norm_root z
roots_any n z = elim (is_zero z) as (λ b. is_zero z ≡ b → sum_of_roots (if b then [] else (n, z) ∷ []) ≡ norm_root z) [
  | true ↦ λ e. sym (ap norm_root (nought_if_zero z e))
  | false ↦ λ e. +ℤ_idr (norm_root z)
] refl

pub roots_step : (n : ℕ) (f : ℕ → Element) → sum_of_roots (ray_of (suc n) f) ≡ sum_of_roots (ray_of n f) +ℤ norm_root (f n)
roots_step n f = roots_append (ray_of n f) (entry_if_any n (f n)) ∙ ap (λ (x : ℤ). sum_of_roots (ray_of n f) +ℤ x) (roots_any n (f n))

-- ---- the kept part

abbrev pub kept_at : ℕ → ℕ → (ℕ → Element) → ℕ → Element
kept_at q bit f x = if bit_of x q == bit then f x else nought

kept_append : (r s : Ray) (q bit : ℕ) → kept (r ++ s) q bit ≡ kept r q bit ++ kept s q bit
kept_append [] s q bit = refl
kept_append (e ∷ es) s q bit = elim (bit_of e.0 q == bit) as (λ t. cond t (e ∷ kept (es ++ s) q bit) (kept (es ++ s) q bit) ≡ cond t (e ∷ kept es q bit) (kept es q bit) ++ kept s q bit) [
  | true ↦ ap (λ (r : Ray). e ∷ r) (kept_append es s q bit)
  | false ↦ kept_append es s q bit
]

kept_any : (n q bit : ℕ) (z : Element) → kept (entry_if_any n z) q bit ≡ entry_if_any n (if bit_of n q == bit then z else nought)
kept_any n q bit z = elim (is_zero z) as (λ b. is_zero z ≡ b → kept (if b then [] else (n, z) ∷ []) q bit ≡ entry_if_any n (if bit_of n q == bit then z else nought)) [
  | true ↦ λ e. elim (bit_of n q == bit) as (λ t. [] ≡ entry_if_any n (if t then z else nought)) [
    | true ↦ sym (ap (λ (b : Bool). if b then [] else (n, z) ∷ []) e)
    | false ↦ refl
  ]
  | false ↦ λ e. elim (bit_of n q == bit) as (λ t. cond t ((n, z) ∷ []) [] ≡ entry_if_any n (if t then z else nought)) [
    | true ↦ sym (ap (λ (b : Bool). if b then [] else (n, z) ∷ []) e)
    | false ↦ refl
  ]
] refl

pub kept_ray_of : (n q bit : ℕ) (f : ℕ → Element) → kept (ray_of n f) q bit ≡ ray_of n (kept_at q bit f)
kept_ray_of zero q bit f = refl
kept_ray_of (suc n) q bit f =
    kept_append (ray_of n f) (entry_if_any n (f n)) q bit
    ∙ ap (λ (r : Ray). r ++ kept (entry_if_any n (f n)) q bit) (kept_ray_of n q bit f)
    ∙ ap (λ (r : Ray). ray_of n (kept_at q bit f) ++ r) (kept_any n q bit (f n))

-- ---- division

divisible_append : (r s : Ray) → all_divisible (r ++ s) ≡ (all_divisible r && all_divisible s)
divisible_append [] s = refl
divisible_append (e ∷ es) s = elim (is_divisible e.1) as (λ t. (t && all_divisible (es ++ s)) ≡ ((t && all_divisible es) && all_divisible s)) [
  | true ↦ divisible_append es s
  | false ↦ refl
]

divisible_any : (n : ℕ) (z : Element) → all_divisible (entry_if_any n z) ≡ is_divisible z
divisible_any n z = elim (is_zero z) as (λ b. is_zero z ≡ b → all_divisible (if b then [] else (n, z) ∷ []) ≡ is_divisible z) [
  | true ↦ λ e. sym (ap is_divisible (nought_if_zero z e))
  | false ↦ λ e. elim (is_divisible z) as (λ t. (t && true) ≡ t) [ true ↦ refl | false ↦ refl ]
] refl

pub divisible_step : (n : ℕ) (f : ℕ → Element) → all_divisible (ray_of (suc n) f) ≡ (all_divisible (ray_of n f) && is_divisible (f n))
divisible_step n f = divisible_append (ray_of n f) (entry_if_any n (f n)) ∙ ap (λ (b : Bool). all_divisible (ray_of n f) && b) (divisible_any n (f n))

both_false : (s t : Bool) → s ≡ false → (s && t) ≡ false
both_false true t h = absurd (cc)
both_false false t h = refl

last_false : (s t : Bool) → t ≡ false → (s && t) ≡ false
last_false true t h = h
last_false false t h = refl

-- one element that isn't divisible is enough
pub not_divisible : (n : ℕ) (f : ℕ → Element) (i : ℕ) → i < n → is_divisible (f i) ≡ false → all_divisible (ray_of n f) ≡ false
not_divisible zero f i h k = absurd (omega arith)
not_divisible (suc n) f i h k = elim (order_of i n) [
  | inl l ↦ divisible_step n f ∙ both_false (all_divisible (ray_of n f)) (is_divisible (f n)) (not_divisible n f i l k)
  | inr (inl e) ↦ divisible_step n f ∙ last_false (all_divisible (ray_of n f)) (is_divisible (f n)) (ap (λ (x : ℕ). is_divisible (f x)) (sym e) ∙ k)
  | inr (inr l) ↦ absurd (omega arith)
]

divided_append : (r s : Ray) → all_divided (r ++ s) ≡ all_divided r ++ all_divided s
divided_append [] s = refl
divided_append (e ∷ es) s = ap (λ (r : Ray). (e.0, quotient e.1) ∷ r) (divided_append es s)

divided_any : (n : ℕ) (z : Element) → is_divisible z ≡ true → all_divided (entry_if_any n z) ≡ entry_if_any n (quotient z)
divided_any n z h = elim (is_zero z) as (λ b. is_zero z ≡ b → all_divided (if b then [] else (n, z) ∷ []) ≡ entry_if_any n (quotient z)) [
  | true ↦ λ e. sym (ap (λ (y : Element). entry_if_any n (quotient y)) (nought_if_zero z e))
  | false ↦ λ e. sym (ap (λ (b : Bool). if b then [] else (n, quotient z) ∷ []) (quotient_not_zero z h e))
] refl

pub divided_ray_of : (n : ℕ) (f : ℕ → Element) → all_divisible (ray_of n f) ≡ true → all_divided (ray_of n f) ≡ ray_of n (λ x. quotient (f x))
divided_ray_of zero f h = refl
divided_ray_of (suc n) f h =
    let here : (all_divisible (ray_of n f) && is_divisible (f n)) ≡ true = sym (divisible_step n f) ∙ h in
    divided_append (ray_of n f) (entry_if_any n (f n))
    ∙ ap (λ (r : Ray). r ++ all_divided (entry_if_any n (f n))) (divided_ray_of n f (and_left _ _ here))
    ∙ ap (λ (r : Ray). ray_of n (λ x. quotient (f x)) ++ r) (divided_any n (f n) (and_right (all_divisible (ray_of n f)) (is_divisible (f n)) here))

-- ---- an element that isn't 0

pub some_at : (n : ℕ) (f : ℕ → Element) (i : ℕ) → i < n → is_zero (f i) ≡ false → ray_of n f ≢ []
some_at n f i h k e = not_zero (f i) k (sym (amplitude_at_ray_of n f i h) ∙ ap (λ (r : Ray). amplitude_at r i) e)

pub none_at : (n : ℕ) (f : ℕ → Element) → ((i : ℕ) → i < n → is_zero (f i) ≡ true) → ray_of n f ≡ []
none_at zero f h = refl
none_at (suc n) f h =
    ap (λ (r : Ray). r ++ entry_if_any n (f n)) (none_at n f (λ i l. h i (omega arith)))
    ∙ ap (λ (b : Bool). if b then [] else (n, f n) ∷ []) (h n (omega arith))

-- what fits in a weight
pub weight_room : (n : ℕ) (f : ℕ → Element) (i : ℕ) → i < n → weight (ray_of i f) + norm_whole (f i) ≤ weight (ray_of n f)
weight_room n f i h = omega (arith, weight_step i f, weight_part (suc i) n f h)
