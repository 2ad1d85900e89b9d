-- Measurements: the part that an outcome keeps is never empty.
use Rattle.std.proofs.Common.{◌≡◌, ◌≢◌, refl, sym, ◌∙◌, ap, subst, ℕ, zero, suc, ◌+◌, ◌-◌, ◌*◌, ◌^◌, ◌<◌, ◌≤◌, ◌==◌, Bool, true, false, cond, [], ◌∷◌, arith}
use Rattle.std.specs.Prelude.{ℤ, pos, ◌+ℤ◌, ◌-ℤ◌, ◌*ℤ◌}
use Rattle.std.proofs.lemmas.Int.{ints}
use Rattle.std.proofs.lemmas.Bool.{eq-eqb, eqb-false}
use borrow.Author.Differences.{same_in}
use Rattle.qvm_ring.specs.Ring.{Element, is_positive}
use Rattle.qvm_ring.specs.Ray.{Ray, weight, IsFiniteMap}
use Rattle.qvm_ring.specs.Gate.{bit_of}
use Rattle.qvm_ring.specs.Measure.{sum_of_roots, norm_of, kept, exceeds, outcome}
use Rattle.qvm_ring.proofs.Bits.{bit_of_below}
use Rattle.qvm_ring.proofs.SignLemmas.{is_positive_sum}
use Rattle.qvm_ring.proofs.Norms.{ray_positive}

-- ---- multiples of positive numbers

one_times : (x : ℤ) → pos 1 *ℤ x ≡ x
one_times x = same_in _ _ (omega (arith, ints))

suc_times : (k : ℕ) (x : ℤ) → pos (suc k) *ℤ x ≡ x +ℤ pos k *ℤ x
suc_times k x = same_in _ _ (omega (arith, ints))

same_sign : (u v s t : ℤ) → u ≡ s → v ≡ t → is_positive u v ≡ is_positive s t
same_sign u v s t p q = ap (λ (z : ℤ). is_positive z v) p ∙ ap (is_positive s) q

pub is_positive_multiple : (k : ℕ) (u v : ℤ) → 0 < k → is_positive u v ≡ true → is_positive (pos k *ℤ u) (pos k *ℤ v) ≡ true
is_positive_multiple zero u v h p = absurd (omega arith)
is_positive_multiple (suc zero) u v h p = same_sign _ _ _ _ (one_times u) (one_times v) ∙ p
is_positive_multiple (suc (suc k)) u v h p =
    same_sign _ _ _ _ (suc_times (suc k) u) (suc_times (suc k) v)
    ∙ is_positive_sum u v (pos (suc k) *ℤ u) (pos (suc k) *ℤ v) p (is_positive_multiple (suc k) u v (omega arith) p)

-- ---- where the other part is empty

-- 0 less w times a positive number isn't positive
nothing_to_sum : (m w u : ℕ) → (pos (m * 0) -ℤ pos (w * u)) +ℤ pos w *ℤ pos u ≡ pos 0
nothing_to_sum m w u = same_in _ _ (omega (arith, ints))

nothing_to_sum' : (m w : ℕ) (v : ℤ) → (pos m *ℤ pos 0 -ℤ pos w *ℤ v) +ℤ pos w *ℤ v ≡ pos 0
nothing_to_sum' m w v = same_in _ _ (omega (arith, ints))

nothing_at_zero : (m u : ℕ) → pos (m * 0) -ℤ pos (0 * u) ≡ pos 0
nothing_at_zero m u = same_in _ _ (omega (arith, ints))

nothing_at_zero' : (m : ℕ) (v : ℤ) → pos m *ℤ pos 0 -ℤ pos 0 *ℤ v ≡ pos 0
nothing_at_zero' m v = same_in _ _ (omega (arith, ints))

zero_not_positive : is_positive (pos 0) (pos 0) ≡ true → ⊥
zero_not_positive h = absurd (cc)

nothing_exceeds : (m w u : ℕ) (v : ℤ) → is_positive (pos u) v ≡ true → is_positive (pos (m * 0) -ℤ pos (w * u)) (pos m *ℤ pos 0 -ℤ pos w *ℤ v) ≡ true → ⊥
nothing_exceeds m zero u v p h =
    zero_not_positive (sym (same_sign _ _ (pos 0) (pos 0) (nothing_at_zero m u) (nothing_at_zero' m v)) ∙ h)
nothing_exceeds m (suc w) u v p h =
    zero_not_positive (sym (same_sign _ _ (pos 0) (pos 0) (nothing_to_sum m (suc w) u) (nothing_to_sum' m (suc w) v))
    ∙ is_positive_sum _ _ (pos (suc w) *ℤ pos u) (pos (suc w) *ℤ v) h (is_positive_multiple (suc w) (pos u) v (omega arith) p))

-- a number above 0 exceeds its part w / m
rest_of_whole : (m w u : ℕ) → w ≤ m → pos (m * u) -ℤ pos (w * u) ≡ pos (m - w) *ℤ pos u
rest_of_whole m w u h =
    let e : (w + (m - w)) * u ≡ m * u = ap (λ (k : ℕ). k * u) (let f : w + (m - w) ≡ m = omega arith in f) in
    same_in _ _ (omega (arith, ints, e))

split_multiple : (i j : ℕ) (v : ℤ) → pos (i + j) *ℤ v -ℤ pos i *ℤ v ≡ pos j *ℤ v
split_multiple i j v = same_in _ _ (omega (arith, ints))

rest_of_root : (m w : ℕ) (v : ℤ) → w ≤ m → pos m *ℤ v -ℤ pos w *ℤ v ≡ pos (m - w) *ℤ v
rest_of_root m w v h =
    ap (λ (k : ℕ). pos k *ℤ v -ℤ pos w *ℤ v) (let f : m ≡ w + (m - w) = omega arith in f) ∙ split_multiple w (m - w) v

whole_exceeds : (m w u : ℕ) (v : ℤ) → w < m → is_positive (pos u) v ≡ true → is_positive (pos (m * u) -ℤ pos (w * u)) (pos m *ℤ v -ℤ pos w *ℤ v) ≡ true
whole_exceeds m w u v h p =
    same_sign _ _ _ _ (rest_of_whole m w u (omega arith)) (rest_of_root m w v (omega arith)) ∙ is_positive_multiple (m - w) (pos u) v (omega arith) p

-- ---- parts

pub kept_cons : (q bit : ℕ) (e : ℕ × Element) (es : Ray) (t : Bool) → (bit_of e.0 q == bit) ≡ t → kept (e ∷ es) q bit ≡ (cond t (e ∷ kept es q bit) (kept es q bit))
kept_cons q bit e es t h = ap (λ (b : Bool). cond b (e ∷ kept es q bit) (kept es q bit)) h

bit_is : (n : ℕ) → n < 2 → n ≢ 0 → n ≡ 1
bit_is n h k = omega arith

-- where no state has the bit 0, all have the bit 1
pub all_are_one : (ray : Ray) (q : ℕ) → kept ray q 0 ≡ [] → kept ray q 1 ≡ ray
all_are_one [] q h = refl
all_are_one (e ∷ es) q h = elim (bit_of e.0 q == 0) as (λ t. (bit_of e.0 q == 0) ≡ t → kept (e ∷ es) q 1 ≡ e ∷ es) [
  | true ↦ λ p. let f : e ∷ kept es q 0 ≡ [] = sym (kept_cons q 0 e es true p) ∙ h in absurd (cc)
  | false ↦ λ p. let f : kept es q 0 ≡ [] = sym (kept_cons q 0 e es false p) ∙ h in
      kept_cons q 1 e es true (eq-eqb (bit_of e.0 q) 1 (bit_is (bit_of e.0 q) (bit_of_below e.0 q) (eqb-false (bit_of e.0 q) 0 p)))
      ∙ ap (λ (r : Ray). e ∷ r) (all_are_one es q f)
] refl

-- the part that an outcome keeps isn't empty
pub one_keeps_some : (ray : Ray) (high q word : ℕ) → IsFiniteMap 0 high ray → ray ≢ [] → outcome ray q word ≡ true → kept ray q 1 ≢ []
one_keeps_some ray high q word m s h e =
    nothing_exceeds (2 ^ 32) word (weight ray) (sum_of_roots ray) (ray_positive ray 0 high m s)
    (subst (λ (r : Ray). exceeds (norm_of r) (norm_of ray) word ≡ true) e h)

pub zero_keeps_some : (ray : Ray) (high q word : ℕ) → IsFiniteMap 0 high ray → ray ≢ [] → word < 2 ^ 32 → outcome ray q word ≡ false → kept ray q 0 ≢ []
zero_keeps_some ray high q word m s w h e =
    let f : exceeds (norm_of ray) (norm_of ray) word ≡ false = subst (λ (r : Ray). exceeds (norm_of r) (norm_of ray) word ≡ false) (all_are_one ray q e) h in
    let g : exceeds (norm_of ray) (norm_of ray) word ≡ true = whole_exceeds (2 ^ 32) word (weight ray) (sum_of_roots ray) w (ray_positive ray 0 high m s) in
    absurd (cc)
