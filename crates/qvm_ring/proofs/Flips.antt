-- X on a vector: amplitudes change places, two by two.
use Rattle.std.proofs.Common.{◌≡◌, ◌≢◌, refl, sym, ◌∙◌, ap, subst, ℕ, zero, suc, ◌+◌, ◌-◌, ◌*◌, ◌^◌, ◌<◌, ◌≤◌, ◌==◌, ◌⊎◌, inl, inr, Bool, false, List, [], ◌∷◌, length, get_or, arith, add-one}
use Rattle.std.specs.Prelude.{if◌then◌else◌, nat_lt, pos}
use Rattle.std.specs.List.{SwappedAt}
use Rattle.std.proofs.lemmas.List.{length-map}
use Rattle.std.proofs.lemmas.Bool.{lt-ltb, le-ltb, eq-eqb}
use Rattle.std.proofs.lemmas.Bool.Decides.{nat_tests}
use Rattle.qvm_ring.specs.declared.amp.Amp.{Amp}
use Rattle.qvm_ring.specs.Ring.{Element, nought, unit, plus, times, norm_whole}
use Rattle.qvm_ring.specs.Ray.{Ray, amplitude_at, ray_of, weight, IsFiniteMap}
use Rattle.qvm_ring.specs.Gate.{Gate, bit_of, with_bit, product_at, x_gate, applied}
use Rattle.qvm_ring.specs.Views.{at, map_of, element_of, elements_of}
use Rattle.qvm_ring.proofs.Bits.{bit_of_below, bit_of_with_bit, with_own_bit, with_bit_twice, with_bit_below}
use Rattle.qvm_ring.proofs.Elements.{plus_nought, nought_plus, times_unit, times_nought}
use Rattle.qvm_ring.proofs.FiniteMaps.{order_of, is_ray_of, amplitude_at_ray_of, IsFiniteMap-ray_of}
use Rattle.qvm_ring.proofs.Lists.{at_map, map_of_by}
use Rattle.qvm_ring.proofs.Reductions.{weight_positive, weight_reduced_le}
use Rattle.qvm_ring.proofs.Vectors.{same_ray_of, weight_step}

differ : (x y : ℕ) → x ≢ y → (x == y) ≡ false
differ x y h = grind (arith, nat_tests)

two_values : (n : ℕ) → n < 2 → (n ≡ 0) ⊎ (n ≡ 1)
two_values zero h = inl refl
two_values (suc zero) h = inr refl
two_values (suc (suc n)) h = absurd (omega arith)

same_or_other : (x y : ℕ) → (x ≡ y) ⊎ (x ≢ y)
same_or_other x y = elim (order_of x y) [
  | inl l ↦ inr (λ e. absurd (omega arith))
  | inr (inl e) ↦ inl e
  | inr (inr l) ↦ inr (λ e. absurd (omega arith))
]

pub bit_cases : (x q : ℕ) → (bit_of x q ≡ 0) ⊎ (bit_of x q ≡ 1)
bit_cases x q = two_values (bit_of x q) (bit_of_below x q)

-- the state with the qubit flipped
abbrev pub partner : ℕ → ℕ → ℕ
partner q x = with_bit x q (1 - bit_of x q)

pub partner_zero : (q x : ℕ) → bit_of x q ≡ 0 → partner q x ≡ with_bit x q 1
partner_zero q x e = ap (λ (b : ℕ). with_bit x q (1 - b)) e

pub partner_one : (q x : ℕ) → bit_of x q ≡ 1 → partner q x ≡ with_bit x q 0
partner_one q x e = ap (λ (b : ℕ). with_bit x q (1 - b)) e

pub partner_below : (n q x : ℕ) → q < n → x < 2 ^ n → partner q x < 2 ^ n
partner_below n q x h l = with_bit_below x q (1 - bit_of x q) n l h (omega arith)

-- ---- the product of X

row_at : (g : Gate) (q : ℕ) (es : Ray) (x row : ℕ) → bit_of x q ≡ row →
    product_at g (q ∷ []) es x ≡ plus (plus nought (times (g.entry (row * 1 + 0) 0) (amplitude_at es (with_bit x q 0)))) (times (g.entry (row * 1 + 0) 1) (amplitude_at es (with_bit x q 1)))
row_at g q es x row h = ap (λ (l : ℕ). plus (plus nought (times (g.entry (l * 1 + 0) 0) (amplitude_at es (with_bit x q 0)))) (times (g.entry (l * 1 + 0) 1) (amplitude_at es (with_bit x q 1)))) h

x_product_at : (q : ℕ) (es : Ray) (x : ℕ) → product_at x_gate (q ∷ []) es x ≡ amplitude_at es (partner q x)
x_product_at q es x = elim (bit_cases x q) [
  | inl e ↦ let a = amplitude_at es (with_bit x q 0) in let b = amplitude_at es (with_bit x q 1) in
      row_at x_gate q es x 0 e ∙ ap (λ (z : Element). plus (plus nought z) (times unit b)) (times_nought a) ∙ ap (plus nought) (times_unit b) ∙ nought_plus b
      ∙ ap (amplitude_at es) (sym (partner_zero q x e))
  | inr e ↦ let a = amplitude_at es (with_bit x q 0) in let b = amplitude_at es (with_bit x q 1) in
      row_at x_gate q es x 1 e ∙ ap (λ (z : Element). plus (plus nought (times unit a)) z) (times_nought b) ∙ plus_nought (plus nought (times unit a)) ∙ nought_plus (times unit a) ∙ times_unit a
      ∙ ap (amplitude_at es) (sym (partner_one q x e))
]

pub x_product_of : (n q : ℕ) (f : ℕ → Element) → q < n → ray_of (2 ^ n) (λ x. f (partner q x)) ≡ ray_of (2 ^ n) (product_at x_gate (q ∷ []) (ray_of (2 ^ n) f))
x_product_of n q f h = same_ray_of (2 ^ n) _ _ (λ x l. sym (x_product_at q (ray_of (2 ^ n) f) x ∙ amplitude_at_ray_of (2 ^ n) f (partner q x) (partner_below n q x h l)))

-- ---- so far as the lower state of a pair is below i

abbrev pub exchanged : ℕ → (ℕ → Element) → ℕ → ℕ → Element
exchanged q f i x = if nat_lt (with_bit x q 0) i then f (partner q x) else f x

exchanged_done : (q : ℕ) (f : ℕ → Element) (i x : ℕ) → with_bit x q 0 < i → exchanged q f i x ≡ f (partner q x)
exchanged_done q f i x h = ap (λ (b : Bool). if b then f (partner q x) else f x) (lt-ltb (with_bit x q 0) i h)

exchanged_left : (q : ℕ) (f : ℕ → Element) (i x : ℕ) → i ≤ with_bit x q 0 → exchanged q f i x ≡ f x
exchanged_left q f i x h = ap (λ (b : Bool). if b then f (partner q x) else f x) (le-ltb (with_bit x q 0) i h)

pub exchanged_none : (q : ℕ) (f : ℕ → Element) (x : ℕ) → exchanged q f 0 x ≡ f x
exchanged_none q f x = exchanged_left q f 0 x (omega arith)

pub exchanged_all : (n q : ℕ) (f : ℕ → Element) (x : ℕ) → q < n → x < 2 ^ n → exchanged q f (2 ^ n) x ≡ f (partner q x)
exchanged_all n q f x h l = exchanged_done q f (2 ^ n) x (with_bit_below x q 0 n l h (omega arith))

-- what doesn't start at i is as it was
exchanged_same : (q : ℕ) (f : ℕ → Element) (i x : ℕ) → with_bit x q 0 ≢ i → exchanged q f (i + 1) x ≡ exchanged q f i x
exchanged_same q f i x h = elim (order_of (with_bit x q 0) i) [
  | inl l ↦ exchanged_done q f (i + 1) x (omega arith) ∙ sym (exchanged_done q f i x l)
  | inr (inl e) ↦ absurd (h e)
  | inr (inr l) ↦ exchanged_left q f (i + 1) x (omega arith) ∙ sym (exchanged_left q f i x (omega arith))
]

pub exchanged_skip : (q : ℕ) (f : ℕ → Element) (i : ℕ) → bit_of i q ≢ 0 → (x : ℕ) → exchanged q f (i + 1) x ≡ exchanged q f i x
exchanged_skip q f i h x = exchanged_same q f i x (λ e. h (ap (λ (k : ℕ). bit_of k q) (sym e) ∙ bit_of_with_bit x q 0 (omega arith)))

-- the pair that starts at i
low_of_low : (q i : ℕ) → bit_of i q ≡ 0 → with_bit i q 0 ≡ i
low_of_low q i e = ap (with_bit i q) (sym e) ∙ with_own_bit i q

low_of_high : (q i : ℕ) → bit_of i q ≡ 0 → with_bit (with_bit i q 1) q 0 ≡ i
low_of_high q i e = with_bit_twice i q 1 0 (omega arith) ∙ low_of_low q i e

partner_of_high : (q i : ℕ) → bit_of i q ≡ 0 → partner q (with_bit i q 1) ≡ i
partner_of_high q i e = partner_one q (with_bit i q 1) (bit_of_with_bit i q 1 (omega arith)) ∙ low_of_high q i e

pub exchanged_low : (q : ℕ) (f : ℕ → Element) (i : ℕ) → bit_of i q ≡ 0 → exchanged q f (i + 1) i ≡ exchanged q f i (with_bit i q 1)
exchanged_low q f i e =
    exchanged_done q f (i + 1) i (omega (arith, low_of_low q i e)) ∙ ap f (partner_zero q i e)
    ∙ sym (exchanged_left q f i (with_bit i q 1) (omega (arith, low_of_high q i e)))

pub exchanged_high : (q : ℕ) (f : ℕ → Element) (i : ℕ) → bit_of i q ≡ 0 → exchanged q f (i + 1) (with_bit i q 1) ≡ exchanged q f i i
exchanged_high q f i e =
    exchanged_done q f (i + 1) (with_bit i q 1) (omega (arith, low_of_high q i e)) ∙ ap f (partner_of_high q i e)
    ∙ sym (exchanged_left q f i i (omega (arith, low_of_low q i e)))

pub exchanged_other : (q : ℕ) (f : ℕ → Element) (i x : ℕ) → bit_of i q ≡ 0 → x ≢ i → x ≢ with_bit i q 1 → exchanged q f (i + 1) x ≡ exchanged q f i x
exchanged_other q f i x e h k = exchanged_same q f i x (λ p. elim (bit_cases x q) [
  | inl z ↦ absurd (h (sym (low_of_low q x z) ∙ p))
  | inr o ↦ absurd (k (sym (ap (with_bit x q) (sym o) ∙ with_own_bit x q) ∙ sym (with_bit_twice x q 0 1 (omega arith)) ∙ ap (λ (y : ℕ). with_bit y q 1) p))
])

-- ---- the weight

weight_one : (m : ℕ) (g h : ℕ → Element) (i : ℕ) → i < m → ((x : ℕ) → x ≢ i → g x ≡ h x) → weight (ray_of m g) + norm_whole (h i) ≡ weight (ray_of m h) + norm_whole (g i)
weight_one zero g h i l s = absurd (omega arith)
weight_one (suc m) g h i l s = elim (order_of i m) [
  | inl k ↦ omega (arith, weight_step m g, weight_step m h, weight_one m g h i k s, ap norm_whole (s m (λ e. omega arith)))
  | inr (inl e) ↦
      let same : weight (ray_of m g) ≡ weight (ray_of m h) = ap weight (same_ray_of m g h (λ x k. s x (λ f. omega arith))) in
      omega (arith, weight_step m g, weight_step m h, same, ap (λ (x : ℕ). norm_whole (g x)) e, ap (λ (x : ℕ). norm_whole (h x)) e)
  | inr (inr k) ↦ absurd (omega arith)
]

abbrev put : (ℕ → Element) → ℕ → Element → ℕ → Element
put h i z x = if x == i then z else h x

put_here : (h : ℕ → Element) (i : ℕ) (z : Element) → put h i z i ≡ z
put_here h i z = ap (λ (b : Bool). if b then z else h i) (eq-eqb i i refl)

put_other : (h : ℕ → Element) (i : ℕ) (z : Element) (x : ℕ) → x ≢ i → put h i z x ≡ h x
put_other h i z x k = ap (λ (b : Bool). if b then z else h x) (differ x i k)

pub weight_swap : (m : ℕ) (g h : ℕ → Element) (i j : ℕ) → i < m → j < m → i ≢ j → g i ≡ h j → g j ≡ h i → ((x : ℕ) → x ≢ i → x ≢ j → g x ≡ h x) → weight (ray_of m g) ≡ weight (ray_of m h)
weight_swap m g h i j l k d p q s =
    let first = weight_one m g (put h i (g i)) j k (λ x e. elim (order_of x i) [
      | inl a ↦ s x (λ f. omega arith) e ∙ sym (put_other h i (g i) x (λ f. omega arith))
      | inr (inl f) ↦ ap g f ∙ sym (ap (put h i (g i)) f ∙ put_here h i (g i))
      | inr (inr a) ↦ s x (λ f. omega arith) e ∙ sym (put_other h i (g i) x (λ f. omega arith))
    ]) in
    let second = weight_one m (put h i (g i)) h i l (λ x e. put_other h i (g i) x e) in
    omega (arith, first, second, ap norm_whole (put_other h i (g i) j (λ e. d (sym e))), ap norm_whole (put_here h i (g i)), ap norm_whole p, ap norm_whole q)

apart : (q i : ℕ) → bit_of i q ≡ 0 → i ≢ with_bit i q 1
apart q i e f = absurd (let b : bit_of i q ≡ 1 = ap (λ (k : ℕ). bit_of k q) f ∙ bit_of_with_bit i q 1 (omega arith) in omega arith)

one_exchange : (n q : ℕ) (f : ℕ → Element) (i : ℕ) → q < n → i < 2 ^ n → weight (ray_of (2 ^ n) (exchanged q f (i + 1))) ≡ weight (ray_of (2 ^ n) (exchanged q f i))
one_exchange n q f i h l = elim (bit_cases i q) [
  | inl e ↦ weight_swap (2 ^ n) (exchanged q f (i + 1)) (exchanged q f i) i (with_bit i q 1) l (with_bit_below i q 1 n l h (omega arith)) (apart q i e)
      (exchanged_low q f i e) (exchanged_high q f i e) (λ x k j. exchanged_other q f i x e k j)
  | inr e ↦ ap weight (same_ray_of (2 ^ n) (exchanged q f (i + 1)) (exchanged q f i) (λ x k. exchanged_skip q f i (λ z. omega arith) x))
]

weight_exchanged : (n q : ℕ) (f : ℕ → Element) (i : ℕ) → q < n → i ≤ 2 ^ n → weight (ray_of (2 ^ n) (exchanged q f i)) ≡ weight (ray_of (2 ^ n) f)
weight_exchanged n q f zero h l = ap weight (same_ray_of (2 ^ n) (exchanged q f 0) f (λ x k. exchanged_none q f x))
weight_exchanged n q f (suc i) h l =
    ap (λ (k : ℕ). weight (ray_of (2 ^ n) (exchanged q f k))) (sym (add-one i)) ∙ one_exchange n q f i h (omega arith) ∙ weight_exchanged n q f i h (omega arith)

-- X doesn't change the weight
pub weight_x_product : (n q : ℕ) (f : ℕ → Element) → q < n → weight (ray_of (2 ^ n) (product_at x_gate (q ∷ []) (ray_of (2 ^ n) f))) ≡ weight (ray_of (2 ^ n) f)
weight_x_product n q f h =
    ap weight (sym (x_product_of n q f h))
    ∙ ap weight (sym (same_ray_of (2 ^ n) (exchanged q f (2 ^ n)) (λ x. f (partner q x)) (λ x l. exchanged_all n q f x h l)))
    ∙ weight_exchanged n q f (2 ^ n) h (omega arith)

x_product_heavy : (n q : ℕ) (f : ℕ → Element) → q < n → ray_of (2 ^ n) f ≢ [] → 0 < weight (ray_of (2 ^ n) (product_at x_gate (q ∷ []) (ray_of (2 ^ n) f)))
x_product_heavy n q f h s = omega (arith, weight_x_product n q f h, weight_positive (ray_of (2 ^ n) f) 0 (2 ^ n) (IsFiniteMap-ray_of (2 ^ n) f) s)

pub x_product_some : (n q : ℕ) (f : ℕ → Element) → q < n → ray_of (2 ^ n) f ≢ [] → ray_of (2 ^ n) (product_at x_gate (q ∷ []) (ray_of (2 ^ n) f)) ≢ []
x_product_some n q f h s e = absurd (omega (arith, x_product_heavy n q f h s, ap weight e))

pub weight_applied_x : (n q : ℕ) (f : ℕ → Element) → q < n → ray_of (2 ^ n) f ≢ [] → weight (applied n x_gate (q ∷ []) (ray_of (2 ^ n) f)) ≤ weight (ray_of (2 ^ n) f)
unfolding applied
weight_applied_x n q f h s =
    omega (arith, weight_x_product n q f h, weight_reduced_le (ray_of (2 ^ n) (product_at x_gate (q ∷ []) (ray_of (2 ^ n) f))) (x_product_heavy n q f h s))

-- the same of any ray
pub x_no_heavier : (n q : ℕ) (ray : Ray) → q < n → IsFiniteMap 0 (2 ^ n) ray → ray ≢ [] → weight (applied n x_gate (q ∷ []) ray) ≤ weight ray
x_no_heavier n q ray h m s =
    let e : ray_of (2 ^ n) (amplitude_at ray) ≡ ray = sym (is_ray_of ray (2 ^ n) (amplitude_at ray) m (λ x l. refl)) in
    subst (λ (r : Ray). weight (applied n x_gate (q ∷ []) r) ≤ weight r) e (weight_applied_x n q (amplitude_at ray) h (λ f. s (sym e ∙ f)))

-- ---- the loop of exchanges

pub record Exchanges (q : ℕ) (old now : List Element) (i : ℕ) : Type 0 where
  pub same_length : length now ≡ length old
  pub each : (x : ℕ) → x < length old → at now x ≡ exchanged q (at old) i x

pub Exchanges-none : (q : ℕ) (old : List Element) → Exchanges q old old 0
Exchanges-none q old = record { same_length = refl; each = λ x l. sym (exchanged_none q (at old) x) }

pub Exchanges-skip : (q : ℕ) (old now : List Element) (i : ℕ) → bit_of i q ≢ 0 → Exchanges q old now i → Exchanges q old now (i + 1)
Exchanges-skip q old now i h m = record { same_length = m.same_length; each = λ x l. m.each x l ∙ sym (exchanged_skip q (at old) i h x) }

nothing : Amp
nothing = record { a = pos 0; b = pos 0; c = pos 0; d = pos 0 }

at_moved : (xs ys : List Amp) (x y : ℕ) → x < length ys → y < length xs → get_or ys x nothing ≡ get_or xs y nothing → at (elements_of ys) x ≡ at (elements_of xs) y
at_moved xs ys x y l k e = at_map element_of ys x nothing l ∙ ap element_of e ∙ sym (at_map element_of xs y nothing k)

pub Exchanges-swap : (q : ℕ) (old : List Element) (xs ys : List Amp) (i j : ℕ) → length ys ≡ length xs → SwappedAt xs ys i j → bit_of i q ≡ 0 → j ≡ with_bit i q 1 →
    i < length xs → j < length xs → Exchanges q old (elements_of xs) i → Exchanges q old (elements_of ys) (i + 1)
Exchanges-swap q old xs ys i j n s e p l k m = record {
  same_length = length-map ys element_of ∙ n ∙ sym (length-map xs element_of) ∙ m.same_length;
  each = λ x h.
      let here : x < length xs = omega (arith, m.same_length, length-map xs element_of) in
      let high : j < length old = omega (arith, m.same_length, length-map xs element_of) in
      let low : i < length old = omega (arith, m.same_length, length-map xs element_of) in
      elim (same_or_other x i) [
        | inl f ↦ ap (at (elements_of ys)) f ∙ at_moved xs ys i j (omega arith) k (s.0 nothing) ∙ m.each j high ∙ ap (exchanged q (at old) i) p
            ∙ sym (exchanged_low q (at old) i e) ∙ ap (exchanged q (at old) (i + 1)) (sym f)
        | inr f ↦ elim (same_or_other x j) [
          | inl g ↦ ap (at (elements_of ys)) g ∙ at_moved xs ys j i (omega arith) l (s.1 nothing) ∙ m.each i low
              ∙ sym (exchanged_high q (at old) i e) ∙ ap (exchanged q (at old) (i + 1)) (sym (g ∙ p))
          | inr g ↦ at_moved xs ys x x (omega arith) here (s.2 x nothing f g) ∙ m.each x h
              ∙ sym (exchanged_other q (at old) i x e f (λ r. g (r ∙ sym p)))
        ]
      ];
}

pub high_is : (q i : ℕ) → bit_of i q ≡ 0 → i + 2 ^ q ≡ with_bit i q 1
high_is q i e = sym (ap (λ (b : ℕ). i - b * 2 ^ q + 1 * 2 ^ q) e ∙ (let f : i - 0 * 2 ^ q + 1 * 2 ^ q ≡ i + 2 ^ q = omega arith in f))

pub high_below : (n q i : ℕ) → q < n → bit_of i q ≡ 0 → i < 2 ^ n → i + 2 ^ q < 2 ^ n
high_below n q i h e l = omega (arith, high_is q i e, with_bit_below i q 1 n l h (omega arith))

pub Exchanges-end : (n q : ℕ) (old now : List Element) (i : ℕ) → q < n → length old ≡ 2 ^ n → i ≡ 2 ^ n → Exchanges q old now i →
    map_of now ≡ ray_of (2 ^ n) (product_at x_gate (q ∷ []) (map_of old))
Exchanges-end n q old now i h e p m =
    map_of_by now (2 ^ n) (λ x. at old (partner q x)) (m.same_length ∙ e)
    (λ x l. m.each x (omega (arith, e)) ∙ ap (λ (k : ℕ). exchanged q (at old) k x) p ∙ exchanged_all n q (at old) x h l)
    ∙ x_product_of n q (at old) h ∙ ap (λ (k : ℕ). ray_of (2 ^ n) (product_at x_gate (q ∷ []) (ray_of k (at old)))) (sym e)
