-- The reduced form of finite maps, and what their weight says of their coefficients.
use Rattle.std.proofs.Common.{◌≡◌, ◌≢◌, refl, sym, ◌∙◌, ap, ℕ, zero, suc, ◌-◌, ◌*◌, ◌^◌, ◌<◌, ◌≤◌, ◌==◌, Bool, true, false, ◌&&◌, [], ◌∷◌, arith}
use Rattle.std.specs.Prelude.{nat_abs, ℤ, nat_lt}
use Rattle.std.proofs.lemmas.Bool.{ltb-true, ltb-false}
use Rattle.std.proofs.Math.Nat.{mul-le-mul}
use Rattle.qvm_ring.specs.Ring.{Element, nought, square, norm_whole, is_zero, is_divisible, quotient, times, root_two}
use Rattle.qvm_ring.specs.Ray.{Ray, weight, all_divisible, all_divided, divided, lone_is_unit, reduced, IsFiniteMap}
use Rattle.qvm_ring.specs.Views.{IsBelow}
use Rattle.qvm_ring.proofs.RingLemmas.{root_two_times_quotient, and_left, and_right}
use Rattle.qvm_ring.proofs.RayLemmas.{weight_all_divided}
use Rattle.qvm_ring.proofs.Elements.{nought_if_zero}

-- ---- what isn't 0 has weight

product_positive : (n : ℕ) → 0 < n → n * n ≡ 0 → ⊥
product_positive zero h e = omega arith
product_positive (suc n) h e = omega arith

zero_square : (z : ℤ) → square z ≡ 0 → (nat_abs z == 0) ≡ true
zero_square z h = elim (nat_lt 0 (nat_abs z)) as (λ b. nat_lt 0 (nat_abs z) ≡ b → (nat_abs z == 0) ≡ true) [
  | true ↦ λ e. let l : 0 < nat_abs z = ltb-true 0 (nat_abs z) e in
      absurd (product_positive (nat_abs z) l h)
  | false ↦ λ e. let l : nat_abs z ≡ 0 = omega (arith, ltb-false 0 (nat_abs z) e) in ap (λ (n : ℕ). n == 0) l
] refl

both : (s t : Bool) → s ≡ true → t ≡ true → (s && t) ≡ true
both true true h k = refl
both true false h k = k
both false t h k = h

pub is_zero_weightless : (z : Element) → norm_whole z ≡ 0 → is_zero z ≡ true
is_zero_weightless z h =
    both (nat_abs z.a == 0 && nat_abs z.b == 0 && nat_abs z.c == 0) (nat_abs z.d == 0)
    (both (nat_abs z.a == 0 && nat_abs z.b == 0) (nat_abs z.c == 0)
    (both (nat_abs z.a == 0) (nat_abs z.b == 0) (zero_square z.a (omega arith)) (zero_square z.b (omega arith))) (zero_square z.c (omega arith)))
    (zero_square z.d (omega arith))

true_false : (b : Bool) → b ≡ true → b ≡ false → ⊥
true_false b e f = cc

pub weight_positive : (ray : Ray) (low high : ℕ) → IsFiniteMap low high ray → ray ≢ [] → 0 < weight ray
weight_positive [] low high m h = absurd (h refl)
weight_positive (e ∷ es) low high m h = elim (nat_lt 0 (norm_whole e.1)) as (λ b. nat_lt 0 (norm_whole e.1) ≡ b → 0 < weight (e ∷ es)) [
  | true ↦ λ p. let l : 0 < norm_whole e.1 = ltb-true 0 (norm_whole e.1) p in omega arith
  | false ↦ λ p. let l : norm_whole e.1 ≡ 0 = omega (arith, ltb-false 0 (norm_whole e.1) p) in absurd (true_false (is_zero e.1) (is_zero_weightless e.1 l) m.2)
] refl

-- ---- division keeps a map

pub quotient_not_zero : (z : Element) → is_divisible z ≡ true → is_zero z ≡ false → is_zero (quotient z) ≡ false
quotient_not_zero z h k = elim (is_zero (quotient z)) as (λ b. is_zero (quotient z) ≡ b → b ≡ false) [
  | true ↦ λ e. let f : times root_two nought ≡ z = ap (times root_two) (sym (nought_if_zero (quotient z) e)) ∙ root_two_times_quotient z h in
      absurd (true_false (is_zero z) (sym (ap is_zero f)) k)
  | false ↦ λ e. refl
] refl

pub IsFiniteMap-all_divided : (ray : Ray) (low high : ℕ) → all_divisible ray ≡ true → IsFiniteMap low high ray → IsFiniteMap low high (all_divided ray)
IsFiniteMap-all_divided [] low high h m = tt
IsFiniteMap-all_divided (e ∷ es) low high h m = (
  m.0,
  m.1,
  quotient_not_zero e.1 (and_left (is_divisible e.1) (all_divisible es) h) m.2,
  IsFiniteMap-all_divided es (suc e.0) high (and_right (is_divisible e.1) (all_divisible es) h) m.3,
)

pub all_divided_some : (ray : Ray) → ray ≢ [] → all_divided ray ≢ []
all_divided_some [] h k = h refl
all_divided_some (e ∷ es) h k = cc

divided_map : (n : ℕ) (ray : Ray) (low high : ℕ) → IsFiniteMap low high ray → IsFiniteMap low high (divided n ray)
divided_map zero ray low high m = m
divided_map (suc n) ray low high m =
    elim (all_divisible ray) as (λ t. all_divisible ray ≡ t → IsFiniteMap low high (elim t [ true ↦ divided n (all_divided ray) | false ↦ ray ])) [
      | true ↦ λ e. divided_map n (all_divided ray) low high (IsFiniteMap-all_divided ray low high e m)
      | false ↦ λ e. m
    ] refl

divided_some : (n : ℕ) (ray : Ray) → ray ≢ [] → divided n ray ≢ []
divided_some zero ray h = h
divided_some (suc n) ray h =
    elim (all_divisible ray) as (λ t. (elim t as (λ _. Ray) [ true ↦ divided n (all_divided ray) | false ↦ ray ]) ≢ []) [
      | true ↦ divided_some n (all_divided ray) (all_divided_some ray h)
      | false ↦ h
    ]

lone_map : (ray : Ray) (low high : ℕ) → IsFiniteMap low high ray → IsFiniteMap low high (lone_is_unit ray)
lone_map [] low high m = m
lone_map (e ∷ []) low high m = (m.0, m.1, refl, tt)
lone_map (e ∷ f ∷ es) low high m = m

lone_some : (ray : Ray) → ray ≢ [] → lone_is_unit ray ≢ []
lone_some [] h k = h k
lone_some (e ∷ []) h k = cc
lone_some (e ∷ f ∷ es) h k = h k

pub IsFiniteMap-reduced : (ray : Ray) (low high : ℕ) → IsFiniteMap low high ray → IsFiniteMap low high (reduced ray)
unfolding reduced
IsFiniteMap-reduced ray low high m = lone_map (divided (weight ray) ray) low high (divided_map (weight ray) ray low high m)

pub reduced_some : (ray : Ray) → ray ≢ [] → reduced ray ≢ []
unfolding reduced
reduced_some ray h = lone_some (divided (weight ray) ray) (divided_some (weight ray) ray h)

-- ---- as often as the weight says is often enough

pub divided_more : (m n : ℕ) (ray : Ray) → 0 < weight ray → weight ray ≤ m → weight ray ≤ n → divided m ray ≡ divided n ray
divided_more zero n ray h k l = absurd (omega arith)
divided_more (suc m) zero ray h k l = absurd (omega arith)
divided_more (suc m) (suc n) ray h k l =
    elim (all_divisible ray) as (λ t. all_divisible ray ≡ t → (elim t as (λ _. Ray) [ true ↦ divided m (all_divided ray) | false ↦ ray ]) ≡ (elim t as (λ _. Ray) [ true ↦ divided n (all_divided ray) | false ↦ ray ])) [
      | true ↦ λ e. let w : 2 * weight (all_divided ray) ≡ weight ray = weight_all_divided ray e in divided_more m n (all_divided ray) (omega arith) (omega arith) (omega arith)
      | false ↦ λ e. refl
    ] refl

-- what full division gives
abbrev pub fully_divided : Ray → Ray
fully_divided ray = divided (weight ray) ray

step_of_division : (n : ℕ) (ray : Ray) → weight ray ≡ suc n → all_divisible ray ≡ true → divided (suc n) ray ≡ divided n (all_divided ray)
step_of_division n ray h e = ap (λ (t : Bool). elim t as (λ _. Ray) [ true ↦ divided n (all_divided ray) | false ↦ ray ]) e

pub fully_divided_step : (ray : Ray) → 0 < weight ray → all_divisible ray ≡ true → fully_divided (all_divided ray) ≡ fully_divided ray
fully_divided_step ray h e =
    let w : 2 * weight (all_divided ray) ≡ weight ray = weight_all_divided ray e in
    let p : weight ray ≡ suc (weight ray - 1) = omega arith in
    divided_more (weight (all_divided ray)) (weight ray - 1) (all_divided ray) (omega arith) (omega arith) (omega arith)
    ∙ sym (ap (λ (n : ℕ). divided n ray) p ∙ step_of_division (weight ray - 1) ray p e)

pub fully_divided_end : (ray : Ray) → all_divisible ray ≡ false → fully_divided ray ≡ ray
fully_divided_end ray e = elim (weight ray) as (λ n. divided n ray ≡ ray) [
  | zero ↦ refl
  | suc n ↦ ap (λ (t : Bool). elim t as (λ _. Ray) [ true ↦ divided n (all_divided ray) | false ↦ ray ]) e
]

-- ---- coefficients

below_by_square : (n : ℕ) → n * n < 2 ^ 124 → n < 2 ^ 62
below_by_square n h = elim (nat_lt n (2 ^ 62)) as (λ b. nat_lt n (2 ^ 62) ≡ b → n < 2 ^ 62) [
  | true ↦ λ e. ltb-true n (2 ^ 62) e
  | false ↦ λ e. let l : 2 ^ 62 ≤ n = ltb-false n (2 ^ 62) e in let m : 2 ^ 62 * 2 ^ 62 ≤ n * n = mul-le-mul l l in absurd (omega arith)
] refl

pub IsBelow-norm_whole : (z : Element) → norm_whole z < 2 ^ 124 → IsBelow (2 ^ 62) z
IsBelow-norm_whole z h = record {
  a = below_by_square (nat_abs z.a) (omega arith);
  b = below_by_square (nat_abs z.b) (omega arith);
  c = below_by_square (nat_abs z.c) (omega arith);
  d = below_by_square (nat_abs z.d) (omega arith);
}

-- ---- a reduced map is no heavier

weight_divided_between : (n : ℕ) (ray : Ray) → 0 < weight ray → (0 < weight (divided n ray)) × (weight (divided n ray) ≤ weight ray)
weight_divided_between zero ray h = (h, omega arith)
weight_divided_between (suc n) ray h =
    elim (all_divisible ray) as (λ t. all_divisible ray ≡ t → (0 < weight (elim t as (λ _. Ray) [ true ↦ divided n (all_divided ray) | false ↦ ray ])) × (weight (elim t as (λ _. Ray) [ true ↦ divided n (all_divided ray) | false ↦ ray ]) ≤ weight ray)) [
      | true ↦ λ e. let w : 2 * weight (all_divided ray) ≡ weight ray = weight_all_divided ray e in
          let r = weight_divided_between n (all_divided ray) (omega arith) in (r.0, omega (arith, r.1, w))
      | false ↦ λ e. (h, omega arith)
    ] refl

weight_lone : (ray : Ray) → 0 < weight ray → weight (lone_is_unit ray) ≤ weight ray
weight_lone [] h = omega arith
weight_lone (e ∷ []) h = omega arith
weight_lone (e ∷ f ∷ es) h = omega arith

pub weight_reduced_le : (ray : Ray) → 0 < weight ray → weight (reduced ray) ≤ weight ray
unfolding reduced
weight_reduced_le ray h = let r = weight_divided_between (weight ray) ray h in omega (arith, weight_lone (divided (weight ray) ray) r.0, r.1)

-- what is left once nothing more is divisible
pub reduced_end : (old now : Ray) → all_divisible now ≡ false → fully_divided now ≡ fully_divided old → lone_is_unit now ≡ reduced old
unfolding reduced
reduced_end old now h m = ap lone_is_unit (sym (fully_divided_end now h) ∙ m)
