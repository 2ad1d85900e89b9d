-- Division by √2 of a list of elements, and what the loop of divisions keeps.
use Rattle.std.proofs.Common.{◌≡◌, ◌≢◌, refl, sym, ◌∙◌, ap, subst, ℕ, zero, suc, ◌+◌, ◌*◌, ◌/◌, ◌<◌, ◌≤◌, Bool, true, false, ◌&&◌, List, [], length, map, arith}
use Rattle.std.specs.Prelude.{All, ℤ, pos, negsuc, ◌+ℤ◌, ◌-ℤ◌, nat_abs, int_div}
use Rattle.std.specs.List.{list_all}
use Rattle.std.proofs.lemmas.Int.{ints}
use Rattle.std.proofs.lemmas.List.{length-map}
use Rattle.qvm_ring.specs.Ring.{Element, nought, is_divisible, quotient}
use Rattle.qvm_ring.specs.Ray.{ray_of, weight, all_divisible, all_divided, lone_is_unit, reduced}
use Rattle.qvm_ring.specs.Views.{at, map_of, IsBelow}
use Rattle.qvm_ring.proofs.FiniteMaps.{IsFiniteMap-ray_of}
use Rattle.qvm_ring.proofs.RayLemmas.{weight_all_divided}
use Rattle.qvm_ring.proofs.Reductions.{weight_positive, all_divided_some, fully_divided, fully_divided_step, reduced_end}
use Rattle.qvm_ring.proofs.Vectors.{divisible_step, not_divisible, divided_ray_of}
use Rattle.qvm_ring.proofs.Lists.{at_is, at_map, All_at, All_from_at, same_elements, map_of_by, all_at, not_all, Changes}

-- ---- the map of a list

both_true : (s t : Bool) → s ≡ true → t ≡ true → (s && t) ≡ true
both_true true t h k = k
both_true false t h k = absurd (cc)

each_divisible : (n : ℕ) (f : ℕ → Element) → ((i : ℕ) → i < n → is_divisible (f i) ≡ true) → all_divisible (ray_of n f) ≡ true
each_divisible zero f h = refl
each_divisible (suc n) f h = divisible_step n f ∙ both_true (all_divisible (ray_of n f)) (is_divisible (f n)) (each_divisible n f (λ i l. h i (omega arith))) (h n (omega arith))

pub all_divisible_map_of : (zs : List Element) → all_divisible (map_of zs) ≡ list_all is_divisible zs
all_divisible_map_of zs = elim (list_all is_divisible zs) as (λ t. list_all is_divisible zs ≡ t → all_divisible (map_of zs) ≡ t) [
  | true ↦ λ e. each_divisible (length zs) (at zs) (λ i l. all_at is_divisible zs i e l)
  | false ↦ λ e. let f = not_all is_divisible zs e in not_divisible (length zs) (at zs) f.place f.bound f.fails
] refl

at_quotients : (zs : List Element) (x : ℕ) → x < length zs → at (map quotient zs) x ≡ quotient (at zs x)
at_quotients zs x l = at_map quotient zs x nought l ∙ ap quotient (sym (at_is zs x nought l))

pub map_of_quotients : (zs : List Element) → list_all is_divisible zs ≡ true → map_of (map quotient zs) ≡ all_divided (map_of zs)
map_of_quotients zs e =
    map_of_by (map quotient zs) (length zs) (λ x. quotient (at zs x)) (length-map zs quotient) (λ x l. at_quotients zs x l)
    ∙ sym (divided_ray_of (length zs) (at zs) (all_divisible_map_of zs ∙ e))

-- ---- bounds

half_size : (z : ℤ) → nat_abs (int_div z (pos 2)) ≤ nat_abs z / 2
half_size (pos n) = omega arith
half_size (negsuc n) = omega (arith, ints)

half_sum : (b : ℕ) (x y : ℤ) → nat_abs x < b → nat_abs y < b → nat_abs (int_div (x +ℤ y) (pos 2)) < b
half_sum b x y h k = let m : nat_abs (x +ℤ y) ≤ nat_abs x + nat_abs y = omega (arith, ints) in omega (arith, half_size (x +ℤ y), m)

half_difference : (b : ℕ) (x y : ℤ) → nat_abs x < b → nat_abs y < b → nat_abs (int_div (x -ℤ y) (pos 2)) < b
half_difference b x y h k = let m : nat_abs (x -ℤ y) ≤ nat_abs x + nat_abs y = omega (arith, ints) in omega (arith, half_size (x -ℤ y), m)

IsBelow-quotient : (b : ℕ) (z : Element) → IsBelow b z → IsBelow b (quotient z)
IsBelow-quotient b z h = record { a = half_difference b z.b z.d h.b h.d; b = half_sum b z.a z.c h.a h.c; c = half_sum b z.b z.d h.b h.d; d = half_difference b z.c z.a h.c h.a }

All_quotients : (b : ℕ) (zs : List Element) → All (IsBelow b) zs → All (IsBelow b) (map quotient zs)
All_quotients b zs h = All_from_at (IsBelow b) (map quotient zs) (λ i l.
    let k : i < length zs = omega (arith, length-map zs quotient) in
    subst (IsBelow b) (sym (at_quotients zs i k)) (IsBelow-quotient b (at zs i) (All_at (IsBelow b) zs i h k)))

-- ---- the loop over the places of a list

pub divided_end : (old now : List Element) (i : ℕ) → length now ≤ i → Changes (λ x z. quotient z) old now i → now ≡ map quotient old
divided_end old now i l m =
    same_elements now (map quotient old) (m.same_length ∙ sym (length-map old quotient))
    (λ x k. let j : x < length old = omega (arith, length-map old quotient) in m.done x (omega (arith, m.same_length)) ∙ sym (at_quotients old x j))

-- ---- the loop of divisions

pub record Reduces (bound : ℕ) (old now : List Element) : Type 0 where
  pub small : All (IsBelow bound) now
  pub some : map_of now ≢ []
  pub same_length : length now ≡ length old
  pub same : fully_divided (map_of now) ≡ fully_divided (map_of old)

pub heavy : (zs : List Element) → map_of zs ≢ [] → 0 < weight (map_of zs)
heavy zs s = weight_positive (map_of zs) 0 (length zs) (IsFiniteMap-ray_of (length zs) (at zs)) s

pub Reduces-none : (bound : ℕ) (old : List Element) → All (IsBelow bound) old → map_of old ≢ [] → Reduces bound old old
Reduces-none bound old a s = record { small = a; some = s; same_length = refl; same = refl }

pub Reduces-step : (bound : ℕ) (old now now' : List Element) → now' ≡ map quotient now → list_all is_divisible now ≡ true → Reduces bound old now → Reduces bound old now'
Reduces-step bound old now now' p e m =
    let d : map_of (map quotient now) ≡ all_divided (map_of now) = map_of_quotients now e in
    subst (Reduces bound old) (sym p) (record {
      small = All_quotients bound now m.small;
      some = λ f. all_divided_some (map_of now) m.some (sym d ∙ f);
      same_length = length-map now quotient ∙ m.same_length;
      same = ap fully_divided d ∙ fully_divided_step (map_of now) (heavy now m.some) (all_divisible_map_of now ∙ e) ∙ m.same;
    })

pub lighter : (now now' : List Element) → now' ≡ map quotient now → list_all is_divisible now ≡ true → map_of now ≢ [] → weight (map_of now') < weight (map_of now)
lighter now now' p e s =
    let w : 2 * weight (all_divided (map_of now)) ≡ weight (map_of now) = weight_all_divided (map_of now) (all_divisible_map_of now ∙ e) in
    omega (arith, ap (λ (zs : List Element). weight (map_of zs)) p, ap weight (map_of_quotients now e), heavy now s, w)

pub Reduces-end : (bound : ℕ) (old now : List Element) → list_all is_divisible now ≡ false → Reduces bound old now → lone_is_unit (map_of now) ≡ reduced (map_of old)
Reduces-end bound old now e m = reduced_end (map_of old) (map_of now) (all_divisible_map_of now ∙ e) m.same
