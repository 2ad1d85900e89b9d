-- The elements of a list by their places, and a loop that changes them one by one.
use Rattle.std.proofs.Common.{◌≡◌, ◌≢◌, refl, sym, ◌∙◌, ap, subst, ℕ, zero, suc, ◌+◌, ◌<◌, ◌≤◌, inl, inr, Bool, true, false, ◌&&◌, List, [], ◌∷◌, length, map, set, get_or, arith}
use Rattle.std.specs.Prelude.{All}
use Rattle.std.specs.List.{list_all}
use Rattle.std.proofs.Math.ListN.{length-set}
use Rattle.std.proofs.lemmas.List.{map-set, length-map}
use Rattle.qvm_ring.specs.Ring.{Element, nought}
use Rattle.qvm_ring.specs.Ray.{ray_of}
use Rattle.qvm_ring.specs.Views.{at, map_of}
use Rattle.qvm_ring.proofs.FiniteMaps.{order_of}
use Rattle.qvm_ring.proofs.Vectors.{same_ray_of}
use Rattle.qvm_ring.proofs.RingLemmas.{and_left, and_right}

pub at_map : {X : Type 0} (f : X → Element) (xs : List X) (i : ℕ) (d : X) → i < length xs → at (map f xs) i ≡ f (get_or xs i d)
at_map f [] i d h = absurd (omega arith)
at_map f (x ∷ xs) zero d h = refl
at_map f (x ∷ xs) (suc i) d h = at_map f xs i d (omega arith)

pub at_is : (zs : List Element) (i : ℕ) (d : Element) → i < length zs → at zs i ≡ get_or zs i d
at_is [] i d h = absurd (omega arith)
at_is (z ∷ zs) zero d h = refl
at_is (z ∷ zs) (suc i) d h = at_is zs i d (omega arith)

pub at_set_here : (zs : List Element) (i : ℕ) (z : Element) → i < length zs → at (set zs i z) i ≡ z
at_set_here [] i z h = absurd (omega arith)
at_set_here (y ∷ ys) zero z h = refl
at_set_here (y ∷ ys) (suc i) z h = at_set_here ys i z (omega arith)

pub at_set_other : (zs : List Element) (i j : ℕ) (z : Element) → j ≢ i → at (set zs i z) j ≡ at zs j
at_set_other [] i j z h = refl
at_set_other (y ∷ ys) zero zero z h = absurd (h refl)
at_set_other (y ∷ ys) zero (suc j) z h = refl
at_set_other (y ∷ ys) (suc i) zero z h = refl
at_set_other (y ∷ ys) (suc i) (suc j) z h = at_set_other ys i j z (λ e. h (ap suc e))

pub All_at : (P : Element → Type 0) (zs : List Element) (i : ℕ) → All P zs → i < length zs → P (at zs i)
All_at P zs i a h = subst P (sym (at_is zs i nought h)) (a i nought h)

pub All_from_at : (P : Element → Type 0) (zs : List Element) → ((i : ℕ) → i < length zs → P (at zs i)) → All P zs
All_from_at P zs f = λ i d h. subst P (at_is zs i d h) (f i h)

-- two lists with the same elements
pub same_elements : (ys zs : List Element) → length ys ≡ length zs → ((x : ℕ) → x < length zs → at ys x ≡ at zs x) → ys ≡ zs
same_elements [] [] e h = refl
same_elements [] (z ∷ zs) e h = absurd (omega arith)
same_elements (y ∷ ys) [] e h = absurd (omega arith)
same_elements (y ∷ ys) (z ∷ zs) e h =
    let first : y ≡ z = h 0 (omega arith) in
    let rest : ys ≡ zs = same_elements ys zs (omega arith) (λ x l. h (suc x) (omega arith)) in
    λ i. first i ∷ rest i

pub map_of_by : (zs : List Element) (n : ℕ) (f : ℕ → Element) → length zs ≡ n → ((x : ℕ) → x < n → at zs x ≡ f x) → map_of zs ≡ ray_of n f
map_of_by zs n f e h = ap (λ (k : ℕ). ray_of k (at zs)) e ∙ same_ray_of n (at zs) f h

-- ---- a test of each element

pub all_at : (p : Element → Bool) (zs : List Element) (i : ℕ) → list_all p zs ≡ true → i < length zs → p (at zs i) ≡ true
all_at p [] i e h = absurd (omega arith)
all_at p (z ∷ zs) zero e h = and_left (p z) (list_all p zs) e
all_at p (z ∷ zs) (suc i) e h = all_at p zs i (and_right (p z) (list_all p zs) e) (omega arith)

pub record Fails (p : Element → Bool) (zs : List Element) : Type 0 where
  pub place : ℕ
  pub bound : place < length zs
  pub fails : p (at zs place) ≡ false

pub not_all : (p : Element → Bool) (zs : List Element) → list_all p zs ≡ false → Fails p zs
not_all p [] e = absurd (cc)
not_all p (z ∷ zs) e = elim (p z) as (λ t. p z ≡ t → (t && list_all p zs) ≡ false → Fails p (z ∷ zs)) [
  | true ↦ λ q f. let rest = not_all p zs f in record { place = suc rest.place; bound = omega (arith, rest.bound); fails = rest.fails }
  | false ↦ λ q f. record { place = 0; bound = omega arith; fails = q }
] refl e

-- ---- a loop that changes the elements one by one, that at x by h x

pub record Changes (h : ℕ → Element → Element) (old now : List Element) (i : ℕ) : Type 0 where
  pub same_length : length now ≡ length old
  pub done : (x : ℕ) → x < i → at now x ≡ h x (at old x)
  pub left : (x : ℕ) → i ≤ x → at now x ≡ at old x

pub Changes-none : (h : ℕ → Element → Element) (old : List Element) → Changes h old old 0
Changes-none h old = record { same_length = refl; done = λ x l. absurd (omega arith); left = λ x l. refl }

pub Changes-set : (h : ℕ → Element → Element) (old now : List Element) (i : ℕ) (z : Element) → i < length now → z ≡ h i (at old i) → Changes h old now i → Changes h old (set now i z) (i + 1)
Changes-set h old now i z l e m = record {
  same_length = length-set now i z ∙ m.same_length;
  done = λ x k. elim (order_of x i) [
    | inl j ↦ at_set_other now i x z (λ p. omega arith) ∙ m.done x j
    | inr (inl p) ↦ ap (at (set now i z)) p ∙ at_set_here now i z l ∙ e ∙ ap (λ (y : ℕ). h y (at old y)) (sym p)
    | inr (inr j) ↦ absurd (omega arith)
  ];
  left = λ x k. at_set_other now i x z (λ p. omega arith) ∙ m.left x (omega arith);
}

pub Changes-skip : (h : ℕ → Element → Element) (old now : List Element) (i : ℕ) → h i (at old i) ≡ at old i → Changes h old now i → Changes h old now (i + 1)
Changes-skip h old now i e m = record {
  same_length = m.same_length;
  done = λ x k. elim (order_of x i) [
    | inl j ↦ m.done x j
    | inr (inl p) ↦ ap (at now) p ∙ m.left i (omega arith) ∙ sym e ∙ ap (λ (y : ℕ). h y (at old y)) (sym p)
    | inr (inr j) ↦ absurd (omega arith)
  ];
  left = λ x k. m.left x (omega arith);
}

-- the same of a list of numbers, by their elements
pub Changes-next : {X : Type 0} (f : X → Element) (h : ℕ → Element → Element) (old : List Element) (xs ys : List X) (i : ℕ) (x : X) → ys ≡ set xs i x → i < length xs →
    f x ≡ h i (at old i) → Changes h old (map f xs) i → Changes h old (map f ys) (i + 1)
Changes-next f h old xs ys i x p l e m =
    subst (λ zs. Changes h old zs (i + 1)) (sym (ap (map f) p ∙ map-set f xs i x))
    (Changes-set h old (map f xs) i (f x) (subst (λ (n : ℕ). i < n) (sym (length-map xs f)) l) e m)

-- what stands at i is as it was
pub Changes-here : {X : Type 0} (f : X → Element) (h : ℕ → Element → Element) (old : List Element) (xs : List X) (i : ℕ) (d : X) → i < length xs → Changes h old (map f xs) i →
    f (get_or xs i d) ≡ at old i
Changes-here f h old xs i d l m = sym (at_map f xs i d l) ∙ m.left i (omega arith)

pub Changes-end : (h : ℕ → Element → Element) (old now : List Element) (i : ℕ) → length now ≤ i → Changes h old now i → map_of now ≡ ray_of (length old) (λ x. h x (at old x))
Changes-end h old now i l m = map_of_by now (length old) (λ x. h x (at old x)) m.same_length (λ x k. m.done x (omega (arith, m.same_length)))
