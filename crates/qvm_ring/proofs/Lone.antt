-- The only element that isn't 0.
use Rattle.std.proofs.Common.{◌≡◌, ◌≢◌, refl, sym, ◌∙◌, ap, subst, ℕ, zero, suc, ◌+◌, ◌<◌, ◌≤◌, inl, inr, Bool, true, false, List, [], ◌∷◌, ◌++◌, length, set, arith, add-one}
use Rattle.std.specs.Prelude.{Option, None, Some, IfSome, is_some, if◌then◌else◌}
use Rattle.std.proofs.lemmas.List.{append-nil, length-append}
use Rattle.std.proofs.Math.ListN.{length-set}
use Rattle.qvm_ring.specs.Ring.{Element, nought, unit, is_zero}
use Rattle.qvm_ring.specs.Ray.{Ray, amplitude_at, entry_if_any, ray_of, lone_is_unit}
use Rattle.qvm_ring.specs.Views.{at, map_of}
use Rattle.qvm_ring.proofs.FiniteMaps.{order_of, is_ray_of, amplitude_at_ray_of, amplitude_at_head, amplitude_at_tail}
use Rattle.qvm_ring.proofs.Lists.{at_set_here, at_set_other}

-- what a search up to i has found
pub record Lone (f : ℕ → Element) (i : ℕ) (o : Option ℕ) : Type 0 where
  pub none : o ≡ None → ray_of i f ≡ []
  pub one : IfSome o (λ k. ray_of i f ≡ (k, f k) ∷ [])
  pub bound : IfSome o (λ k. k < i)

zero_next : (i : ℕ) (f : ℕ → Element) → is_zero (f i) ≡ true → ray_of (i + 1) f ≡ ray_of i f
zero_next i f z =
    ap (λ (k : ℕ). ray_of k f) (add-one i) ∙ ap (λ (b : Bool). ray_of i f ++ (if b then [] else (i, f i) ∷ [])) z ∙ append-nil (ray_of i f)

some_next : (i : ℕ) (f : ℕ → Element) → is_zero (f i) ≡ false → ray_of (i + 1) f ≡ ray_of i f ++ (i, f i) ∷ []
some_next i f z = ap (λ (k : ℕ). ray_of k f) (add-one i) ∙ ap (λ (b : Bool). ray_of i f ++ (if b then [] else (i, f i) ∷ [])) z

pub Lone-none : (f : ℕ → Element) → Lone f 0 None
Lone-none f = record { none = λ e. refl; one = tt; bound = tt }

pub Lone-skip : (f : ℕ → Element) (i : ℕ) (o : Option ℕ) → is_zero (f i) ≡ true → Lone f i o → Lone f (i + 1) o
Lone-skip f i None z m = record { none = λ e. zero_next i f z ∙ m.none refl; one = tt; bound = tt }
Lone-skip f i (Some k) z m = record { none = λ e. absurd (cc); one = zero_next i f z ∙ m.one; bound = omega (arith, m.bound) }

pub Lone-first : (f : ℕ → Element) (i : ℕ) (o : Option ℕ) → is_zero (f i) ≡ false → is_some o ≡ false → Lone f i o → Lone f (i + 1) (Some i)
Lone-first f i (Some k) z e m = absurd (cc)
Lone-first f i None z e m = record {
  none = λ p. absurd (cc);
  one = some_next i f z ∙ ap (λ (r : Ray). r ++ (i, f i) ∷ []) (m.none refl);
  bound = omega arith;
}

length_part : (i n : ℕ) (f : ℕ → Element) → i ≤ n → length (ray_of i f) ≤ length (ray_of n f)
length_part i zero f h = let e : i ≡ 0 = omega arith in omega (arith, ap (λ (k : ℕ). length (ray_of k f)) e)
length_part i (suc n) f h = elim (order_of i (suc n)) [
  | inl l ↦ omega (arith, length_part i n f (omega arith), length-append (ray_of n f) (entry_if_any n (f n)))
  | inr (inl e) ↦ omega (arith, ap (λ (k : ℕ). length (ray_of k f)) e)
  | inr (inr l) ↦ absurd (omega arith)
]

lone_two : (r : Ray) → 1 < length r → lone_is_unit r ≡ r
lone_two [] h = absurd (omega arith)
lone_two (e ∷ []) h = absurd (omega arith)
lone_two (e ∷ f ∷ es) h = refl

pub Lone-second : (f : ℕ → Element) (n i : ℕ) (o : Option ℕ) → i < n → is_zero (f i) ≡ false → is_some o ≡ true → Lone f i o → lone_is_unit (ray_of n f) ≡ ray_of n f
Lone-second f n i None h z s m = absurd (cc)
Lone-second f n i (Some k) h z s m =
    let two : ray_of (i + 1) f ≡ (k, f k) ∷ (i, f i) ∷ [] = some_next i f z ∙ ap (λ (r : Ray). r ++ (i, f i) ∷ []) m.one in
    lone_two (ray_of n f) (omega (arith, ap length two, length_part (i + 1) n f (omega arith)))

pub Lone-one : (zs : List Element) (i : ℕ) (o : Option ℕ) → i ≡ length zs → Lone (at zs) i o → IfSome o (λ k. map_of zs ≡ (k, at zs k) ∷ [])
Lone-one zs i o e m = subst (λ (n : ℕ). IfSome o (λ k. ray_of n (at zs) ≡ (k, at zs k) ∷ [])) e m.one

-- ---- the lone element becomes 1

elsewhere : (zs : List Element) (p x : ℕ) → x < length zs → x ≢ p → map_of zs ≡ (p, at zs p) ∷ [] → at zs x ≡ nought
elsewhere zs p x l h e =
    sym (amplitude_at_ray_of (length zs) (at zs) x l) ∙ ap (λ (r : Ray). amplitude_at r x) e ∙ amplitude_at_tail (p, at zs p) [] x (λ q. h (sym q))

pub lone_set : (zs : List Element) (p : ℕ) (u : Element) → p < length zs → map_of zs ≡ (p, at zs p) ∷ [] → u ≡ unit → map_of (set zs p u) ≡ lone_is_unit (map_of zs)
lone_set zs p u h e q =
    ap (λ (n : ℕ). ray_of n (at (set zs p u))) (length-set zs p u)
    ∙ sym (is_ray_of ((p, unit) ∷ []) (length zs) (at (set zs p u)) (omega arith, h, refl, tt) (λ x l. elim (order_of x p) [
      | inl j ↦ amplitude_at_tail (p, unit) [] x (λ f. omega arith) ∙ sym (at_set_other zs p x u (λ f. omega arith) ∙ elsewhere zs p x l (λ f. omega arith) e)
      | inr (inl f) ↦ amplitude_at_head (p, unit) [] x (sym f) ∙ sym (ap (at (set zs p u)) f ∙ at_set_here zs p u h ∙ q)
      | inr (inr j) ↦ amplitude_at_tail (p, unit) [] x (λ f. omega arith) ∙ sym (at_set_other zs p x u (λ f. omega arith) ∙ elsewhere zs p x l (λ f. omega arith) e)
    ]))
    ∙ ap lone_is_unit (sym e)
