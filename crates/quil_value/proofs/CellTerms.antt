-- Terms of sums: one more, and each with another factor.
use Rattle.std.proofs.Common.{◌≡◌, ◌<◌, ◌≤◌, ℕ, zero, suc, ◌+◌, refl, sym, subst, ◌∙◌, ap, ap₂, arith, true, false, Bool, List, [], ◌∷◌, ◌++◌, length, map, get_or, set, take, drop, Option, Some, None, Result, Ok, Err, inl, inr, All, AllPairs, length-set, get_or-set_same, get_or-set_other, position, append_assoc, if◌then◌else◌, nat_le}
use Rattle.std.specs.List.{position_from}
use Rattle.std.proofs.lemmas.Bool.{cases_eq, cases_Bool, leb-true, le-leb}
use Rattle.std.proofs.lemmas.List.{take_more_set, drop_more, drop-set-lt, length_push, get_or_default}
use Rattle.std.proofs.lemmas.List.Edits.{map_over_more}
use Rattle.std.proofs.lemmas.Iterator.Adapters.{position_from-zero}
use Rattle.std.proofs.lemmas.List.Elements.{All-set, All-push}
use Rattle.std.proofs.lemmas.List.Quantifiers.{position-Some, all_pairs_push}
use Rattle.quil_number.specs.declared.fraction.Fraction.{Fraction}
use Rattle.quil_value.specs.declared.lack.Lack.{Lack}
use Rattle.quil_value.specs.declared.lack.Lack.TheVariants.{NumberTooWide}
use Rattle.quil_value.specs.declared.sums.Cell.{Cell}
use Rattle.quil_value.specs.declared.sums.Term.{Term}
use Rattle.quil_value.specs.Results.{and_then}
use Rattle.quil_value.specs.Sums.{is_same_cell, with_term, limited, with_terms, ratio_sum, ratio_product, scaled_terms, opposite_term, most_cells}
use Rattle.quil_value.specs.SumForms.{IsRatio, AreApart, AreTerms}

-- ---- results one after another

pub and_then_twice : {A B C F : Type 0} (r : Result A F) (f : A → Result B F) (g : B → Result C F) → and_then (and_then r f) g ≡ and_then r (λ x. and_then (f x) g)
and_then_twice (Ok x) f g = refl
and_then_twice (Err e) f g = refl

-- ---- where a cell's term stands

new_from : (p : Term → Bool) (ts : List Term) (i : ℕ) → position_from p i ts ≡ None → (k : ℕ) (d : Term) → k < length ts → p (get_or ts k d) ≡ false
new_from p [] i e k d lt = absurd (omega arith)
new_from p (u ∷ us) i e zero d lt = elim (cases_Bool (p u)) [
  | inl holds ↦ let f : Some i ≡ None = (rw holds at e) in absurd cc
  | inr fails ↦ fails
]
new_from p (u ∷ us) i e (suc k) d lt = elim (cases_Bool (p u)) [
  | inl holds ↦ let f : Some i ≡ None = (rw holds at e) in absurd cc
  | inr fails ↦ new_from p us (i + 1) (rw fails at e) k d (omega arith)
]

-- no term has the cell
pub none_there : (ts : List Term) (c : Cell) → position (λ t. is_same_cell t.cell c) ts ≡ None → (k : ℕ) (d : Term) → k < length ts → is_same_cell (get_or ts k d).cell c ≡ false
none_there ts c e = new_from (λ t. is_same_cell t.cell c) ts 0 (sym (position_from-zero (λ t. is_same_cell t.cell c) ts) ∙ e)

-- ---- one more term

found_at : (ts : List Term) (t : Term) (i : ℕ) (d : Term) → i < length ts → is_same_cell (get_or ts i d).cell t.cell ≡ true
    → ((k : ℕ) → k < i → is_same_cell (get_or ts k d).cell t.cell ≡ false)
    → with_term ts t ≡ and_then (ratio_sum (get_or ts i d).factor t.factor) (λ f. Ok (set ts i (record { cell = (get_or ts i d).cell; factor = f })))
found_at [] t i d lt same below = absurd (omega arith)
found_at (u ∷ us) t zero d lt same below = rw same refl
found_at (u ∷ us) t (suc i) d lt same below =
    let first : is_same_cell u.cell t.cell ≡ false = below 0 (omega arith) in
    rw first (rw (found_at us t i d (omega arith) same (λ k h. below (suc k) (omega arith))) (and_then_twice {A = Fraction} {B = List Term} (ratio_sum (get_or us i d).factor t.factor) (λ f. Ok (set us i (record { cell = (get_or us i d).cell; factor = f }))) (λ ts. Ok (u ∷ ts))))

pub with_known : (ts : List Term) (t : Term) (i : ℕ) (x : Term) → position (λ u. is_same_cell u.cell t.cell) ts ≡ Some i → x ≡ get_or ts i x
    → with_term ts t ≡ and_then (ratio_sum x.factor t.factor) (λ f. Ok (set ts i (record { cell = x.cell; factor = f })))
with_known ts t i x e at =
    let place = position-Some (λ (u : Term). is_same_cell u.cell t.cell) ts i x e in
    subst (λ (y : Term). with_term ts t ≡ and_then (ratio_sum y.factor t.factor) (λ f. Ok (set ts i (record { cell = y.cell; factor = f })))) (sym at) (found_at ts t i x place.0 place.1 place.2)

pub with_new : (ts : List Term) (t : Term) → ((k : ℕ) (d : Term) → k < length ts → is_same_cell (get_or ts k d).cell t.cell ≡ false) → with_term ts t ≡ Ok (ts ++ t ∷ [])
with_new [] t h = refl
with_new (u ∷ us) t h =
    let first : is_same_cell u.cell t.cell ≡ false = h 0 t (omega arith) in
    rw first (rw (with_new us t (λ k d lt. h (suc k) d (omega arith))) refl)

-- ---- the terms with another factor at a place

other_factor : (ts : List Term) (i : ℕ) (x : Term) (f : Fraction) (k : ℕ) (e : Term) → i < length ts → x ≡ get_or ts i x
    → (get_or (set ts i (record { cell = x.cell; factor = f })) k e).cell ≡ (get_or ts k e).cell
other_factor ts i x f k e lt at = elim (cases_eq k i) [
  | inl same ↦
      let y : Term = record { cell = x.cell; factor = f } in
      ap (λ (n : ℕ). (get_or (set ts i y) n e).cell) same
      ∙ ap (λ (t : Term). t.cell) (get_or-set_same ts i y e lt)
      ∙ ap (λ (t : Term). t.cell) (at ∙ get_or_default ts i x e lt)
      ∙ ap (λ (n : ℕ). (get_or ts n e).cell) (sym same)
  | inr apart ↦ ap (λ (t : Term). t.cell) (get_or-set_other ts i k (record { cell = x.cell; factor = f }) e apart)
]

pub set_form : (ts : List Term) (i : ℕ) (x : Term) (f : Fraction) → i < length ts → x ≡ get_or ts i x → AreTerms ts → IsRatio f → AreTerms (set ts i (record { cell = x.cell; factor = f }))
set_form ts i x f lt at h form =
    let y : Term = record { cell = x.cell; factor = f } in
    let long : length (set ts i y) ≡ length ts = length-set ts i y in
    record {
      factors = All-set (λ t. IsRatio t.factor) ts i y form h.factors;
      apart = λ m n d lower within.
          ap₂ is_same_cell (other_factor ts i x f m d lt at) (other_factor ts i x f n d lt at)
          ∙ h.apart m n d lower (omega (arith, long));
      most = subst (λ n. n ≤ most_cells) (sym long) h.most;
    }

pub push_form : (ts : List Term) (t : Term) → length ts < most_cells → ((k : ℕ) (d : Term) → k < length ts → is_same_cell (get_or ts k d).cell t.cell ≡ false) → AreTerms ts → IsRatio t.factor → AreTerms (ts ++ t ∷ [])
push_form ts t few apart h form = record {
  factors = All-push (λ u. IsRatio u.factor) ts t h.factors form;
  apart = all_pairs_push AreApart ts t h.apart apart;
  most = let long = length_push ts t in omega (arith, long);
}

-- ---- each factor times a rational

abbrev pub Scaled : List Term → ℕ → List Term → Fraction → Type 0
Scaled now i before c = and_then (scaled_terms (drop i now) c) (λ us. Ok (take i now ++ us)) ≡ scaled_terms before c

scaled_front : (r : Result (List Term) Lack) (front : List Term) (y : Term)
    → and_then (and_then r (λ us. Ok (y ∷ us))) (λ us. Ok (front ++ us)) ≡ and_then r (λ us. Ok ((front ++ y ∷ []) ++ us))
scaled_front (Ok us) front y = ap (λ (vs : List Term). Ok vs) (sym (append_assoc front (y ∷ []) us))
scaled_front (Err e) front y = refl

-- the front of the list has its new factors, and an element gets its own
scaled_with : (x : Term) (rest front before : List Term) (c f : Fraction) → ratio_product x.factor c ≡ Ok f
    → and_then (scaled_terms (x ∷ rest) c) (λ us. Ok (front ++ us)) ≡ scaled_terms before c
    → and_then (scaled_terms rest c) (λ us. Ok ((front ++ record { cell = x.cell; factor = f } ∷ []) ++ us)) ≡ scaled_terms before c
scaled_with x rest front before c f e h =
    let y : Term = record { cell = x.cell; factor = f } in
    sym (scaled_front (scaled_terms rest c) front y) ∙ (rw e at h)

pub scaled_next : (ts before : List Term) (i : ℕ) (d : Term) (c f : Fraction) → i < length ts → ratio_product (get_or ts i d).factor c ≡ Ok f
    → Scaled ts i before c → Scaled (set ts i (record { cell = (get_or ts i d).cell; factor = f })) (i + 1) before c
scaled_next ts before i d c f lt e h =
    let x = get_or ts i d in
    let y : Term = record { cell = x.cell; factor = f } in
    let behind : drop (i + 1) (set ts i y) ≡ drop (i + 1) ts = drop-set-lt (i + 1) ts i y (omega arith) in
    let ahead : take (i + 1) (set ts i y) ≡ take i ts ++ y ∷ [] = take_more_set ts i y lt in
    let here = ap (λ (vs : List Term). and_then (scaled_terms vs c) (λ us. Ok (take i ts ++ us))) (sym (drop_more ts i d lt)) ∙ h in
    ap₂ (λ (vs ws : List Term). and_then (scaled_terms vs c) (λ us. Ok (ws ++ us))) behind ahead
    ∙ scaled_with x (drop (i + 1) ts) (take i ts) before c f e here

pub scaled_fault : (ts before : List Term) (i : ℕ) (d : Term) (c : Fraction) (e : Lack) → i < length ts → ratio_product (get_or ts i d).factor c ≡ Err e
    → Scaled ts i before c → scaled_terms before c ≡ Err e
scaled_fault ts before i d c e lt f h =
    let here = ap (λ (vs : List Term). and_then (scaled_terms vs c) (λ us. Ok (take i ts ++ us))) (sym (drop_more ts i d lt)) ∙ h in
    sym (rw f at here)

-- ---- what one more term gives

pub limited_new : (ts : List Term) (t : Term) → position (λ u. is_same_cell u.cell t.cell) ts ≡ None → and_then (with_term ts t) limited ≡ limited (ts ++ t ∷ [])
limited_new ts t e = rw (with_new ts t (none_there ts t.cell e)) refl

few : (us vs : List Term) → limited us ≡ Ok vs → (us ≡ vs) × (length us ≤ most_cells)
few us vs e = elim (cases_Bool (nat_le (length us) most_cells)) [
  | inl holds ↦ let f : Ok us ≡ Ok vs = (rw holds at e) in (cc f, omega (arith, leb-true (length us) most_cells holds))
  | inr fails ↦ let f : Err NumberTooWide ≡ Ok vs = (rw fails at e) in absurd cc
]

pub new_form : (ts vs : List Term) (t : Term) → position (λ u. is_same_cell u.cell t.cell) ts ≡ None → limited (ts ++ t ∷ []) ≡ Ok vs → AreTerms ts → IsRatio t.factor → AreTerms vs
new_form ts vs t none e h form =
    let all = few (ts ++ t ∷ []) vs e in
    let long = length_push ts t in
    subst AreTerms all.0 (push_form ts t (omega (arith, all.1, long)) (none_there ts t.cell none) h form)

pub known_limited : (ts : List Term) (t : Term) (i : ℕ) (x : Term) (f : Fraction) → position (λ u. is_same_cell u.cell t.cell) ts ≡ Some i → x ≡ get_or ts i x → ratio_sum x.factor t.factor ≡ Ok f → length ts ≤ most_cells
    → and_then (with_term ts t) limited ≡ Ok (set ts i (record { cell = x.cell; factor = f }))
known_limited ts t i x f there at e most =
    let us = set ts i (record { cell = x.cell; factor = f }) in
    let within : nat_le (length us) most_cells ≡ true = le-leb (length us) most_cells (subst (λ n. n ≤ most_cells) (sym (length-set ts i (record { cell = x.cell; factor = f }))) most) in
    rw (with_known ts t i x there at, e) (ap (λ (b : Bool). if b then Ok us else Err NumberTooWide) within)

pub known_fault : (ts : List Term) (t : Term) (i : ℕ) (x : Term) (e : Lack) → position (λ u. is_same_cell u.cell t.cell) ts ≡ Some i → x ≡ get_or ts i x → ratio_sum x.factor t.factor ≡ Err e
    → and_then (with_term ts t) limited ≡ Err e
known_fault ts t i x e there at f = rw (with_known ts t i x there at, f) refl

-- ---- each factor with the other sign

pub negated_next : (before ts : List Term) (i : ℕ) (d : Term) (f : Fraction) → i < length before → length ts ≡ length before → ts ≡ map opposite_term (take i before) ++ drop i before
    → f ≡ (opposite_term (get_or ts i d)).factor
    → set ts i (record { cell = (get_or ts i d).cell; factor = f }) ≡ map opposite_term (take (i + 1) before) ++ drop (i + 1) before
negated_next before ts i d f lt long h e =
    let x = get_or ts i d in
    ap (λ (g : Fraction). set ts i (record { cell = x.cell; factor = g })) e ∙ map_over_more opposite_term before ts i x lt h (get_or_default ts i d x (omega (arith, long)))
