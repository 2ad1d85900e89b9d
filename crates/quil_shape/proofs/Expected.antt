-- A front goes on with a token exactly where a class is expected that accepts it.
use Rattle.std.proofs.Common.{◌≡◌, ◌⊎◌, inl, inr, true, List, [], ◌∷◌, ◌++◌, refl, sym, ◌∙◌, ap, subst, append_assoc, append-nil}
use Rattle.std.proofs.lemmas.List.{same_from_push}
use Rattle.quil_shape.specs.Shape.{Shape, Grammar}
use Rattle.quil_shape.specs.Shape.Shape.{Seq, Many}
use Rattle.quil_shape.specs.Whole.{Whole}
use Rattle.quil_shape.specs.Front.{Front}
use Rattle.quil_shape.specs.Expects.{Expects}
use Rattle.quil_shape.proofs.Takes.{Takes, Faces, Taken, front_last}
use Rattle.quil_shape.proofs.Sound.{HasWhole}

-- an expected class behind the tokens up to `us`
pub record HasPlace {C O R K T : Type 0} (g : Grammar C O R K T) (s : Shape C O R) (ts us : List T) (c : C) : Type 0 where
  pub before : List T
  pub splits : ts ≡ before ++ us
  pub expects : Expects g s before c

-- a list with one item more
pub not_empty : {A : Type 0} (xs : List A) (x : A) → xs ++ x ∷ [] ≡ [] → ⊥
not_empty [] x e = cc
not_empty (y ∷ xs) x e = cc

module _ {C O R K T : Type 0} (g : Grammar C O R K T) where
  takes_whole : {s : Shape C O R} {ts us : List T} {os : List O} → Takes g s ts us os → HasWhole g s ts us os
  takes_whole (Takes.one {t = t} h) = record { before = t ∷ []; splits = refl; whole = Whole.one h }
  takes_whole Takes.emit = record { before = []; splits = refl; whole = Whole.emit }
  takes_whole Takes.empty = record { before = []; splits = refl; whole = Whole.empty }
  takes_whole (Takes.seq w v) =
      let p = takes_whole w in
      let q = takes_whole v in
      record { before = p.before ++ q.before; splits = rw append_assoc (p.splits ∙ ap (λ xs. p.before ++ xs) q.splits); whole = Whole.seq p.whole q.whole }
  takes_whole (Takes.left w) = let p = takes_whole w in record { before = p.before; splits = p.splits; whole = Whole.left p.whole }
  takes_whole (Takes.right w) = let p = takes_whole w in record { before = p.before; splits = p.splits; whole = Whole.right p.whole }
  takes_whole Takes.none = record { before = []; splits = refl; whole = Whole.none }
  takes_whole (Takes.more w v) =
      let p = takes_whole w in
      let q = takes_whole v in
      record { before = p.before ++ q.before; splits = rw append_assoc (p.splits ∙ ap (λ xs. p.before ++ xs) q.splits); whole = Whole.more p.whole q.whole }
  takes_whole (Takes.rule w) = let p = takes_whole w in record { before = p.before; splits = p.splits; whole = Whole.rule p.whole }

  place_behind : (a b s : Shape C O R) (ts us vs : List T) (os : List O) (c : C) → ((xs ys : List T) → Whole g a xs os → Expects g b ys c → Expects g s (xs ++ ys) c) → HasWhole g a ts us os → HasPlace g b us vs c → HasPlace g s ts vs c
  place_behind a b s ts us vs os c f p q = record { before = p.before ++ q.before; splits = rw append_assoc (p.splits ∙ ap (λ xs. p.before ++ xs) q.splits); expects = f _ _ p.whole q.expects }

  faces_expects : {s : Shape C O R} {ts us : List T} {c : C} → Faces g s ts us c → HasPlace g s ts us c
  faces_expects Faces.one = record { before = []; splits = refl; expects = Expects.one }
  faces_expects (Faces.first f) = let p = faces_expects f in record { before = p.before; splits = p.splits; expects = Expects.first p.expects }
  faces_expects (Faces.next {a = a} {b = b} {ts = ts} {us = us} {vs = vs} {os = os} {c = c} w f) = place_behind a b (Seq a b) ts us vs os c (λ xs ys w e. Expects.next w e) (takes_whole w) (faces_expects f)
  faces_expects (Faces.left f) = let p = faces_expects f in record { before = p.before; splits = p.splits; expects = Expects.left p.expects }
  faces_expects (Faces.right f) = let p = faces_expects f in record { before = p.before; splits = p.splits; expects = Expects.right p.expects }
  faces_expects (Faces.part f) = let p = faces_expects f in record { before = p.before; splits = p.splits; expects = Expects.part p.expects }
  faces_expects (Faces.again {a = a} {ts = ts} {us = us} {vs = vs} {os = os} {c = c} w f) = place_behind a (Many a) (Many a) ts us vs os c (λ xs ys w e. Expects.again w e) (takes_whole w) (faces_expects f)
  faces_expects (Faces.rule f) = let p = faces_expects f in record { before = p.before; splits = p.splits; expects = Expects.rule p.expects }

  -- a class that accepts the token is expected
  pub expected_next : (s : Shape C O R) (before : List T) (t : T) → Front g s (before ++ t ∷ []) → (c : C) × Expects g s before c × (g.accepts c (g.kind t) ≡ true)
  expected_next s before t f = by_cases (front_last g f [])
    where
      taken : (p : Taken g s ((before ++ t ∷ []) ++ []) []) → (c : C) × Expects g s before c × (g.accepts c (g.kind t) ≡ true)
      taken p =
          let place = faces_expects p.faces in
          let same = same_from_push before place.before t p.token (sym (append-nil (before ++ t ∷ [])) ∙ place.splits) in
          (p.place, subst (λ xs. Expects g s xs p.place) (sym same.0) place.expects, subst (λ x. g.accepts p.place (g.kind x) ≡ true) (sym same.1) p.is_accepted)

      by_cases : ((before ++ t ∷ []) ++ [] ≡ []) ⊎ Taken g s ((before ++ t ∷ []) ++ []) [] → (c : C) × Expects g s before c × (g.accepts c (g.kind t) ≡ true)
      by_cases (inl e) = absurd (not_empty before t (sym (append-nil (before ++ t ∷ [])) ∙ e))
      by_cases (inr p) = taken p

  -- a token that an expected class accepts makes a longer front
  pub goes_on : {s : Shape C O R} {before : List T} {c : C} → Expects g s before c → (t : T) → g.accepts c (g.kind t) ≡ true → Front g s (before ++ t ∷ [])
  goes_on Expects.one t h = Front.token h
  goes_on (Expects.first e) t h = Front.first (goes_on e t h)
  goes_on (Expects.next w e) t h = rw append_assoc (Front.next w (goes_on e t h))
  goes_on (Expects.left e) t h = Front.left (goes_on e t h)
  goes_on (Expects.right e) t h = Front.right (goes_on e t h)
  goes_on (Expects.part e) t h = Front.part (goes_on e t h)
  goes_on (Expects.again w e) t h = rw append_assoc (Front.again w (goes_on e t h))
  goes_on (Expects.rule e) t h = Front.rule (goes_on e t h)
