-- Wholes and places of classes as relations between the tokens before and behind them, with no `++` in an index.
use Rattle.std.proofs.Common.{◌≡◌, ◌≤◌, ◌⊎◌, inl, inr, true, List, [], ◌∷◌, ◌++◌, length, refl, subst, append_assoc, le_refl, le_trans, arith}
use Rattle.quil_shape.specs.Shape.{Shape, Grammar}
use Rattle.quil_shape.specs.Shape.Shape.{One, Emit, Empty, Seq, Or, Many, Rule}
use Rattle.quil_shape.specs.Whole.{Whole}
use Rattle.quil_shape.specs.Front.{Front}
use Rattle.quil_shape.specs.Expects.{Expects}

-- a whole stands at the head of the first tokens and leaves the second
pub data Takes {C O R K T : Type 0} (g : Grammar C O R K T) : Shape C O R → List T → List T → List O → Type 0 where
  one : {c : C} {t : T} {ts : List T} → g.accepts c (g.kind t) ≡ true → Takes g (One c) (t ∷ ts) ts (g.value c t)
  emit : {o : O} {ts : List T} → Takes g (Emit o) ts ts (o ∷ [])
  empty : {ts : List T} → Takes g Empty ts ts []
  seq : {a b : Shape C O R} {ts us vs : List T} {os ps : List O} → Takes g a ts us os → Takes g b us vs ps → Takes g (Seq a b) ts vs (os ++ ps)
  left : {a b : Shape C O R} {ts us : List T} {os : List O} → Takes g a ts us os → Takes g (Or a b) ts us os
  right : {a b : Shape C O R} {ts us : List T} {os : List O} → Takes g b ts us os → Takes g (Or a b) ts us os
  none : {a : Shape C O R} {ts : List T} → Takes g (Many a) ts ts []
  more : {a : Shape C O R} {ts us vs : List T} {os ps : List O} → Takes g a ts us os → Takes g (Many a) us vs ps → Takes g (Many a) ts vs (os ++ ps)
  rule : {r : R} {ts us : List T} {os : List O} → Takes g (g.body r) ts us os → Takes g (Rule r) ts us os

-- behind some whole parts of the first tokens, at the second, the class is expected
pub data Faces {C O R K T : Type 0} (g : Grammar C O R K T) : Shape C O R → List T → List T → C → Type 0 where
  one : {c : C} {ts : List T} → Faces g (One c) ts ts c
  first : {a b : Shape C O R} {ts us : List T} {c : C} → Faces g a ts us c → Faces g (Seq a b) ts us c
  next : {a b : Shape C O R} {ts us vs : List T} {os : List O} {c : C} → Takes g a ts us os → Faces g b us vs c → Faces g (Seq a b) ts vs c
  left : {a b : Shape C O R} {ts us : List T} {c : C} → Faces g a ts us c → Faces g (Or a b) ts us c
  right : {a b : Shape C O R} {ts us : List T} {c : C} → Faces g b ts us c → Faces g (Or a b) ts us c
  part : {a : Shape C O R} {ts us : List T} {c : C} → Faces g a ts us c → Faces g (Many a) ts us c
  again : {a : Shape C O R} {ts us vs : List T} {os : List O} {c : C} → Takes g a ts us os → Faces g (Many a) us vs c → Faces g (Many a) ts vs c
  rule : {r : R} {ts us : List T} {c : C} → Faces g (g.body r) ts us c → Faces g (Rule r) ts us c

-- a token at the end of what was read, taken by a class
pub record Taken {C O R K T : Type 0} (g : Grammar C O R K T) (s : Shape C O R) (ts us : List T) : Type 0 where
  pub token : T
  pub place : C
  pub faces : Faces g s ts (token ∷ us) place
  pub is_accepted : g.accepts place (g.kind token) ≡ true

module _ {C O R K T : Type 0} (g : Grammar C O R K T) where
  -- a whole, before any tokens
  pub whole_takes : {s : Shape C O R} {ts : List T} {os : List O} → Whole g s ts os → (rest : List T) → Takes g s (ts ++ rest) rest os
  whole_takes (Whole.one h) rest = Takes.one h
  whole_takes Whole.emit rest = Takes.emit
  whole_takes Whole.empty rest = Takes.empty
  whole_takes (Whole.seq w v) rest = rw append_assoc (Takes.seq (whole_takes w _) (whole_takes v rest))
  whole_takes (Whole.left w) rest = Takes.left (whole_takes w rest)
  whole_takes (Whole.right w) rest = Takes.right (whole_takes w rest)
  whole_takes Whole.none rest = Takes.none
  whole_takes (Whole.more w v) rest = rw append_assoc (Takes.more (whole_takes w _) (whole_takes v rest))
  whole_takes (Whole.rule w) rest = Takes.rule (whole_takes w rest)

  -- an expected class, before any tokens
  pub expects_faces : {s : Shape C O R} {ts : List T} {c : C} → Expects g s ts c → (rest : List T) → Faces g s (ts ++ rest) rest c
  expects_faces Expects.one rest = Faces.one
  expects_faces (Expects.first e) rest = Faces.first (expects_faces e rest)
  expects_faces (Expects.next w e) rest = rw append_assoc (Faces.next (whole_takes w _) (expects_faces e rest))
  expects_faces (Expects.left e) rest = Faces.left (expects_faces e rest)
  expects_faces (Expects.right e) rest = Faces.right (expects_faces e rest)
  expects_faces (Expects.part e) rest = Faces.part (expects_faces e rest)
  expects_faces (Expects.again w e) rest = rw append_assoc (Faces.again (whole_takes w _) (expects_faces e rest))
  expects_faces (Expects.rule e) rest = Faces.rule (expects_faces e rest)

  -- what is left is no longer than what was there
  pub takes_length : {s : Shape C O R} {ts us : List T} {os : List O} → Takes g s ts us os → length us ≤ length ts
  takes_length (Takes.one h) = omega arith
  takes_length Takes.emit = le_refl _
  takes_length Takes.empty = le_refl _
  takes_length (Takes.seq w v) = le_trans (takes_length v) (takes_length w)
  takes_length (Takes.left w) = takes_length w
  takes_length (Takes.right w) = takes_length w
  takes_length Takes.none = le_refl _
  takes_length (Takes.more w v) = le_trans (takes_length v) (takes_length w)
  takes_length (Takes.rule w) = takes_length w

  pub faces_length : {s : Shape C O R} {ts us : List T} {c : C} → Faces g s ts us c → length us ≤ length ts
  faces_length Faces.one = le_refl _
  faces_length (Faces.first f) = faces_length f
  faces_length (Faces.next w f) = le_trans (faces_length f) (takes_length w)
  faces_length (Faces.left f) = faces_length f
  faces_length (Faces.right f) = faces_length f
  faces_length (Faces.part f) = faces_length f
  faces_length (Faces.again w f) = le_trans (faces_length f) (takes_length w)
  faces_length (Faces.rule f) = faces_length f

  -- the last token of a part is one of the whole
  pub taken_by : {a s : Shape C O R} {ts us vs : List T} → ((ws : List T) (c : C) → Faces g a us ws c → Faces g s ts ws c) → (us ≡ vs) ⊎ Taken g a us vs → (us ≡ vs) ⊎ Taken g s ts vs
  taken_by f (inl e) = inl e
  taken_by f (inr t) = inr (record { token = t.token; place = t.place; faces = f _ _ t.faces; is_accepted = t.is_accepted })

  -- where the second part is empty, the last token is the first part's
  pub taken_seam : {s : Shape C O R} {ts us vs : List T} → (ts ≡ us) ⊎ Taken g s ts us → (us ≡ vs) ⊎ Taken g s ts vs → (ts ≡ vs) ⊎ Taken g s ts vs
  taken_seam p (inr t) = inr t
  taken_seam {s = s} {ts = ts} p (inl e) = subst (λ ws. (ts ≡ ws) ⊎ Taken g s ts ws) e p

  -- a whole is empty or ends in a token
  pub takes_last : {s : Shape C O R} {ts us : List T} {os : List O} → Takes g s ts us os → (ts ≡ us) ⊎ Taken g s ts us
  takes_last (Takes.one h) = inr (record { token = _; place = _; faces = Faces.one; is_accepted = h })
  takes_last Takes.emit = inl refl
  takes_last Takes.empty = inl refl
  takes_last (Takes.seq w v) = taken_seam (taken_by (λ ws c e. Faces.first e) (takes_last w)) (taken_by (λ ws c e. Faces.next w e) (takes_last v))
  takes_last (Takes.left w) = taken_by (λ ws c e. Faces.left e) (takes_last w)
  takes_last (Takes.right w) = taken_by (λ ws c e. Faces.right e) (takes_last w)
  takes_last Takes.none = inl refl
  takes_last (Takes.more w v) = taken_seam (taken_by (λ ws c e. Faces.part e) (takes_last w)) (taken_by (λ ws c e. Faces.again w e) (takes_last v))
  takes_last (Takes.rule w) = taken_by (λ ws c e. Faces.rule e) (takes_last w)

  -- a front is empty or ends in a token
  pub front_last : {s : Shape C O R} {ts : List T} → Front g s ts → (rest : List T) → (ts ++ rest ≡ rest) ⊎ Taken g s (ts ++ rest) rest
  front_last Front.nothing rest = inl refl
  front_last (Front.token h) rest = inr (record { token = _; place = _; faces = Faces.one; is_accepted = h })
  front_last Front.emit rest = inl refl
  front_last Front.empty rest = inl refl
  front_last (Front.first f) rest = taken_by (λ ws c e. Faces.first e) (front_last f rest)
  front_last (Front.next w f) rest = rw append_assoc (taken_seam (taken_by (λ ws c e. Faces.first e) (takes_last (whole_takes w _))) (taken_by (λ ws c e. Faces.next (whole_takes w _) e) (front_last f rest)))
  front_last (Front.left f) rest = taken_by (λ ws c e. Faces.left e) (front_last f rest)
  front_last (Front.right f) rest = taken_by (λ ws c e. Faces.right e) (front_last f rest)
  front_last (Front.part f) rest = taken_by (λ ws c e. Faces.part e) (front_last f rest)
  front_last (Front.again w f) rest = rw append_assoc (taken_seam (taken_by (λ ws c e. Faces.part e) (takes_last (whole_takes w _))) (taken_by (λ ws c e. Faces.again (whole_takes w _) e) (front_last f rest)))
  front_last (Front.rule f) rest = taken_by (λ ws c e. Faces.rule e) (front_last f rest)
