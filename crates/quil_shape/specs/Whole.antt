-- Wholes: which tokens a shape relates to which things made.
use Rattle.std.specs.Prelude.{◌≡◌, true, List, [], ◌∷◌, ◌++◌}
use Rattle.quil_shape.specs.Shape.{Shape, Grammar}
use Rattle.quil_shape.specs.Shape.Shape.{One, Emit, Empty, Seq, Or, Many, Rule}

-- the tokens are the shape, whole, and reading them makes these things; how large a token is doesn't count
pub data Whole {C O R K T : Type 0} (g : Grammar C O R K T) : Shape C O R → List T → List O → Type 0 where
  one : {c : C} {t : T} → g.accepts c (g.kind t) ≡ true → Whole g (One c) (t ∷ []) (g.value c t)
  emit : {o : O} → Whole g (Emit o) [] (o ∷ [])
  empty : Whole g Empty [] []
  seq : {a b : Shape C O R} {ts us : List T} {os ps : List O} → Whole g a ts os → Whole g b us ps → Whole g (Seq a b) (ts ++ us) (os ++ ps)
  left : {a b : Shape C O R} {ts : List T} {os : List O} → Whole g a ts os → Whole g (Or a b) ts os
  right : {a b : Shape C O R} {ts : List T} {os : List O} → Whole g b ts os → Whole g (Or a b) ts os
  none : {a : Shape C O R} → Whole g (Many a) [] []
  more : {a : Shape C O R} {ts us : List T} {os ps : List O} → Whole g a ts os → Whole g (Many a) us ps → Whole g (Many a) (ts ++ us) (os ++ ps)
  rule : {r : R} {ts : List T} {os : List O} → Whole g (g.body r) ts os → Whole g (Rule r) ts os
