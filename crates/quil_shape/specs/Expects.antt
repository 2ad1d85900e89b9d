-- Expects: which class may take the token behind a front.
use Rattle.std.specs.Prelude.{List, [], ◌++◌}
use Rattle.quil_shape.specs.Shape.{Shape, Grammar}
use Rattle.quil_shape.specs.Shape.Shape.{One, Seq, Or, Many, Rule}
use Rattle.quil_shape.specs.Whole.{Whole}

-- behind these tokens, some whole parts, the shape has a place for a token of the class
pub data Expects {C O R K T : Type 0} (g : Grammar C O R K T) : Shape C O R → List T → C → Type 0 where
  one : {c : C} → Expects g (One c) [] c
  first : {a b : Shape C O R} {ts : List T} {c : C} → Expects g a ts c → Expects g (Seq a b) ts c
  next : {a b : Shape C O R} {ts us : List T} {os : List O} {c : C} → Whole g a ts os → Expects g b us c → Expects g (Seq a b) (ts ++ us) c
  left : {a b : Shape C O R} {ts : List T} {c : C} → Expects g a ts c → Expects g (Or a b) ts c
  right : {a b : Shape C O R} {ts : List T} {c : C} → Expects g b ts c → Expects g (Or a b) ts c
  part : {a : Shape C O R} {ts : List T} {c : C} → Expects g a ts c → Expects g (Many a) ts c
  again : {a : Shape C O R} {ts us : List T} {os : List O} {c : C} → Whole g a ts os → Expects g (Many a) us c → Expects g (Many a) (ts ++ us) c
  rule : {r : R} {ts : List T} {c : C} → Expects g (g.body r) ts c → Expects g (Rule r) ts c
