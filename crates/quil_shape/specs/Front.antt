-- Fronts: which tokens a shape may begin with.
use Rattle.std.specs.Prelude.{◌≡◌, true, List, [], ◌∷◌, ◌++◌}
use Rattle.quil_shape.specs.Shape.{Shape, Grammar}
use Rattle.quil_shape.specs.Shape.Shape.{One, Emit, Empty, Seq, Or, Many, Rule}
use Rattle.quil_shape.specs.Whole.{Whole}

-- A front of one token is nothing or the token; of a choice a front of a member; of a sequence some whole
-- parts and a front of the next; of a repetition some whole parts and a front of one more.
pub data Front {C O R K T : Type 0} (g : Grammar C O R K T) : Shape C O R → List T → Type 0 where
  nothing : {c : C} → Front g (One c) []
  token : {c : C} {t : T} → g.accepts c (g.kind t) ≡ true → Front g (One c) (t ∷ [])
  emit : {o : O} → Front g (Emit o) []
  empty : Front g Empty []
  first : {a b : Shape C O R} {ts : List T} → Front g a ts → Front g (Seq a b) ts
  next : {a b : Shape C O R} {ts us : List T} {os : List O} → Whole g a ts os → Front g b us → Front g (Seq a b) (ts ++ us)
  left : {a b : Shape C O R} {ts : List T} → Front g a ts → Front g (Or a b) ts
  right : {a b : Shape C O R} {ts : List T} → Front g b ts → Front g (Or a b) ts
  part : {a : Shape C O R} {ts : List T} → Front g a ts → Front g (Many a) ts
  again : {a : Shape C O R} {ts us : List T} {os : List O} → Whole g a ts os → Front g (Many a) us → Front g (Many a) (ts ++ us)
  rule : {r : R} {ts : List T} → Front g (g.body r) ts → Front g (Rule r) ts
