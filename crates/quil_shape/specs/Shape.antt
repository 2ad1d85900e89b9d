-- Shapes and grammars: a translation scheme given as data.
use Rattle.std.specs.Prelude.{Bool, List}

-- a shape over classes of tokens, what a reading makes, and names of rules
pub data Shape (C O R : Type 0) : Type 0 where
  One : C → Shape C O R
  Emit : O → Shape C O R
  Empty : Shape C O R
  Seq : Shape C O R → Shape C O R → Shape C O R
  Or : Shape C O R → Shape C O R → Shape C O R
  Many : Shape C O R → Shape C O R
  Rule : R → Shape C O R

-- which kind a token is of, which kinds a class accepts, what an accepted token yields,
-- whether it is too large for its place before the tokens behind it, and each rule's body
pub record Grammar (C O R K T : Type 0) : Type 0 where
  pub kind : T → K
  pub accepts : C → K → Bool
  pub value : C → T → List O
  pub is_large : C → T → List T → Bool
  pub body : R → Shape C O R
