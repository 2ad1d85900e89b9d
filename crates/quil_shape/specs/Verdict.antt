-- The three verdicts on tokens: they are a reading, or are refused at a place, or too large at a place.
use Rattle.std.specs.Prelude.{◌≡◌, ◌≤◌, true, List, ◌∷◌, ◌++◌, length}
use Rattle.quil_shape.specs.Shape.{Shape, Grammar}
use Rattle.quil_shape.specs.Whole.{Whole}
use Rattle.quil_shape.specs.Front.{Front}
use Rattle.quil_shape.specs.Expects.{Expects}

-- The first token of `rest` stands where a class that accepts it is expected, and is too large there.
pub record HasLargeAt {C O R K T : Type 0} (g : Grammar C O R K T) (s : Shape C O R) (ts rest : List T) : Type 0 where
  pub before : List T
  pub token : T
  pub behind : List T
  pub place : C
  pub splits : ts ≡ before ++ rest
  pub is_first : rest ≡ token ∷ behind
  pub is_expected : Expects g s before place
  pub is_accepted : g.accepts place (g.kind token) ≡ true
  pub is_large : g.is_large place token behind ≡ true

-- The tokens are a whole in which no token is too large.
pub record IsReading {C O R K T : Type 0} (g : Grammar C O R K T) (s : Shape C O R) (ts : List T) (os : List O) : Type 0 where
  pub whole : Whole g s ts os
  pub none_large : (rest : List T) → ¬ HasLargeAt g s ts rest

-- Some tokens before `rest` are a front, no longer stretch is one, the whole isn't a reading, and no token is too large.
pub record IsRefusedAt {C O R K T : Type 0} (g : Grammar C O R K T) (s : Shape C O R) (ts rest : List T) : Type 0 where
  pub before : List T
  pub splits : ts ≡ before ++ rest
  pub is_front : Front g s before
  pub is_longest : (longer after : List T) → ts ≡ longer ++ after → Front g s longer → length longer ≤ length before
  pub not_whole : (os : List O) → ¬ Whole g s ts os
  pub none_large : (later : List T) → ¬ HasLargeAt g s ts later

-- The first token that is too large for its place stands at the head of `rest`.
pub record IsTooLargeAt {C O R K T : Type 0} (g : Grammar C O R K T) (s : Shape C O R) (ts rest : List T) : Type 0 where
  pub is_large : HasLargeAt g s ts rest
  pub is_earliest : (other : List T) → HasLargeAt g s ts other → length other ≤ length rest

-- what may be said of tokens: the things made, or the tokens from the one that is refused or too large
pub data Verdict (O T : Type 0) : Type 0 where
  Read : List O → Verdict O T
  Refused : List T → Verdict O T
  TooLarge : List T → Verdict O T

-- the verdict is true
abbrev pub IsVerdict : {C O R K T : Type 0} → Grammar C O R K T → Shape C O R → List T → Verdict O T → Type 0
IsVerdict g s ts (Read os) = IsReading g s ts os
IsVerdict g s ts (Refused rest) = IsRefusedAt g s ts rest
IsVerdict g s ts (TooLarge rest) = IsTooLargeAt g s ts rest

-- the one true verdict
pub record IsOnlyVerdict {C O R K T : Type 0} (g : Grammar C O R K T) (s : Shape C O R) (ts : List T) (v : Verdict O T) : Type 0 where
  pub is_true : IsVerdict g s ts v
  pub is_only : (w : Verdict O T) → IsVerdict g s ts w → w ≡ v
