-- The way of reading from left to right, with a look at one token.
use Rattle.std.specs.Prelude.{◌≡◌, Bool, true, false, not, ◌&&◌, ◌||◌, List, [], ◌∷◌}
use Rattle.quil_shape.specs.Shape.{Shape, Grammar}
use Rattle.quil_shape.specs.Shape.Shape.{One, Emit, Empty, Seq, Or, Many, Rule}
use Rattle.quil_shape.specs.Condition.{Tables, opens, skips}
use Rattle.quil_shape.specs.Outcome.{Outcome, after}
use Rattle.quil_shape.specs.Outcome.Outcome.{Made, Stuck, Large}

-- there is a first token, and its kind passes the test
abbrev pub first_passes : {C O R K T : Type 0} → Grammar C O R K T → (K → Bool) → List T → Bool
first_passes g test [] = false
first_passes g test (t ∷ ts) = test (g.kind t)

-- the first of the tokens opens the shape
abbrev pub starts : {C O R K T : Type 0} → Grammar C O R K T → Tables R K → Shape C O R → List T → Bool
starts g tables s ts = first_passes g (opens g tables s) ts

-- the shape isn't empty, and the first of the tokens doesn't open it
abbrev pub is_barred : {C O R K T : Type 0} → Grammar C O R K T → Tables R K → Shape C O R → List T → Bool
is_barred g tables s ts = not (starts g tables s ts) && not (skips tables s)

-- Reading the shape from these tokens comes to this outcome: a choice takes a member that the next token
-- opens, or that is left where the other is barred; a repetition goes on while the next token opens a part.
pub data Reads {C O R K T : Type 0} (g : Grammar C O R K T) (tables : Tables R K) : Shape C O R → List T → Outcome O T → Type 0 where
  one : {c : C} {t : T} {ts : List T} → g.accepts c (g.kind t) ≡ true → g.is_large c t ts ≡ false → Reads g tables (One c) (t ∷ ts) (Made (g.value c t) ts)
  one_large : {c : C} {t : T} {ts : List T} → g.accepts c (g.kind t) ≡ true → g.is_large c t ts ≡ true → Reads g tables (One c) (t ∷ ts) (Large (t ∷ ts))
  emit : {o : O} {ts : List T} → Reads g tables (Emit o) ts (Made (o ∷ []) ts)
  empty : {ts : List T} → Reads g tables Empty ts (Made [] ts)
  seq : {a b : Shape C O R} {ts us : List T} {os : List O} {out : Outcome O T} → Reads g tables a ts (Made os us) → Reads g tables b us out → Reads g tables (Seq a b) ts (after os out)
  seq_stuck : {a b : Shape C O R} {ts us : List T} → Reads g tables a ts (Stuck us) → Reads g tables (Seq a b) ts (Stuck us)
  seq_large : {a b : Shape C O R} {ts us : List T} → Reads g tables a ts (Large us) → Reads g tables (Seq a b) ts (Large us)
  left : {a b : Shape C O R} {ts : List T} {out : Outcome O T} → (starts g tables a ts || is_barred g tables b ts) ≡ true → Reads g tables a ts out → Reads g tables (Or a b) ts out
  right : {a b : Shape C O R} {ts : List T} {out : Outcome O T} → (starts g tables b ts || is_barred g tables a ts) ≡ true → Reads g tables b ts out → Reads g tables (Or a b) ts out
  none : {a : Shape C O R} {ts : List T} → starts g tables a ts ≡ false → Reads g tables (Many a) ts (Made [] ts)
  more : {a : Shape C O R} {ts us : List T} {os : List O} {out : Outcome O T} → starts g tables a ts ≡ true → Reads g tables a ts (Made os us) → Reads g tables (Many a) us out → Reads g tables (Many a) ts (after os out)
  more_stuck : {a : Shape C O R} {ts us : List T} → starts g tables a ts ≡ true → Reads g tables a ts (Stuck us) → Reads g tables (Many a) ts (Stuck us)
  more_large : {a : Shape C O R} {ts us : List T} → starts g tables a ts ≡ true → Reads g tables a ts (Large us) → Reads g tables (Many a) ts (Large us)
  rule : {r : R} {ts : List T} {out : Outcome O T} → Reads g tables (g.body r) ts out → Reads g tables (Rule r) ts out
  barred : {s : Shape C O R} {ts : List T} → is_barred g tables s ts ≡ true → Reads g tables s ts (Stuck ts)

-- reading the shape advances from the first tokens to the second and makes these things
abbrev pub Advances : {C O R K T : Type 0} → Grammar C O R K T → Tables R K → Shape C O R → List T → List T → List O → Type 0
Advances g tables s ts us os = Reads g tables s ts (Made os us)

-- reading the shape halts before the second tokens, where no front goes on
abbrev pub Halts : {C O R K T : Type 0} → Grammar C O R K T → Tables R K → Shape C O R → List T → List T → Type 0
Halts g tables s ts us = Reads g tables s ts (Stuck us)

-- reading the shape meets a token that is too large at the head of the second tokens
abbrev pub Exceeds : {C O R K T : Type 0} → Grammar C O R K T → Tables R K → Shape C O R → List T → List T → Type 0
Exceeds g tables s ts us = Reads g tables s ts (Large us)

-- reading one shape after another
pub data ReadsAll {C O R K T : Type 0} (g : Grammar C O R K T) (tables : Tables R K) : List (Shape C O R) → List T → Outcome O T → Type 0 where
  done : {ts : List T} → ReadsAll g tables [] ts (Made [] ts)
  next : {s : Shape C O R} {todo : List (Shape C O R)} {ts us : List T} {os : List O} {out : Outcome O T} → Reads g tables s ts (Made os us) → ReadsAll g tables todo us out → ReadsAll g tables (s ∷ todo) ts (after os out)
  stuck : {s : Shape C O R} {todo : List (Shape C O R)} {ts us : List T} → Reads g tables s ts (Stuck us) → ReadsAll g tables (s ∷ todo) ts (Stuck us)
  large : {s : Shape C O R} {todo : List (Shape C O R)} {ts us : List T} → Reads g tables s ts (Large us) → ReadsAll g tables (s ∷ todo) ts (Large us)

-- Reading the shape from `ts` has come to `us`, has made `os`, and has the shapes of `todo` still to read:
-- whatever reading these comes to, reading the shape comes to.
pub record Resumes {C O R K T : Type 0} (g : Grammar C O R K T) (tables : Tables R K) (s : Shape C O R) (ts : List T) (todo : List (Shape C O R)) (us : List T) (os : List O) : Type 0 where
  pub goes_on : (out : Outcome O T) → ReadsAll g tables todo us out → Reads g tables s ts (after os out)

-- from each reading with one list of shapes to read and these things made, to one with another list
pub record GoesOn {C O R K T : Type 0} (g : Grammar C O R K T) (tables : Tables R K) (todo : List (Shape C O R)) (us : List T) (os : List O) (remaining : List (Shape C O R)) (vs : List T) (ps : List O) : Type 0 where
  pub resumes : (s : Shape C O R) (ts : List T) → Resumes g tables s ts todo us os → Resumes g tables s ts remaining vs ps

-- each reading with this list of shapes to read and these things made halts before these tokens
pub record StopsAt {C O R K T : Type 0} (g : Grammar C O R K T) (tables : Tables R K) (todo : List (Shape C O R)) (us : List T) (os : List O) (vs : List T) : Type 0 where
  pub halts : (s : Shape C O R) (ts : List T) → Resumes g tables s ts todo us os → Halts g tables s ts vs

-- each reading with this list of shapes to read and these things made meets a token that is too large at the head of these
pub record ExceedsAt {C O R K T : Type 0} (g : Grammar C O R K T) (tables : Tables R K) (todo : List (Shape C O R)) (us : List T) (os : List O) (vs : List T) : Type 0 where
  pub exceeds : (s : Shape C O R) (ts : List T) → Resumes g tables s ts todo us os → Exceeds g tables s ts vs

-- how a reader's function ended: it went on, it halted, it met a token too large, or (for want of memory) it can't say
pub data Ending : Type 0 where
  Went Halted Exceeded Unknown : Ending

-- With `todo` to read from `us` and `os` made, the reader came to `remaining`, `vs` and `ps`, or stopped at `vs`.
abbrev pub ReadsOn : {C O R K T : Type 0} → Grammar C O R K T → Tables R K → List (Shape C O R) → List T → List O → List (Shape C O R) → List T → List O → Ending → Type 0
ReadsOn g tables todo us os remaining vs ps Went = GoesOn g tables todo us os remaining vs ps
ReadsOn g tables todo us os remaining vs ps Halted = StopsAt g tables todo us os vs
ReadsOn g tables todo us os remaining vs ps Exceeded = ExceedsAt g tables todo us os vs
ReadsOn g tables todo us os remaining vs ps Unknown = Unit {0}
