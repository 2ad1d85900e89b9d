-- What the reader tells of a text; the clauses of `parse_expr` follow from it.
use Rattle.std.specs.Prelude.{◌≡◌, ℕ, true, List, [], Some, Result, Ok, Err}
use Rattle.quil_lex.specs.Reading.{Span, IsReading}
use Rattle.quil_shape.specs.Shape.Shape.{Rule}
use Rattle.quil_shape.specs.Verdict.{Verdict, IsOnlyVerdict}
use Rattle.quil_shape.specs.Verdict.Verdict.{Read}
use Rattle.quil_tree.specs.declared.expr.Step.{Step}
use Rattle.quil_tree.specs.Expression.{postfix}
use Rattle.quil_grammar.specs.declared.fault.ReadFault.{ReadFault}
use Rattle.quil_grammar.specs.declared.fault.ReadFault.TheVariants as fault
use Rattle.quil_grammar.specs.Token.{Token, tokens_among, end_of}
use Rattle.quil_grammar.specs.Grammar.{quil, Sum, Event}
use Rattle.quil_grammar.specs.Written.{Written, events, meaning}
use Rattle.quil_grammar.specs.Answer.{fault_of}

-- the steps are those of the only reading
pub record IsFound (text : List ℕ) (spans : List Span) (steps : List Step) : Type 0 where
  pub written : Written
  pub only : IsOnlyVerdict quil (Rule (Sum true)) (tokens_among [] spans) (Read (events written))
  pub is_meaning : steps ≡ postfix (meaning written)

-- the fault is that of the only verdict
pub record IsTold (text : List ℕ) (spans : List Span) (f : ReadFault) : Type 0 where
  pub verdict : Verdict Event Token
  pub only : IsOnlyVerdict quil (Rule (Sum true)) (tokens_among [] spans) verdict
  pub is_fault : fault_of (end_of spans) verdict ≡ Some f

abbrev pub Answers : List ℕ → List Span → Result (List Step) ReadFault → Type 0
Answers text spans (Ok steps) = IsFound text spans steps
Answers text spans (Err f) = IsTold text spans f

-- the spans are the only reading of the text, and the answer is theirs
pub record Told (text : List ℕ) (result : Result (List Step) ReadFault) : Type 0 where
  pub spans : List Span
  pub is_reading : IsReading text spans
  pub only_reading : (other : List Span) → IsReading text other → spans ≡ other
  pub answers : Answers text spans result

abbrev pub Tells : List ℕ → Result (List Step) ReadFault → Type 0
Tells text (Ok steps) = Told text (Ok steps)
Tells text (Err fault.OutOfMemory) = Unit {0}
Tells text (Err (fault.NumberTooWide line column)) = Told text (Err (fault.NumberTooWide line column))
Tells text (Err (fault.BadToken line column)) = Told text (Err (fault.BadToken line column))
Tells text (Err (fault.Unexpected line column)) = Told text (Err (fault.Unexpected line column))
Tells text (Err (fault.LeftOut line word)) = ⊥
Tells text (Err (fault.TextTooLong n)) = ⊥
