-- The expression of a text, and the fault of a text that is none.
use Rattle.std.specs.Prelude.{◌≡◌, ℕ, ◌<◌, ◌≤◌, ◌⊎◌, Bool, true, List, [], ◌∷◌, length, Option, Some, None, Result, Err, if◌then◌else◌}
use Rattle.quil_lex.specs.Reading.{Span, IsReading}
use Rattle.quil_shape.specs.Shape.Shape.{Rule}
use Rattle.quil_shape.specs.Verdict.{Verdict, IsVerdict, IsReading as IsWhole}
use Rattle.quil_shape.specs.Verdict.Verdict.{Read, Refused, TooLarge}
use Rattle.quil_tree.specs.declared.place.Place.{Place}
use Rattle.quil_tree.specs.declared.expr.Step.{Step}
use Rattle.quil_tree.specs.Expression.{postfix}
use Rattle.quil_grammar.specs.declared.sort.Sort.TheVariants as sort
use Rattle.quil_grammar.specs.declared.fault.ReadFault.{ReadFault}
use Rattle.quil_grammar.specs.declared.fault.ReadFault.TheVariants as fault
use Rattle.quil_grammar.specs.declared.parse.TheConstants.{MOST_BYTES}
use Rattle.quil_grammar.specs.Sort.{is_sort}
use Rattle.quil_grammar.specs.Token.{Token, tokens_among, end_of}
use Rattle.quil_grammar.specs.Grammar.{quil, Sum, Event}
use Rattle.quil_grammar.specs.Written.{Written, events, meaning}

-- these are the steps of the expression that the text is
pub record IsExpressionOf (text : List ℕ) (steps : List Step) : Type 0 where
  pub is_short : length text ≤ MOST_BYTES
  pub spans : List Span
  pub is_reading : IsReading text spans
  pub written : Written
  pub is_whole : IsWhole quil (Rule (Sum true)) (tokens_among [] spans) (events written)
  pub is_meaning : steps ≡ postfix (meaning written)

abbrev pub bad_or_unexpected : Bool → Place → ReadFault
bad_or_unexpected bad p = if bad then fault.BadToken p.line p.column else fault.Unexpected p.line p.column

-- The fault of a refusal at the first of these tokens, or behind the last line, and of a token too large.
abbrev pub fault_of : Place → Verdict Event Token → Option ReadFault
fault_of end (Read os) = None
fault_of end (Refused []) = Some (fault.Unexpected end.line end.column)
fault_of end (Refused (t ∷ ts)) = Some (bad_or_unexpected (is_sort t.sort sort.Bad) t.place)
fault_of end (TooLarge []) = None
fault_of end (TooLarge (t ∷ ts)) = Some (fault.NumberTooWide t.place.line t.place.column)

-- the text is refused with this fault
pub record IsRefusal (text : List ℕ) (f : ReadFault) : Type 0 where
  pub spans : List Span
  pub is_reading : IsReading text spans
  pub verdict : Verdict Event Token
  pub is_verdict : IsVerdict quil (Rule (Sum true)) (tokens_among [] spans) verdict
  pub is_fault : fault_of (end_of spans) verdict ≡ Some f

abbrev pub IsFault : List ℕ → ReadFault → Type 0
IsFault text (fault.TextTooLong n) = (MOST_BYTES < length text) × (n ≡ length text)
IsFault text fault.OutOfMemory = Unit {0}
IsFault text (fault.LeftOut line word) = ⊥
IsFault text (fault.NumberTooWide line column) = (length text ≤ MOST_BYTES) × IsRefusal text (fault.NumberTooWide line column)
IsFault text (fault.BadToken line column) = (length text ≤ MOST_BYTES) × IsRefusal text (fault.BadToken line column)
IsFault text (fault.Unexpected line column) = (length text ≤ MOST_BYTES) × IsRefusal text (fault.Unexpected line column)

-- the answer is this, or memory ran out
abbrev pub Gives : {A : Type 0} → Result A ReadFault → Result A ReadFault → Type 0
Gives answer want = (answer ≡ want) ⊎ (answer ≡ Err fault.OutOfMemory)
