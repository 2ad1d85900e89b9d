-- What the reader of a program holds, and what it tells of each line. Nobody has to believe these: the clauses of `parse` say
-- what is read.
use Rattle.std.specs.Prelude.{◌≡◌, ◌<◌, ◌⊎◌, Bool, true, false, List, [], ◌∷◌, length, reverse, Option, Some, None, Result, Ok, Err}
use Rattle.quil_lex.specs.Reading.{Span}
use Rattle.quil_shape.specs.Shape.{Shape}
use Rattle.quil_shape.specs.Verdict.{Verdict, IsVerdict, IsReading as IsWhole}
use Rattle.quil_shape.specs.Verdict.Verdict.{Refused, TooLarge}
use Rattle.quil_tree.specs.declared.place.Place.{Place}
use Rattle.quil_tree.specs.declared.item.Form.{Form}
use Rattle.quil_tree.specs.declared.item.Item.{Item}
use Rattle.quil_grammar.specs.declared.class.Class.{Class}
use Rattle.quil_grammar.specs.declared.fault.ReadFault.{ReadFault}
use Rattle.quil_grammar.specs.declared.fault.ReadFault.TheVariants as fault
use Rattle.quil_grammar.specs.declared.stop.Stop.{Stop}
use Rattle.quil_grammar.specs.declared.stop.Stop.TheVariants as stop
use Rattle.quil_grammar.specs.Token.{Token, Context, span_tokens}
use Rattle.quil_grammar.specs.Grammar.{quil, Name, Event}
use Rattle.quil_grammar.specs.Parts.{Part, parts_events}
use Rattle.quil_parse.specs.Program.{line_shape, body_shape, row_shape, line_context, with_parts, with_line, with_row, line_fault}
use Rattle.quil_parse.specs.declared.context.Context.{Context as Names}
use Rattle.quil_parse.specs.declared.items.Items.{Items}

-- the names of a definition
abbrev pub names_in : Names → Context
names_in c = record { parameters = c.parameters; qubits = c.qubits }

-- the names at the first token of a line, which is no qubit, and at another
abbrev pub names_at_first : Bool → Context → Context
names_at_first true c = record { parameters = c.parameters; qubits = [] }
names_at_first false c = c

-- the items so far, the last one first
abbrev pub last_first : {A : Type 0} → Option A → List A → List A
last_first None is = []
last_first (Some i) is = i ∷ reverse is

abbrev pub so_far : {A : Type 0} → Items A → List A
so_far x = last_first x.last x.before

-- the tokens of a line are whole, and the items behind it are these
pub record IsAdded (indented : Bool) (is : List Item) (ts : List Token) (js : List Item) : Type 0 where
  pub parts : List Part
  pub is_whole : IsWhole quil (line_shape indented is) ts (parts_events parts)
  pub is_sum : with_parts indented is parts ≡ Some js

-- the same of the body of a gate, and of an item
pub record IsRowAdded (form : Form) (ts : List Token) (new : Form) : Type 0 where
  pub parts : List Part
  pub is_whole : IsWhole quil (row_shape form) ts (parts_events parts)
  pub is_sum : with_row form parts ≡ new

pub record IsBodyAdded (item : Item) (ts : List Token) (new : Item) : Type 0 where
  pub parts : List Part
  pub is_whole : IsWhole quil (body_shape (item ∷ [])) ts (parts_events parts)
  pub is_sum : with_line item parts ≡ Some new

-- the tokens of a line that ends there are refused with this fault
pub record IsStopped (s : Shape Class Event Name) (ts : List Token) (end : Place) (f : ReadFault) : Type 0 where
  pub verdict : Verdict Event Token
  pub is_verdict : IsVerdict quil s ts verdict
  pub is_fault : line_fault end verdict ≡ Some f

-- this, or memory ran out
abbrev pub OrNoMemory : ReadFault → Type 0 → Type 0
OrNoMemory f P = (f ≡ fault.OutOfMemory) ⊎ P

-- the fault where reading a line stopped at the first of these tokens
abbrev pub IsFaultAt : Place → Stop → List Token → ReadFault → Type 0
IsFaultAt end stop.OutOfMemory us f = f ≡ fault.OutOfMemory
IsFaultAt end stop.Unexpected us f = line_fault end (Refused us) ≡ Some f
IsFaultAt end stop.TooLarge us f = 0 < length us → OrNoMemory f (line_fault end (TooLarge us) ≡ Some f)

-- the same where it may have come to an end before them
abbrev pub IsFaultBehind : {A : Type 0} → Place → Result A Stop → List Token → ReadFault → Type 0
IsFaultBehind end (Ok x) us f = (0 < length us) × (line_fault end (Refused us) ≡ Some f)
IsFaultBehind end (Err e) us f = IsFaultAt end e us f

-- the tokens of a span behind these items
abbrev pub tokens_behind : List Item → Span → List Token
tokens_behind is s = span_tokens (line_context s.indented is) s
