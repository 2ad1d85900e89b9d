-- A text as a program: which lines stand where, and the first fault of a text that is none.
use Rattle.std.specs.Prelude.{◌≡◌, ℕ, ◌<◌, ◌≤◌, ◌||◌, Bool, true, false, ◌&&◌, List, [], ◌∷◌, ◌++◌, length, reverse, Option, Some, None, Result, Ok, Err, if◌then◌else◌}
use Rattle.quil_lex.specs.declared.segment.End.{End}
use Rattle.quil_lex.specs.declared.segment.End.TheVariants as end
use Rattle.quil_lex.specs.Reading.{Lexeme, Span, IsReading}
use Rattle.quil_shape.specs.Shape.{Shape}
use Rattle.quil_shape.specs.Verdict.{Verdict, IsVerdict, IsReading as IsWhole}
use Rattle.quil_shape.specs.Verdict.Verdict.{Read, Refused, TooLarge}
use Rattle.quil_tree.specs.declared.place.Place.{Place}
use Rattle.quil_tree.specs.declared.statement.Line.{Line}
use Rattle.quil_tree.specs.declared.item.Form.{Form}
use Rattle.quil_tree.specs.declared.item.Form.TheVariants as form
use Rattle.quil_tree.specs.declared.item.CircuitDefinition.{CircuitDefinition}
use Rattle.quil_tree.specs.declared.item.Item.{Item}
use Rattle.quil_tree.specs.declared.item.Item.TheVariants as item
use Rattle.quil_grammar.specs.declared.sort.Sort.{Sort}
use Rattle.quil_grammar.specs.declared.sort.Sort.TheVariants as sort
use Rattle.quil_grammar.specs.declared.class.Class.{Class}
use Rattle.quil_grammar.specs.declared.fault.ReadFault.{ReadFault}
use Rattle.quil_grammar.specs.declared.fault.ReadFault.TheVariants as fault
use Rattle.quil_grammar.specs.Sort.{is_sort}
use Rattle.quil_tree.specs.Names.{distinct, texts_of}
use Rattle.quil_grammar.specs.Token.{Token, Context, no_context, span_tokens, span_end}
use Rattle.quil_grammar.specs.Grammar.{quil, Name, Event}
use Rattle.quil_grammar.specs.Parts.{Part, parts_events}
use Rattle.quil_grammar.specs.Statements.{top_level, statement, matrix_row, permutation_row, nowhere, nothing}
use Rattle.quil_grammar.specs.Answer.{fault_of}
use Rattle.quil_grammar.specs.declared.parse.TheConstants.{MOST_BYTES}
use Rattle.quil_statement.specs.Meaning.{item_of, line_of, row_of, numbers_of}

-- Items are listed here with the last one first: a line of a body belongs to the definition that was begun last.

-- no line of the body has been read
abbrev pub has_no_row : Form → Bool
has_no_row (form.Matrix []) = true
has_no_row (form.Matrix (r ∷ rs)) = false
has_no_row (form.Permutation []) = true
has_no_row (form.Permutation (x ∷ xs)) = false

abbrev pub has_no_line : List Line → Bool
has_no_line [] = true
has_no_line (l ∷ ls) = false

-- it is a definition of which no line of the body has been read
abbrev pub is_begun : Item → Bool
is_begun (item.Declare d) = false
is_begun (item.DefGate d) = has_no_row d.form
is_begun (item.DefCircuit d) = has_no_line d.body
is_begun (item.Plain l) = false

-- a line of a body must come next
abbrev pub wants_body : List Item → Bool
wants_body [] = false
wants_body (i ∷ is) = is_begun i

-- what may stand in an indented line behind an item
abbrev pub row_shape : Form → Shape Class Event Name
row_shape (form.Matrix rows) = matrix_row
row_shape (form.Permutation []) = permutation_row
row_shape (form.Permutation (x ∷ xs)) = nothing

abbrev pub body_shape : List Item → Shape Class Event Name
body_shape [] = nowhere
body_shape (item.Declare d ∷ is) = nowhere
body_shape (item.DefGate d ∷ is) = row_shape d.form
body_shape (item.DefCircuit d ∷ is) = statement
body_shape (item.Plain l ∷ is) = nowhere

-- what may stand in a line behind these items
abbrev pub line_shape : Bool → List Item → Shape Class Event Name
line_shape true is = body_shape is
line_shape false is = if wants_body is then nowhere else top_level

-- the names that the definition gives in its body
abbrev pub body_context : List Item → Context
body_context [] = no_context
body_context (item.Declare d ∷ is) = no_context
body_context (item.DefGate d ∷ is) = record { parameters = distinct (texts_of d.parameters); qubits = [] }
body_context (item.DefCircuit d ∷ is) = record { parameters = distinct (texts_of d.parameters); qubits = distinct (texts_of d.qubits) }
body_context (item.Plain l ∷ is) = no_context

abbrev pub line_context : Bool → List Item → Context
line_context true is = body_context is
line_context false is = no_context

-- a definition with one line more
abbrev pub with_row : Form → List Part → Form
with_row (form.Matrix rows) ps = form.Matrix (rows ++ row_of ps ∷ [])
with_row (form.Permutation xs) ps = form.Permutation (xs ++ numbers_of ps)

abbrev pub with_statement : CircuitDefinition → Option Line → Option Item
with_statement d None = None
with_statement d (Some l) = Some (item.DefCircuit (record d { body = d.body ++ l ∷ [] }))

abbrev pub with_line : Item → List Part → Option Item
with_line (item.Declare d) ps = None
with_line (item.DefGate d) ps = Some (item.DefGate (record d { form = with_row d.form ps }))
with_line (item.DefCircuit d) ps = with_statement d (line_of ps)
with_line (item.Plain l) ps = None

abbrev pub added : Option Item → List Item → Option (List Item)
added None is = None
added (Some i) is = Some (i ∷ is)

-- the items with what a line says
abbrev pub with_parts : Bool → List Item → List Part → Option (List Item)
with_parts false is ps = added (item_of ps) is
with_parts true [] ps = None
with_parts true (i ∷ is) ps = added (with_line i ps) is

-- the line says these parts
abbrev pub Says : List Item → Span → List Part → Type 0
Says is s ps = IsWhole quil (line_shape s.indented is) (span_tokens (line_context s.indented is) s) (parts_events ps)

-- a word that the language leaves out, where it was taken for one
abbrev pub is_left_out : Sort → Bool
is_left_out s = is_sort s sort.LeftOut || (is_sort s sort.LeftOutForm || is_sort s sort.Forked)

-- the fault of a token that is too large for its place
abbrev pub too_large : Token → ReadFault
too_large t = if is_left_out t.sort then fault.LeftOut t.place.line t.text else fault.NumberTooWide t.place.line t.place.column

-- the fault of a line that ends there: at the first token that no front goes on with, or at its end
abbrev pub line_fault : Place → Verdict Event Token → Option ReadFault
line_fault p (Read os) = None
line_fault p (Refused ts) = fault_of p (Refused ts)
line_fault p (TooLarge []) = None
line_fault p (TooLarge (t ∷ ts)) = Some (too_large t)

pub record IsLineFault (is : List Item) (s : Span) (f : ReadFault) : Type 0 where
  pub verdict : Verdict Event Token
  pub is_verdict : IsVerdict quil (line_shape s.indented is) (span_tokens (line_context s.indented is) s) verdict
  pub is_fault : line_fault (span_end s) verdict ≡ Some f

-- a stretch without a token is skipped, but not a byte at which no token begins
abbrev pub has_no_lexeme : List Lexeme → Bool
has_no_lexeme [] = true
has_no_lexeme (l ∷ ls) = false

abbrev pub ends_well : End → Bool
ends_well end.Line = true
ends_well (end.Semicolon column) = true
ends_well (end.BadToken column) = false

abbrev pub is_empty : Span → Bool
is_empty s = has_no_lexeme s.lexemes && ends_well s.end

-- the place behind the last byte of the line
abbrev pub line_end : Span → Place
line_end s = record { line = s.line; column = s.line_end }

-- `Goes p is ss r`: behind the items `is`, the last one first, and a line that ended at `p`, reading the spans `ss` gives `r`:
-- the items of the text, the last one first; or the fault of the first line that is refused; or that of a header with no body
-- behind it.
pub data Goes : Place → List Item → List Span → Result (List Item) ReadFault → Type 0 where
  ends : {p : Place} {is : List Item} → wants_body is ≡ false → Goes p is [] (Ok is)
  lacks_body : {p : Place} {is : List Item} → wants_body is ≡ true → Goes p is [] (Err (fault.Unexpected p.line p.column))
  skips : {p : Place} {is : List Item} {s : Span} {ss : List Span} {r : Result (List Item) ReadFault} → is_empty s ≡ true → Goes p is ss r → Goes p is (s ∷ ss) r
  reads : {p : Place} {is js : List Item} {s : Span} {ss : List Span} {r : Result (List Item) ReadFault} (ps : List Part) → is_empty s ≡ false → Says is s ps → with_parts s.indented is ps ≡ Some js
      → Goes (line_end s) js ss r → Goes p is (s ∷ ss) r
  refuses : {p : Place} {is : List Item} {s : Span} {ss : List Span} {f : ReadFault} → is_empty s ≡ false → IsLineFault is s f → Goes p is (s ∷ ss) (Err f)

-- where a text begins
abbrev pub beginning : Place
beginning = record { line = 1; column = 1 }

-- the text is this program
pub record IsTreeOf (text : List ℕ) (tree : List Item) : Type 0 where
  pub is_short : length text ≤ MOST_BYTES
  pub spans : List Span
  pub is_reading : IsReading text spans
  pub goes : Goes beginning [] spans (Ok (reverse tree))

-- the text is refused with this fault
pub record IsRefused (text : List ℕ) (f : ReadFault) : Type 0 where
  pub is_short : length text ≤ MOST_BYTES
  pub spans : List Span
  pub is_reading : IsReading text spans
  pub goes : Goes beginning [] spans (Err f)

abbrev pub IsFaultOf : List ℕ → ReadFault → Type 0
IsFaultOf text (fault.TextTooLong n) = (MOST_BYTES < length text) × (n ≡ length text)
IsFaultOf text fault.OutOfMemory = Unit {0}
IsFaultOf text (fault.NumberTooWide line column) = IsRefused text (fault.NumberTooWide line column)
IsFaultOf text (fault.BadToken line column) = IsRefused text (fault.BadToken line column)
IsFaultOf text (fault.Unexpected line column) = IsRefused text (fault.Unexpected line column)
IsFaultOf text (fault.LeftOut line word) = IsRefused text (fault.LeftOut line word)
