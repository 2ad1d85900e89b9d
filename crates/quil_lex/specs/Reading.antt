-- How a text is read: as segments, each of the tokens up to an end of a statement.
use Rattle.std.specs.Prelude.{◌≡◌, ℕ, ◌+◌, ◌<◌, Bool, true, false, ◌||◌, ◌==◌, List, [], ◌∷◌, ◌++◌, length, map, Option, Some, None, Result, Ok, Err}
use Rattle.std.specs.List.{flat_map}
use Rattle.quil_lex.specs.declared.token.Kind.{Kind}
use Rattle.quil_lex.specs.declared.token.Token.{Token}
use Rattle.quil_lex.specs.declared.segment.End.{End}
use Rattle.quil_lex.specs.declared.segment.End.TheVariants as end
use Rattle.quil_lex.specs.declared.segment.Segment.{Segment}
use Rattle.quil_lex.specs.declared.segment.Tokens.{Tokens}
use Rattle.quil_lex.specs.declared.fault.LexFault.{LexFault}
use Rattle.quil_lex.specs.declared.fault.LexFault.TheVariants as fault
use Rattle.quil_lex.specs.Token.{IsFirstToken, NoToken}
use Rattle.quil_lex.specs.Line.{first_line, other_lines, is_blank, begins_blank}

-- a token, with the bytes of its slice
pub record Lexeme : Type 0 where
  pub kind : Kind
  pub text : List ℕ
  pub line : ℕ
  pub column : ℕ

abbrev pub lexeme_of : Token → Lexeme
lexeme_of t = record { kind = t.kind; text = t.text.now; line = t.line; column = t.column }

-- a segment, with its lexemes
pub record Span : Type 0 where
  pub line : ℕ
  pub indented : Bool
  pub lexemes : List Lexeme
  pub end : End
  pub line_end : ℕ

abbrev pub span_of : Segment → Span
span_of s = record { line = s.line; indented = s.indented; lexemes = map lexeme_of s.tokens.items; end = s.end; line_end = s.line_end }

abbrev pub spans_of : Tokens → List Span
spans_of t = map span_of t.segments.items

-- a blank, `#` (35), which begins a comment, or `;` (59)
abbrev pub is_separator : ℕ → Bool
is_separator b = is_blank b || ((b == 35) || (b == 59))

-- The bytes of a line from a column on, read up to an end of a statement: its lexemes, its end, and the bytes behind that.
pub data Reads (line : ℕ) : ℕ → List ℕ → List Lexeme → End → List ℕ → Type 0 where
  at_end : {column : ℕ} → Reads line column [] [] end.Line []
  at_comment : {column b : ℕ} {bs : List ℕ} → (b == 35) ≡ true → Reads line column (b ∷ bs) [] end.Line bs
  at_semicolon : {column b : ℕ} {bs : List ℕ} → (b == 59) ≡ true → Reads line column (b ∷ bs) [] (end.Semicolon column) bs
  past_blank : {column b : ℕ} {bs rest : List ℕ} {ls : List Lexeme} {e : End} → is_blank b ≡ true → Reads line (column + 1) bs ls e rest → Reads line column (b ∷ bs) ls e rest
  past_token : {column : ℕ} {kind : Kind} {text behind bytes rest : List ℕ} {ls : List Lexeme} {e : End} → IsFirstToken kind text behind bytes → Reads line (column + length text) behind ls e rest
      → Reads line column bytes (record { kind = kind; text = text; line = line; column = column } ∷ ls) e rest
  at_bad_byte : {column b : ℕ} {bs : List ℕ} → is_separator b ≡ false → NoToken (b ∷ bs) → Reads line column (b ∷ bs) [] (end.BadToken column) bs

-- a place in a text: the number of its line and that line's bytes, the column, the bytes of the line from there on, and the lines behind it
pub record Place : Type 0 where
  pub line : ℕ
  pub bytes : List ℕ
  pub column : ℕ
  pub rest : List ℕ
  pub after : List ℕ

-- the first byte of the line with this number, which these bytes begin with
abbrev pub line_at : ℕ → List ℕ → Place
line_at line text = record { line = line; bytes = first_line text; column = 1; rest = first_line text; after = other_lines text }

-- the span that begins at a place; its line ends in the column behind the line's last byte
abbrev pub span_at : Place → List Lexeme → End → Span
span_at p ls e = record { line = p.line; indented = begins_blank p.bytes; lexemes = ls; end = e; line_end = length p.bytes + 1 }

-- The text from a place on, read as spans: one to each `;`, one to each line's end, and the last to the text's end or to a bad byte.
pub data Lexes : Place → List Span → Type 0 where
  statement_ends : {p : Place} {ls : List Lexeme} {column : ℕ} {rest : List ℕ} {spans : List Span} → Reads p.line p.column p.rest ls (end.Semicolon column) rest
      → Lexes (record p { column = column + 1; rest = rest }) spans → Lexes p (span_at p ls (end.Semicolon column) ∷ spans)
  line_ends : {p : Place} {ls : List Lexeme} {rest : List ℕ} {spans : List Span} → Reads p.line p.column p.rest ls end.Line rest → 0 < length p.after
      → Lexes (line_at (p.line + 1) p.after) spans → Lexes p (span_at p ls end.Line ∷ spans)
  text_ends : {p : Place} {ls : List Lexeme} {rest : List ℕ} → Reads p.line p.column p.rest ls end.Line rest → p.after ≡ [] → Lexes p (span_at p ls end.Line ∷ [])
  stops : {p : Place} {ls : List Lexeme} {column : ℕ} {rest : List ℕ} → Reads p.line p.column p.rest ls (end.BadToken column) rest → Lexes p (span_at p ls (end.BadToken column) ∷ [])

-- the text is read as these spans
abbrev pub IsReading : List ℕ → List Span → Type 0
IsReading text spans = Lexes (line_at 1 text) spans

-- the lexemes of all spans, in order
abbrev pub lexemes_of : List Span → List Lexeme
lexemes_of spans = flat_map (λ s. s.lexemes) spans

-- the lexemes are slices of the bytes, none of them empty, each behind the one before it
abbrev pub AreSlices : List ℕ → List Lexeme → Type 0
AreSlices bytes [] = Unit {0}
AreSlices bytes (l ∷ ls) = (before : List ℕ) × (behind : List ℕ) × (bytes ≡ before ++ (l.text ++ behind)) × (0 < length l.text) × AreSlices behind ls

-- the line and the column of the bad byte that ends a span
abbrev pub bad_byte : ℕ → End → Option (ℕ × ℕ)
bad_byte line end.Line = None
bad_byte line (end.Semicolon column) = None
bad_byte line (end.BadToken column) = Some (line, column)

-- the first bad byte, at which the last span ends
abbrev pub first_bad : List Span → Option (ℕ × ℕ)
first_bad [] = None
first_bad (s ∷ []) = bad_byte s.line s.end
first_bad (s ∷ t ∷ spans) = first_bad (t ∷ spans)

-- the first byte at which no token begins stands here
pub record IsBadAt (text : List ℕ) (line column : ℕ) : Type 0 where
  pub spans : List Span
  pub reading : IsReading text spans
  pub place : first_bad spans ≡ Some (line, column)

-- why a text is refused
abbrev pub IsRefusal : List ℕ → LexFault → Type 0
IsRefusal text (fault.BadToken line column) = IsBadAt text line column
IsRefusal text fault.OutOfMemory = Unit {0}

-- what `tokens` answers where the text is read as these spans, unless memory runs out
abbrev pub Answers : Result Tokens LexFault → List Span → Type 0
Answers (Ok t) spans = (spans_of t ≡ spans) × (first_bad spans ≡ None)
Answers (Err (fault.BadToken line column)) spans = first_bad spans ≡ Some (line, column)
Answers (Err fault.OutOfMemory) spans = Unit {0}
