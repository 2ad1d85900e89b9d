-- Texts that are written as lines of tokens, and what such a text is read as.
use Rattle.std.specs.Prelude.{◌≡◌, ℕ, ◌+◌, Bool, true, false, ◌==◌, ◌⊎◌, List, [], ◌∷◌, ◌++◌, length, if◌then◌else◌}
use Rattle.std.specs.List.{flat_map, list_any, AllByRecursion}
use Rattle.quil_lex.specs.declared.token.Kind.{Kind}
use Rattle.quil_lex.specs.declared.segment.End.TheVariants as end
use Rattle.quil_lex.specs.Token.{IsToken, begins_more, is_closed}
use Rattle.quil_lex.specs.Reading.{Lexeme, Span}

-- LF (10) is among the bytes
abbrev pub has_feed : List ℕ → Bool
has_feed bytes = list_any (λ b. b == 10) bytes

-- a token as it may stand in a line: only a string could have an LF in it
pub record IsLineToken (kind : Kind) (text : List ℕ) : Type 0 where
  pub token : IsToken kind text
  pub one_line : has_feed text ≡ false

-- each lexeme is a token of its kind
abbrev pub AreTokens : List Lexeme → Type 0
AreTokens lexemes = AllByRecursion (λ l. IsLineToken l.kind l.text) lexemes

-- a token to be written, and whether a blank (32) is written before it
pub record Word : Type 0 where
  pub kind : Kind
  pub text : List ℕ
  pub blank : Bool

abbrev pub word_bytes : Word → List ℕ
word_bytes w = if w.blank then 32 ∷ w.text else w.text

abbrev pub words_bytes : List Word → List ℕ
words_bytes words = flat_map word_bytes words

-- a line to be written, and whether it stands behind four blanks
pub record WrittenLine : Type 0 where
  pub indented : Bool
  pub words : List Word

-- the bytes of a line before its end
abbrev pub line_content : WrittenLine → List ℕ
line_content l = (if l.indented then 32 ∷ 32 ∷ 32 ∷ 32 ∷ [] else []) ++ words_bytes l.words

-- a line and its end, an LF
abbrev pub line_bytes : WrittenLine → List ℕ
line_bytes l = line_content l ++ 10 ∷ []

abbrev pub lines_bytes : List WrittenLine → List ℕ
lines_bytes lines = flat_map line_bytes lines

-- a word is told from what comes next in its line: a blank stands between them, or nothing goes on the word,
-- or the next word begins with no byte that goes on a name or a number
abbrev pub IsApartFrom : Word → List Word → Type 0
IsApartFrom w [] = Unit {0}
IsApartFrom w (v ∷ words) = (v.blank ≡ true) ⊎ ((is_closed w.kind ≡ true) ⊎ (begins_more v.text ≡ false))

-- each word is a token, told from the next
abbrev pub AreApart : List Word → Type 0
AreApart [] = Unit {0}
AreApart (w ∷ words) = IsLineToken w.kind w.text × IsApartFrom w words × AreApart words

-- a blank is written before the first word
abbrev pub first_blank : List Word → Bool
first_blank [] = false
first_blank (w ∷ words) = w.blank

-- a line of tokens that are told from one another; it begins with a blank only if it is indented
pub record IsWritten (line : WrittenLine) : Type 0 where
  pub apart : AreApart line.words
  pub margin : line.indented ≡ false → first_blank line.words ≡ false

-- the column of a word's token, where the word is written from this column on
abbrev pub token_column : ℕ → Word → ℕ
token_column column w = if w.blank then column + 1 else column

-- words as lexemes, where they are written in this line from this column on
abbrev pub lexemes_at : ℕ → ℕ → List Word → List Lexeme
lexemes_at line column [] = []
lexemes_at line column (w ∷ words) =
    record { kind = w.kind; text = w.text; line = line; column = token_column column w } ∷ lexemes_at line (token_column column w + length w.text) words

-- a line with this number as a span
abbrev pub line_span : ℕ → WrittenLine → Span
line_span line l = record { line = line; indented = l.indented; lexemes = lexemes_at line (if l.indented then 5 else 1) l.words; end = end.Line; line_end = length (line_content l) + 1 }

-- lines as spans, of which the first has this number
abbrev pub spans_from : ℕ → List WrittenLine → List Span
spans_from line [] = []
spans_from line (l ∷ lines) = line_span line l ∷ spans_from (line + 1) lines

-- what written lines are read as, a span a line; no line at all is read as one that is empty
abbrev pub lines_spans : List WrittenLine → List Span
lines_spans [] = line_span 1 (record { indented = false; words = [] }) ∷ []
lines_spans (l ∷ lines) = spans_from 1 (l ∷ lines)
