-- What the lexer's steps say to one another; nobody has to believe these.
use Rattle.std.specs.Prelude.{ℕ, ◌+◌, ◌*◌, ◌<◌, List, [], ◌∷◌, length, Option, Some, None}
use Rattle.quil_lex.specs.declared.cursor.Cursor.{Cursor}
use Rattle.quil_lex.specs.declared.segment.Segment.{Segment}
use Rattle.quil_lex.specs.Reading.{Place, Span, span_of, Lexes}

abbrev pub place_of : Cursor → Place
place_of c = record { line = c.line; bytes = c.bytes.now; column = c.column; rest = c.rest.now; after = c.after.now }

-- a bound on the segments that are still to come
abbrev pub left : Cursor → ℕ
left c = length c.rest.now + 2 * length c.after.now

-- the segment is the one at the first cursor, and the text goes on at the second, or not at all
abbrev pub Continues : Cursor → Segment → Option Cursor → Type 0
Continues cursor segment None = Lexes (place_of cursor) (span_of segment ∷ [])
Continues cursor segment (Some next) = (left next < left cursor) × ((spans : List Span) → Lexes (place_of next) spans → Lexes (place_of cursor) (span_of segment ∷ spans))
