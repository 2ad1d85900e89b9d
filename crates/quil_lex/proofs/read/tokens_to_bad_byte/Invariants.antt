use Rattle.std.proofs.Common.{List, ◌++◌, map}
use Rattle.quil_lex.specs.Reading.{Span, span_of, Lexes, line_at}
use Rattle.quil_lex.specs.Cursor.{place_of, left}
use Rattle.quil_lex.proofs.read.tokens_to_bad_byte.Given as goal

-- whatever the text reads as from the cursor on, the whole text reads as the segments so far and that
abbrev pub invariant-loop-segments : goal.invariant-loop-segments
invariant-loop-segments l = (spans : List Span) → Lexes (place_of l.cursor) spans → Lexes (line_at 1 l.text) (map span_of l.segments.items ++ spans)

abbrev pub decreases-loop-segments : goal.decreases-loop-segments
decreases-loop-segments l = left l.cursor
