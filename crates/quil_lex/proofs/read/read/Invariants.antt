use Rattle.std.proofs.Common.{◌≡◌, ℕ, ◌+◌, List, ◌++◌, length, map}
use Rattle.quil_lex.specs.declared.segment.End.{End}
use Rattle.quil_lex.specs.Reading.{Lexeme, lexeme_of, Reads}
use Rattle.quil_lex.proofs.read.read.Given as goal

-- whatever the rest reads as, the bytes read as the tokens so far and that
abbrev pub invariant-loop-first : goal.invariant-loop-first
invariant-loop-first l = record {
  room : l.column + length l.rest ≡ l.start + length l.bytes;
  goes_on : (ls : List Lexeme) (e : End) (behind : List ℕ) → Reads l.line l.column l.rest ls e behind → Reads l.line l.start l.bytes (map lexeme_of l.tokens.items ++ ls) e behind;
}

abbrev pub decreases-loop-first : goal.decreases-loop-first
decreases-loop-first l = length l.rest
