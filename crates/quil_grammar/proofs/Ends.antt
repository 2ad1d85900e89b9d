-- The end of a text is that of its last segment.
use Rattle.std.proofs.Common.{◌≡◌, ℕ, zero, suc, List, [], ◌∷◌, length, map, get_or, refl, arith}
use Rattle.quil_lex.specs.declared.segment.Segment.{Segment}
use Rattle.quil_lex.specs.Reading.{span_of}
use Rattle.quil_grammar.specs.Token.{end_of}

pub last_end : (ss : List Segment) (i : ℕ) (s : Segment) → length ss ≡ suc i → s ≡ get_or ss i s → record { line = s.line; column = s.line_end } ≡ end_of (map span_of ss)
last_end [] i s n e = absurd (omega arith)
last_end (t ∷ []) zero s n e = rw e refl
last_end (t ∷ []) (suc i) s n e = absurd (omega arith)
last_end (t ∷ u ∷ ss) zero s n e = absurd (omega arith)
last_end (t ∷ u ∷ ss) (suc i) s n e = last_end (u ∷ ss) i s (omega arith) e
