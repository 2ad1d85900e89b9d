-- The lexemes of a reading are tokens, none of them with a line feed.
use Rattle.std.proofs.Common.{◌≡◌, ℕ, Bool, true, false, ◌||◌, inl, inr, List, [], ◌∷◌, ◌++◌, refl, sym, ap, ◌∙◌}
use Rattle.std.specs.Prelude.{◌==◌}
use Rattle.std.specs.List.{AllByRecursion}
use Rattle.std.proofs.lemmas.List.Folds.{list_any-append}
use Rattle.std.proofs.lemmas.Bool.{or_parts}
use Rattle.quil_lex.specs.declared.segment.End.{End}
use Rattle.quil_lex.specs.Line.{end_len, first_line}
use Rattle.quil_lex.specs.Reading.{Lexeme, Reads, at_end, at_comment, at_semicolon, past_blank, past_token, at_bad_byte, Place, Span, Lexes, statement_ends, line_ends, text_ends, stops, IsReading}
use Rattle.quil_lex.specs.Written.{has_feed, AreTokens}
use Rattle.quil_lex.proofs.Fronts.{bool_cases}

-- no line feed stands in the parts of what has none
pub parts : (xs ys bytes : List ℕ) → bytes ≡ xs ++ ys → has_feed bytes ≡ false → (has_feed xs ≡ false) × (has_feed ys ≡ false)
parts xs ys bytes split h = or_parts (has_feed xs) (has_feed ys) (sym (list_any-append (λ b. b == 10) xs ys) ∙ sym (ap has_feed split) ∙ h)

reads_tokens : {line column : ℕ} {bytes rest : List ℕ} {ls : List Lexeme} {e : End} → Reads line column bytes ls e rest → has_feed bytes ≡ false → AreTokens ls × (has_feed rest ≡ false)
reads_tokens at_end h = (tt, h)
reads_tokens (at_comment {b = b} {bs = bs} p) h = (tt, (or_parts (b == 10) (has_feed bs) h).1)
reads_tokens (at_semicolon {b = b} {bs = bs} p) h = (tt, (or_parts (b == 10) (has_feed bs) h).1)
reads_tokens (past_blank {b = b} {bs = bs} p r) h = reads_tokens r (or_parts (b == 10) (has_feed bs) h).1
reads_tokens (past_token {text = text} {behind = behind} {bytes = bytes} t r) h =
    let p = parts text behind bytes t.split h in
    let others = reads_tokens r p.1 in
    ((record { token = t.token.token; one_line = p.0 }, others.0), others.1)
reads_tokens (at_bad_byte {b = b} {bs = bs} p n) h = (tt, (or_parts (b == 10) (has_feed bs) h).1)

feed_no_end : (b : ℕ) (bs : List ℕ) → (end_len (b ∷ bs) == 0) ≡ true → (b == 10) ≡ false
feed_no_end b bs h = elim (bool_cases (b == 10)) [ inl f ↦ let e : (1 == 0) ≡ true = rw f at h in absurd (cc) | inr f ↦ f ]

-- a line has no line feed
line_no_feed : (bytes : List ℕ) → has_feed (first_line bytes) ≡ false
line_no_feed [] = refl
line_no_feed (b ∷ bs) =
    elim (bool_cases (end_len (b ∷ bs) == 0)) [
      | inl t ↦ rw (t, feed_no_end b bs t) (line_no_feed bs)
      | inr t ↦ rw t refl
    ]

lexes_tokens : {p : Place} {spans : List Span} → Lexes p spans → has_feed p.rest ≡ false → AllByRecursion (λ s. AreTokens s.lexemes) spans
lexes_tokens (statement_ends r l) h = let t = reads_tokens r h in (t.0, lexes_tokens l t.1)
lexes_tokens {p} (line_ends r some l) h = ((reads_tokens r h).0, lexes_tokens l (line_no_feed p.after))
lexes_tokens (text_ends r none) h = ((reads_tokens r h).0, tt)
lexes_tokens (stops r) h = ((reads_tokens r h).0, tt)

pub reading_tokens : (text : List ℕ) (spans : List Span) → IsReading text spans → AllByRecursion (λ s. AreTokens s.lexemes) spans
reading_tokens text spans r = lexes_tokens r (line_no_feed text)
