-- Lines of tokens are read as they were written.
use Rattle.std.proofs.Common.{◌≡◌, ℕ, ◌+◌, ◌<◌, Bool, true, false, cond, ◌&&◌, ◌||◌, ◌⊎◌, inl, inr, List, [], ◌∷◌, ◌++◌, length, refl, sym, ap, ◌∙◌, subst, append_assoc, arith}
use Rattle.std.specs.Prelude.{◌==◌}
use Rattle.std.specs.List.{AllByRecursion}
use Rattle.std.proofs.lemmas.List.{length-append}
use Rattle.std.proofs.lemmas.List.Folds.{list_any-append}
use Rattle.std.proofs.lemmas.Bool.{or_parts}
use Rattle.quil_lex.specs.declared.token.Kind.{Kind}
use Rattle.quil_lex.specs.declared.segment.End.TheVariants as end
use Rattle.quil_lex.specs.Token.{IsFirstToken, begins_more, is_closed}
use Rattle.quil_lex.specs.Line.{end_len, first_line, other_lines, is_blank, begins_blank}
use Rattle.quil_lex.specs.Reading.{Reads, at_end, past_blank, past_token, Place, line_at, Span, span_at, Lexes, line_ends, text_ends, IsReading}
use Rattle.quil_lex.specs.Written.{has_feed, IsLineToken, Word, word_bytes, words_bytes, WrittenLine, line_content, line_bytes, lines_bytes, IsApartFrom, AreApart, first_blank, IsWritten, lexemes_at, line_span, spans_from, lines_spans}
use Rattle.quil_lex.proofs.Fronts.{bool_cases}
use Rattle.quil_lex.proofs.Slices.{token_size}
use Rattle.quil_lex.proofs.Apart.{stands_apart}
use Rattle.quil_lex.proofs.Readings.{blank_separates, token_no_separator}
use Rattle.quil_lex.proofs.LineEnds.{line_cons, others_cons}
use Rattle.quil_lex.proofs.TokenBytes.{ends_return, ends_append, ends_tail, token_ends}

-- Words are read as their lexemes.

blank_ends : (v : Word) (bytes : List ℕ) → v.blank ≡ true → begins_more (word_bytes v ++ bytes) ≡ false
blank_ends v bytes h = rw h refl

text_ends_word : (text bytes : List ℕ) → 0 < length text → begins_more text ≡ false → begins_more (text ++ bytes) ≡ false
text_ends_word [] bytes some h = absurd (omega arith)
text_ends_word (b ∷ text) bytes some h = h

next_ends : (v : Word) (bytes : List ℕ) → 0 < length v.text → begins_more v.text ≡ false → begins_more (word_bytes v ++ bytes) ≡ false
next_ends v bytes some h = elim (bool_cases v.blank) [ inl b ↦ rw b refl | inr b ↦ rw b (text_ends_word v.text bytes some h) ]

-- what comes next doesn't go on a word
ends_word : (w : Word) (ws : List Word) → IsApartFrom w ws → AreApart ws → (is_closed w.kind ≡ true) ⊎ (begins_more (words_bytes ws) ≡ false)
ends_word w [] a others = inr refl
ends_word w (v ∷ ws) (inl blank) others = inr (blank_ends v (words_bytes ws) blank)
ends_word w (v ∷ ws) (inr (inl closed)) others = inl closed
ends_word w (v ∷ ws) (inr (inr other)) others = inr (next_ends v (words_bytes ws) (token_size v.kind v.text others.0.token) other)

first_word : (w : Word) (ws : List Word) → AreApart (w ∷ ws) → IsFirstToken w.kind w.text (words_bytes ws) (w.text ++ words_bytes ws)
first_word w ws a = stands_apart w.kind w.text (words_bytes ws) a.0.token (ends_word w ws a.1 a.2)

reads_words : (line column : ℕ) (ws : List Word) → AreApart ws → Reads line column (words_bytes ws) (lexemes_at line column ws) end.Line []
reads_words line column [] a = at_end
reads_words line column (w ∷ ws) a =
    elim (bool_cases w.blank) [
      | inl b ↦ rw b (past_blank refl (past_token (first_word w ws a) (reads_words line (column + 1 + length w.text) ws a.2)))
      | inr b ↦ rw b (past_token (first_word w ws a) (reads_words line (column + length w.text) ws a.2))
    ]

-- A line begins with a blank where it is indented.

token_no_blank : {k : Kind} {t r : List ℕ} (bs : List ℕ) → IsFirstToken k t r bs → begins_blank bs ≡ false
token_no_blank [] f = refl
token_no_blank (b ∷ bs) f = elim (bool_cases (is_blank b)) [ inl p ↦ absurd (token_no_separator b bs f (blank_separates b p)) | inr p ↦ p ]

words_no_blank : (ws : List Word) → AreApart ws → first_blank ws ≡ false → begins_blank (words_bytes ws) ≡ false
words_no_blank [] a h = refl
words_no_blank (w ∷ ws) a h = rw h (token_no_blank (w.text ++ words_bytes ws) (first_word w ws a))

begins_line : (l : WrittenLine) → IsWritten l → begins_blank (line_content l) ≡ l.indented
begins_line l w = elim (bool_cases l.indented) [ inl i ↦ rw i refl | inr i ↦ rw i (words_no_blank l.words w.apart (w.margin i)) ]

reads_line : (line : ℕ) (l : WrittenLine) → IsWritten l → Reads line 1 (line_content l) (lexemes_at line (cond l.indented 5 1) l.words) end.Line []
reads_line line l w =
    elim (bool_cases l.indented) [
      | inl i ↦ rw i (past_blank refl (past_blank refl (past_blank refl (past_blank refl (reads_words line 5 l.words w.apart)))))
      | inr i ↦ rw i (reads_words line 1 l.words w.apart)
    ]

-- A line is the first of the bytes that it is written in.

-- no line end stands in the bytes, nor begins in them
record IsInLine (bytes : List ℕ) : Type 0 where
  no_feed : has_feed bytes ≡ false
  no_return : ends_return bytes ≡ false

or_false : (a b : Bool) → a ≡ false → b ≡ false → (a || b) ≡ false
or_false a b p q = rw (p, q) refl

in_line_append : (xs ys : List ℕ) → IsInLine xs → IsInLine ys → IsInLine (xs ++ ys)
in_line_append xs ys p q = record {
  no_feed = list_any-append (λ b. b == 10) xs ys ∙ or_false (has_feed xs) (has_feed ys) p.no_feed q.no_feed;
  no_return = ends_append xs ys p.no_return q.no_return;
}

in_line_word : (w : Word) → IsLineToken w.kind w.text → IsInLine (word_bytes w)
in_line_word w t =
    let text : IsInLine w.text = record { no_feed = t.one_line; no_return = token_ends w.kind w.text t.token } in
    elim (bool_cases w.blank) [
      | inl b ↦ rw b (in_line_append (32 ∷ []) w.text (record { no_feed = refl; no_return = refl }) text)
      | inr b ↦ rw b text
    ]

in_line_words : (ws : List Word) → AreApart ws → IsInLine (words_bytes ws)
in_line_words [] a = record { no_feed = refl; no_return = refl }
in_line_words (w ∷ ws) a = in_line_append (word_bytes w) (words_bytes ws) (in_line_word w a.0) (in_line_words ws a.2)

in_line : (l : WrittenLine) → IsWritten l → IsInLine (line_content l)
in_line l w =
    elim (bool_cases l.indented) [
      | inl i ↦ rw i (in_line_append (32 ∷ 32 ∷ 32 ∷ 32 ∷ []) (words_bytes l.words) (record { no_feed = refl; no_return = refl }) (in_line_words l.words w.apart))
      | inr i ↦ rw i (in_line_words l.words w.apart)
    ]

and_false : (a b : Bool) → b ≡ false → (a && b) ≡ false
and_false true b h = h
and_false false b h = refl

in_line_tail : (b : ℕ) (bs : List ℕ) → IsInLine (b ∷ bs) → IsInLine bs
in_line_tail b bs h = record { no_feed = (or_parts (b == 10) (has_feed bs) h.no_feed).1; no_return = ends_tail b bs h.no_return }

no_end : (b : ℕ) (bs rest : List ℕ) → IsInLine (b ∷ bs) → end_len (b ∷ (bs ++ 10 ∷ rest)) ≡ 0
no_end b [] rest h = rw ((or_parts (b == 10) false h.no_feed).0, h.no_return) refl
no_end b (c ∷ bs) rest h =
    let p = or_parts (b == 10) (has_feed (c ∷ bs)) h.no_feed in
    let q = or_parts (c == 10) (has_feed bs) p.1 in
    rw (p.0, and_false (b == 13) (c == 10) q.0) refl

first_is : (line rest : List ℕ) → IsInLine line → first_line (line ++ 10 ∷ rest) ≡ line
first_is [] rest h = refl
first_is (b ∷ bs) rest h = line_cons b (bs ++ 10 ∷ rest) (no_end b bs rest h) ∙ ap (λ l. b ∷ l) (first_is bs rest (in_line_tail b bs h))

others_are : (line rest : List ℕ) → IsInLine line → other_lines (line ++ 10 ∷ rest) ≡ rest
others_are [] rest h = refl
others_are (b ∷ bs) rest h = others_cons b (bs ++ 10 ∷ rest) (no_end b bs rest h) ∙ others_are bs rest (in_line_tail b bs h)

-- the first byte of a line, with the lines behind it
abbrev place_of : ℕ → List ℕ → List ℕ → Place
place_of n line rest = record { line = n; bytes = line; column = 1; rest = line; after = rest }

place_is : (n : ℕ) (text line rest : List ℕ) → text ≡ line ++ 10 ∷ rest → IsInLine line → place_of n line rest ≡ line_at n text
place_is n text line rest split h =
    ap (λ l. place_of n l rest) (sym (ap first_line split ∙ first_is line rest h)) ∙ ap (place_of n (first_line text)) (sym (ap other_lines split ∙ others_are line rest h))

-- Lines are read one behind another.

span_is : (n : ℕ) (l : WrittenLine) (rest : List ℕ) → IsWritten l → span_at (place_of n (line_content l) rest) (lexemes_at n (cond l.indented 5 1) l.words) end.Line ≡ line_span n l
span_is n l rest w = ap (λ i. record (line_span n l) { indented = i }) (begins_line l w)

at_line : (n : ℕ) (l : WrittenLine) (ls : List WrittenLine) (spans : List Span) → IsWritten l
    → Lexes (place_of n (line_content l) (lines_bytes ls)) (span_at (place_of n (line_content l) (lines_bytes ls)) (lexemes_at n (cond l.indented 5 1) l.words) end.Line ∷ spans)
    → Lexes (line_at n (lines_bytes (l ∷ ls))) (line_span n l ∷ spans)
at_line n l ls spans w h =
    subst (λ s. Lexes (line_at n (lines_bytes (l ∷ ls))) (s ∷ spans)) (span_is n l (lines_bytes ls) w)
    (subst (λ p. Lexes p (span_at (place_of n (line_content l) (lines_bytes ls)) (lexemes_at n (cond l.indented 5 1) l.words) end.Line ∷ spans))
    (place_is n (lines_bytes (l ∷ ls)) (line_content l) (lines_bytes ls) (append_assoc (line_content l) (10 ∷ []) (lines_bytes ls)) (in_line l w)) h)

some_lines : (l : WrittenLine) (ls : List WrittenLine) → 0 < length (lines_bytes (l ∷ ls))
some_lines l ls = omega (arith, length-append (line_bytes l) (lines_bytes ls), length-append (line_content l) (10 ∷ []))

lexes_lines : (n : ℕ) (l : WrittenLine) (ls : List WrittenLine) → AllByRecursion IsWritten (l ∷ ls) → Lexes (line_at n (lines_bytes (l ∷ ls))) (spans_from n (l ∷ ls))
lexes_lines n l [] w = at_line n l [] [] w.0 (text_ends (reads_line n l w.0) refl)
lexes_lines n l (m ∷ ls) w = at_line n l (m ∷ ls) (spans_from (n + 1) (m ∷ ls)) w.0 (line_ends (reads_line n l w.0) (some_lines m ls) (lexes_lines (n + 1) m ls w.1))

pub lines_again : (lines : List WrittenLine) → AllByRecursion IsWritten lines → IsReading (lines_bytes lines) (lines_spans lines)
lines_again [] w = text_ends at_end refl
lines_again (l ∷ ls) w = lexes_lines 1 l ls w
