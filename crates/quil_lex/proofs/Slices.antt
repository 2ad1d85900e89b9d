-- The tokens of a reading are slices of the text, in order.
use Rattle.std.proofs.Common.{◌≡◌, ℕ, ◌<◌, inl, inr, List, [], ◌∷◌, ◌++◌, length, take, refl, sym, ap, ◌∙◌, subst, append_assoc, length-append, arith}
use Rattle.std.specs.Prelude.{◌==◌}
use Rattle.std.proofs.lemmas.List.{take-append-drop}
use Rattle.quil_lex.specs.declared.token.Kind.{Kind}
use Rattle.quil_lex.specs.declared.token.Kind.TheVariants.{Name, Whole, Decimal, Imaginary, Str, Parameter, Label}
use Rattle.quil_lex.specs.declared.token.Kind.TheVariants as kinds
use Rattle.quil_lex.specs.declared.segment.End.{End}
use Rattle.quil_lex.specs.Token.{IsToken}
use Rattle.quil_lex.specs.Line.{end_len, first_line, other_lines}
use Rattle.quil_lex.specs.Reading.{Lexeme, Reads, at_end, at_comment, at_semicolon, past_blank, past_token, at_bad_byte, Place, Span, Lexes, statement_ends, line_ends, text_ends, stops, IsReading, lexemes_of, AreSlices}
use Rattle.quil_lex.proofs.Fronts.{bool_cases}
use Rattle.quil_lex.proofs.Numbers.{digits_some}

-- a token has a byte
pub token_size : (k : Kind) (t : List ℕ) → IsToken k t → 0 < length t
token_size k (b ∷ t) h = omega arith
token_size Name [] h = absurd (cc)
token_size Whole [] h = absurd (cc)
token_size Decimal [] h = absurd (omega (arith, ap length h.split, length-append h.whole (h.fraction ++ h.exponent), digits_some h.whole h.digits))
token_size Imaginary [] h = absurd (omega (arith, ap length h.split, length-append h.number (105 ∷ [])))
token_size Str [] h = absurd (cc)
token_size Parameter [] h = absurd (cc)
token_size Label [] h = absurd (cc)
token_size (kinds.Mark m) [] h = absurd (cc)

-- the lexemes are slices of the bytes, and rest stands behind them
abbrev SlicesTo : List ℕ → List Lexeme → List ℕ → Type 0
SlicesTo bytes [] rest = (before : List ℕ) × (bytes ≡ before ++ rest)
SlicesTo bytes (l ∷ ls) rest = (before : List ℕ) × (behind : List ℕ) × (bytes ≡ before ++ (l.text ++ behind)) × (0 < length l.text) × SlicesTo behind ls rest

skip_to : (b : ℕ) (bytes : List ℕ) (ls : List Lexeme) (rest : List ℕ) → SlicesTo bytes ls rest → SlicesTo (b ∷ bytes) ls rest
skip_to b bytes [] rest s = (b ∷ s.0, ap (λ l. b ∷ l) s.1)
skip_to b bytes (l ∷ ls) rest s = (b ∷ s.0, s.1, ap (λ x. b ∷ x) s.2, s.3, s.4)

reads_slices : {line column : ℕ} {bytes rest : List ℕ} {ls : List Lexeme} {e : End} → Reads line column bytes ls e rest → SlicesTo bytes ls rest
reads_slices at_end = ([], refl)
reads_slices (at_comment {b = b} p) = (b ∷ [], refl)
reads_slices (at_semicolon {b = b} p) = (b ∷ [], refl)
reads_slices (past_blank {b = b} p r) = skip_to b _ _ _ (reads_slices r)
reads_slices (past_token {kind = kind} {text = text} {behind = behind} t r) = ([], behind, t.split, token_size kind text t.token.token, reads_slices r)
reads_slices (at_bad_byte {b = b} p n) = (b ∷ [], refl)

skip : (front bytes : List ℕ) (ls : List Lexeme) → AreSlices bytes ls → AreSlices (front ++ bytes) ls
skip front bytes [] s = tt
skip front bytes (l ∷ ls) s = (front ++ s.0, s.1, ap (λ x. front ++ x) s.2 ∙ sym (append_assoc front s.0 (l.text ++ s.1)), s.3, s.4)

join : (bytes rest more : List ℕ) (ls ms : List Lexeme) → SlicesTo bytes ls rest → AreSlices (rest ++ more) ms → AreSlices (bytes ++ more) (ls ++ ms)
join bytes rest more [] ms s t = subst (λ x. AreSlices x ms) (sym (ap (λ x. x ++ more) s.1 ∙ append_assoc s.0 rest more)) (skip s.0 (rest ++ more) ms t)
join bytes rest more (l ∷ ls) ms s t =
    (s.0, s.1 ++ more, ap (λ x. x ++ more) s.2 ∙ append_assoc s.0 (l.text ++ s.1) more ∙ ap (λ x. s.0 ++ x) (append_assoc l.text s.1 more), s.3, join s.1 rest more ls ms s.4 t)

-- between a line and the lines behind it stands its end
line_split : (text : List ℕ) → (end : List ℕ) × (text ≡ first_line text ++ (end ++ other_lines text))
line_split [] = ([], refl)
line_split (b ∷ bs) =
    elim (bool_cases (end_len (b ∷ bs) == 0)) [
      | inl t ↦ let s = line_split bs in rw t (s.0, ap (λ l. b ∷ l) s.1)
      | inr t ↦ rw t (take (end_len (b ∷ bs)) (b ∷ bs), sym (take-append-drop (end_len (b ∷ bs)) (b ∷ bs)))
    ]

last_slices : (bytes rest more : List ℕ) (ls : List Lexeme) → SlicesTo bytes ls rest → AreSlices (bytes ++ more) (ls ++ [])
last_slices bytes rest more ls s = join bytes rest more ls [] s tt

lexes_slices : {p : Place} {spans : List Span} (end : List ℕ) → Lexes p spans → AreSlices (p.rest ++ (end ++ p.after)) (lexemes_of spans)
lexes_slices {p} end (statement_ends {ls = ls} {rest = rest} {spans = spans} r l) = join p.rest rest (end ++ p.after) ls (lexemes_of spans) (reads_slices r) (lexes_slices end l)
lexes_slices {p} end (line_ends {ls = ls} {rest = rest} {spans = spans} r some l) =
    let s = line_split p.after in
    let others : AreSlices p.after (lexemes_of spans) = subst (λ x. AreSlices x (lexemes_of spans)) (sym s.1) (lexes_slices s.0 l) in
    join p.rest rest (end ++ p.after) ls (lexemes_of spans) (reads_slices r) (skip rest (end ++ p.after) (lexemes_of spans) (skip end p.after (lexemes_of spans) others))
lexes_slices {p} end (text_ends {ls = ls} {rest = rest} r none) = last_slices p.rest rest (end ++ p.after) ls (reads_slices r)
lexes_slices {p} end (stops {ls = ls} {rest = rest} r) = last_slices p.rest rest (end ++ p.after) ls (reads_slices r)

pub reading_slices : (text : List ℕ) (spans : List Span) → IsReading text spans → AreSlices text (lexemes_of spans)
reading_slices text spans r = let s = line_split text in subst (λ x. AreSlices x (lexemes_of spans)) (sym s.1) (lexes_slices s.0 r)
