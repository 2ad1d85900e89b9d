-- Each text is read.
use Rattle.std.proofs.Common.{◌≡◌, ℕ, zero, suc, ◌+◌, ◌*◌, ◌<◌, ◌≤◌, Bool, false, inl, inr, List, [], ◌∷◌, length, take, drop, Option, Some, None, refl, arith}
use Rattle.std.specs.Prelude.{◌==◌, ◌||◌}
use Rattle.quil_lex.specs.declared.token.Kind.{Kind}
use Rattle.quil_lex.specs.declared.segment.End.{End}
use Rattle.quil_lex.specs.declared.segment.End.TheVariants as end
use Rattle.quil_lex.specs.Line.{is_blank, first_line, other_lines}
use Rattle.quil_lex.specs.Scan.{token_of}
use Rattle.quil_lex.specs.Token.{IsFirstToken}
use Rattle.quil_lex.specs.Reading.{Lexeme, is_separator, Reads, at_end, at_comment, at_semicolon, past_blank, past_token, at_bad_byte, Place, line_at, Span, Lexes, statement_ends, line_ends, text_ends, stops, IsReading}
use Rattle.quil_lex.proofs.Fronts.{bool_cases}
use Rattle.quil_lex.proofs.FirstToken.{first_none, first_some}
use Rattle.quil_lex.proofs.Readings.{first_size, reads_fewer}
use Rattle.quil_lex.proofs.LineEnds.{lines_size, others_size}
use Rattle.quil_lex.proofs.Slices.{token_size}

-- the bytes of a line from a column on are read
record SomeRead (line column : ℕ) (bytes : List ℕ) : Type 0 where
  lexemes : List Lexeme
  end : End
  rest : List ℕ
  reads : Reads line column bytes lexemes end rest

no_separator : (a b c : Bool) → a ≡ false → b ≡ false → c ≡ false → (a || (b || c)) ≡ false
no_separator a b c e f g = rw (e, f, g) refl

fewer : (k : Kind) (t r bs : List ℕ) → IsFirstToken k t r bs → length r < length bs
fewer k t r bs h = omega (arith, first_size h, token_size k t h.token.token)

-- from a token on, or from a byte at which none begins
read_token : (fuel line column b : ℕ) (bs : List ℕ) → ((c : ℕ) (cs : List ℕ) → length cs ≤ fuel → SomeRead line c cs) → length (b ∷ bs) ≤ suc fuel → is_separator b ≡ false
    → (found : Option (Kind × ℕ)) → token_of (b ∷ bs) ≡ found → SomeRead line column (b ∷ bs)
read_token fuel line column b bs others h s None e = record { lexemes = []; end = end.BadToken column; rest = bs; reads = at_bad_byte s (first_none (b ∷ bs) e) }
read_token fuel line column b bs others h s (Some (k, n)) e =
    let text : List ℕ = take n (b ∷ bs) in
    let behind : List ℕ = drop n (b ∷ bs) in
    let first : IsFirstToken k text behind (b ∷ bs) = first_some (b ∷ bs) k n text behind e refl refl in
    let r = others (column + length text) behind (omega (arith, fewer k text behind (b ∷ bs) first)) in
    record { lexemes = record { kind = k; text = text; line = line; column = column } ∷ r.lexemes; end = r.end; rest = r.rest; reads = past_token first r.reads }

some_reads : (fuel line column : ℕ) (bs : List ℕ) → length bs ≤ fuel → SomeRead line column bs
some_reads fuel line column [] h = record { lexemes = []; end = end.Line; rest = []; reads = at_end }
some_reads zero line column (b ∷ bs) h = absurd (omega arith)
some_reads (suc fuel) line column (b ∷ bs) h =
    let others : (c : ℕ) (cs : List ℕ) → length cs ≤ fuel → SomeRead line c cs = λ c cs small. some_reads fuel line c cs small in
    elim (bool_cases (is_blank b)) [
      | inl blank ↦ let r = others (column + 1) bs (omega arith) in record { lexemes = r.lexemes; end = r.end; rest = r.rest; reads = past_blank blank r.reads }
      | inr no_blank ↦ elim (bool_cases (b == 35)) [
        | inl comment ↦ record { lexemes = []; end = end.Line; rest = bs; reads = at_comment comment }
        | inr no_comment ↦ elim (bool_cases (b == 59)) [
          | inl semicolon ↦ record { lexemes = []; end = end.Semicolon column; rest = bs; reads = at_semicolon semicolon }
          | inr no_semicolon ↦ read_token fuel line column b bs others h (no_separator (is_blank b) (b == 35) (b == 59) no_blank no_comment no_semicolon) (token_of (b ∷ bs)) refl
        ]
      ]
    ]

-- a place is read to the end of the text, or to a bad byte
record SomeSpans (p : Place) : Type 0 where
  spans : List Span
  lexes : Lexes p spans

-- from the end of a segment on
next_spans : (fuel : ℕ) (p : Place) (ls : List Lexeme) (e : End) (rest : List ℕ) → ((q : Place) → length q.rest + 2 * length q.after < fuel → SomeSpans q)
    → length p.rest + 2 * length p.after < suc fuel → Reads p.line p.column p.rest ls e rest → (after : List ℕ) → p.after ≡ after → SomeSpans p
next_spans fuel p ls end.Line rest others h r [] a = record { spans = _; lexes = text_ends r a }
next_spans fuel p ls end.Line rest others h r (b ∷ bs) a =
    let some : 0 < length p.after = rw a (omega arith) in
    let size : length (first_line p.after) + length (other_lines p.after) ≤ length p.after = lines_size p.after in
    let less : length (other_lines p.after) < length p.after = others_size p.after some in
    let n = others (line_at (p.line + 1) p.after) (omega arith) in
    record { spans = _; lexes = line_ends r some n.lexes }
next_spans fuel p ls (end.Semicolon column) rest others h r after a =
    let less : length rest < length p.rest = reads_fewer r in
    let n = others (record p { column = column + 1; rest = rest }) (omega arith) in
    record { spans = _; lexes = statement_ends r n.lexes }
next_spans fuel p ls (end.BadToken column) rest others h r after a = record { spans = _; lexes = stops r }

some_spans : (fuel : ℕ) (p : Place) → length p.rest + 2 * length p.after < fuel → SomeSpans p
some_spans zero p h = absurd (omega arith)
some_spans (suc fuel) p h =
    let r = some_reads (length p.rest) p.line p.column p.rest (omega arith) in
    next_spans fuel p r.lexemes r.end r.rest (λ q small. some_spans fuel q small) h r.reads p.after refl

pub each_text : (text : List ℕ) → (spans : List Span) × IsReading text spans
each_text text =
    let s = some_spans (suc (length (first_line text) + 2 * length (other_lines text))) (line_at 1 text) (omega arith) in
    (s.spans, s.lexes)
