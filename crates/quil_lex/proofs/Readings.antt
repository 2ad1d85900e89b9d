-- A text has one reading.
use Rattle.std.proofs.Common.{◌≡◌, ◌≢◌, ℕ, zero, suc, ◌+◌, ◌<◌, Bool, true, false, ◌⊎◌, inl, inr, List, [], ◌∷◌, ◌++◌, length, length-append, map, get_or, Option, Some, None, refl, sym, ap, ◌∙◌, subst, append_assoc, arith}
use Rattle.std.specs.Prelude.{◌==◌}
use Rattle.std.proofs.lemmas.Bool.Decides.{nat_tests}
use Rattle.std.proofs.lemmas.List.{append-nil}
use Rattle.quil_lex.specs.declared.token.Kind.{Kind}
use Rattle.quil_lex.specs.declared.segment.End.{End}
use Rattle.quil_lex.specs.declared.segment.End.TheVariants as end
use Rattle.quil_lex.specs.declared.segment.Segment.{Segment}
use Rattle.quil_lex.specs.Token.{IsFirstToken, NoToken}
use Rattle.quil_lex.specs.Line.{is_blank}
use Rattle.quil_lex.specs.Scan.{token_of}
use Rattle.quil_lex.specs.Reading.{Lexeme, is_separator, Reads, at_end, at_comment, at_semicolon, past_blank, past_token, at_bad_byte, Place, Span, span_at, Lexes, statement_ends, line_ends, text_ends, stops, span_of, bad_byte, first_bad}
use Rattle.quil_lex.proofs.Fronts.{bool_cases}
use Rattle.quil_lex.proofs.FirstToken.{first_found, one_first}

-- how many bytes stand behind a token
pub first_size : {k : Kind} {t r bs : List ℕ} → IsFirstToken k t r bs → length bs ≡ length t + length r
first_size {k} {t} {r} f = ap length f.split ∙ length-append t r

-- the column goes on as the bytes do
pub reads_room : {line column at : ℕ} {bs rest : List ℕ} {ls : List Lexeme} → Reads line column bs ls (end.Semicolon at) rest → at + 1 + length rest ≡ column + length bs
reads_room (at_semicolon p) = omega arith
reads_room (past_blank p r) = omega (arith, reads_room r)
reads_room (past_token t r) = omega (arith, reads_room r, first_size t)

-- fewer bytes stand behind a `;`
pub reads_fewer : {line column at : ℕ} {bs rest : List ℕ} {ls : List Lexeme} → Reads line column bs ls (end.Semicolon at) rest → length rest < length bs
reads_fewer (at_semicolon p) = omega arith
reads_fewer (past_blank p r) = omega (arith, reads_fewer r)
reads_fewer (past_token t r) = omega (arith, reads_fewer r, first_size t)

-- What may begin with a byte.

comment_no_semicolon : (b : ℕ) → (b == 35) ≡ true → (b == 59) ≡ true → ⊥
comment_no_semicolon b p q = grind (arith, nat_tests)

comment_no_blank : (b : ℕ) → (b == 35) ≡ true → is_blank b ≡ true → ⊥
comment_no_blank b p q = grind (arith, nat_tests)

semicolon_no_blank : (b : ℕ) → (b == 59) ≡ true → is_blank b ≡ true → ⊥
semicolon_no_blank b p q = grind (arith, nat_tests)

comment_separates : (b : ℕ) → (b == 35) ≡ true → is_separator b ≡ true
comment_separates b p = grind (arith, nat_tests)

semicolon_separates : (b : ℕ) → (b == 59) ≡ true → is_separator b ≡ true
semicolon_separates b p = grind (arith, nat_tests)

pub blank_separates : (b : ℕ) → is_blank b ≡ true → is_separator b ≡ true
blank_separates b p = grind (arith, nat_tests)

separator_cases : (b : ℕ) → is_separator b ≡ true → (b ≡ 32) ⊎ ((b ≡ 9) ⊎ ((b ≡ 35) ⊎ (b ≡ 59)))
separator_cases b h =
    elim (bool_cases (b == 32)) [
      | inl p ↦ inl (grind (arith, nat_tests))
      | inr p ↦
          elim (bool_cases (b == 9)) [
            | inl q ↦ inr (inl (grind (arith, nat_tests)))
            | inr q ↦
                elim (bool_cases (b == 35)) [ inl r ↦ inr (inr (inl (grind (arith, nat_tests)))) | inr r ↦ inr (inr (inr (grind (arith, nat_tests)))) ]
          ]
    ]

separator_none : (b : ℕ) (bs : List ℕ) → is_separator b ≡ true → token_of (b ∷ bs) ≡ None
separator_none b bs h = elim (separator_cases b h) [
  | inl e ↦ ap (λ x. token_of (x ∷ bs)) e
  | inr s ↦ elim s [ inl e ↦ ap (λ x. token_of (x ∷ bs)) e | inr s ↦ elim s [ inl e ↦ ap (λ x. token_of (x ∷ bs)) e | inr e ↦ ap (λ x. token_of (x ∷ bs)) e ] ]
]

some_none : {A : Type 0} (x : A) → ◌≡◌ {A = Option A} (Some x) None → ⊥
some_none x h = cc

pub token_no_separator : {k : Kind} {t r : List ℕ} (b : ℕ) (bs : List ℕ) → IsFirstToken k t r (b ∷ bs) → is_separator b ≡ true → ⊥
token_no_separator b bs f h = some_none _ (sym (first_found f) ∙ separator_none b bs h)

token_some : {k : Kind} {t r : List ℕ} → IsFirstToken k t r [] → ⊥
token_some f = some_none _ (sym (first_found f))

-- One reading of a statement.

pub record SameRead (ls ms : List Lexeme) (d e : End) (r s : List ℕ) : Type 0 where
  pub lexemes : ls ≡ ms
  pub end : d ≡ e
  pub rest : r ≡ s

true_false : {b : Bool} → b ≡ true → b ≡ false → ⊥
true_false p q = cc

one_token : {line column : ℕ} {k l : Kind} {t u : List ℕ} {ls ms : List Lexeme} → k ≡ l → t ≡ u → ls ≡ ms
    → ◌≡◌ {A = List Lexeme} (record { kind = k; text = t; line = line; column = column } ∷ ls) (record { kind = l; text = u; line = line; column = column } ∷ ms)
one_token a b c = cc

read_from : {line : ℕ} (column : ℕ) {t u r q s : List ℕ} {ls : List Lexeme} {e : End} → t ≡ u → r ≡ q → Reads line (column + length t) r ls e s → Reads line (column + length u) q ls e s
read_from {line} column {t} {u} {r} {q} {s} {ls} {e} a b h = subst (λ n. Reads line (column + length n) q ls e s) a (subst (λ n. Reads line (column + length t) n ls e s) b h)

pub same_reads : {line column : ℕ} {bs r s : List ℕ} {ls ms : List Lexeme} {d e : End} → Reads line column bs ls d r → Reads line column bs ms e s → SameRead ls ms d e r s
same_reads at_end at_end = record { lexemes = refl; end = refl; rest = refl }
same_reads at_end (past_token f x) = absurd (token_some f)
same_reads (at_comment p) (at_comment q) = record { lexemes = refl; end = refl; rest = refl }
same_reads (at_comment p) (at_semicolon q) = absurd (comment_no_semicolon _ p q)
same_reads (at_comment p) (past_blank q x) = absurd (comment_no_blank _ p q)
same_reads (at_comment p) (past_token f x) = absurd (token_no_separator _ _ f (comment_separates _ p))
same_reads (at_comment p) (at_bad_byte q n) = absurd (true_false (comment_separates _ p) q)
same_reads (at_semicolon p) (at_comment q) = absurd (comment_no_semicolon _ q p)
same_reads (at_semicolon p) (at_semicolon q) = record { lexemes = refl; end = refl; rest = refl }
same_reads (at_semicolon p) (past_blank q x) = absurd (semicolon_no_blank _ p q)
same_reads (at_semicolon p) (past_token f x) = absurd (token_no_separator _ _ f (semicolon_separates _ p))
same_reads (at_semicolon p) (at_bad_byte q n) = absurd (true_false (semicolon_separates _ p) q)
same_reads (past_blank p w) (at_comment q) = absurd (comment_no_blank _ q p)
same_reads (past_blank p w) (at_semicolon q) = absurd (semicolon_no_blank _ q p)
same_reads (past_blank p w) (past_blank q x) = same_reads w x
same_reads (past_blank {b = b} p w) (past_token f x) = absurd (token_no_separator _ _ f (blank_separates b p))
same_reads (past_blank {b = b} p w) (at_bad_byte q n) = absurd (true_false (blank_separates b p) q)
same_reads (past_token f w) at_end = absurd (token_some f)
same_reads (past_token f w) (at_comment q) = absurd (token_no_separator _ _ f (comment_separates _ q))
same_reads (past_token f w) (at_semicolon q) = absurd (token_no_separator _ _ f (semicolon_separates _ q))
same_reads (past_token f w) (past_blank {b = b} q x) = absurd (token_no_separator _ _ f (blank_separates b q))
same_reads {line} {column} (past_token f w) (past_token g x) =
    let o = one_first g f in
    let z = same_reads w (read_from column o.text o.rest x) in
    record { lexemes = one_token (sym o.kind) (sym o.text) z.lexemes; end = z.end; rest = z.rest }
same_reads (past_token f w) (at_bad_byte q n) = absurd (n _ _ _ f.split f.token)
same_reads (at_bad_byte p n) (at_comment q) = absurd (true_false (comment_separates _ q) p)
same_reads (at_bad_byte p n) (at_semicolon q) = absurd (true_false (semicolon_separates _ q) p)
same_reads (at_bad_byte p n) (past_blank {b = b} q x) = absurd (true_false (blank_separates b q) p)
same_reads (at_bad_byte p n) (past_token f x) = absurd (n _ _ _ f.split f.token)
same_reads (at_bad_byte p n) (at_bad_byte q m) = record { lexemes = refl; end = refl; rest = refl }

-- What a step of the lexer adds to what it has read.

-- whatever the rest reads as, the bytes read as before and that
abbrev pub GoesOn : ℕ → ℕ → List ℕ → ℕ → List ℕ → List Lexeme → Type 0
GoesOn line start bytes column rest before = (ls : List Lexeme) (e : End) (behind : List ℕ) → Reads line column rest ls e behind → Reads line start bytes (before ++ ls) e behind

pub ends : {line start column : ℕ} {bytes rest behind : List ℕ} {e : End} (before : List Lexeme) → GoesOn line start bytes column rest before → Reads line column rest [] e behind → Reads line start bytes before e behind
ends {line} {start} {column} {bytes} {rest} {behind} {e} before on r = subst (λ l. Reads line start bytes l e behind) (append-nil before) (on [] e behind r)

byte_test : (b c : ℕ) → b ≡ c → (b == c) ≡ true
byte_test b c h = grind (arith, nat_tests)

pub reads_nothing : (line column : ℕ) (rest : List ℕ) → rest ≡ [] → Reads line column rest [] end.Line rest
reads_nothing line column rest e = subst (λ l. Reads line column l [] end.Line l) (sym e) at_end

pub reads_comment : (line column b : ℕ) (rest bs : List ℕ) → rest ≡ b ∷ bs → b ≡ 35 → Reads line column rest [] end.Line bs
reads_comment line column b rest bs e h = subst (λ l. Reads line column l [] end.Line bs) (sym e) (at_comment (byte_test b 35 h))

pub reads_semicolon : (line column b : ℕ) (rest bs : List ℕ) → rest ≡ b ∷ bs → b ≡ 59 → Reads line column rest [] (end.Semicolon column) bs
reads_semicolon line column b rest bs e h = subst (λ l. Reads line column l [] (end.Semicolon column) bs) (sym e) (at_semicolon (byte_test b 59 h))

pub reads_bad : (line column b : ℕ) (rest bs : List ℕ) → rest ≡ b ∷ bs → is_separator b ≡ false → NoToken rest → Reads line column rest [] (end.BadToken column) bs
reads_bad line column b rest bs e h none = subst (λ l. Reads line column l [] (end.BadToken column) bs) (sym e) (at_bad_byte h (subst NoToken e none))

pub separates_nothing : (b : ℕ) → is_blank b ≡ false → b ≢ 35 → b ≢ 59 → is_separator b ≡ false
separates_nothing b h i j = rw h (grind (arith, nat_tests))

pub past_blank_on : {line start column : ℕ} {bytes rest : List ℕ} (b : ℕ) (bs : List ℕ) (before : List Lexeme) → GoesOn line start bytes column rest before → rest ≡ b ∷ bs → is_blank b ≡ true → GoesOn line start bytes (column + 1) bs before
past_blank_on {line} {start} {column} b bs before on split h ls e behind r = on ls e behind (subst (λ l. Reads line column l ls e behind) (sym split) (past_blank h r))

pub past_token_on : {line start column : ℕ} {bytes rest text after : List ℕ} {kind : Kind} (before now : List Lexeme) → GoesOn line start bytes column rest before → IsFirstToken kind text after rest
    → now ≡ before ++ record { kind = kind; text = text; line = line; column = column } ∷ [] → GoesOn line start bytes (column + length text) after now
past_token_on {line} {start} {column} {bytes} {rest} {text} {after} {kind} before now on first pushed ls e behind r =
    let all = on (record { kind = kind; text = text; line = line; column = column } ∷ ls) e behind (past_token first r) in
    subst (λ l. Reads line start bytes l e behind) (sym (ap (λ l. l ++ ls) pushed ∙ append_assoc before (record { kind = kind; text = text; line = line; column = column } ∷ []) ls)) all

-- One reading of a text.

same_columns : {m n : ℕ} → ◌≡◌ {A = End} (end.Semicolon m) (end.Semicolon n) → m ≡ n
same_columns h = cc

semicolon_no_line : {m : ℕ} → ◌≡◌ {A = End} (end.Semicolon m) end.Line → ⊥
semicolon_no_line h = cc

semicolon_no_bad : {m n : ℕ} → ◌≡◌ {A = End} (end.Semicolon m) (end.BadToken n) → ⊥
semicolon_no_bad h = cc

line_no_bad : {n : ℕ} → ◌≡◌ {A = End} end.Line (end.BadToken n) → ⊥
line_no_bad h = cc

same_bad : {m n : ℕ} → ◌≡◌ {A = End} (end.BadToken m) (end.BadToken n) → m ≡ n
same_bad h = cc

lexes_from : (p : Place) {m n : ℕ} {r s : List ℕ} {spans : List Span} → m ≡ n → r ≡ s → Lexes (record p { column = m + 1; rest = r }) spans → Lexes (record p { column = n + 1; rest = s }) spans
lexes_from p {m} {n} {r} {s} {spans} a b h = subst (λ x. Lexes (record p { column = x + 1; rest = s }) spans) a (subst (λ x. Lexes (record p { column = m + 1; rest = x }) spans) b h)

same_spans : (p : Place) {ls ms : List Lexeme} {d e : End} {spans others : List Span} → ls ≡ ms → d ≡ e → spans ≡ others → span_at p ls d ∷ spans ≡ span_at p ms e ∷ others
same_spans p a b c = cc

some_no_more : (l : List ℕ) → 0 < length l → l ≡ [] → ⊥
some_no_more l some none = absurd (omega (arith, ap length none))

pub same_lexes : {p : Place} {spans others : List Span} → Lexes p spans → Lexes p others → spans ≡ others
same_lexes {p} (statement_ends r l) (statement_ends s m) =
    let z = same_reads r s in
    same_spans p z.lexemes z.end (same_lexes l (lexes_from p (sym (same_columns z.end)) (sym z.rest) m))
same_lexes (statement_ends r l) (line_ends s some m) = absurd (semicolon_no_line (same_reads r s).end)
same_lexes (statement_ends r l) (text_ends s none) = absurd (semicolon_no_line (same_reads r s).end)
same_lexes (statement_ends r l) (stops s) = absurd (semicolon_no_bad (same_reads r s).end)
same_lexes (line_ends r some l) (statement_ends s m) = absurd (semicolon_no_line (sym (same_reads r s).end))
same_lexes {p} (line_ends r some l) (line_ends s many m) = same_spans p (same_reads r s).lexemes refl (same_lexes l m)
same_lexes {p} (line_ends r some l) (text_ends s none) = absurd (some_no_more p.after some none)
same_lexes (line_ends r some l) (stops s) = absurd (line_no_bad (same_reads r s).end)
same_lexes (text_ends r none) (statement_ends s m) = absurd (semicolon_no_line (sym (same_reads r s).end))
same_lexes {p} (text_ends r none) (line_ends s some m) = absurd (some_no_more p.after some none)
same_lexes {p} (text_ends r none) (text_ends s nil) = same_spans p (same_reads r s).lexemes refl refl
same_lexes (text_ends r none) (stops s) = absurd (line_no_bad (same_reads r s).end)
same_lexes (stops r) (statement_ends s m) = absurd (semicolon_no_bad (sym (same_reads r s).end))
same_lexes (stops r) (line_ends s some m) = absurd (line_no_bad (sym (same_reads r s).end))
same_lexes (stops r) (text_ends s none) = absurd (line_no_bad (sym (same_reads r s).end))
same_lexes {p} (stops r) (stops s) = let z = same_reads r s in same_spans p z.lexemes z.end refl

-- the last of some segments tells the bad byte
pub last_bad : (ss : List Segment) (i : ℕ) (s : Segment) → length ss ≡ suc i → s ≡ get_or ss i s → bad_byte s.line s.end ≡ first_bad (map span_of ss)
last_bad [] i s size h = absurd (omega arith)
last_bad (x ∷ []) zero s size h = ap (λ (y : Segment). bad_byte y.line y.end) h
last_bad (x ∷ []) (suc i) s size h = absurd (omega arith)
last_bad (x ∷ y ∷ ss) zero s size h = absurd (omega arith)
last_bad (x ∷ y ∷ ss) (suc i) s size h = last_bad (y ∷ ss) i s (omega arith) h

pub no_bad : (line : ℕ) (e : End) → ((x : ℕ) → e ≡ end.BadToken x → ⊥) → None ≡ bad_byte line e
no_bad line end.Line h = refl
no_bad line (end.Semicolon column) h = refl
no_bad line (end.BadToken column) h = absurd (h column refl)
