-- A line that was read, printed and read again where it is printed.
use Rattle.std.proofs.Common.{◌≡◌, ℕ, ◌+◌, true, false, List, [], ◌∷◌, map, length, Some, refl, sym, ◌∙◌, ap, subst}
use Rattle.quil_lex.specs.Reading.{Lexeme}
use Rattle.quil_lex.specs.Written.{Word, AreTokens, AreApart, words_bytes, lexemes_at, token_column}
use Rattle.quil_shape.specs.Shape.{Shape}
use Rattle.quil_shape.specs.Condition.{is_decided_by_one_token}
use Rattle.quil_shape.specs.Outcome.Outcome.{Made}
use Rattle.quil_shape.specs.Reads.{Reads}
use Rattle.quil_shape.specs.Verdict.{IsReading as IsWhole}
use Rattle.quil_grammar.specs.declared.class.Class.{Class}
use Rattle.quil_grammar.specs.Token.{Token, Context, token_in, line_tokens}
use Rattle.quil_grammar.specs.Grammar.{quil, Name, Event}
use Rattle.quil_grammar.specs.Tables.{tables}
use Rattle.quil_grammar.specs.Parts.{Part, parts_events}
use Rattle.quil_grammar.proofs.Parts.{same_parts}
use Rattle.quil_round_trip.proofs.Words.{tok, bare, Fits, AreFit, toks}
use Rattle.quil_round_trip.proofs.Bare.{bare_part, bare_event, parts_bare}
use Rattle.quil_round_trip.proofs.Places.{NoPlace, whole_reads, reads_whole, placed_reads}
use Rattle.quil_round_trip.proofs.Reread.{outer, Sense, Said, Reread}

-- what was made means something that is printed and read again, at no place
pub record IsReread {A : Type 0} (sense : Sense A) (c : Context) (s : Shape Class Event Name) (os : List Event) : Type 0 where
  pub thing : A
  pub parts : List Part
  pub makes : os ≡ parts_events parts
  pub means : sense.meaning parts ≡ Some thing
  pub means_bare : sense.meaning (map bare_part parts) ≡ Some (sense.bare thing)
  pub again : Said c s sense.meaning (sense.text c.parameters thing) (sense.bare thing)

pub is_reread : {A : Type 0} {sense : Sense A} {c : Context} {s : Shape Class Event Name} {t : Token} {os : List Event} → Reread sense c s t os → IsReread sense c s os
is_reread r = record { thing = r.thing; parts = r.parts; makes = r.makes; means = r.means; means_bare = r.means_bare; again = r.again }

-- a line's tokens: the first one is no qubit
abbrev pub LineFits : Context → List Token → Type 0
LineFits c [] = ⊥
LineFits c (t ∷ ts) = Fits (outer c) t × AreFit c ts

-- the tokens of lexemes
lexemes_fit : (c : Context) (ls : List Lexeme) → AreTokens ls → AreFit c (map (token_in c) ls)
lexemes_fit c [] h = tt
lexemes_fit c (l ∷ ls) h = (record { kind = l.kind; text = h.0; is = refl }, lexemes_fit c ls h.1)

pub line_fits : (c : Context) (l : Lexeme) (ls : List Lexeme) → AreTokens (l ∷ ls) → LineFits c (line_tokens c (l ∷ ls))
line_fits c l ls h = (record { kind = l.kind; text = h.0; is = refl }, lexemes_fit c ls h.1)

-- the lexemes of words, where they are written
words_fit : (c : Context) (n column : ℕ) (ws : List Word) → AreApart ws → AreFit c (map (token_in c) (lexemes_at n column ws))
words_fit c n column [] h = tt
words_fit c n column (w ∷ ws) h = (record { kind = w.kind; text = h.0; is = refl }, words_fit c n (token_column column w + length w.text) ws h.2)

words_bare : (c : Context) (n column : ℕ) (ws : List Word) → map bare (map (token_in c) (lexemes_at n column ws)) ≡ toks c ws
words_bare c n column [] = refl
words_bare c n column (w ∷ ws) = ap (λ ts. tok c w.kind w.text ∷ ts) (words_bare c n (token_column column w + length w.text) ws)

-- What is printed of a line, and read there again: the same up to places.
pub record Reprinted {A : Type 0} (sense : Sense A) (c : Context) (s : Shape Class Event Name) (a : A) : Type 0 where
  pub word : Word
  pub words : List Word
  pub no_blank : word.blank ≡ false
  pub apart : AreApart (word ∷ words)
  pub text : words_bytes (word ∷ words) ≡ sense.text c.parameters a
  pub read : (n column : ℕ) → (ps : List Part) × (b : A) × IsWhole quil s (line_tokens c (lexemes_at n column (word ∷ words))) (parts_events ps) × (sense.meaning ps ≡ Some b) × (sense.bare b ≡ sense.bare a)

some_same : {A : Type 0} (a b : A) → Some a ≡ Some b → a ≡ b
some_same a b e = cc

module _ {A : Type 0} (sense : Sense A) (c : Context) (s : Shape Class Event Name) (decided : is_decided_by_one_token quil tables s ≡ true) (no_place : NoPlace s)
    (reread : (ts : List Token) (os : List Event) → LineFits c ts → Reads quil tables s ts (Made os []) → IsReread sense c s os) where
  read_there : (os : List Event) (r : IsReread sense c s os) (n column : ℕ) →
      (ps : List Part) × (b : A) × IsWhole quil s (line_tokens c (lexemes_at n column (record { kind = r.again.kind; text = r.again.front; blank = false } ∷ r.again.rest))) (parts_events ps) × (sense.meaning ps ≡ Some b) × (sense.bare b ≡ sense.bare r.thing)
  read_there os r n column =
      let w : Word = record { kind = r.again.kind; text = r.again.front; blank = false } in
      let ts = line_tokens c (lexemes_at n column (w ∷ r.again.rest)) in
      let rest_bare = words_bare c n (column + length w.text) r.again.rest in
      let all_bare : map bare ts ≡ tok (outer c) w.kind w.text ∷ toks c r.again.rest = ap (λ us. tok (outer c) w.kind w.text ∷ us) rest_bare in
      let placed = placed_reads s decided no_place ts (parts_events r.again.parts) (subst (λ us. Reads quil tables s us (Made (parts_events r.again.parts) [])) (sym all_bare) r.again.reads) in
      let fits : LineFits c ts = (record { kind = w.kind; text = r.again.apart.0; is = refl }, words_fit c n (column + length w.text) r.again.rest r.again.apart.2) in
      let q = reread ts placed.made fits placed.reads in
      let same : map bare_part q.parts ≡ r.again.parts = same_parts (map bare_part q.parts) r.again.parts (sym (parts_bare q.parts) ∙ ap (λ xs. map bare_event xs) (sym q.makes) ∙ placed.same) in
      (q.parts, q.thing, subst (λ xs. IsWhole quil s ts xs) q.makes (reads_whole s decided ts placed.made placed.reads), q.means, some_same (sense.bare q.thing) (sense.bare r.thing) (sym q.means_bare ∙ ap sense.meaning same ∙ r.again.means))

  pub reprinted : (l : Lexeme) (ls : List Lexeme) (ps : List Part) (a : A) → AreTokens (l ∷ ls) → IsWhole quil s (line_tokens c (l ∷ ls)) (parts_events ps) → sense.meaning ps ≡ Some a → Reprinted sense c s a
  reprinted l ls ps a h w m =
      let ts = line_tokens c (l ∷ ls) in
      let r = reread ts (parts_events ps) (line_fits c l ls h) (whole_reads s decided ts (parts_events ps) w) in
      let same : ps ≡ r.parts = same_parts ps r.parts r.makes in
      let thing : r.thing ≡ a = some_same r.thing a (sym r.means ∙ ap sense.meaning (sym same) ∙ m) in
      subst (λ x. Reprinted sense c s x) thing
      (record {
        word = record { kind = r.again.kind; text = r.again.front; blank = false };
        words = r.again.rest;
        no_blank = refl;
        apart = r.again.apart;
        text = r.again.text;
        read = read_there (parts_events ps) r;
      })
