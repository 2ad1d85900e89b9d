-- Stretches of a line that are printed behind its first word, and read again.
use Rattle.std.proofs.Common.{◌≡◌, ℕ, ◌⊎◌, inl, inr, true, false, List, [], ◌∷◌, ◌++◌, refl, sym, ◌∙◌, ap, subst, append-nil}
use Rattle.std.proofs.lemmas.Bool.{or_left, or_right}
use Rattle.quil_lex.specs.declared.token.Kind.{Kind}
use Rattle.quil_lex.specs.declared.token.Kind.TheVariants as kind
use Rattle.quil_lex.specs.declared.token.Mark.{Mark}
use Rattle.quil_lex.specs.Token.{begins_more}
use Rattle.quil_lex.specs.Written.{Word, IsLineToken, AreApart, words_bytes}
use Rattle.quil_shape.specs.Shape.{Shape}
use Rattle.quil_shape.specs.Shape.Shape.{One, Empty, Seq, Or}
use Rattle.quil_shape.specs.Outcome.Outcome.{Made}
use Rattle.quil_shape.specs.Reads.{Reads, starts, is_barred}
use Rattle.quil_grammar.specs.declared.class.Class.{Class}
use Rattle.quil_grammar.specs.Token.{Token, Context}
use Rattle.quil_grammar.specs.Grammar.{quil, accepts, value_of, is_too_large, Name, Event}
use Rattle.quil_grammar.specs.Tables.{tables}
use Rattle.quil_grammar.specs.Statements.{maybe}
use Rattle.quil_round_trip.proofs.Inversion.{one, seq, or}
use Rattle.quil_round_trip.proofs.Words.{tok, bare, Fits, AreFit, toks, IsFree, toks_append, bytes_append, apart_append}
use Rattle.quil_round_trip.proofs.Pieces.{Piece, Anything}
use Rattle.quil_round_trip.proofs.Soundness.{fits_left}

-- The words of a text, told from whatever stands before them and from one another; before tokens of which `Behind` holds they
-- are read as the shape, and that makes these things.
pub record Chunk (c : Context) (s : Shape Class Event Name) (Behind : List Token → Type 0) (x : List ℕ) (os : List Event) : Type 0 where
  pub words : List Word
  pub apart : AreApart words
  pub free : IsFree words
  pub text : words_bytes words ≡ x
  pub reads : (us : List Token) → Behind us → Reads quil tables s (toks c words ++ us) (Made os us)

-- nothing behind
abbrev pub AtEnd : List Token → Type 0
AtEnd us = us ≡ []

abbrev pub blank : List ℕ → List ℕ
blank x = 32 ∷ x

pub free_append : (ws vs : List Word) → IsFree ws → IsFree vs → IsFree (ws ++ vs)
free_append [] vs p q = q
free_append (w ∷ ws) vs p q = p

pub then_chunk : {c : Context} {a b : Shape Class Event Name} {A B : List Token → Type 0} {x y : List ℕ} {os ps : List Event} → Chunk c a A x os → (q : Chunk c b B y ps) → ((us : List Token) → B us → A (toks c q.words ++ us)) → Chunk c (Seq a b) B (x ++ y) (os ++ ps)
then_chunk {c = c} {a = a} {b = b} {x = x} {y = y} {os = os} {ps = ps} p q h =
    record {
      words = p.words ++ q.words;
      apart = apart_append p.words q.words p.apart q.apart q.free;
      free = free_append p.words q.words p.free q.free;
      text = bytes_append p.words q.words ∙ ap (λ z. z ++ words_bytes q.words) p.text ∙ ap (λ z. x ++ z) q.text;
      reads = λ us k. subst (λ ts. Reads quil tables (Seq a b) ts (Made (os ++ ps) us)) (sym (toks_append c p.words q.words us)) (Reads.seq (p.reads (toks c q.words ++ us) (h us k)) (q.reads us k));
    }

pub before_anything : {c : Context} {a b : Shape Class Event Name} {B : List Token → Type 0} {x y : List ℕ} {os ps : List Event} → Chunk c a Anything x os → Chunk c b B y ps → Chunk c (Seq a b) B (x ++ y) (os ++ ps)
before_anything p q = then_chunk p q (λ us k. tt)

pub with_text : {c : Context} {s : Shape Class Event Name} {B : List Token → Type 0} {x y : List ℕ} {os : List Event} → x ≡ y → Chunk c s B x os → Chunk c s B y os
with_text {c = c} {s = s} {B = B} {os = os} e p = subst (λ z. Chunk c s B z os) e p

pub with_events : {c : Context} {s : Shape Class Event Name} {B : List Token → Type 0} {x : List ℕ} {os ps : List Event} → os ≡ ps → Chunk c s B x os → Chunk c s B x ps
with_events {c = c} {s = s} {B = B} {x = x} e p = subst (λ z. Chunk c s B x z) e p

-- before less
pub before : {c : Context} {s : Shape Class Event Name} {A B : List Token → Type 0} {x : List ℕ} {os : List Event} → ((us : List Token) → B us → A us) → Chunk c s A x os → Chunk c s B x os
before h p = record { words = p.words; apart = p.apart; free = p.free; text = p.text; reads = λ us k. p.reads us (h us k) }

-- one word
pub word : (c : Context) (k : Class) (l : Kind) (x : List ℕ) → IsLineToken l x → accepts k (tok c l x).sort ≡ true → ((us : List Token) → is_too_large k (tok c l x) us ≡ false) → Chunk c (One k) Anything (blank x) (value_of k (tok c l x))
unfolding quil tables
word c k l x h a small =
    record {
      words = record { kind = l; text = x; blank = true } ∷ [];
      apart = (h, tt, tt);
      free = inl refl;
      text = append-nil (32 ∷ x);
      reads = λ us b. Reads.one a (small us);
    }

-- a mark before which no blank stands
pub mark : (c : Context) (k : Class) (m : Mark) (b : ℕ) → IsLineToken (kind.Mark m) (b ∷ []) → begins_more (b ∷ []) ≡ false → accepts k (tok c (kind.Mark m) (b ∷ [])).sort ≡ true → ((us : List Token) → is_too_large k (tok c (kind.Mark m) (b ∷ [])) us ≡ false) → Chunk c (One k) Anything (b ∷ []) (value_of k (tok c (kind.Mark m) (b ∷ [])))
unfolding quil tables
mark c k m b h n a small =
    record {
      words = record { kind = kind.Mark m; text = b ∷ []; blank = false } ∷ [];
      apart = (h, tt, tt);
      free = inr n;
      text = refl;
      reads = λ us i. Reads.one a (small us);
    }

-- a token that stood in the source, with a blank before it
pub copy : (c : Context) (k : Class) (t : Token) (f : Fits c t) → accepts k t.sort ≡ true → ((us : List Token) → is_too_large k (bare t) us ≡ false) → Chunk c (One k) Anything (blank t.text) (value_of k (bare t))
copy c k t f a small =
    subst (λ u. Chunk c (One k) Anything (blank t.text) (value_of k u)) (sym f.is)
    (word c k f.kind t.text f.text (subst (λ u. accepts k u.sort ≡ true) f.is a) (λ us. subst (λ u. is_too_large k u us ≡ false) f.is (small us)))

-- a piece with a blank before it
pub of_piece : {c : Context} {s : Shape Class Event Name} {B : List Token → Type 0} {x : List ℕ} {os : List Event} → Piece c s B x os → Chunk c s B (blank x) os
of_piece p =
    record {
      words = record { kind = p.kind; text = p.front; blank = true } ∷ p.rest;
      apart = (p.apart.0, p.apart.1, p.apart.2);
      free = inl refl;
      text = ap (λ z. 32 ∷ z) p.text;
      reads = p.reads;
    }

-- a piece that may lack
pub maybe_piece : {c : Context} {s : Shape Class Event Name} {B : List Token → Type 0} {x : List ℕ} {os : List Event} → Piece c s B x os → Chunk c (maybe s) B (blank x) os
unfolding quil tables
maybe_piece p =
    record {
      words = record { kind = p.kind; text = p.front; blank = true } ∷ p.rest;
      apart = (p.apart.0, p.apart.1, p.apart.2);
      free = inl refl;
      text = ap (λ z. 32 ∷ z) p.text;
      reads = λ us h. Reads.left (or_left _ _ p.opened) (p.reads us h);
    }

pub lacking : (c : Context) (s : Shape Class Event Name) → is_barred quil tables s [] ≡ true → Chunk c (maybe s) AtEnd [] []
lacking c s h = record { words = []; apart = tt; free = tt; text = refl; reads = λ us e. subst (λ vs. Reads quil tables (maybe s) vs (Made [] vs)) (sym e) (Reads.right (or_right (starts quil tables Empty []) _ h) Reads.empty) }

-- nothing
pub nothing : (c : Context) → Chunk c Empty Anything [] []
nothing c = record { words = []; apart = tt; free = tt; text = refl; reads = λ us b. Reads.empty }

-- ---- what was read

-- the first token, and what is left behind it
pub record First (c : Context) (k : Class) (ts : List Token) (os : List Event) (us : List Token) : Type 0 where
  pub token : Token
  pub fits : Fits c token
  pub rest : AreFit c us
  pub accepted : accepts k token.sort ≡ true
  pub small : is_too_large k token us ≡ false
  pub makes : os ≡ value_of k token

pub first : (c : Context) {k : Class} {ts us : List Token} {os : List Event} → Reads quil tables (One k) ts (Made os us) → AreFit c ts → First c k ts os us
unfolding quil tables
first c {k} {ts} {us} {os} r f =
    let i = one quil tables r in
    let g : AreFit c (i.token ∷ us) = subst (λ xs. AreFit c xs) i.splits f in
    record { token = i.token; fits = g.0; rest = g.1; accepted = i.accepted; small = i.small; makes = i.makes }

pub record Both (c : Context) (a b : Shape Class Event Name) (ts : List Token) (os : List Event) (us : List Token) : Type 0 where
  pub middle : List Token
  pub first_os : List Event
  pub second_os : List Event
  pub one : Reads quil tables a ts (Made first_os middle)
  pub two : Reads quil tables b middle (Made second_os us)
  pub fits : AreFit c middle
  pub makes : os ≡ first_os ++ second_os

pub both : (c : Context) {a b : Shape Class Event Name} {ts us : List Token} {os : List Event} → Reads quil tables (Seq a b) ts (Made os us) → AreFit c ts → Both c a b ts os us
both c r f =
    let i = seq quil tables r in
    record { middle = i.middle; first_os = i.first_os; second_os = i.second_os; one = i.first; two = i.second; fits = fits_left c i.first f; makes = i.makes }

pub either : {a b : Shape Class Event Name} {ts us : List Token} {os : List Event} → Reads quil tables (Or a b) ts (Made os us) → (Reads quil tables a ts (Made os us)) ⊎ (Reads quil tables b ts (Made os us))
either r = or quil tables r
