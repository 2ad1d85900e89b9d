-- Choices and repetitions that are printed and read again, and how a reading begins.
use Rattle.std.proofs.Common.{◌≡◌, ℕ, inl, inr, true, false, List, [], ◌∷◌, ◌++◌, refl, sym, ap, subst, codes}
use Rattle.std.proofs.lemmas.Bool.{or_left}
use Rattle.quil_lex.specs.declared.token.Kind.TheVariants as kind
use Rattle.quil_lex.specs.declared.token.Mark.TheVariants as mark
use Rattle.quil_shape.specs.Shape.{Shape}
use Rattle.quil_shape.specs.Shape.Shape.{One, Seq, Or, Many}
use Rattle.quil_shape.specs.Outcome.Outcome.{Made}
use Rattle.quil_shape.specs.Reads.{Reads, starts}
use Rattle.quil_grammar.specs.declared.class.Class.{Class}
use Rattle.quil_grammar.specs.declared.class.Class.TheVariants as class
use Rattle.quil_grammar.specs.declared.sort.Sort.{Sort}
use Rattle.quil_grammar.specs.Token.{Token, Context}
use Rattle.quil_grammar.specs.Grammar.{quil, accepts, Name, Event}
use Rattle.quil_grammar.specs.Tables.{tables}
use Rattle.quil_round_trip.proofs.Inversion.{one, seq}
use Rattle.quil_round_trip.proofs.Words.{toks}
use Rattle.quil_round_trip.proofs.Pieces.{Piece}
use Rattle.quil_round_trip.proofs.Chunks.{Chunk}
use Rattle.quil_round_trip.proofs.Expressions.{word, mark_token}

-- ---- how a reading begins

pub starts_one : {k : Class} {ts us : List Token} {os : List Event} → Reads quil tables (One k) ts (Made os us) → starts quil tables (One k) ts ≡ true
unfolding quil tables
starts_one {k = k} r = let i = one quil tables r in subst (λ xs. starts quil tables (One k) xs ≡ true) (sym i.splits) i.accepted

pub starts_first : {k : Class} {s : Shape Class Event Name} {ts us : List Token} {os : List Event} → Reads quil tables (Seq (One k) s) ts (Made os us) → starts quil tables (One k) ts ≡ true
starts_first r = let i = seq quil tables r in starts_one i.first

starts_sequence : (k : Class) (s : Shape Class Event Name) (ts : List Token) → starts quil tables (One k) ts ≡ true → starts quil tables (Seq (One k) s) ts ≡ true
unfolding quil tables
starts_sequence k s [] e = absurd (cc)
starts_sequence k s (t ∷ ts) e = or_left _ _ e

pub starts_read : {k : Class} {s : Shape Class Event Name} {ts us : List Token} {os : List Event} → Reads quil tables (Seq (One k) s) ts (Made os us) → starts quil tables (Seq (One k) s) ts ≡ true
starts_read {k = k} {s = s} {ts = ts} r = starts_sequence k s ts (starts_first r)

-- a token of the one class is none of the other
pub starts_other : (k j : Class) (ts : List Token) → ((s : Sort) → accepts k s ≡ true → accepts j s ≡ false) → starts quil tables (One k) ts ≡ true → starts quil tables (One j) ts ≡ false
unfolding quil tables
starts_other k j [] h e = refl
starts_other k j (t ∷ ts) h e = h t.sort e

-- ---- repetitions

-- one, and then more of them
pub more_chunk : {c : Context} {a : Shape Class Event Name} {B : List Token → Type 0} {x : List ℕ} {os : List Event} → Chunk c (Seq a (Many a)) B x os → ((ts us : List Token) (ps : List Event) → Reads quil tables a ts (Made ps us) → starts quil tables a ts ≡ true) → Chunk c (Many a) B x os
more_chunk {c = c} {a = a} {os = os} p s =
    record {
      words = p.words;
      apart = p.apart;
      free = p.free;
      text = p.text;
      reads = λ us k. (let i = seq quil tables (p.reads us k) in subst (λ ps. Reads quil tables (Many a) (toks c p.words ++ us) (Made ps us)) (sym i.makes) (Reads.more (s _ _ _ i.first) i.first i.second));
    }

-- ---- choices

pub first_chunk : {c : Context} {a b : Shape Class Event Name} {B : List Token → Type 0} {x : List ℕ} {os : List Event} → Chunk c a B x os → ((ts us : List Token) → Reads quil tables a ts (Made os us) → starts quil tables a ts ≡ true) → Chunk c (Or a b) B x os
first_chunk p s = record { words = p.words; apart = p.apart; free = p.free; text = p.text; reads = λ us k. (let r = p.reads us k in Reads.left (or_left _ _ (s _ _ r)) r) }

pub second_chunk : {c : Context} {a b : Shape Class Event Name} {B : List Token → Type 0} {x : List ℕ} {os : List Event} → Chunk c b B x os → ((ts us : List Token) → Reads quil tables b ts (Made os us) → starts quil tables b ts ≡ true) → Chunk c (Or a b) B x os
second_chunk p s = record { words = p.words; apart = p.apart; free = p.free; text = p.text; reads = λ us k. (let r = p.reads us k in Reads.right (or_left _ _ (s _ _ r)) r) }

-- ---- pieces

-- a piece behind a parenthesis, without a blank
pub parenthesis_then : {c : Context} {s : Shape Class Event Name} {B : List Token → Type 0} {x : List ℕ} {os : List Event} → Piece c s B x os → Chunk c (Seq (One class.ListBegins) s) B (codes "(" ++ x) os
unfolding quil tables
parenthesis_then p =
    record {
      words = word (kind.Mark mark.LeftParenthesis) (40 ∷ []) false ∷ word p.kind p.front false ∷ p.rest;
      apart = (mark_token mark.LeftParenthesis, inr (inl refl), p.apart);
      free = inr refl;
      text = ap (λ z. 40 ∷ z) p.text;
      reads = λ us h. Reads.seq (Reads.one refl refl) (p.reads us h);
    }
