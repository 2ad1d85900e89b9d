-- Lines that were read are printed and read again: what holds of all of them.
use Rattle.std.proofs.Common.{◌≡◌, ℕ, true, false, ◌||◌, List, [], ◌∷◌, ◌++◌, map, Option, Some, refl, sym, ◌∙◌, ap, subst, append-nil}
use Rattle.quil_lex.specs.declared.token.Kind.{Kind}
use Rattle.quil_lex.specs.declared.token.Kind.TheVariants as kind
use Rattle.quil_lex.specs.Written.{Word, IsLineToken, AreApart, words_bytes}
use Rattle.quil_shape.specs.Shape.{Shape}
use Rattle.quil_shape.specs.Shape.Shape.{One, Seq, Or}
use Rattle.quil_shape.specs.Outcome.Outcome.{Made}
use Rattle.quil_shape.specs.Reads.{Reads, starts, is_barred}
use Rattle.quil_grammar.specs.declared.class.Class.{Class}
use Rattle.quil_grammar.specs.Token.{Token, Context}
use Rattle.quil_grammar.specs.Grammar.{quil, accepts, value_of, is_too_large, Name, Event}
use Rattle.quil_grammar.specs.Tables.{tables}
use Rattle.quil_grammar.specs.Parts.{Part, parts_events}
use Rattle.quil_round_trip.proofs.Inversion.{one, seq}
use Rattle.quil_round_trip.proofs.Words.{tok, toks, free_behind}
use Rattle.quil_round_trip.proofs.Bare.{bare_part}
use Rattle.quil_round_trip.proofs.Chunks.{Chunk, AtEnd}

-- the names at the first token of a line, which is no qubit
abbrev pub outer : Context → Context
outer c = record { parameters = c.parameters; qubits = [] }

-- A first word, and more behind it, are written so and are read as this: a statement, an item.
pub record Said {A : Type 0} (c : Context) (s : Shape Class Event Name) (meaning : List Part → Option A) (x : List ℕ) (a : A) : Type 0 where
  pub kind : Kind
  pub front : List ℕ
  pub rest : List Word
  pub apart : AreApart (record { kind = kind; text = front; blank = false } ∷ rest)
  pub text : front ++ words_bytes rest ≡ x
  pub parts : List Part
  pub reads : Reads quil tables s (tok (outer c) kind front ∷ toks c rest) (Made (parts_events parts) [])
  pub means : meaning parts ≡ Some a

-- how what stands in a line is told by its parts, what it is without its places, and its text
pub record Sense (A : Type 0) : Type 1 where
  pub meaning : List Part → Option A
  pub bare : A → A
  pub text : List (List ℕ) → A → List ℕ

-- what was made means something that is printed and read again
pub record Reread {A : Type 0} (sense : Sense A) (c : Context) (s : Shape Class Event Name) (t : Token) (os : List Event) : Type 0 where
  pub thing : A
  pub parts : List Part
  pub makes : os ≡ parts_events parts
  pub means : sense.meaning parts ≡ Some thing
  pub means_bare : sense.meaning (map bare_part parts) ≡ Some (sense.bare thing)
  pub again : Said c s sense.meaning (sense.text c.parameters thing) (sense.bare thing)
  pub same : (tok (outer c) again.kind again.front).sort ≡ t.sort

-- ---- the first word

pub record Head (k : Class) (tail : Shape Class Event Name) (t : Token) (ts : List Token) (os : List Event) : Type 0 where
  pub accepted : accepts k t.sort ≡ true
  pub tail_os : List Event
  pub reads : Reads quil tables tail ts (Made tail_os [])
  pub makes : os ≡ value_of k t ++ tail_os

pub head : (k : Class) (tail : Shape Class Event Name) (t : Token) (ts : List Token) (os : List Event) → Reads quil tables (Seq (One k) tail) (t ∷ ts) (Made os []) → Head k tail t ts os
unfolding quil tables
head k tail t ts os r =
    let i = seq quil tables r in
    let j = one quil tables i.first in
    let first_token : t ≡ j.token = cc in
    let behind : i.middle ≡ ts = cc in
    record {
      accepted = subst (λ u. accepts k u.sort ≡ true) (sym first_token) j.accepted;
      tail_os = i.second_os;
      reads = subst (λ us. Reads quil tables tail us (Made i.second_os [])) behind i.second;
      makes = i.makes ∙ ap (λ xs. xs ++ i.second_os) (j.makes ∙ ap (λ u. value_of k u) (sym first_token));
    }

-- What was read, `thing`, begins with a word; the word is printed as `x`, and what stands behind it as `y`; reading these makes `qs`.
pub word_then : {A : Type 0} (sense : Sense A) (c : Context) (k : Class) (tail : Shape Class Event Name) (t : Token) (os : List Event) (thing : A) (parts : List Part) → os ≡ parts_events parts → sense.meaning parts ≡ Some thing → sense.meaning (map bare_part parts) ≡ Some (sense.bare thing)
    → (x y : List ℕ) (ps : List Event) (qs : List Part) → IsLineToken kind.Name x → (tok (outer c) kind.Name x).sort ≡ t.sort → accepts k t.sort ≡ true → ((us : List Token) → is_too_large k (tok (outer c) kind.Name x) us ≡ false)
    → Chunk c tail AtEnd y ps → value_of k (tok (outer c) kind.Name x) ++ ps ≡ parts_events qs → x ++ y ≡ sense.text c.parameters thing → sense.meaning qs ≡ Some (sense.bare thing) → Reread sense c (Seq (One k) tail) t os
unfolding quil tables
word_then sense c k tail t os thing parts m n nb x y ps qs h same a small chunk e f g =
    record {
      thing = thing;
      parts = parts;
      makes = m;
      means = n;
      means_bare = nb;
      again =
          record {
            kind = kind.Name;
            front = x;
            rest = chunk.words;
            apart = (h, free_behind (record { kind = kind.Name; text = x; blank = false }) chunk.words chunk.free, chunk.apart);
            text = ap (λ z. x ++ z) chunk.text ∙ f;
            parts = qs;
            reads =
                let tail_reads : Reads quil tables tail (toks c chunk.words) (Made ps []) = subst (λ us. Reads quil tables tail us (Made ps [])) (append-nil (toks c chunk.words)) (chunk.reads [] refl) in
                subst (λ os. Reads quil tables (Seq (One k) tail) (tok (outer c) kind.Name x ∷ toks c chunk.words) (Made os [])) e (Reads.seq (Reads.one (subst (λ s. accepts k s ≡ true) (sym same) a) (small (toks c chunk.words))) tail_reads);
            means = g;
          };
      same = same;
    }

-- a word alone
pub word_alone : {A : Type 0} (sense : Sense A) (c : Context) (k : Class) (t : Token) (os : List Event) (thing : A) (parts : List Part) → os ≡ parts_events parts → sense.meaning parts ≡ Some thing → sense.meaning (map bare_part parts) ≡ Some (sense.bare thing)
    → (x : List ℕ) (qs : List Part) → IsLineToken kind.Name x → (tok (outer c) kind.Name x).sort ≡ t.sort → accepts k t.sort ≡ true → is_too_large k (tok (outer c) kind.Name x) [] ≡ false
    → value_of k (tok (outer c) kind.Name x) ≡ parts_events qs → x ≡ sense.text c.parameters thing → sense.meaning qs ≡ Some (sense.bare thing) → Reread sense c (One k) t os
unfolding quil tables
word_alone sense c k t os thing parts m n nb x qs h same a small e f g =
    record {
      thing = thing;
      parts = parts;
      makes = m;
      means = n;
      means_bare = nb;
      again =
          record {
            kind = kind.Name;
            front = x;
            rest = [];
            apart = (h, tt, tt);
            text = append-nil x ∙ f;
            parts = qs;
            reads = subst (λ os. Reads quil tables (One k) (tok (outer c) kind.Name x ∷ []) (Made os [])) e (Reads.one (subst (λ s. accepts k s ≡ true) (sym same) a) small);
            means = g;
          };
      same = same;
    }

-- the choice that was taken is taken again
pub reread_left : {A : Type 0} (sense : Sense A) (c : Context) (a b : Shape Class Event Name) (t : Token) (ts : List Token) (os : List Event) → (starts quil tables a (t ∷ ts) || is_barred quil tables b (t ∷ ts)) ≡ true → Reread sense c a t os → Reread sense c (Or a b) t os
unfolding quil tables
reread_left sense c a b t ts os h r =
    let s = r.again in
    record {
      thing = r.thing;
      parts = r.parts;
      makes = r.makes;
      means = r.means;
      means_bare = r.means_bare;
      again =
          record {
            kind = s.kind;
            front = s.front;
            rest = s.rest;
            apart = s.apart;
            text = s.text;
            parts = s.parts;
            reads = Reads.left (taken (tok (outer c) s.kind s.front) (toks c s.rest) r.same) s.reads;
            means = s.means;
          };
      same = r.same;
    }
  where
    taken : (u : Token) (us : List Token) → u.sort ≡ t.sort → (starts quil tables a (u ∷ us) || is_barred quil tables b (u ∷ us)) ≡ true
    taken u us e = rw e h

pub reread_right : {A : Type 0} (sense : Sense A) (c : Context) (a b : Shape Class Event Name) (t : Token) (ts : List Token) (os : List Event) → (starts quil tables b (t ∷ ts) || is_barred quil tables a (t ∷ ts)) ≡ true → Reread sense c b t os → Reread sense c (Or a b) t os
unfolding quil tables
reread_right sense c a b t ts os h r =
    let s = r.again in
    record {
      thing = r.thing;
      parts = r.parts;
      makes = r.makes;
      means = r.means;
      means_bare = r.means_bare;
      again =
          record {
            kind = s.kind;
            front = s.front;
            rest = s.rest;
            apart = s.apart;
            text = s.text;
            parts = s.parts;
            reads = Reads.right (taken (tok (outer c) s.kind s.front) (toks c s.rest) r.same) s.reads;
            means = s.means;
          };
      same = r.same;
    }
  where
    taken : (u : Token) (us : List Token) → u.sort ≡ t.sort → (starts quil tables b (u ∷ us) || is_barred quil tables a (u ∷ us)) ≡ true
    taken u us e = rw e h
