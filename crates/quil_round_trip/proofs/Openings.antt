-- Stretches of a line whose first token opens their shape, so that they may stand in a choice and in a repetition.
use Rattle.std.proofs.Common.{◌≡◌, ℕ, inl, inr, true, false, List, [], ◌∷◌, ◌++◌, refl, sym, ◌∙◌, ap, ap₂, subst, append_assoc, append-nil}
use Rattle.std.proofs.lemmas.Bool.{or_left, or_right}
use Rattle.quil_lex.specs.declared.token.Kind.{Kind}
use Rattle.quil_lex.specs.declared.token.Kind.TheVariants as kind
use Rattle.quil_lex.specs.declared.token.Mark.{Mark}
use Rattle.quil_lex.specs.Token.{begins_more}
use Rattle.quil_lex.specs.Written.{Word, IsLineToken, words_bytes}
use Rattle.quil_shape.specs.Shape.{Shape}
use Rattle.quil_shape.specs.Shape.Shape.{One, Empty, Seq, Or, Many}
use Rattle.quil_shape.specs.Outcome.Outcome.{Made}
use Rattle.quil_shape.specs.Reads.{Reads, starts, is_barred}
use Rattle.quil_grammar.specs.declared.class.Class.{Class}
use Rattle.quil_grammar.specs.Token.{Token, Context}
use Rattle.quil_grammar.specs.Grammar.{quil, accepts, value_of, is_too_large, Name, Event}
use Rattle.quil_grammar.specs.Tables.{tables}
use Rattle.quil_grammar.specs.Statements.{maybe}
use Rattle.quil_round_trip.proofs.Words.{tok, bare, Fits, toks, toks_append, bytes_append, apart_append}
use Rattle.quil_round_trip.proofs.Pieces.{Piece, Anything}
use Rattle.quil_round_trip.proofs.Chunks.{Chunk, blank, free_append, then_chunk, with_events}

-- ---- pieces

-- one word
pub word_piece : (c : Context) (k : Class) (l : Kind) (x : List ℕ) → IsLineToken l x → accepts k (tok c l x).sort ≡ true → ((us : List Token) → is_too_large k (tok c l x) us ≡ false) → Piece c (One k) Anything x (value_of k (tok c l x))
unfolding quil tables
word_piece c k l x h a small = record { kind = l; front = x; rest = []; apart = (h, tt, tt); text = append-nil x; opened = a; reads = λ us b. Reads.one a (small us) }

-- a token that stood in the source
pub copy_piece : (c : Context) (k : Class) (t : Token) (f : Fits c t) → accepts k t.sort ≡ true → ((us : List Token) → is_too_large k (bare t) us ≡ false) → Piece c (One k) Anything t.text (value_of k (bare t))
copy_piece c k t f a small =
    subst (λ u. Piece c (One k) Anything t.text (value_of k u)) (sym f.is)
    (word_piece c k f.kind t.text f.text (subst (λ u. accepts k u.sort ≡ true) f.is a) (λ us. subst (λ u. is_too_large k u us ≡ false) f.is (small us)))

pub piece_events : {c : Context} {s : Shape Class Event Name} {B : List Token → Type 0} {x : List ℕ} {os ps : List Event} → os ≡ ps → Piece c s B x os → Piece c s B x ps
piece_events {c = c} {s = s} {B = B} {x = x} e p = subst (λ z. Piece c s B x z) e p

-- more behind a piece
pub piece_then : {c : Context} {a b : Shape Class Event Name} {A B : List Token → Type 0} {x y : List ℕ} {os ps : List Event} → Piece c a A x os → (q : Chunk c b B y ps) → ((us : List Token) → B us → A (toks c q.words ++ us)) → Piece c (Seq a b) B (x ++ y) (os ++ ps)
unfolding quil tables
piece_then {c = c} {a = a} {b = b} {x = x} {y = y} {os = os} {ps = ps} p q h =
    record {
      kind = p.kind;
      front = p.front;
      rest = p.rest ++ q.words;
      apart = apart_append (record { kind = p.kind; text = p.front; blank = false } ∷ p.rest) q.words p.apart q.apart q.free;
      text = ap (λ z. p.front ++ z) (bytes_append p.rest q.words) ∙ sym (append_assoc p.front (words_bytes p.rest) (words_bytes q.words)) ∙ ap (λ z. z ++ words_bytes q.words) p.text ∙ ap (λ z. x ++ z) q.text;
      opened = or_left _ _ p.opened;
      reads = λ us k. subst (λ ts. Reads quil tables (Seq a b) (tok c p.kind p.front ∷ ts) (Made (os ++ ps) us)) (sym (toks_append c p.rest q.words us)) (Reads.seq (p.reads (toks c q.words ++ us) (h us k)) (q.reads us k));
    }

-- ---- what opens its shape

pub record Opening (c : Context) (s : Shape Class Event Name) (Behind : List Token → Type 0) (x : List ℕ) (os : List Event) : Type 0 where
  pub chunk : Chunk c s Behind x os
  pub opened : (us : List Token) → starts quil tables s (toks c chunk.words ++ us) ≡ true

-- a piece with a blank before it
pub open_piece : {c : Context} {s : Shape Class Event Name} {B : List Token → Type 0} {x : List ℕ} {os : List Event} → Piece c s B x os → Opening c s B (blank x) os
unfolding quil tables
open_piece p =
    record {
      chunk =
          record {
            words = record { kind = p.kind; text = p.front; blank = true } ∷ p.rest;
            apart = (p.apart.0, p.apart.1, p.apart.2);
            free = inl refl;
            text = ap (λ z. 32 ∷ z) p.text;
            reads = p.reads;
          };
      opened = λ us. p.opened;
    }

-- a mark that makes nothing
pub record Quiet (c : Context) (k : Class) (m : Mark) (b : ℕ) : Type 0 where
  pub token : IsLineToken (kind.Mark m) (b ∷ [])
  pub apart : begins_more (b ∷ []) ≡ false
  pub accepted : accepts k (tok c (kind.Mark m) (b ∷ [])).sort ≡ true
  pub small : (us : List Token) → is_too_large k (tok c (kind.Mark m) (b ∷ [])) us ≡ false
  pub silent : value_of k (tok c (kind.Mark m) (b ∷ [])) ≡ []

-- a piece between two such marks, with no blanks
pub tight : {c : Context} {k l : Class} {m n : Mark} {b d : ℕ} {s : Shape Class Event Name} {B : List Token → Type 0} {x : List ℕ} {os : List Event} → Quiet c k m b → Quiet c l n d → Piece c s B x os → ((us : List Token) → B (tok c (kind.Mark n) (d ∷ []) ∷ us)) → Opening c (Seq (One k) (Seq s (One l))) Anything ((b ∷ []) ++ (x ++ (d ∷ []))) os
unfolding quil tables
tight {c = c} {k = k} {l = l} {m = m} {n = n} {b = b} {d = d} {s = s} {x = x} {os = os} o e p h =
    let last : Word = record { kind = kind.Mark n; text = d ∷ []; blank = false } in
    record {
      chunk =
          record {
            words = record { kind = kind.Mark m; text = b ∷ []; blank = false } ∷ record { kind = p.kind; text = p.front; blank = false } ∷ (p.rest ++ (last ∷ []));
            apart = (o.token, inr (inl refl), apart_append (record { kind = p.kind; text = p.front; blank = false } ∷ p.rest) (last ∷ []) p.apart (e.token, tt, tt) (inr e.apart));
            free = inr o.apart;
            text = ap (λ z. b ∷ (p.front ++ z)) (bytes_append p.rest (last ∷ [])) ∙ ap (λ z. b ∷ z) (sym (append_assoc p.front (words_bytes p.rest) (d ∷ []))) ∙ ap (λ z. b ∷ (z ++ (d ∷ []))) p.text;
            reads = λ us k. inner us;
          };
      opened = λ us. or_left _ _ o.accepted;
    }
  where
    made : value_of k (tok c (kind.Mark m) (b ∷ [])) ++ (os ++ value_of l (tok c (kind.Mark n) (d ∷ []))) ≡ os
    made = ap₂ (λ u v. u ++ (os ++ v)) o.silent e.silent ∙ append-nil os

    inner : (us : List Token) → Reads quil tables (Seq (One k) (Seq s (One l))) (tok c (kind.Mark m) (b ∷ []) ∷ (tok c p.kind p.front ∷ (toks c (p.rest ++ (record { kind = kind.Mark n; text = d ∷ []; blank = false } ∷ [])) ++ us))) (Made os us)
    inner us =
        subst (λ ts. Reads quil tables (Seq (One k) (Seq s (One l))) (tok c (kind.Mark m) (b ∷ []) ∷ (tok c p.kind p.front ∷ ts)) (Made os us)) (sym (toks_append c p.rest (record { kind = kind.Mark n; text = d ∷ []; blank = false } ∷ []) us))
        (subst (λ xs. Reads quil tables (Seq (One k) (Seq s (One l))) (tok c (kind.Mark m) (b ∷ []) ∷ (tok c p.kind p.front ∷ (toks c p.rest ++ (tok c (kind.Mark n) (d ∷ []) ∷ us)))) (Made xs us)) made
        (Reads.seq (Reads.one o.accepted (o.small _)) (Reads.seq (p.reads (tok c (kind.Mark n) (d ∷ []) ∷ us) (h us)) (Reads.one e.accepted (e.small us)))))

starts_seq : (a b : Shape Class Event Name) (ts : List Token) → starts quil tables a ts ≡ true → starts quil tables (Seq a b) ts ≡ true
starts_seq a b [] h = h
starts_seq a b (t ∷ ts) h = or_left _ _ h

starts_left : (a b : Shape Class Event Name) (ts : List Token) → starts quil tables a ts ≡ true → starts quil tables (Or a b) ts ≡ true
starts_left a b [] h = h
starts_left a b (t ∷ ts) h = or_left _ _ h

starts_right : (a b : Shape Class Event Name) (ts : List Token) → starts quil tables b ts ≡ true → starts quil tables (Or a b) ts ≡ true
starts_right a b [] h = h
starts_right a b (t ∷ ts) h = or_right _ _ h

pub open_then : {c : Context} {a b : Shape Class Event Name} {A B : List Token → Type 0} {x y : List ℕ} {os ps : List Event} → Opening c a A x os → (q : Chunk c b B y ps) → ((us : List Token) → B us → A (toks c q.words ++ us)) → Opening c (Seq a b) B (x ++ y) (os ++ ps)
open_then {c = c} {a = a} {b = b} {x = x} {y = y} {os = os} {ps = ps} o q h =
    let p = o.chunk in
    record {
      chunk =
          record {
            words = p.words ++ q.words;
            apart = apart_append p.words q.words p.apart q.apart q.free;
            free = free_append p.words q.words p.free q.free;
            text = bytes_append p.words q.words ∙ ap (λ z. z ++ words_bytes q.words) p.text ∙ ap (λ z. x ++ z) q.text;
            reads = λ us k. subst (λ ts. Reads quil tables (Seq a b) ts (Made (os ++ ps) us)) (sym (toks_append c p.words q.words us)) (Reads.seq (p.reads (toks c q.words ++ us) (h us k)) (q.reads us k));
          };
      opened = λ us. subst (λ ts. starts quil tables (Seq a b) ts ≡ true) (sym (toks_append c p.words q.words us)) (starts_seq a b (toks c p.words ++ (toks c q.words ++ us)) (o.opened (toks c q.words ++ us)));
    }

pub open_left : {c : Context} {a : Shape Class Event Name} {B : List Token → Type 0} {x : List ℕ} {os : List Event} (b : Shape Class Event Name) → Opening c a B x os → Opening c (Or a b) B x os
open_left {c = c} {a = a} b o =
    let p = o.chunk in
    record {
      chunk = record { words = p.words; apart = p.apart; free = p.free; text = p.text; reads = λ us k. Reads.left (or_left _ _ (o.opened us)) (p.reads us k) };
      opened = λ us. starts_left a b (toks c p.words ++ us) (o.opened us);
    }

pub open_right : {c : Context} {b : Shape Class Event Name} {B : List Token → Type 0} {x : List ℕ} {os : List Event} (a : Shape Class Event Name) → Opening c b B x os → Opening c (Or a b) B x os
open_right {c = c} {b = b} a o =
    let p = o.chunk in
    record {
      chunk = record { words = p.words; apart = p.apart; free = p.free; text = p.text; reads = λ us k. Reads.right (or_left _ _ (o.opened us)) (p.reads us k) };
      opened = λ us. starts_right a b (toks c p.words ++ us) (o.opened us);
    }

-- ---- repetitions, and what lacks

pub many_none : {B : List Token → Type 0} (c : Context) (a : Shape Class Event Name) → ((us : List Token) → B us → starts quil tables a us ≡ false) → Chunk c (Many a) B [] []
many_none c a h = record { words = []; apart = tt; free = tt; text = refl; reads = λ us k. Reads.none (h us k) }

pub many_more : {c : Context} {a : Shape Class Event Name} {A B : List Token → Type 0} {x y : List ℕ} {os ps : List Event} → Opening c a A x os → (q : Chunk c (Many a) B y ps) → ((us : List Token) → B us → A (toks c q.words ++ us)) → Chunk c (Many a) B (x ++ y) (os ++ ps)
many_more {c = c} {a = a} {x = x} {y = y} {os = os} {ps = ps} o q h =
    let p = o.chunk in
    record {
      words = p.words ++ q.words;
      apart = apart_append p.words q.words p.apart q.apart q.free;
      free = free_append p.words q.words p.free q.free;
      text = bytes_append p.words q.words ∙ ap (λ z. z ++ words_bytes q.words) p.text ∙ ap (λ z. x ++ z) q.text;
      reads = λ us k. subst (λ ts. Reads quil tables (Many a) ts (Made (os ++ ps) us)) (sym (toks_append c p.words q.words us)) (Reads.more (o.opened (toks c q.words ++ us)) (p.reads (toks c q.words ++ us) (h us k)) (q.reads us k));
    }

pub lacks : {B : List Token → Type 0} (c : Context) (s : Shape Class Event Name) → ((us : List Token) → B us → is_barred quil tables s us ≡ true) → Chunk c (maybe s) B [] []
lacks c s h = record { words = []; apart = tt; free = tt; text = refl; reads = λ us k. Reads.right (or_right (starts quil tables Empty us) _ (h us k)) Reads.empty }

-- a mark behind
pub then_mark : {c : Context} {k : Class} {m : Mark} {b : ℕ} {a : Shape Class Event Name} {A : List Token → Type 0} {x : List ℕ} {os : List Event} → Chunk c a A x os → Quiet c k m b → ((us : List Token) → A (tok c (kind.Mark m) (b ∷ []) ∷ us)) → Chunk c (Seq a (One k)) Anything (x ++ (b ∷ [])) os
unfolding quil tables
then_mark {c = c} {k = k} {m = m} {b = b} {os = os} p o h =
    let q : Chunk c (One k) Anything (b ∷ []) (value_of k (tok c (kind.Mark m) (b ∷ []))) =
    record {
      words = record { kind = kind.Mark m; text = b ∷ []; blank = false } ∷ [];
      apart = (o.token, tt, tt);
      free = inr o.apart;
      text = refl;
      reads = λ us i. Reads.one o.accepted (o.small us);
    } in
    with_events (ap (λ z. os ++ z) o.silent ∙ append-nil os) (then_chunk p q (λ us i. h us))
