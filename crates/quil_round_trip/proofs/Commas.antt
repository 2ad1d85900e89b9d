-- Lists with commas between their members, and names and numbers that are copied as they stood in the source.
use Rattle.std.proofs.Common.{◌≡◌, ℕ, inl, inr, true, false, List, [], ◌∷◌, ◌++◌, map, refl, sym, ◌∙◌, ap, ap₂, subst, append_assoc, codes}
use Rattle.std.specs.List.{flat_map}
use Rattle.quil_lex.specs.declared.token.Kind.TheVariants as kind
use Rattle.quil_lex.specs.declared.token.Mark.TheVariants as mark
use Rattle.quil_lex.specs.Written.{words_bytes}
use Rattle.quil_shape.specs.Shape.{Shape}
use Rattle.quil_shape.specs.Shape.Shape.{One, Seq, Many}
use Rattle.quil_shape.specs.Outcome.Outcome.{Made}
use Rattle.quil_shape.specs.Reads.{Reads, starts}
use Rattle.quil_tree.specs.Printed.{with_commas}
use Rattle.quil_grammar.specs.declared.class.Class.{Class}
use Rattle.quil_grammar.specs.declared.class.Class.TheVariants as class
use Rattle.quil_grammar.specs.Token.{Token, Context}
use Rattle.quil_grammar.specs.Grammar.{quil, accepts, value_of, Name, Event}
use Rattle.quil_grammar.specs.Tables.{tables}
use Rattle.quil_grammar.specs.Parts.{Part, part_events, parts_events}
use Rattle.quil_statement.specs.Loops.{listed as comma_list}
use Rattle.quil_round_trip.proofs.Inversion.{Chain, many}
use Rattle.quil_round_trip.proofs.Words.{tok, Fits, AreFit, toks, toks_append, bytes_append, apart_append}
use Rattle.quil_round_trip.proofs.Soundness.{fits_left}
use Rattle.quil_round_trip.proofs.Pieces.{Piece}
use Rattle.quil_round_trip.proofs.Chunks.{Chunk, first, both}
use Rattle.quil_round_trip.proofs.Openings.{piece_then}

-- a token of the class, which stood in the source
pub record Copied (c : Context) (k : Class) : Type 0 where
  pub token : Token
  pub fits : Fits c token
  pub accepted : accepts k token.sort ≡ true

pub read_copied : (c : Context) (k : Class) (ts us : List Token) (os : List Event) → Reads quil tables (One k) ts (Made os us) → AreFit c ts → (a : Copied c k) × (os ≡ value_of k a.token)
read_copied c k ts us os r f = let i = first c r f in (record { token = i.token; fits = i.fits; accepted = i.accepted }, i.makes)

-- What is read between commas, is a part, and is printed with such a text and read again as such a part.
pub record Member (c : Context) (s : Shape Class Event Name) (Behind : List Token → Type 0) (A : Type 0) : Type 0 where
  pub part : A → Part
  pub again : A → Part
  pub text : A → List ℕ
  pub read : (ts us : List Token) (os : List Event) → Reads quil tables s ts (Made os us) → AreFit c ts → (a : A) × (os ≡ part_events (part a))
  pub piece : (a : A) → Piece c s Behind (text a) (part_events (again a))
  pub before_comma : (us : List Token) → Behind (tok c (kind.Mark mark.Comma) (44 ∷ []) ∷ us)

-- ---- what was read

pub record Members {c : Context} {s : Shape Class Event Name} {B : List Token → Type 0} {A : Type 0} (m : Member c s B A) (os : List Event) : Type 0 where
  pub front : A
  pub rest : List A
  pub makes : os ≡ parts_events (map m.part (front ∷ rest))

more_members : {c : Context} {s : Shape Class Event Name} {B : List Token → Type 0} {A : Type 0} (m : Member c s B A) {ts us : List Token} {os : List Event} → Chain quil tables (Seq (One class.Comma) s) ts os us → AreFit c ts → (xs : List A) × (os ≡ parts_events (map m.part xs))
more_members m Chain.done f = ([], refl)
more_members {c = c} m (Chain.link r q) f =
    let b = both c r f in
    let comma = first c b.one f in
    let x = m.read b.middle _ b.second_os b.two b.fits in
    let more = more_members m q (fits_left c r f) in
    (x.0 ∷ more.0, ap₂ (λ u v. u ++ v) (b.makes ∙ ap₂ (λ u v. u ++ v) comma.makes x.1) more.1)

pub read_members : {c : Context} {s : Shape Class Event Name} {B : List Token → Type 0} {A : Type 0} (m : Member c s B A) (ts us : List Token) (os : List Event) → Reads quil tables (comma_list s) ts (Made os us) → AreFit c ts → Members m os
read_members {c = c} m ts us os r f =
    let b = both c r f in
    let x = m.read ts b.middle b.first_os b.one f in
    let more = more_members m (many quil tables b.two) b.fits in
    record { front = x.0; rest = more.0; makes = b.makes ∙ ap₂ (λ u v. u ++ v) x.1 more.1 }

-- ---- what is printed

-- behind the list there is no comma
abbrev pub NoComma : (List Token → Type 0) → List Token → Type 0
NoComma B us = B us × (starts quil tables (One class.Comma) us ≡ false)

pub record Tail (c : Context) (s : Shape Class Event Name) (B : List Token → Type 0) (x : List ℕ) (os : List Event) : Type 0 where
  pub chunk : Chunk c (Many (Seq (One class.Comma) s)) (NoComma B) x os
  pub leads : (us : List Token) → NoComma B us → B (toks c chunk.words ++ us)

no_more : (s : Shape Class Event Name) (us : List Token) → starts quil tables (One class.Comma) us ≡ false → starts quil tables (Seq (One class.Comma) s) us ≡ false
unfolding quil tables
no_more s [] h = refl
no_more s (t ∷ us) h = rw h refl

one_more : {c : Context} {s : Shape Class Event Name} {B : List Token → Type 0} {x y : List ℕ} {os ps : List Event} → ((us : List Token) → B (tok c (kind.Mark mark.Comma) (44 ∷ []) ∷ us)) → Piece c s B x os → Tail c s B y ps → Tail c s B ((codes ", " ++ x) ++ y) (os ++ ps)
unfolding quil tables
one_more {c = c} {s = s} {B = B} {x = x} {y = y} {os = os} {ps = ps} ok p t =
    let q = t.chunk in
    record {
      chunk =
          record {
            words = record { kind = kind.Mark mark.Comma; text = 44 ∷ []; blank = false } ∷ record { kind = p.kind; text = p.front; blank = true } ∷ (p.rest ++ q.words);
            apart = (record { token = refl; one_line = refl }, inl refl, apart_append (record { kind = p.kind; text = p.front; blank = true } ∷ p.rest) q.words (p.apart.0, p.apart.1, p.apart.2) q.apart q.free);
            free = inr refl;
            text = ap (λ z. 44 ∷ (32 ∷ (p.front ++ z))) (bytes_append p.rest q.words) ∙ ap (λ z. 44 ∷ (32 ∷ z)) (sym (append_assoc p.front (words_bytes p.rest) (words_bytes q.words))) ∙ ap₂ (λ u v. 44 ∷ (32 ∷ (u ++ v))) p.text q.text;
            reads = λ us k. inner us k;
          };
      leads = λ us k. ok _;
    }
  where
    inner : (us : List Token) → NoComma B us → Reads quil tables (Many (Seq (One class.Comma) s)) (tok c (kind.Mark mark.Comma) (44 ∷ []) ∷ (tok c p.kind p.front ∷ (toks c (p.rest ++ t.chunk.words) ++ us))) (Made (os ++ ps) us)
    inner us k =
        subst (λ ts. Reads quil tables (Many (Seq (One class.Comma) s)) (tok c (kind.Mark mark.Comma) (44 ∷ []) ∷ (tok c p.kind p.front ∷ ts)) (Made (os ++ ps) us)) (sym (toks_append c p.rest t.chunk.words us))
        (Reads.more refl (Reads.seq (Reads.one refl refl) (p.reads (toks c t.chunk.words ++ us) (t.leads us k))) (t.chunk.reads us k))

tail : {c : Context} {s : Shape Class Event Name} {B : List Token → Type 0} {A : Type 0} (m : Member c s B A) (xs : List A) → Tail c s B (flat_map (λ y. codes ", " ++ y) (map m.text xs)) (parts_events (map m.again xs))
tail {c = c} {s = s} m [] = record { chunk = record { words = []; apart = tt; free = tt; text = refl; reads = λ us k. Reads.none (no_more s us k.1) }; leads = λ us k. k.0 }
tail m (a ∷ xs) = one_more m.before_comma (m.piece a) (tail m xs)

pub members_piece : {c : Context} {s : Shape Class Event Name} {B : List Token → Type 0} {A : Type 0} (m : Member c s B A) (a : A) (xs : List A) → Piece c (comma_list s) (NoComma B) (with_commas (map m.text (a ∷ xs))) (parts_events (map m.again (a ∷ xs)))
members_piece m a xs = let t = tail m xs in piece_then (m.piece a) t.chunk t.leads
