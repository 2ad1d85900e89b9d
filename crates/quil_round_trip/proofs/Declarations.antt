-- Declarations of memory that were read are printed and read again.
use Rattle.std.proofs.Common.{◌≡◌, ℕ, inl, inr, true, false, ◌||◌, List, [], ◌∷◌, ◌++◌, map, Option, Some, None, refl, sym, ◌∙◌, ap, ap₂, subst, append_assoc, codes}
use Rattle.std.specs.List.{flat_map}
use Rattle.quil_lex.specs.declared.token.Kind.TheVariants as kind
use Rattle.quil_lex.specs.declared.token.Mark.TheVariants as mark
use Rattle.quil_shape.specs.Shape.Shape.{One, Emit, Seq, Many}
use Rattle.quil_shape.specs.Outcome.Outcome.{Made}
use Rattle.quil_shape.specs.Reads.{Reads, starts}
use Rattle.quil_tree.specs.declared.expr.Whole.{Whole}
use Rattle.quil_tree.specs.declared.item.Offset.{Offset}
use Rattle.quil_tree.specs.declared.item.Sharing.{Sharing}
use Rattle.quil_tree.specs.declared.item.Item.TheVariants as item
use Rattle.quil_tree.specs.Printed.{type_text, offset_text, offsets_text, sharing_text}
use Rattle.quil_grammar.specs.declared.sort.Sort.{Sort}
use Rattle.quil_grammar.specs.declared.sort.Sort.TheVariants as sort
use Rattle.quil_grammar.specs.declared.class.Class.TheVariants as class
use Rattle.quil_grammar.specs.Sort.{is_sort, word_sort}
use Rattle.quil_grammar.specs.Token.{Token, Context}
use Rattle.quil_grammar.specs.Grammar.{quil, accepts, name_at, whole_of, is_wide, Event}
use Rattle.quil_grammar.specs.Tables.{tables}
use Rattle.quil_grammar.specs.Grammar.Piece.{Says, Names, Counts}
use Rattle.quil_grammar.specs.Grammar.Event.{Makes}
use Rattle.quil_grammar.specs.Parts.{Part, parts_events}
use Rattle.quil_grammar.specs.Parts.Part.{Made as Maker}
use Rattle.quil_grammar.specs.Statements.{maybe, length, offset, offsets, sharing, declaration}
use Rattle.quil_grammar.proofs.Sorts.{same_sort}
use Rattle.quil_round_trip.specs.Unplaced.{origin, bare_name, bare_sharing, maybe_bare}
use Rattle.quil_statement.specs.Meaning.{type_name_of, offsets_of, sharing_of}
use Rattle.quil_round_trip.proofs.Inversion.{Chain, emit, empty, many}
use Rattle.quil_round_trip.proofs.Words.{Fits, AreFit}
use Rattle.quil_round_trip.proofs.Soundness.{fits_left}
use Rattle.quil_round_trip.proofs.Pieces.{Piece, Anything}
use Rattle.quil_round_trip.proofs.Bare.{bare_part}
use Rattle.quil_round_trip.proofs.Keywords.{Keyword, keyword, either_sort, last_sort}
use Rattle.quil_round_trip.proofs.Chunks.{Chunk, AtEnd, blank, before_anything, with_text, with_events, word, maybe_piece, lacking, first, both, either}
use Rattle.quil_round_trip.proofs.Openings.{word_piece, copy_piece, piece_then, open_piece, Quiet, tight, open_left, many_none, many_more}
use Rattle.quil_round_trip.proofs.Reread.{Reread, head, word_then}
use Rattle.quil_round_trip.proofs.Lines.{copied_name}
use Rattle.quil_round_trip.proofs.Items.{items}

-- ---- types of cells

-- the words of types: each is printed for the type of its sort
bit_word : Keyword sort.Bit (type_text (type_name_of sort.Bit))
unfolding word_sort
bit_word = keyword sort.Bit (codes "BIT") (record { token = refl; one_line = refl }) (λ c. refl)

octet_word : Keyword sort.Octet (type_text (type_name_of sort.Octet))
unfolding word_sort
octet_word = keyword sort.Octet (codes "OCTET") (record { token = refl; one_line = refl }) (λ c. refl)

integer_word : Keyword sort.Integer (type_text (type_name_of sort.Integer))
unfolding word_sort
integer_word = keyword sort.Integer (codes "INTEGER") (record { token = refl; one_line = refl }) (λ c. refl)

real_word : Keyword sort.Real (type_text (type_name_of sort.Real))
unfolding word_sort
real_word = keyword sort.Real (codes "REAL") (record { token = refl; one_line = refl }) (λ c. refl)

abbrev TypeWord : Sort → Type 0
TypeWord s = Keyword s (type_text (type_name_of s))

pub type_word : (s : Sort) → accepts class.CellType s ≡ true → TypeWord s
type_word s h = either_sort TypeWord s sort.Bit (is_sort s sort.Octet || (is_sort s sort.Integer || is_sort s sort.Real)) bit_word (either_sort TypeWord s sort.Octet (is_sort s sort.Integer || is_sort s sort.Real) octet_word (either_sort TypeWord s sort.Integer (is_sort s sort.Real) integer_word (last_sort TypeWord s sort.Real real_word))) h

type_chunk : (c : Context) (s : Sort) → accepts class.CellType s ≡ true → Chunk c (One class.CellType) Anything (blank (type_text (type_name_of s))) (Makes (Says origin class.CellType s) ∷ [])
type_chunk c s h =
    let k = type_word s h in
    with_events (ap (λ u. Makes (Says origin class.CellType u) ∷ []) (k.same c)) (word c class.CellType kind.Name (type_text (type_name_of s)) k.is_token (subst (λ u. accepts class.CellType u ≡ true) (sym (k.same c)) h) (λ us. refl))

-- ---- the length

bracket : (c : Context) → Quiet c class.IndexBegins mark.LeftBracket 91
bracket c = record { token = record { token = refl; one_line = refl }; apart = refl; accepted = refl; small = λ us. refl; silent = refl }

bracket_ends : (c : Context) → Quiet c class.IndexEnds mark.RightBracket 93
bracket_ends c = record { token = record { token = refl; one_line = refl }; apart = refl; accepted = refl; small = λ us. refl; silent = refl }

record ReadLength (c : Context) (os : List Event) : Type 0 where
  pub number : Whole
  pub makes : os ≡ Makes (Counts number) ∷ []
  pub chunk : Chunk c length Anything (codes "[" ++ (number.digits ++ codes "]")) (Makes (Counts number) ∷ [])

in_brackets : (c : Context) (x : List ℕ) → Piece c (One class.Length) Anything x (Makes (Counts (whole_of x)) ∷ []) → Chunk c length Anything (codes "[" ++ (x ++ codes "]")) (Makes (Counts (whole_of x)) ∷ [])
in_brackets c x p = (open_left (Emit (Makes (Counts (whole_of (49 ∷ []))))) (tight (bracket c) (bracket_ends c) p (λ us. tt))).chunk

read_length : (c : Context) (ts us : List Token) (os : List Event) → Reads quil tables length ts (Made os us) → AreFit c ts → ReadLength c os
read_length c ts us os r f =
    elim (either r) [
      | inl i ↦
          let a = both c i f in
          let b = first c a.one f in
          let d = both c a.two a.fits in
          let n = first c d.one a.fits in
          let e = first c d.two d.fits in
          record {
            number = whole_of n.token.text;
            makes = a.makes ∙ ap₂ (λ u v. u ++ v) b.makes (d.makes ∙ ap₂ (λ u v. u ++ v) n.makes e.makes);
            chunk = in_brackets c n.token.text (copy_piece c class.Length n.token n.fits n.accepted (λ vs. n.small));
          }
      | inr i ↦
          record {
            number = whole_of (49 ∷ []);
            makes = (emit quil tables i).0;
            chunk = in_brackets c (49 ∷ []) (word_piece c class.Length kind.Whole (49 ∷ []) (record { token = refl; one_line = refl }) refl (λ vs. refl));
          }
    ]

-- ---- offsets

record ReadOffset (c : Context) : Type 0 where
  pub number : Token
  pub fits : Fits c number
  pub accepted : accepts class.OffsetCount number.sort ≡ true
  pub small : is_wide number ≡ false
  pub type : Token
  pub taken : accepts class.CellType type.sort ≡ true

abbrev offset_parts : {c : Context} → List (ReadOffset c) → List Part
offset_parts [] = []
offset_parts (o ∷ os) = Maker (Counts (whole_of o.number.text)) ∷ Maker (Says o.type.place class.CellType o.type.sort) ∷ offset_parts os

abbrev bare_parts : {c : Context} → List (ReadOffset c) → List Part
bare_parts [] = []
bare_parts (o ∷ os) = Maker (Counts (whole_of o.number.text)) ∷ Maker (Says origin class.CellType o.type.sort) ∷ bare_parts os

abbrev meant : {c : Context} → List (ReadOffset c) → List Offset
meant [] = []
meant (o ∷ os) = record { count = whole_of o.number.text; kind = type_name_of o.type.sort } ∷ meant os

parts_meant : {c : Context} (os : List (ReadOffset c)) → offsets_of (offset_parts os) ≡ meant os
parts_meant [] = refl
parts_meant (o ∷ os) = ap (λ xs. record { count = whole_of o.number.text; kind = type_name_of o.type.sort } ∷ xs) (parts_meant os)

bare_meant : {c : Context} (os : List (ReadOffset c)) → offsets_of (bare_parts os) ≡ meant os
bare_meant [] = refl
bare_meant (o ∷ os) = ap (λ xs. record { count = whole_of o.number.text; kind = type_name_of o.type.sort } ∷ xs) (bare_meant os)

-- without the places
parts_placed : {c : Context} (os : List (ReadOffset c)) → offsets_of (map bare_part (offset_parts os)) ≡ meant os
parts_placed [] = refl
parts_placed (o ∷ os) = ap (λ xs. record { count = whole_of o.number.text; kind = type_name_of o.type.sort } ∷ xs) (parts_placed os)

read_offset : (c : Context) {ts us : List Token} {os : List Event} → Reads quil tables offset ts (Made os us) → AreFit c ts → (o : ReadOffset c) × (os ≡ Makes (Counts (whole_of o.number.text)) ∷ Makes (Says o.type.place class.CellType o.type.sort) ∷ [])
read_offset c r f =
    let b = both c r f in
    let n = first c b.one f in
    let s = first c b.two b.fits in
    (record { number = n.token; fits = n.fits; accepted = n.accepted; small = n.small; type = s.token; taken = s.accepted }, b.makes ∙ ap₂ (λ u v. u ++ v) n.makes s.makes)

read_more : (c : Context) {ts us : List Token} {os : List Event} → Chain quil tables offset ts os us → AreFit c ts → (xs : List (ReadOffset c)) × (os ≡ parts_events (offset_parts xs))
read_more c Chain.done f = ([], refl)
read_more c (Chain.link r q) f =
    let o = read_offset c r f in
    let more = read_more c q (fits_left c r f) in
    (o.0 ∷ more.0, ap₂ (λ u v. u ++ v) o.1 more.1)

offset_piece : (c : Context) (o : ReadOffset c) → Piece c offset Anything (o.number.text ++ blank (type_text (type_name_of o.type.sort))) (Makes (Counts (whole_of o.number.text)) ∷ Makes (Says origin class.CellType o.type.sort) ∷ [])
offset_piece c o = piece_then (copy_piece c class.OffsetCount o.number o.fits o.accepted (λ us. o.small)) (type_chunk c o.type.sort o.taken) (λ us k. tt)

one_offset : (n t more : List ℕ) → blank (n ++ blank t) ++ more ≡ (codes " " ++ n ++ codes " " ++ t) ++ more
one_offset n t more = simp append_assoc refl

none_here : (us : List Token) → us ≡ [] → starts quil tables offset us ≡ false
none_here us e = subst (λ vs. starts quil tables offset vs ≡ false) (sym e) refl

more_offsets : (c : Context) (os : List (ReadOffset c)) → Chunk c (Many offset) AtEnd (flat_map offset_text (meant os)) (parts_events (bare_parts os))
more_offsets c [] = many_none c offset none_here
more_offsets c (o ∷ os) = with_text (one_offset o.number.text (type_text (type_name_of o.type.sort)) (flat_map offset_text (meant os))) (many_more (open_piece (offset_piece c o)) (more_offsets c os) (λ us k. tt))

record ReadOffsets (c : Context) (os : List Event) : Type 0 where
  pub list : List (ReadOffset c)
  pub makes : os ≡ parts_events (offset_parts list)
  pub chunk : Chunk c (maybe offsets) AtEnd (offsets_text (meant list)) (parts_events (bare_parts list))

offsets_chunk : (c : Context) (o : ReadOffset c) (os : List (ReadOffset c)) → Chunk c (maybe offsets) AtEnd (offsets_text (meant (o ∷ os))) (parts_events (bare_parts (o ∷ os)))
unfolding word_sort
offsets_chunk c o os =
    maybe_piece (piece_then (word_piece c class.Offset kind.Name (codes "OFFSET") (record { token = refl; one_line = refl }) refl (λ us. refl))
    (with_text (one_offset o.number.text (type_text (type_name_of o.type.sort)) (flat_map offset_text (meant os))) (before_anything (open_piece (offset_piece c o)).chunk (more_offsets c os))) (λ us k. tt))

read_offsets : (c : Context) (ts : List Token) (os : List Event) → Reads quil tables (maybe offsets) ts (Made os []) → AreFit c ts → ReadOffsets c os
unfolding quil tables
read_offsets c ts os r f =
    elim (either r) [
      | inl i ↦
          let a = both c i f in
          let b = first c a.one f in
          let d = both c a.two a.fits in
          let o = read_offset c d.one a.fits in
          let more = read_more c (many quil tables d.two) d.fits in
          record { list = o.0 ∷ more.0; makes = a.makes ∙ ap₂ (λ u v. u ++ v) b.makes (d.makes ∙ ap₂ (λ u v. u ++ v) o.1 more.1); chunk = offsets_chunk c o.0 more.0 }
      | inr i ↦ record { list = []; makes = (empty quil tables i).0; chunk = lacking c offsets refl }
    ]

-- ---- sharing

record ReadSharing (c : Context) (os : List Event) : Type 0 where
  pub shared : Option Sharing
  pub parts : List Part
  pub makes : os ≡ parts_events parts
  pub means : sharing_of parts ≡ shared
  pub placed : sharing_of (map bare_part parts) ≡ maybe_bare bare_sharing shared
  pub bare_parts : List Part
  pub chunk : Chunk c (maybe sharing) AtEnd (sharing_text shared) (parts_events bare_parts)
  pub bare_means : sharing_of bare_parts ≡ maybe_bare bare_sharing shared

sharing_chunk : (c : Context) (n : Token) (f : Fits c n) → accepts class.Named n.sort ≡ true → (xs : List (ReadOffset c)) → Chunk c (maybe offsets) AtEnd (offsets_text (meant xs)) (parts_events (bare_parts xs)) → Chunk c (maybe sharing) AtEnd (sharing_text (Some (record { base = name_at n; offsets = meant xs }))) (parts_events (Maker (Names (bare_name (name_at n))) ∷ bare_parts xs))
unfolding word_sort
sharing_chunk c n f a xs q =
    maybe_piece (piece_then (word_piece c class.Sharing kind.Name (codes "SHARING") (record { token = refl; one_line = refl }) refl (λ us. refl)) (before_anything (copied_name c class.Named n f a (λ us. refl) refl) q) (λ us k. tt))

read_sharing : (c : Context) (ts : List Token) (os : List Event) → Reads quil tables (maybe sharing) ts (Made os []) → AreFit c ts → ReadSharing c os
unfolding quil tables
read_sharing c ts os r f =
    elim (either r) [
      | inl i ↦
          let a = both c i f in
          let b = first c a.one f in
          let d = both c a.two a.fits in
          let n = first c d.one a.fits in
          let o = read_offsets c d.middle d.second_os d.two d.fits in
          record {
            shared = Some (record { base = name_at n.token; offsets = meant o.list });
            parts = Maker (Names (name_at n.token)) ∷ offset_parts o.list;
            makes = a.makes ∙ ap₂ (λ u v. u ++ v) b.makes (d.makes ∙ ap₂ (λ u v. u ++ v) n.makes o.makes);
            means = ap (λ xs. Some (record { base = name_at n.token; offsets = xs })) (parts_meant o.list);
            placed = ap (λ xs. Some (record { base = bare_name (name_at n.token); offsets = xs })) (parts_placed o.list);
            bare_parts = Maker (Names (bare_name (name_at n.token))) ∷ bare_parts o.list;
            chunk = sharing_chunk c n.token n.fits n.accepted o.list o.chunk;
            bare_means = ap (λ xs. Some (record { base = bare_name (name_at n.token); offsets = xs })) (bare_meant o.list);
          }
      | inr i ↦ record { shared = None; parts = []; makes = (empty quil tables i).0; means = refl; placed = refl; bare_parts = []; chunk = lacking c sharing refl; bare_means = refl }
    ]

-- ---- the declaration

declared_text : (n t d s : List ℕ) → codes "DECLARE" ++ (blank n ++ (blank t ++ ((codes "[" ++ (d ++ codes "]")) ++ s))) ≡ codes "DECLARE " ++ n ++ codes " " ++ t ++ codes "[" ++ d ++ codes "]" ++ s
declared_text n t d s = simp append_assoc refl

pub declaration_again : (c : Context) (t : Token) (ts : List Token) (os : List Event) → AreFit c ts → Reads quil tables declaration (t ∷ ts) (Made os []) → Reread items c declaration t os
unfolding word_sort
declaration_again c t ts os f r =
    let rest = Seq (One class.Named) (Seq (One class.CellType) (Seq length (maybe sharing))) in
    let h = head class.Declare rest t ts os r in
    let a = both c h.reads f in
    let n = first c a.one f in
    let b = both c a.two a.fits in
    let s = first c b.one a.fits in
    let d = both c b.two b.fits in
    let l = read_length c b.middle d.middle d.first_os d.one b.fits in
    let m = read_sharing c d.middle d.second_os d.two d.fits in
    let name = name_at n.token in
    let type = s.token.sort in
    word_then items c class.Declare rest t os
    (item.Declare (record { place = t.place; name = name; kind = type_name_of type; length = l.number; sharing = m.shared }))
    (Maker (Says t.place class.Declare t.sort) ∷ Maker (Names name) ∷ Maker (Says s.token.place class.CellType type) ∷ Maker (Counts l.number) ∷ m.parts)
    (h.makes ∙ ap (λ xs. Makes (Says t.place class.Declare t.sort) ∷ xs) (a.makes ∙ ap₂ (λ u v. u ++ v) n.makes (b.makes ∙ ap₂ (λ u v. u ++ v) s.makes (d.makes ∙ ap₂ (λ u v. u ++ v) l.makes m.makes))))
    (ap (λ x. Some (item.Declare (record { place = t.place; name = name; kind = type_name_of type; length = l.number; sharing = x }))) m.means)
    (ap (λ x. Some (item.Declare (record { place = origin; name = bare_name name; kind = type_name_of type; length = l.number; sharing = x }))) m.placed)
    (codes "DECLARE") _ _
    (Maker (Says origin class.Declare sort.Declare) ∷ Maker (Names (bare_name name)) ∷ Maker (Says origin class.CellType type) ∷ Maker (Counts l.number) ∷ m.bare_parts)
    (record { token = refl; one_line = refl }) (sym (same_sort t.sort sort.Declare h.accepted)) h.accepted (λ us. refl)
    (before_anything (copied_name c class.Named n.token n.fits n.accepted (λ us. refl) refl) (before_anything (type_chunk c type s.accepted) (before_anything l.chunk m.chunk)))
    refl (declared_text name.text (type_text (type_name_of type)) l.number.digits (sharing_text m.shared))
    (ap (λ x. Some (item.Declare (record { place = origin; name = bare_name name; kind = type_name_of type; length = l.number; sharing = x }))) m.bare_means)
