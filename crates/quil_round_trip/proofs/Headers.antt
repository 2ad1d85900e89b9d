-- The headers of definitions that were read are printed and read again.
use Rattle.std.proofs.Common.{◌≡◌, ℕ, inl, inr, Bool, true, false, ◌||◌, List, [], ◌∷◌, ◌++◌, map, Some, refl, sym, ◌∙◌, ap, ap₂, subst, append_assoc, append-nil, codes}
use Rattle.std.specs.Prelude.{filter_map}
use Rattle.std.specs.List.{flat_map}
use Rattle.quil_lex.specs.declared.token.Kind.TheVariants as kind
use Rattle.quil_lex.specs.declared.token.Mark.TheVariants as mark
use Rattle.quil_shape.specs.Shape.{Shape}
use Rattle.quil_shape.specs.Shape.Shape.{One, Empty, Seq, Many}
use Rattle.quil_shape.specs.Outcome.Outcome.{Made}
use Rattle.quil_shape.specs.Reads.{Reads, starts, is_barred}
use Rattle.quil_tree.specs.declared.statement.Name.{Name as Called}
use Rattle.quil_tree.specs.declared.item.Form.{Form}
use Rattle.quil_tree.specs.declared.item.Form.TheVariants as form
use Rattle.quil_tree.specs.declared.item.Item.TheVariants as item
use Rattle.quil_tree.specs.Names.{texts_of}
use Rattle.quil_tree.specs.Printed.{with_commas, listed, form_text}
use Rattle.quil_grammar.specs.declared.sort.Sort.TheVariants as sort
use Rattle.quil_grammar.specs.declared.class.Class.{Class}
use Rattle.quil_grammar.specs.declared.class.Class.TheVariants as class
use Rattle.quil_grammar.specs.Sort.{is_sort, is_name, word_sort}
use Rattle.quil_grammar.specs.Token.{Token, Context}
use Rattle.quil_grammar.specs.Grammar.{quil, accepts, name_at, Name, Event}
use Rattle.quil_grammar.specs.Tables.{tables}
use Rattle.quil_grammar.specs.Grammar.Piece.{Says, Names, Takes}
use Rattle.quil_grammar.specs.Grammar.Event.{Makes}
use Rattle.quil_grammar.specs.Parts.{Part, part_events, parts_events}
use Rattle.quil_grammar.specs.Parts.Part.{Made as Maker}
use Rattle.quil_grammar.specs.Statements.{maybe, formals, matrix_form, any_form, gate_shape, gate_header, circuit_header}
use Rattle.quil_grammar.proofs.Sorts.{same_sort}
use Rattle.quil_round_trip.specs.Unplaced.{origin, bare_name, bare_form}
use Rattle.quil_statement.specs.Meaning.{taken_of, name_of, gate_form}
use Rattle.quil_statement.proofs.Sequences.{parts_append}
use Rattle.quil_round_trip.proofs.Inversion.{Chain, one, seq, empty, many}
use Rattle.quil_round_trip.proofs.Words.{Fits, AreFit, sort_class}
use Rattle.quil_round_trip.proofs.Values.{name_class}
use Rattle.quil_round_trip.proofs.Soundness.{fits_left}
use Rattle.quil_round_trip.proofs.Pieces.{Anything}
use Rattle.quil_round_trip.proofs.Bare.{bare_part}
use Rattle.quil_round_trip.proofs.Chunks.{Chunk, AtEnd, blank, then_chunk, before_anything, before, with_events, first, both, either}
use Rattle.quil_round_trip.proofs.Openings.{word_piece, copy_piece, piece_then, Opening, open_piece, open_then, Quiet, tight, open_left, open_right, many_none, many_more, lacks, then_mark}
use Rattle.quil_round_trip.proofs.Commas.{Copied, read_copied, Member, read_members, members_piece}
use Rattle.quil_round_trip.proofs.Reread.{Reread, head, word_then}
use Rattle.quil_round_trip.proofs.Lines.{copied_name}
use Rattle.quil_round_trip.proofs.Items.{items}

-- ---- parameters that a definition takes

abbrev Taken : Context → Type 0
Taken c = Copied c class.TakenParameter

abbrev called : {c : Context} {k : Class} → Copied c k → Called
called a = name_at a.token

abbrev takes : (c : Context) → Member c (One class.TakenParameter) Anything (Taken c)
takes c =
    record {
      part = λ a. Maker (Takes (called a));
      again = λ a. Maker (Takes (bare_name (called a)));
      text = λ a. a.token.text;
      read = λ ts us os r f. read_copied c class.TakenParameter ts us os r f;
      piece = λ a. copy_piece c class.TakenParameter a.token a.fits a.accepted (λ us. refl);
      before_comma = λ us. tt;
    }

pub parenthesis : (c : Context) → Quiet c class.ListBegins mark.LeftParenthesis 40
parenthesis c = record { token = record { token = refl; one_line = refl }; apart = refl; accepted = refl; small = λ us. refl; silent = refl }

pub parenthesis_ends : (c : Context) → Quiet c class.ListEnds mark.RightParenthesis 41
parenthesis_ends c = record { token = record { token = refl; one_line = refl }; apart = refl; accepted = refl; small = λ us. refl; silent = refl }

pub colon : (c : Context) → Quiet c class.Colon mark.Colon 58
colon c = record { token = record { token = refl; one_line = refl }; apart = refl; accepted = refl; small = λ us. refl; silent = refl }

texts_are : {c : Context} (xs : List (Taken c)) → map (λ a. a.token.text) xs ≡ texts_of (map (λ a. called a) xs)
texts_are [] = refl
texts_are (x ∷ xs) = ap (λ ys. x.token.text ∷ ys) (texts_are xs)

record ReadFormals (c : Context) (os : List Event) : Type 0 where
  pub front : Taken c
  pub rest : List (Taken c)
  pub makes : os ≡ parts_events (map (λ a. Maker (Takes (called a))) (front ∷ rest))
  pub opening : Opening c formals Anything (listed (texts_of (map (λ a. called a) (front ∷ rest)))) (parts_events (map (λ a. Maker (Takes (bare_name (called a)))) (front ∷ rest)))

enclosed_list : (xs : List (List ℕ)) (x : List ℕ) → codes "(" ++ (with_commas (x ∷ xs) ++ codes ")") ≡ listed (x ∷ xs)
enclosed_list xs x = sym (append_assoc (codes "(") (with_commas (x ∷ xs)) (codes ")"))

pub opening_text : {c : Context} {s : Shape Class Event Name} {B : List Token → Type 0} {x y : List ℕ} {os : List Event} → x ≡ y → Opening c s B x os → Opening c s B y os
opening_text {c = c} {s = s} {B = B} {os = os} e p = subst (λ z. Opening c s B z os) e p

formals_opening : (c : Context) (a : Taken c) (xs : List (Taken c)) → Opening c formals Anything (listed (texts_of (map (λ a. called a) (a ∷ xs)))) (parts_events (map (λ a. Maker (Takes (bare_name (called a)))) (a ∷ xs)))
unfolding quil tables
formals_opening c a xs =
    opening_text (ap (λ ys. codes "(" ++ (with_commas (a.token.text ∷ ys) ++ codes ")")) (texts_are xs) ∙ enclosed_list (texts_of (map (λ b. called b) xs)) a.token.text)
    (tight (parenthesis c) (parenthesis_ends c) (members_piece (takes c) a xs) (λ us. (tt, refl)))

read_formals : (c : Context) (ts us : List Token) (os : List Event) → Reads quil tables formals ts (Made os us) → AreFit c ts → ReadFormals c os
read_formals c ts us os r f =
    let a = both c r f in
    let b = first c a.one f in
    let d = both c a.two a.fits in
    let m = read_members (takes c) a.middle d.middle d.first_os d.one a.fits in
    let e = first c d.two d.fits in
    record {
      front = m.front;
      rest = m.rest;
      makes = a.makes ∙ ap₂ (λ u v. u ++ v) b.makes (d.makes ∙ ap₂ (λ u v. u ++ v) m.makes e.makes) ∙ append-nil (parts_events (map (λ a. Maker (Takes (called a))) (m.front ∷ m.rest)));
      opening = formals_opening c m.front m.rest;
    }

-- what is taken
taken_names : {c : Context} (xs : List (Taken c)) → filter_map taken_of (map (λ a. Maker (Takes (called a))) xs) ≡ map (λ a. called a) xs
taken_names [] = refl
taken_names (x ∷ xs) = ap (λ ys. called x ∷ ys) (taken_names xs)

taken_bare : {c : Context} (xs : List (Taken c)) → filter_map taken_of (map (λ a. Maker (Takes (bare_name (called a)))) xs) ≡ map bare_name (map (λ a. called a) xs)
taken_bare [] = refl
taken_bare (x ∷ xs) = ap (λ ys. bare_name (called x) ∷ ys) (taken_bare xs)

-- without the places
takes_placed : {c : Context} (xs : List (Taken c)) → map bare_part (map (λ a. Maker (Takes (called a))) xs) ≡ map (λ a. Maker (Takes (bare_name (called a)))) xs
takes_placed [] = refl
takes_placed (x ∷ xs) = ap (λ ys. Maker (Takes (bare_name (called x))) ∷ ys) (takes_placed xs)

-- ---- what stands in the header of a gate

-- a colon comes next
abbrev AtColon : List Token → Type 0
AtColon us = starts quil tables (One class.Colon) us ≡ true

record ReadShape (c : Context) (os : List Event) : Type 0 where
  pub names : List Called
  pub kind : Form
  pub parts : List Part
  pub makes : os ≡ parts_events parts
  pub taken : filter_map taken_of parts ≡ names
  pub formed : gate_form parts ≡ kind
  pub placed_taken : filter_map taken_of (map bare_part parts) ≡ map bare_name names
  pub placed_formed : gate_form (map bare_part parts) ≡ bare_form kind
  pub bare_parts : List Part
  pub bare_taken : filter_map taken_of bare_parts ≡ map bare_name names
  pub bare_formed : gate_form bare_parts ≡ bare_form kind
  pub chunk : Chunk c gate_shape AtColon (listed (texts_of names) ++ form_text kind) (parts_events bare_parts)

no_form : (us : List Token) → AtColon us → is_barred quil tables matrix_form us ≡ true
unfolding quil tables
no_form [] h = refl
no_form (t ∷ us) h = rw (same_sort t.sort sort.Colon h) refl

no_any_form : (us : List Token) → AtColon us → is_barred quil tables any_form us ≡ true
unfolding quil tables
no_any_form [] h = refl
no_any_form (t ∷ us) h = rw (same_sort t.sort sort.Colon h) refl

no_shape : (us : List Token) → AtColon us → is_barred quil tables (Seq formals (maybe matrix_form)) us ≡ true
unfolding quil tables
no_shape [] h = refl
no_shape (t ∷ us) h = rw (same_sort t.sort sort.Colon h) refl

nothing_shape : (c : Context) → Chunk c gate_shape AtColon [] []
nothing_shape c = record { words = []; apart = tt; free = tt; text = refl; reads = λ us k. Reads.right (or_later (starts quil tables (maybe any_form) us) _ (no_shape us k)) (Reads.right (or_later (starts quil tables Empty us) _ (no_any_form us k)) Reads.empty) }
  where
    or_later : (a b : Bool) → b ≡ true → (a || b) ≡ true
    or_later true b h = refl
    or_later false b h = h

plain_shape : (c : Context) (os : List Event) → os ≡ [] → ReadShape c os
plain_shape c os e = record { names = []; kind = form.Matrix []; parts = []; makes = e; taken = refl; formed = refl; placed_taken = refl; placed_formed = refl; bare_parts = []; bare_taken = refl; bare_formed = refl; chunk = nothing_shape c }

permutation_chunk : (c : Context) → Chunk c gate_shape AtColon (codes " AS PERMUTATION") (Makes (Says origin class.Permutation sort.Permutation) ∷ [])
unfolding quil tables word_sort
permutation_chunk c =
    before (λ us k. tt)
    (open_right (Seq formals (maybe matrix_form)) (open_left Empty (open_piece
    (piece_then (word_piece c class.As kind.Name (codes "AS") (record { token = refl; one_line = refl }) refl (λ us. refl))
    (open_right (One class.Matrix) (open_left (One class.LeftOutForm) (open_piece (word_piece c class.Permutation kind.Name (codes "PERMUTATION") (record { token = refl; one_line = refl }) refl (λ us. refl))))).chunk (λ us k. tt))))).chunk

permutation_shape : (c : Context) (t : Token) (os : List Event) → os ≡ Makes (Says t.place class.Permutation t.sort) ∷ [] → ReadShape c os
permutation_shape c t os e =
    record {
      names = [];
      kind = form.Permutation [];
      parts = Maker (Says t.place class.Permutation t.sort) ∷ [];
      makes = e;
      taken = refl;
      formed = refl;
      placed_taken = refl;
      placed_formed = refl;
      bare_parts = Maker (Says origin class.Permutation sort.Permutation) ∷ [];
      bare_taken = refl;
      bare_formed = refl;
      chunk = permutation_chunk c;
    }

no_left_out : (c : Context) (ts us : List Token) (os : List Event) → Reads quil tables (One class.LeftOutForm) ts (Made os us) → AreFit c ts → ⊥
no_left_out c ts us os r f = absurd_of (first c r f).small
  where
    absurd_of : true ≡ false → ⊥
    absurd_of e = absurd (cc)

formals_shape : (c : Context) (os ps : List Event) (m : ReadFormals c ps) → os ≡ ps → ReadShape c os
formals_shape c os ps m e =
    record {
      names = map (λ a. called a) (m.front ∷ m.rest);
      kind = form.Matrix [];
      parts = map (λ a. Maker (Takes (called a))) (m.front ∷ m.rest);
      makes = e ∙ m.makes;
      taken = taken_names (m.front ∷ m.rest);
      formed = refl;
      placed_taken = ap (λ ps. filter_map taken_of ps) (takes_placed (m.front ∷ m.rest)) ∙ taken_bare (m.front ∷ m.rest);
      placed_formed = refl;
      bare_parts = map (λ a. Maker (Takes (bare_name (called a)))) (m.front ∷ m.rest);
      bare_taken = taken_bare (m.front ∷ m.rest);
      bare_formed = refl;
      chunk = with_events (append-nil _) ((open_left (maybe any_form) (open_then m.opening (lacks c matrix_form no_form) (λ us k. tt))).chunk);
    }

read_matrix_form : (c : Context) (ts us : List Token) (os : List Event) → Reads quil tables (maybe matrix_form) ts (Made os us) → AreFit c ts → os ≡ []
read_matrix_form c ts us os r f =
    elim (either r) [
      | inl i ↦
          let a = both c i f in
          let b = first c a.one f in
          elim (either a.two) [
            | inl j ↦ a.makes ∙ ap₂ (λ u v. u ++ v) b.makes (first c j a.fits).makes
            | inr j ↦ absurd (no_left_out c a.middle us a.second_os j a.fits)
          ]
      | inr i ↦ (empty quil tables i).0
    ]

read_any_form : (c : Context) (ts us : List Token) (os : List Event) → Reads quil tables (maybe any_form) ts (Made os us) → AreFit c ts → ReadShape c os
read_any_form c ts us os r f =
    elim (either r) [
      | inl i ↦
          let a = both c i f in
          let b = first c a.one f in
          elim (either a.two) [
            | inl j ↦ plain_shape c os (a.makes ∙ ap₂ (λ u v. u ++ v) b.makes (first c j a.fits).makes)
            | inr j ↦
                elim (either j) [
                  | inl k ↦ let p = first c k a.fits in permutation_shape c p.token os (a.makes ∙ ap₂ (λ u v. u ++ v) b.makes p.makes)
                  | inr k ↦ absurd (no_left_out c a.middle us a.second_os k a.fits)
                ]
          ]
      | inr i ↦ plain_shape c os (empty quil tables i).0
    ]

read_shape : (c : Context) (ts us : List Token) (os : List Event) → Reads quil tables gate_shape ts (Made os us) → AreFit c ts → ReadShape c os
read_shape c ts us os r f =
    elim (either r) [
      | inl i ↦
          let a = both c i f in
          let m = read_formals c ts a.middle a.first_os a.one f in
          let e = read_matrix_form c a.middle us a.second_os a.two a.fits in
          formals_shape c os a.first_os m (a.makes ∙ ap (λ u. a.first_os ++ u) e ∙ append-nil a.first_os)
      | inr i ↦ read_any_form c ts us os i f
    ]

-- ---- gates

gate_text_is : (n p f : List ℕ) → codes "DEFGATE" ++ (blank n ++ ((p ++ f) ++ codes ":")) ≡ codes "DEFGATE " ++ n ++ p ++ f ++ codes ":"
gate_text_is n p f = simp append_assoc refl

pub gate_header_again : (c : Context) (t : Token) (ts : List Token) (os : List Event) → AreFit c ts → Reads quil tables gate_header (t ∷ ts) (Made os []) → Reread items c gate_header t os
unfolding quil tables word_sort
gate_header_again c t ts os f r =
    let rest = Seq (One class.Named) (Seq gate_shape (One class.Colon)) in
    let h = head class.DefGate rest t ts os r in
    let a = both c h.reads f in
    let n = first c a.one f in
    let b = both c a.two a.fits in
    let s = read_shape c a.middle b.middle b.first_os b.one a.fits in
    let e = first c b.two b.fits in
    let name = name_at n.token in
    word_then items c class.DefGate rest t os
    (item.DefGate (record { place = t.place; name = name; parameters = s.names; form = s.kind }))
    (Maker (Says t.place class.DefGate t.sort) ∷ Maker (Names name) ∷ s.parts)
    (h.makes ∙ ap (λ xs. Makes (Says t.place class.DefGate t.sort) ∷ xs) (a.makes ∙ ap₂ (λ u v. u ++ v) n.makes (b.makes ∙ ap₂ (λ u v. u ++ v) s.makes e.makes ∙ append-nil (parts_events s.parts))))
    (ap₂ (λ x y. Some (item.DefGate (record { place = t.place; name = name; parameters = x; form = y }))) s.taken s.formed)
    (ap₂ (λ x y. Some (item.DefGate (record { place = origin; name = bare_name name; parameters = x; form = y }))) s.placed_taken s.placed_formed)
    (codes "DEFGATE") _ _
    (Maker (Says origin class.DefGate sort.DefGate) ∷ Maker (Names (bare_name name)) ∷ s.bare_parts)
    (record { token = refl; one_line = refl }) (sym (same_sort t.sort sort.DefGate h.accepted)) h.accepted (λ us. refl)
    (before (λ us k. tt) (before_anything (copied_name c class.Named n.token n.fits n.accepted (λ us. refl) refl) (then_mark s.chunk (colon c) (λ us. refl))))
    refl (gate_text_is name.text (listed (texts_of s.names)) (form_text s.kind))
    (ap₂ (λ x y. Some (item.DefGate (record { place = origin; name = bare_name name; parameters = x; form = y }))) s.bare_taken s.bare_formed)

-- ---- circuits

abbrev takes_parts : {c : Context} → List (Taken c) → List Part
takes_parts xs = map (λ a. Maker (Takes (called a))) xs

abbrev takes_bare : {c : Context} → List (Taken c) → List Part
takes_bare xs = map (λ a. Maker (Takes (bare_name (called a)))) xs

abbrev names_parts : {c : Context} → List (Copied c class.Named) → List Part
names_parts xs = map (λ a. Maker (Names (called a))) xs

abbrev names_bare : {c : Context} → List (Copied c class.Named) → List Part
names_bare xs = map (λ a. Maker (Names (bare_name (called a)))) xs

-- parameters and then names, told apart
untaken : {c : Context} (xs : List (Copied c class.Named)) → filter_map taken_of (names_parts xs) ≡ []
untaken [] = refl
untaken (x ∷ xs) = untaken xs

untaken_bare : {c : Context} (xs : List (Copied c class.Named)) → filter_map taken_of (names_bare xs) ≡ []
untaken_bare [] = refl
untaken_bare (x ∷ xs) = untaken_bare xs

all_named : {c : Context} (xs : List (Copied c class.Named)) → filter_map name_of (names_parts xs) ≡ map (λ a. called a) xs
all_named [] = refl
all_named (x ∷ xs) = ap (λ ys. called x ∷ ys) (all_named xs)

all_named_bare : {c : Context} (xs : List (Copied c class.Named)) → filter_map name_of (names_bare xs) ≡ map bare_name (map (λ a. called a) xs)
all_named_bare [] = refl
all_named_bare (x ∷ xs) = ap (λ ys. bare_name (called x) ∷ ys) (all_named_bare xs)

both_taken : {c : Context} (xs : List (Taken c)) (ys : List (Copied c class.Named)) → filter_map taken_of (takes_parts xs ++ names_parts ys) ≡ map (λ a. called a) xs
both_taken [] ys = untaken ys
both_taken (x ∷ xs) ys = ap (λ zs. called x ∷ zs) (both_taken xs ys)

both_taken_bare : {c : Context} (xs : List (Taken c)) (ys : List (Copied c class.Named)) → filter_map taken_of (takes_bare xs ++ names_bare ys) ≡ map bare_name (map (λ a. called a) xs)
both_taken_bare [] ys = untaken_bare ys
both_taken_bare (x ∷ xs) ys = ap (λ zs. bare_name (called x) ∷ zs) (both_taken_bare xs ys)

both_named : {c : Context} (xs : List (Taken c)) (ys : List (Copied c class.Named)) → filter_map name_of (takes_parts xs ++ names_parts ys) ≡ map (λ a. called a) ys
both_named [] ys = all_named ys
both_named (x ∷ xs) ys = both_named xs ys

both_named_bare : {c : Context} (xs : List (Taken c)) (ys : List (Copied c class.Named)) → filter_map name_of (takes_bare xs ++ names_bare ys) ≡ map bare_name (map (λ a. called a) ys)
both_named_bare [] ys = all_named_bare ys
both_named_bare (x ∷ xs) ys = both_named_bare xs ys

-- without the places
names_placed : {c : Context} (ys : List (Copied c class.Named)) → map bare_part (names_parts ys) ≡ names_bare ys
names_placed [] = refl
names_placed (y ∷ ys) = ap (λ zs. Maker (Names (bare_name (called y))) ∷ zs) (names_placed ys)

both_placed : {c : Context} (xs : List (Taken c)) (ys : List (Copied c class.Named)) → map bare_part (takes_parts xs ++ names_parts ys) ≡ takes_bare xs ++ names_bare ys
both_placed [] ys = names_placed ys
both_placed (x ∷ xs) ys = ap (λ zs. Maker (Takes (bare_name (called x))) ∷ zs) (both_placed xs ys)

-- no parenthesis begins a list
abbrev NoList : List Token → Type 0
NoList us = is_barred quil tables formals us ≡ true

no_number : (n : ℕ) → n ≡ 0 → n ≡ 7 → ⊥
no_number n p q = absurd (cc)

name_begins_none : (t : Token) (us : List Token) → is_name t.sort ≡ true → NoList (t ∷ us)
unfolding quil tables
name_begins_none t us h = by (is_sort t.sort sort.LeftParenthesis) refl
  where
    by : (b : Bool) → is_sort t.sort sort.LeftParenthesis ≡ b → NoList (t ∷ us)
    by true e = absurd (no_number (sort_class t.sort) (name_class t.sort h) (ap sort_class (same_sort t.sort sort.LeftParenthesis e)))
    by false e = rw e refl

colon_begins_none : (t : Token) (us : List Token) → accepts class.Colon t.sort ≡ true → NoList (t ∷ us)
unfolding quil tables
colon_begins_none t us h = rw (same_sort t.sort sort.Colon h) refl

no_list : {ts mid us : List Token} {os ps : List Event} → Chain quil tables (One class.Named) ts os mid → Reads quil tables (One class.Colon) mid (Made ps us) → NoList ts
unfolding quil tables
no_list {us = us} Chain.done r = let i = one quil tables r in subst NoList (sym i.splits) (colon_begins_none i.token us i.accepted)
no_list (Chain.link {us = vs} r q) s = let i = one quil tables r in subst NoList (sym i.splits) (name_begins_none i.token vs i.accepted)

names_then_colon : {ts us : List Token} {os : List Event} → Reads quil tables (Seq (Many (One class.Named)) (One class.Colon)) ts (Made os us) → NoList ts
names_then_colon r = let i = seq quil tables r in no_list (many quil tables i.first) i.second

record ReadMaybeFormals (c : Context) (os : List Event) : Type 0 where
  pub list : List (Taken c)
  pub makes : os ≡ parts_events (takes_parts list)
  pub chunk : Chunk c (maybe formals) NoList (listed (texts_of (map (λ a. called a) list))) (parts_events (takes_bare list))

read_maybe_formals : (c : Context) (ts us : List Token) (os : List Event) → Reads quil tables (maybe formals) ts (Made os us) → AreFit c ts → ReadMaybeFormals c os
read_maybe_formals c ts us os r f =
    elim (either r) [
      | inl i ↦ let m = read_formals c ts us os i f in record { list = m.front ∷ m.rest; makes = m.makes; chunk = before (λ vs k. tt) (open_left Empty m.opening).chunk }
      | inr i ↦ record { list = []; makes = (empty quil tables i).0; chunk = lacks c formals (λ vs k. k) }
    ]

read_names : (c : Context) {ts us : List Token} {os : List Event} → Chain quil tables (One class.Named) ts os us → AreFit c ts → (xs : List (Copied c class.Named)) × (os ≡ parts_events (names_parts xs))
read_names c Chain.done f = ([], refl)
read_names c (Chain.link {ts = ts} {us = us} {os = os} r q) f =
    let x = read_copied c class.Named ts us os r f in
    let more = read_names c q (fits_left c r f) in
    (x.0 ∷ more.0, ap₂ (λ u v. u ++ v) x.1 more.1)

no_name : (us : List Token) → AtColon us → starts quil tables (One class.Named) us ≡ false
unfolding quil tables
no_name [] h = refl
no_name (t ∷ us) h = rw (same_sort t.sort sort.Colon h) refl

names_chunk : (c : Context) (xs : List (Copied c class.Named)) → Chunk c (Many (One class.Named)) AtColon (flat_map (λ q. codes " " ++ q.text) (map (λ a. called a) xs)) (parts_events (names_bare xs))
names_chunk c [] = many_none c (One class.Named) no_name
names_chunk c (x ∷ xs) = many_more (open_piece (copy_piece c class.Named x.token x.fits x.accepted (λ us. refl))) (names_chunk c xs) (λ us k. tt)

circuit_text_is : (n p q : List ℕ) → codes "DEFCIRCUIT" ++ (blank n ++ (p ++ (q ++ codes ":"))) ≡ codes "DEFCIRCUIT " ++ n ++ p ++ q ++ codes ":"
circuit_text_is n p q = simp append_assoc refl

behind_circuit : (c : Context) (n : Token) (f : Fits c n) → accepts class.Named n.sort ≡ true → {x y : List ℕ} {os ps : List Event} → Chunk c (maybe formals) NoList x os → Chunk c (Many (One class.Named)) AtColon y ps
    → Chunk c (Seq (One class.Named) (Seq (maybe formals) (Seq (Many (One class.Named)) (One class.Colon)))) AtEnd (blank n.text ++ (x ++ (y ++ codes ":"))) ((Makes (Names (bare_name (name_at n))) ∷ []) ++ (os ++ ps))
unfolding quil tables
behind_circuit c n f a p q =
    let r = then_mark q (colon c) (λ us. refl) in
    before (λ us k. tt) (before_anything (copied_name c class.Named n f a (λ us. refl) refl) (then_chunk p r (λ us k. names_then_colon (r.reads us k))))

pub circuit_header_again : (c : Context) (t : Token) (ts : List Token) (os : List Event) → AreFit c ts → Reads quil tables circuit_header (t ∷ ts) (Made os []) → Reread items c circuit_header t os
unfolding word_sort
circuit_header_again c t ts os f r =
    let rest = Seq (One class.Named) (Seq (maybe formals) (Seq (Many (One class.Named)) (One class.Colon))) in
    let h = head class.DefCircuit rest t ts os r in
    let a = both c h.reads f in
    let n = first c a.one f in
    let b = both c a.two a.fits in
    let p = read_maybe_formals c a.middle b.middle b.first_os b.one a.fits in
    let d = both c b.two b.fits in
    let q = read_names c (many quil tables d.one) b.fits in
    let e = first c d.two d.fits in
    let name = name_at n.token in
    word_then items c class.DefCircuit rest t os
    (item.DefCircuit (record { place = t.place; name = name; parameters = map (λ x. called x) p.list; qubits = map (λ x. called x) q.0; body = [] }))
    (Maker (Says t.place class.DefCircuit t.sort) ∷ Maker (Names name) ∷ (takes_parts p.list ++ names_parts q.0))
    (h.makes ∙ ap (λ xs. Makes (Says t.place class.DefCircuit t.sort) ∷ xs)
    (a.makes ∙ ap₂ (λ u v. u ++ v) n.makes (b.makes ∙ ap₂ (λ u v. u ++ v) p.makes (d.makes ∙ ap₂ (λ u v. u ++ v) q.1 e.makes ∙ append-nil (parts_events (names_parts q.0))) ∙ sym (parts_append (takes_parts p.list) (names_parts q.0)))))
    (ap₂ (λ x y. Some (item.DefCircuit (record { place = t.place; name = name; parameters = x; qubits = y; body = [] }))) (both_taken p.list q.0) (both_named p.list q.0))
    (ap₂ (λ x y. Some (item.DefCircuit (record { place = origin; name = bare_name name; parameters = x; qubits = y; body = [] })))
    (ap (λ ps. filter_map taken_of ps) (both_placed p.list q.0) ∙ both_taken_bare p.list q.0) (ap (λ ps. filter_map name_of ps) (both_placed p.list q.0) ∙ both_named_bare p.list q.0))
    (codes "DEFCIRCUIT") _ _
    (Maker (Says origin class.DefCircuit sort.DefCircuit) ∷ Maker (Names (bare_name name)) ∷ (takes_bare p.list ++ names_bare q.0))
    (record { token = refl; one_line = refl }) (sym (same_sort t.sort sort.DefCircuit h.accepted)) h.accepted (λ us. refl)
    (behind_circuit c n.token n.fits n.accepted p.chunk (names_chunk c q.0))
    (ap (λ xs. Makes (Says origin class.DefCircuit sort.DefCircuit) ∷ Makes (Names (bare_name name)) ∷ xs) (sym (parts_append (takes_bare p.list) (names_bare q.0))))
    (circuit_text_is name.text (listed (texts_of (map (λ x. called x) p.list))) (flat_map (λ x. codes " " ++ x.text) (map (λ x. called x) q.0)))
    (ap₂ (λ x y. Some (item.DefCircuit (record { place = origin; name = bare_name name; parameters = x; qubits = y; body = [] }))) (both_taken_bare p.list q.0) (both_named_bare p.list q.0))
