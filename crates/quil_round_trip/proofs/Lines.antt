-- Statements that were read are printed and read again.
use Rattle.std.proofs.Common.{◌≡◌, ℕ, inl, inr, Bool, true, false, List, [], ◌∷◌, ◌++◌, map, Option, Some, None, refl, sym, ◌∙◌, ap, ap₂, subst, append_assoc, append-nil, codes, if◌then◌else◌}
use Rattle.std.proofs.lemmas.Bool.{or_left}
use Rattle.quil_lex.specs.declared.token.Kind.TheVariants as kind
use Rattle.quil_shape.specs.Shape.Shape.{One, Seq}
use Rattle.quil_shape.specs.Outcome.Outcome.{Made}
use Rattle.quil_shape.specs.Reads.{Reads, starts}
use Rattle.quil_tree.specs.declared.place.Place.{Place}
use Rattle.quil_tree.specs.declared.statement.Reference.{Reference}
use Rattle.quil_tree.specs.declared.statement.Qubit.{Qubit}
use Rattle.quil_tree.specs.declared.statement.Qubit.TheVariants as qubit
use Rattle.quil_tree.specs.declared.statement.Operand.{Operand}
use Rattle.quil_tree.specs.declared.statement.Statement.{Statement}
use Rattle.quil_tree.specs.declared.statement.Statement.TheVariants as statement
use Rattle.quil_tree.specs.declared.statement.Line.{Line}
use Rattle.quil_tree.specs.Printed.{qubit_text, reference_text, operand_text, maybe_reference, maybe_qubit as maybe_qubit_text, statement_text}
use Rattle.quil_grammar.specs.declared.sort.Sort.{Sort}
use Rattle.quil_grammar.specs.declared.sort.Sort.TheVariants as sort
use Rattle.quil_grammar.specs.declared.class.Class.{Class}
use Rattle.quil_grammar.specs.declared.class.Class.TheVariants as class
use Rattle.quil_grammar.specs.Sort.{is_sort, word_sort}
use Rattle.quil_grammar.specs.Token.{Token, Context}
use Rattle.quil_grammar.specs.Grammar.{quil, accepts, value_of, said, name_at, qubit_at, whole_of, is_too_large, Event}
use Rattle.quil_grammar.specs.Tables.{tables}
use Rattle.quil_grammar.specs.Grammar.Piece.{Says, Names, Acts}
use Rattle.quil_grammar.specs.Grammar.Event.{Makes}
use Rattle.quil_grammar.specs.Parts.{Part, parts_events}
use Rattle.quil_grammar.specs.Parts.Part.{Made as Maker, Value}
use Rattle.quil_grammar.specs.Written.{Written, events, cell_events, operand_of}
use Rattle.quil_grammar.specs.Statements.{address, operand as operand_shape, maybe, measure, reset, label, jump_if, unary, pair, binary, load, store, compare}
use Rattle.quil_grammar.proofs.Sorts.{same_sort}
use Rattle.quil_round_trip.specs.Unplaced.{origin, bare_name, bare_reference, bare_qubit, bare_operand, bare_line, maybe_bare}
use Rattle.quil_statement.specs.Says.{maybe_cell, maybe_qubit}
use Rattle.quil_statement.specs.Meaning.{cell, line_of, bare_of, label_of, jump_of, unary_of, pair_of, binary_of, compare_of}
use Rattle.quil_round_trip.proofs.Inversion.{empty}
use Rattle.quil_round_trip.proofs.Words.{tok, bare, Fits, AreFit, toks}
use Rattle.quil_round_trip.proofs.Values.{IsCell}
use Rattle.quil_round_trip.proofs.Pieces.{Anything}
use Rattle.quil_round_trip.proofs.Chunks.{Chunk, AtEnd, blank, before_anything, before, with_text, with_events, copy, of_piece, maybe_piece, lacking, first, both, either}
use Rattle.quil_round_trip.proofs.Parts.{read_address, read_operand}
use Rattle.quil_round_trip.proofs.Expressions.{address_piece}
use Rattle.quil_round_trip.proofs.Operands.{operand_piece}
use Rattle.quil_round_trip.proofs.Bare.{bare_part, bare_written, operand_of_bare}
use Rattle.quil_round_trip.proofs.Keywords.{bare_word, label_word, jump_word, unary_word, pair_word, binary_word, compare_word}
use Rattle.quil_round_trip.proofs.Reread.{outer, Sense, Reread, head, word_then, word_alone}

-- statements
abbrev pub lines : Sense Line
lines = record { meaning = line_of; bare = bare_line; text = λ names l. statement_text names l.statement }

-- ---- qubits

pub qubit_is : (t : Token) → qubit_text (qubit_at t) ≡ t.text
qubit_is t = by (is_sort t.sort sort.Formal)
  where
    by : (b : Bool) → qubit_text (if b then qubit.Formal (name_at t) else qubit.Index t.place (whole_of t.text)) ≡ t.text
    by true = refl
    by false = refl

pub qubit_again : (t : Token) → qubit_at (bare t) ≡ bare_qubit (qubit_at t)
qubit_again t = by (is_sort t.sort sort.Formal)
  where
    by : (b : Bool) → (if b then qubit.Formal (name_at (bare t)) else qubit.Index origin (whole_of t.text)) ≡ bare_qubit (if b then qubit.Formal (name_at t) else qubit.Index t.place (whole_of t.text))
    by true = refl
    by false = refl

pub copied_qubit : (c : Context) (t : Token) (us : List Token) (f : Fits c t) → accepts class.Qubit t.sort ≡ true → is_too_large class.Qubit t us ≡ false → Chunk c (One class.Qubit) Anything (blank (qubit_text (qubit_at t))) (Makes (Acts (bare_qubit (qubit_at t))) ∷ [])
copied_qubit c t us f a small = with_text (ap blank (sym (qubit_is t))) (with_events (ap (λ q. Makes (Acts q) ∷ []) (qubit_again t)) (copy c class.Qubit t f a (λ vs. small)))

pub copied_name : (c : Context) (k : Class) (t : Token) (f : Fits c t) → accepts k t.sort ≡ true → ((us : List Token) → is_too_large k (bare t) us ≡ false) → value_of k (bare t) ≡ Makes (Names (bare_name (name_at t))) ∷ [] → Chunk c (One k) Anything (blank t.text) (Makes (Names (bare_name (name_at t))) ∷ [])
copied_name c k t f a small e = with_events e (copy c k t f a small)

pub reference_chunk : (c : Context) (r : Reference) → IsCell true c r.address → Chunk c address Anything (blank (reference_text r)) (cell_events (bare_reference r))
reference_chunk c r h = of_piece (address_piece c r.address h)

-- a reference or none
pub record MaybeReference (c : Context) (os : List Event) : Type 0 where
  pub reference : Option Reference
  pub makes : os ≡ parts_events (maybe_cell reference)
  pub chunk : Chunk c (maybe address) AtEnd (maybe_reference reference) (parts_events (maybe_cell (maybe_bare bare_reference reference)))

pub maybe_reference_again : (c : Context) (ts : List Token) (os : List Event) → Reads quil tables (maybe address) ts (Made os []) → AreFit c ts → MaybeReference c os
unfolding quil tables
maybe_reference_again c ts os r f =
    elim (either r) [
      | inl i ↦ let a = read_address c ts [] os i f in record { reference = Some a.reference; makes = a.makes; chunk = before (λ us e. tt) (maybe_piece (address_piece c a.reference.address a.sound)) }
      | inr i ↦ record { reference = None; makes = (empty quil tables i).0; chunk = lacking c address refl }
    ]

measure_line : (c : Context) (t : Token) (q : Qubit) (a : Option Reference) → line_of (Maker (Says t.place class.Measure t.sort) ∷ Maker (Acts q) ∷ maybe_cell a) ≡ Some (record { place = t.place; statement = statement.Measure q a })
measure_line c t q None = refl
measure_line c t q (Some a) = refl

measure_bare : (q : Qubit) (a : Option Reference) → line_of (Maker (Says origin class.Measure sort.Measure) ∷ Maker (Acts (bare_qubit q)) ∷ maybe_cell (maybe_bare bare_reference a)) ≡ Some (record { place = origin; statement = statement.Measure (bare_qubit q) (maybe_bare bare_reference a) })
measure_bare q None = refl
measure_bare q (Some a) = refl

measure_placed : (s : Sort) (q : Qubit) (a : Option Reference) → line_of (map bare_part (Maker (Says origin class.Measure s) ∷ Maker (Acts q) ∷ maybe_cell a)) ≡ Some (record { place = origin; statement = statement.Measure (bare_qubit q) (maybe_bare bare_reference a) })
measure_placed s q None = refl
measure_placed s q (Some a) = refl

pub measure_again : (c : Context) (t : Token) (ts : List Token) (os : List Event) → AreFit c ts → Reads quil tables measure (t ∷ ts) (Made os []) → Reread lines c measure t os
unfolding word_sort
measure_again c t ts os f r =
    let h = head class.Measure (Seq (One class.Qubit) (maybe address)) t ts os r in
    let b = both c h.reads f in
    let q = first c b.one f in
    let m = maybe_reference_again c b.middle b.second_os b.two b.fits in
    let the_qubit = qubit_at q.token in
    word_then lines c class.Measure (Seq (One class.Qubit) (maybe address)) t os (record { place = t.place; statement = statement.Measure the_qubit m.reference })
    (Maker (Says t.place class.Measure t.sort) ∷ Maker (Acts the_qubit) ∷ maybe_cell m.reference)
    (h.makes ∙ ap (λ xs. Makes (Says t.place class.Measure t.sort) ∷ xs) (b.makes ∙ ap₂ (λ xs ys. xs ++ ys) q.makes m.makes)) (measure_line c t the_qubit m.reference) (measure_placed t.sort the_qubit m.reference)
    (codes "MEASURE") (blank (qubit_text the_qubit) ++ maybe_reference m.reference) _
    (Maker (Says origin class.Measure sort.Measure) ∷ Maker (Acts (bare_qubit the_qubit)) ∷ maybe_cell (maybe_bare bare_reference m.reference))
    (record { token = refl; one_line = refl }) (sym (same_sort t.sort sort.Measure h.accepted)) h.accepted (λ us. refl)
    (before_anything (copied_qubit c q.token b.middle q.fits q.accepted q.small) m.chunk) refl refl (measure_bare the_qubit m.reference)

-- ---- other statements

-- what is made of a word
abbrev says : Token → Class → Part
says t k = Maker (Says t.place k t.sort)

abbrev new_says : Context → Class → List ℕ → Part
new_says c k x = Maker (Says origin k (tok (outer c) kind.Name x).sort)

-- no token that makes a word is too large
abbrev NeverLarge : Class → Type 0
NeverLarge k = (t : Token) (us : List Token) → is_too_large k t us ≡ false

both_os : (os ps qs rs ss : List Event) → os ≡ ps ++ qs → ps ≡ rs → qs ≡ ss → os ≡ rs ++ ss
both_os os ps qs rs ss e f g = e ∙ ap₂ (λ x y. x ++ y) f g

-- the same statement by the sort of the word that is printed
resaid : {A : Type 0} (f : Sort → A) (s u : Sort) → u ≡ s → (a : A) → a ≡ f s → Some (f u) ≡ Some a
resaid f s u e a h = ap (λ v. Some (f v)) e ∙ ap Some (sym h)

-- the line that stands nowhere
abbrev unplaced : Statement → Line
unplaced s = record { place = origin; statement = s }

abbrev maybe_qubit_parts : Option Qubit → List Part
maybe_qubit_parts q = maybe_qubit q

record MaybeQubit (c : Context) (os : List Event) : Type 0 where
  qubit : Option Qubit
  makes : os ≡ parts_events (maybe_qubit qubit)
  chunk : Chunk c (maybe (One class.Qubit)) AtEnd (maybe_qubit_text qubit) (parts_events (maybe_qubit (maybe_bare bare_qubit qubit)))

-- a token that may lack
some_chunk : {c : Context} {k : Class} {x : List ℕ} {os : List Event} → (p : Chunk c (One k) Anything x os) → (starts quil tables (One k) (toks c p.words) ≡ true) → Chunk c (maybe (One k)) AtEnd x os
unfolding quil tables
some_chunk {c} {k} p h = record { words = p.words; apart = p.apart; free = p.free; text = p.text; reads = λ us e. Reads.left (or_left _ _ (subst (λ vs. starts quil tables (One k) vs ≡ true) (sym (ap (λ vs. toks c p.words ++ vs) e ∙ append-nil (toks c p.words))) h)) (p.reads us tt) }

maybe_qubit_again : (c : Context) (ts : List Token) (os : List Event) → Reads quil tables (maybe (One class.Qubit)) ts (Made os []) → AreFit c ts → MaybeQubit c os
unfolding quil tables
maybe_qubit_again c ts os r f =
    elim (either r) [
      | inl i ↦
          let q = first c i f in
          let a : accepts class.Qubit (tok c q.fits.kind q.token.text).sort ≡ true = subst (λ u. accepts class.Qubit u.sort ≡ true) q.fits.is q.accepted in
          let g : value_of class.Qubit (tok c q.fits.kind q.token.text) ≡ Makes (Acts (bare_qubit (qubit_at q.token))) ∷ [] = ap (λ u. value_of class.Qubit u) (sym q.fits.is) ∙ ap (λ v. Makes (Acts v) ∷ []) (qubit_again q.token) in
          record {
            qubit = Some (qubit_at q.token);
            makes = q.makes;
            chunk =
                record {
                  words = record { kind = q.fits.kind; text = q.token.text; blank = true } ∷ [];
                  apart = (q.fits.text, tt, tt);
                  free = inl refl;
                  text = append-nil (blank q.token.text) ∙ ap blank (sym (qubit_is q.token));
                  reads = λ us e. Reads.left (or_left _ _ a) (subst (λ xs. Reads quil tables (One class.Qubit) (tok c q.fits.kind q.token.text ∷ us) (Made xs us)) g (Reads.one a (subst (λ u. is_too_large class.Qubit u us ≡ false) q.fits.is q.small)));
                };
          }
      | inr i ↦ record { qubit = None; makes = (empty quil tables i).0; chunk = lacking c (One class.Qubit) refl }
    ]

reset_line : (p q : Place) (s : Sort) (a : Option Qubit) → line_of (Maker (Says p class.Reset s) ∷ maybe_qubit a) ≡ Some (record { place = p; statement = statement.Reset a })
reset_line p q s None = refl
reset_line p q s (Some a) = refl

reset_placed : (s : Sort) (a : Option Qubit) → line_of (map bare_part (Maker (Says origin class.Reset s) ∷ maybe_qubit a)) ≡ Some (record { place = origin; statement = statement.Reset (maybe_bare bare_qubit a) })
reset_placed s None = refl
reset_placed s (Some a) = refl

reset_text : (names : List (List ℕ)) (a : Option Qubit) → codes "RESET" ++ maybe_qubit_text a ≡ statement_text names (statement.Reset a)
reset_text names None = refl
reset_text names (Some a) = refl

pub reset_again : (c : Context) (t : Token) (ts : List Token) (os : List Event) → AreFit c ts → Reads quil tables reset (t ∷ ts) (Made os []) → Reread lines c reset t os
unfolding word_sort
reset_again c t ts os f r =
    let h = head class.Reset (maybe (One class.Qubit)) t ts os r in
    let q = maybe_qubit_again c ts h.tail_os h.reads f in
    word_then lines c class.Reset (maybe (One class.Qubit)) t os (record { place = t.place; statement = statement.Reset q.qubit }) (says t class.Reset ∷ maybe_qubit q.qubit)
    (h.makes ∙ ap (λ xs. Makes (Says t.place class.Reset t.sort) ∷ xs) q.makes) (reset_line t.place t.place t.sort q.qubit) (reset_placed t.sort q.qubit) (codes "RESET") (maybe_qubit_text q.qubit) _
    (new_says c class.Reset (codes "RESET") ∷ maybe_qubit (maybe_bare bare_qubit q.qubit)) (record { token = refl; one_line = refl }) (sym (same_sort t.sort sort.Reset h.accepted)) h.accepted (λ us. refl) q.chunk refl
    (reset_text c.parameters q.qubit) (reset_line origin origin (tok (outer c) kind.Name (codes "RESET")).sort (maybe_bare bare_qubit q.qubit))

pub bare_again : (c : Context) (t : Token) (os : List Event) → accepts class.Bare t.sort ≡ true → os ≡ said class.Bare t → Reread lines c (One class.Bare) t os
bare_again c t os a e =
    let w = bare_word t.sort a in
    word_alone lines c class.Bare t os (record { place = t.place; statement = bare_of t.sort }) (says t class.Bare ∷ []) e refl (ap Some (ap unplaced (sym w.bare))) w.word (new_says c class.Bare w.word ∷ []) w.keyword.is_token (w.keyword.same (outer c)) a refl refl
    (sym (w.text c.parameters)) (resaid (λ s. unplaced (bare_of s)) t.sort _ (w.keyword.same (outer c)) _ (ap unplaced w.bare))

pub label_again : (c : Context) (t : Token) (ts : List Token) (os : List Event) → AreFit c ts → Reads quil tables label (t ∷ ts) (Made os []) → Reread lines c label t os
label_again c t ts os f r =
    let h = head class.LabelWord (One class.Label) t ts os r in
    let n = first c h.reads f in
    let w = label_word t.sort h.accepted in
    let name = name_at n.token in
    word_then lines c class.LabelWord (One class.Label) t os (record { place = t.place; statement = label_of t.sort name }) (says t class.LabelWord ∷ Maker (Names name) ∷ [])
    (h.makes ∙ ap (λ xs. Makes (Says t.place class.LabelWord t.sort) ∷ xs) n.makes) refl (ap Some (ap unplaced (sym (w.bare name)))) w.word (blank name.text) _ (new_says c class.LabelWord w.word ∷ Maker (Names (bare_name name)) ∷ [])
    w.keyword.is_token (w.keyword.same (outer c)) h.accepted (λ us. refl) (before (λ us e. tt) (copied_name c class.Label n.token n.fits n.accepted (λ us. refl) refl)) refl
    (sym (w.text c.parameters name)) (resaid (λ s. unplaced (label_of s (bare_name name))) t.sort _ (w.keyword.same (outer c)) _ (ap unplaced (w.bare name)))

last_reference : (c : Context) (r : Reference) → IsCell true c r.address → Chunk c address AtEnd (blank (reference_text r)) (cell_events (bare_reference r) ++ [])
last_reference c r h = with_events (sym (append-nil (cell_events (bare_reference r)))) (before (λ us e. tt) (reference_chunk c r h))

pub jump_again : (c : Context) (t : Token) (ts : List Token) (os : List Event) → AreFit c ts → Reads quil tables jump_if (t ∷ ts) (Made os []) → Reread lines c jump_if t os
jump_again c t ts os f r =
    let h = head class.JumpIf (Seq (One class.Label) address) t ts os r in
    let b = both c h.reads f in
    let n = first c b.one f in
    let a = read_address c b.middle [] b.second_os b.two b.fits in
    let w = jump_word t.sort h.accepted in
    let name = name_at n.token in
    word_then lines c class.JumpIf (Seq (One class.Label) address) t os (record { place = t.place; statement = jump_of t.sort name a.reference }) (says t class.JumpIf ∷ Maker (Names name) ∷ cell a.reference ∷ [])
    (h.makes ∙ ap (λ xs. Makes (Says t.place class.JumpIf t.sort) ∷ xs) (b.makes ∙ ap₂ (λ xs ys. xs ++ ys) n.makes a.makes)) refl (ap Some (ap unplaced (sym (w.bare name a.reference)))) w.word (blank name.text ++ blank (reference_text a.reference)) _
    (new_says c class.JumpIf w.word ∷ Maker (Names (bare_name name)) ∷ cell (bare_reference a.reference) ∷ []) w.keyword.is_token (w.keyword.same (outer c)) h.accepted (λ us. refl)
    (before_anything (copied_name c class.Label n.token n.fits n.accepted (λ us. refl) refl) (last_reference c a.reference a.sound)) refl
    (sym (w.text c.parameters name a.reference)) (resaid (λ s. unplaced (jump_of s (bare_name name) (bare_reference a.reference))) t.sort _ (w.keyword.same (outer c)) _ (ap unplaced (w.bare name a.reference)))

pub unary_again : (c : Context) (t : Token) (ts : List Token) (os : List Event) → AreFit c ts → Reads quil tables unary (t ∷ ts) (Made os []) → Reread lines c unary t os
unary_again c t ts os f r =
    let h = head class.UnaryWord address t ts os r in
    let a = read_address c ts [] h.tail_os h.reads f in
    let w = unary_word t.sort h.accepted in
    word_then lines c class.UnaryWord address t os (record { place = t.place; statement = unary_of t.sort a.reference }) (says t class.UnaryWord ∷ cell a.reference ∷ [])
    (h.makes ∙ ap (λ xs. Makes (Says t.place class.UnaryWord t.sort) ∷ xs) a.makes) refl (ap Some (ap unplaced (sym (w.bare a.reference)))) w.word (blank (reference_text a.reference)) _ (new_says c class.UnaryWord w.word ∷ cell (bare_reference a.reference) ∷ [])
    w.keyword.is_token (w.keyword.same (outer c)) h.accepted (λ us. refl) (last_reference c a.reference a.sound) refl
    (sym (w.text c.parameters a.reference)) (resaid (λ s. unplaced (unary_of s (bare_reference a.reference))) t.sort _ (w.keyword.same (outer c)) _ (ap unplaced (w.bare a.reference)))

pub pair_again : (c : Context) (t : Token) (ts : List Token) (os : List Event) → AreFit c ts → Reads quil tables pair (t ∷ ts) (Made os []) → Reread lines c pair t os
pair_again c t ts os f r =
    let h = head class.PairWord (Seq address address) t ts os r in
    let b = both c h.reads f in
    let a = read_address c ts b.middle b.first_os b.one f in
    let d = read_address c b.middle [] b.second_os b.two b.fits in
    let w = pair_word t.sort h.accepted in
    word_then lines c class.PairWord (Seq address address) t os (record { place = t.place; statement = pair_of t.sort a.reference d.reference }) (says t class.PairWord ∷ cell a.reference ∷ cell d.reference ∷ [])
    (h.makes ∙ ap (λ xs. Makes (Says t.place class.PairWord t.sort) ∷ xs) (b.makes ∙ ap₂ (λ xs ys. xs ++ ys) a.makes d.makes)) refl (ap Some (ap unplaced (sym (w.bare a.reference d.reference)))) w.word (blank (reference_text a.reference) ++ blank (reference_text d.reference)) _
    (new_says c class.PairWord w.word ∷ cell (bare_reference a.reference) ∷ cell (bare_reference d.reference) ∷ []) w.keyword.is_token (w.keyword.same (outer c)) h.accepted (λ us. refl)
    (before_anything (reference_chunk c a.reference a.sound) (last_reference c d.reference d.sound)) refl
    (sym (w.text c.parameters a.reference d.reference)) (resaid (λ s. unplaced (pair_of s (bare_reference a.reference) (bare_reference d.reference))) t.sort _ (w.keyword.same (outer c)) _ (ap unplaced (w.bare a.reference d.reference)))

-- an operand at the end of a line
record LastOperand (c : Context) (os : List Event) : Type 0 where
  operand : Operand
  written : Written
  bare_written : Written
  makes : os ≡ events written ++ []
  is_operand : operand_of written ≡ operand
  is_bare : operand_of bare_written ≡ bare_operand operand
  chunk : Chunk c operand_shape AtEnd (blank (operand_text c.parameters operand)) (events bare_written ++ [])

last_operand : (c : Context) (ts : List Token) (os : List Event) → Reads quil tables operand_shape ts (Made os []) → AreFit c ts → LastOperand c os
last_operand c ts os r f =
    let x = read_operand c ts os r f in
    let p = operand_piece c (operand_of x.written) x.sound in
    record {
      operand = operand_of x.written;
      written = x.written;
      bare_written = p.0;
      makes = x.makes ∙ sym (append-nil (events x.written));
      is_operand = refl;
      is_bare = p.1;
      chunk = with_events (sym (append-nil (events p.0))) (of_piece p.2);
    }

-- the statement of a value
abbrev placed : Place → Statement → Line
placed p s = record { place = p; statement = s }

of_value : (f : Operand → Statement) (p : Place) (w : Written) (x : Operand) → operand_of w ≡ x → Some (placed p (f (operand_of w))) ≡ Some (placed p (f x))
of_value f p w x e = ap (λ y. Some (placed p (f y))) e

pub binary_again : (c : Context) (t : Token) (ts : List Token) (os : List Event) → AreFit c ts → Reads quil tables binary (t ∷ ts) (Made os []) → Reread lines c binary t os
binary_again c t ts os f r =
    let h = head class.BinaryWord (Seq address operand_shape) t ts os r in
    let b = both c h.reads f in
    let a = read_address c ts b.middle b.first_os b.one f in
    let x = last_operand c b.middle b.second_os b.two b.fits in
    let w = binary_word t.sort h.accepted in
    word_then lines c class.BinaryWord (Seq address operand_shape) t os (record { place = t.place; statement = binary_of t.sort a.reference x.operand }) (says t class.BinaryWord ∷ cell a.reference ∷ Value x.written ∷ [])
    (h.makes ∙ ap (λ xs. Makes (Says t.place class.BinaryWord t.sort) ∷ xs) (b.makes ∙ ap₂ (λ xs ys. xs ++ ys) a.makes x.makes)) (of_value (binary_of t.sort a.reference) t.place x.written x.operand x.is_operand)
    (of_value (binary_of t.sort (bare_reference a.reference)) origin (bare_written x.written) (bare_operand x.operand) (operand_of_bare x.written ∙ ap bare_operand x.is_operand) ∙ ap Some (ap unplaced (sym (w.bare a.reference x.operand))))
    w.word (blank (reference_text a.reference) ++ blank (operand_text c.parameters x.operand)) _
    (new_says c class.BinaryWord w.word ∷ cell (bare_reference a.reference) ∷ Value x.bare_written ∷ []) w.keyword.is_token (w.keyword.same (outer c)) h.accepted (λ us. refl)
    (before_anything (reference_chunk c a.reference a.sound) x.chunk) refl (sym (w.text c.parameters a.reference x.operand))
    (of_value (binary_of (tok (outer c) kind.Name w.word).sort (bare_reference a.reference)) origin x.bare_written (bare_operand x.operand) x.is_bare
    ∙ resaid (λ s. unplaced (binary_of s (bare_reference a.reference) (bare_operand x.operand))) t.sort _ (w.keyword.same (outer c)) _ (ap unplaced (w.bare a.reference x.operand)))

pub compare_again : (c : Context) (t : Token) (ts : List Token) (os : List Event) → AreFit c ts → Reads quil tables compare (t ∷ ts) (Made os []) → Reread lines c compare t os
compare_again c t ts os f r =
    let h = head class.CompareWord (Seq address (Seq address operand_shape)) t ts os r in
    let b = both c h.reads f in
    let a = read_address c ts b.middle b.first_os b.one f in
    let d = both c b.two b.fits in
    let g = read_address c b.middle d.middle d.first_os d.one b.fits in
    let x = last_operand c d.middle d.second_os d.two d.fits in
    let w = compare_word t.sort h.accepted in
    word_then lines c class.CompareWord (Seq address (Seq address operand_shape)) t os (record { place = t.place; statement = compare_of t.sort a.reference g.reference x.operand }) (says t class.CompareWord ∷ cell a.reference ∷ cell g.reference ∷ Value x.written ∷ [])
    (h.makes ∙ ap (λ xs. Makes (Says t.place class.CompareWord t.sort) ∷ xs) (b.makes ∙ ap₂ (λ xs ys. xs ++ ys) a.makes (d.makes ∙ ap₂ (λ xs ys. xs ++ ys) g.makes x.makes)))
    (of_value (compare_of t.sort a.reference g.reference) t.place x.written x.operand x.is_operand)
    (of_value (compare_of t.sort (bare_reference a.reference) (bare_reference g.reference)) origin (bare_written x.written) (bare_operand x.operand) (operand_of_bare x.written ∙ ap bare_operand x.is_operand) ∙ ap Some (ap unplaced (sym (w.bare a.reference g.reference x.operand))))
    w.word (blank (reference_text a.reference) ++ (blank (reference_text g.reference) ++ blank (operand_text c.parameters x.operand))) _
    (new_says c class.CompareWord w.word ∷ cell (bare_reference a.reference) ∷ cell (bare_reference g.reference) ∷ Value x.bare_written ∷ []) w.keyword.is_token (w.keyword.same (outer c)) h.accepted (λ us. refl)
    (before_anything (reference_chunk c a.reference a.sound) (before_anything (reference_chunk c g.reference g.sound) x.chunk)) refl (sym (w.text c.parameters a.reference g.reference x.operand))
    (of_value (compare_of (tok (outer c) kind.Name w.word).sort (bare_reference a.reference) (bare_reference g.reference)) origin x.bare_written (bare_operand x.operand) x.is_bare
    ∙ resaid (λ s. unplaced (compare_of s (bare_reference a.reference) (bare_reference g.reference) (bare_operand x.operand))) t.sort _ (w.keyword.same (outer c)) _ (ap unplaced (w.bare a.reference g.reference x.operand)))

-- blanks between words
load_text : (a n b : List ℕ) → codes "LOAD" ++ (blank a ++ (blank n ++ blank b)) ≡ codes "LOAD " ++ a ++ codes " " ++ n ++ codes " " ++ b
load_text a n b = simp append_assoc refl

store_text : (n a x : List ℕ) → codes "STORE" ++ (blank n ++ (blank a ++ blank x)) ≡ codes "STORE " ++ n ++ codes " " ++ a ++ codes " " ++ x
store_text n a x = simp append_assoc refl

pub load_again : (c : Context) (t : Token) (ts : List Token) (os : List Event) → AreFit c ts → Reads quil tables load (t ∷ ts) (Made os []) → Reread lines c load t os
unfolding word_sort
load_again c t ts os f r =
    let h = head class.Load (Seq address (Seq (One class.Named) address)) t ts os r in
    let b = both c h.reads f in
    let a = read_address c ts b.middle b.first_os b.one f in
    let d = both c b.two b.fits in
    let n = first c d.one b.fits in
    let g = read_address c d.middle [] d.second_os d.two d.fits in
    let name = name_at n.token in
    word_then lines c class.Load (Seq address (Seq (One class.Named) address)) t os (record { place = t.place; statement = statement.Load a.reference name g.reference }) (says t class.Load ∷ cell a.reference ∷ Maker (Names name) ∷ cell g.reference ∷ [])
    (h.makes ∙ ap (λ xs. Makes (Says t.place class.Load t.sort) ∷ xs) (b.makes ∙ ap₂ (λ xs ys. xs ++ ys) a.makes (d.makes ∙ ap₂ (λ xs ys. xs ++ ys) n.makes g.makes))) refl refl
    (codes "LOAD") (blank (reference_text a.reference) ++ (blank name.text ++ blank (reference_text g.reference))) _
    (new_says c class.Load (codes "LOAD") ∷ cell (bare_reference a.reference) ∷ Maker (Names (bare_name name)) ∷ cell (bare_reference g.reference) ∷ []) (record { token = refl; one_line = refl }) (sym (same_sort t.sort sort.Load h.accepted)) h.accepted (λ us. refl)
    (before_anything (reference_chunk c a.reference a.sound) (before_anything (copied_name c class.Named n.token n.fits n.accepted (λ us. refl) refl) (last_reference c g.reference g.sound))) refl
    (load_text (reference_text a.reference) name.text (reference_text g.reference)) refl

pub store_again : (c : Context) (t : Token) (ts : List Token) (os : List Event) → AreFit c ts → Reads quil tables store (t ∷ ts) (Made os []) → Reread lines c store t os
unfolding word_sort
store_again c t ts os f r =
    let h = head class.Store (Seq (One class.Named) (Seq address operand_shape)) t ts os r in
    let b = both c h.reads f in
    let n = first c b.one f in
    let d = both c b.two b.fits in
    let a = read_address c b.middle d.middle d.first_os d.one b.fits in
    let x = last_operand c d.middle d.second_os d.two d.fits in
    let name = name_at n.token in
    word_then lines c class.Store (Seq (One class.Named) (Seq address operand_shape)) t os (record { place = t.place; statement = statement.Store name a.reference x.operand }) (says t class.Store ∷ Maker (Names name) ∷ cell a.reference ∷ Value x.written ∷ [])
    (h.makes ∙ ap (λ xs. Makes (Says t.place class.Store t.sort) ∷ xs) (b.makes ∙ ap₂ (λ xs ys. xs ++ ys) n.makes (d.makes ∙ ap₂ (λ xs ys. xs ++ ys) a.makes x.makes))) (of_value (statement.Store name a.reference) t.place x.written x.operand x.is_operand)
    (of_value (statement.Store (bare_name name) (bare_reference a.reference)) origin (bare_written x.written) (bare_operand x.operand) (operand_of_bare x.written ∙ ap bare_operand x.is_operand))
    (codes "STORE") (blank name.text ++ (blank (reference_text a.reference) ++ blank (operand_text c.parameters x.operand))) _
    (new_says c class.Store (codes "STORE") ∷ Maker (Names (bare_name name)) ∷ cell (bare_reference a.reference) ∷ Value x.bare_written ∷ []) (record { token = refl; one_line = refl }) (sym (same_sort t.sort sort.Store h.accepted)) h.accepted (λ us. refl)
    (before_anything (copied_name c class.Named n.token n.fits n.accepted (λ us. refl) refl) (before_anything (reference_chunk c a.reference a.sound) x.chunk)) refl
    (store_text name.text (reference_text a.reference) (operand_text c.parameters x.operand))
    (of_value (statement.Store (bare_name name) (bare_reference a.reference)) origin x.bare_written (bare_operand x.operand) x.is_bare)
