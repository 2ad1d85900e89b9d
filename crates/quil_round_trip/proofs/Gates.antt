-- Gates that were read are printed and read again.
use Rattle.std.proofs.Common.{◌≡◌, ℕ, zero, suc, inl, inr, Bool, true, false, ◌||◌, List, [], ◌∷◌, ◌++◌, map, Some, refl, sym, ◌∙◌, ap, ap₂, subst, append_assoc, append-nil, codes, arith}
use Rattle.std.specs.Prelude.{filter_map, ◌==◌}
use Rattle.std.specs.List.{flat_map}
use Rattle.std.proofs.lemmas.Bool.{or_cases, or_left, or_right}
use Rattle.std.proofs.lemmas.Bool.Decides.{nat_tests}
use Rattle.std.proofs.lemmas.List.Elements.{filter_map-append}
use Rattle.quil_lex.specs.declared.token.Kind.TheVariants as kind
use Rattle.quil_lex.specs.declared.token.Mark.TheVariants as mark
use Rattle.quil_lex.specs.Written.{IsLineToken}
use Rattle.quil_shape.specs.Shape.{Shape}
use Rattle.quil_shape.specs.Shape.Shape.{One, Empty, Seq, Or, Many, Rule}
use Rattle.quil_shape.specs.Outcome.Outcome.{Made}
use Rattle.quil_shape.specs.Reads.{Reads, starts, is_barred}
use Rattle.quil_tree.specs.declared.place.Place.{Place}
use Rattle.quil_tree.specs.declared.statement.Name.{Name as Called}
use Rattle.quil_tree.specs.declared.statement.Qubit.{Qubit}
use Rattle.quil_tree.specs.declared.statement.Modifier.{Modifier}
use Rattle.quil_tree.specs.declared.statement.Gate.{Gate}
use Rattle.quil_tree.specs.declared.statement.Statement.TheVariants as statement
use Rattle.quil_tree.specs.Printed.{formula_text, formula_texts, listed, modification_text, qubit_text}
use Rattle.quil_grammar.specs.declared.sort.Sort.{Sort}
use Rattle.quil_grammar.specs.declared.sort.Sort.TheVariants as sort
use Rattle.quil_grammar.specs.declared.class.Class.{Class}
use Rattle.quil_grammar.specs.declared.class.Class.TheVariants as class
use Rattle.quil_grammar.specs.Sort.{is_sort, number_of, word_sort}
use Rattle.quil_grammar.specs.Token.{Token, Context}
use Rattle.quil_grammar.specs.Grammar.{quil, accepts, value_of, said, name_at, qubit_at, is_too_large, Name, Sum, Event}
use Rattle.quil_grammar.specs.Tables.{tables}
use Rattle.quil_grammar.specs.Grammar.Piece.{Says, Names, Acts}
use Rattle.quil_grammar.specs.Grammar.Event.{Makes}
use Rattle.quil_grammar.specs.Written.{Written, events, formula_of, meaning}
use Rattle.quil_grammar.specs.Parts.{Part, part_events, parts_events}
use Rattle.quil_grammar.specs.Parts.Part.{Made as Maker, Value}
use Rattle.quil_grammar.specs.Statements.{maybe, parameters, behind_name, named, modified, modified_gate, plain_gate, gate}
use Rattle.quil_grammar.proofs.Sorts.{same_sort}
use Rattle.quil_round_trip.specs.Unplaced.{origin, bare_name, bare_qubit, bare_formula, bare_modifier, bare_gate}
use Rattle.quil_statement.specs.Meaning.{modification_of, modifier_of, name_of, value_of as valued, qubit_of, gate_of, worded, line_of}
use Rattle.quil_statement.specs.Loops.{Word, word_part, saying, modifier_at, acting, values}
use Rattle.quil_statement.proofs.Sequences.{parts_append}
use Rattle.quil_statement.proofs.Gates.{gate_means}
use Rattle.quil_round_trip.proofs.Inversion.{Chain, one, many, empty}
use Rattle.quil_round_trip.proofs.Words.{tok, Fits, AreFit, sort_class, kind_of_class}
use Rattle.quil_round_trip.proofs.Soundness.{fits_left}
use Rattle.quil_round_trip.proofs.Pieces.{Piece, Anything, NoOperator}
use Rattle.quil_round_trip.proofs.Chunks.{Chunk, AtEnd, blank, then_chunk, before, with_text, with_events, word, mark as mark_chunk, of_piece, first, both, either}
use Rattle.quil_round_trip.proofs.Openings.{piece_then, many_none}
use Rattle.quil_round_trip.proofs.Repeated.{starts_one, starts_first, starts_read, starts_other, more_chunk, first_chunk, second_chunk, parenthesis_then}
use Rattle.quil_round_trip.proofs.Parts.{ReadValue, read_value}
use Rattle.quil_round_trip.proofs.Expressions.{canon, expression_piece, mark_token, same_text}
use Rattle.quil_round_trip.proofs.Operands.{text_of_steps, formula_bare}
use Rattle.quil_round_trip.proofs.Bare.{bare_part, bare_written, formula_of_bare}
use Rattle.quil_round_trip.proofs.Keywords.{Keyword, keyword}
use Rattle.quil_round_trip.proofs.Reread.{outer, Reread, Head, head, word_then, reread_left, reread_right}
use Rattle.quil_round_trip.proofs.Lines.{lines, copied_qubit, copied_name}

-- ---- the parts of a gate

-- the same without places
abbrev pub bare_word : Word → Word
bare_word w = record w { place = origin }

-- an expression as it is read again
abbrev pub again_of : Written → Written
again_of w = canon false (meaning w)

abbrev pub gate_parts : Called → List Written → List Qubit → List Part
gate_parts n ws qs = Maker (Names n) ∷ (values ws ++ acting qs)

abbrev pub the_gate : List Word → Called → List Written → List Qubit → Gate
the_gate ms n ws qs = record { modifiers = map modifier_at ms; name = n; parameters = map formula_of ws; qubits = qs }

abbrev pub behind_text : Context → List Written → List Qubit → List ℕ
behind_text c ws qs = listed (formula_texts c.parameters (map formula_of ws)) ++ flat_map (λ q. codes " " ++ qubit_text q) qs

pub formulas_bare : (ws : List Written) → map formula_of (map again_of ws) ≡ map bare_formula (map formula_of ws)
formulas_bare [] = refl
formulas_bare (w ∷ ws) = ap₂ (λ x xs. x ∷ xs) (formula_bare (formula_of w) (meaning w) refl) (formulas_bare ws)

modifiers_bare : (ws : List Word) → map modifier_at (map bare_word ws) ≡ map bare_modifier (map modifier_at ws)
modifiers_bare [] = refl
modifiers_bare (w ∷ ws) = ap (λ xs. bare_modifier (modifier_at w) ∷ xs) (modifiers_bare ws)

bare_same : (ms : List Word) (n : Called) (ws : List Written) (qs : List Qubit) → the_gate (map bare_word ms) (bare_name n) (map again_of ws) (map bare_qubit qs) ≡ bare_gate (the_gate ms n ws qs)
bare_same ms n ws qs = ap₂ (λ xs fs. record { modifiers = xs; name = bare_name n; parameters = fs; qubits = map bare_qubit qs }) (modifiers_bare ms) (formulas_bare ws)

-- the parts of a gate where their places are taken away
placed_formulas : (ws : List Written) → map formula_of (map bare_written ws) ≡ map bare_formula (map formula_of ws)
placed_formulas [] = refl
placed_formulas (w ∷ ws) = ap₂ (λ x xs. x ∷ xs) (formula_of_bare w) (placed_formulas ws)

placed_gate : (ms : List Word) (n : Called) (ws : List Written) (qs : List Qubit) → the_gate (map bare_word ms) (bare_name n) (map bare_written ws) (map bare_qubit qs) ≡ bare_gate (the_gate ms n ws qs)
placed_gate ms n ws qs = ap₂ (λ xs fs. record { modifiers = xs; name = bare_name n; parameters = fs; qubits = map bare_qubit qs }) (modifiers_bare ms) (placed_formulas ws)

placed_behind : (ws : List Written) (qs : List Qubit) → map bare_part (values ws ++ acting qs) ≡ values (map bare_written ws) ++ acting (map bare_qubit qs)
placed_behind [] [] = refl
placed_behind [] (q ∷ qs) = ap (λ ps. Maker (Acts (bare_qubit q)) ∷ ps) (placed_behind [] qs)
placed_behind (w ∷ ws) qs = ap (λ ps. Value (bare_written w) ∷ ps) (placed_behind ws qs)

placed_parts : (ms : List Word) (n : Called) (ws : List Written) (qs : List Qubit) → map bare_part (saying ms ++ gate_parts n ws qs) ≡ saying (map bare_word ms) ++ gate_parts (bare_name n) (map bare_written ws) (map bare_qubit qs)
placed_parts [] n ws qs = ap (λ ps. Maker (Names (bare_name n)) ∷ ps) (placed_behind ws qs)
placed_parts (w ∷ ms) n ws qs = ap (λ ps. word_part (bare_word w) ∷ ps) (placed_parts ms n ws qs)

-- ---- parameters

abbrev behind_comma : Shape Class Event Name
behind_comma = Seq (One class.Comma) (Rule (Sum true))

-- a parenthesis ends the parameters
abbrev Ending : List Token → Type 0
Ending us = starts quil tables (One class.ListEnds) us ≡ true

-- no parenthesis begins parameters
abbrev NoList : List Token → Type 0
NoList us = is_barred quil tables parameters us ≡ true

comma_or_end : (s : Sort) → accepts class.ListEnds s ≡ true → accepts class.Comma s ≡ false
comma_or_end s h = subst (λ z. accepts class.Comma z ≡ false) (sym (same_sort s sort.RightParenthesis h)) refl

abbrev operates : Sort → Bool
operates s = accepts class.Additive s || (accepts class.Multiplicative s || accepts class.Caret s)

ends_no_operator : (s : Sort) → accepts class.ListEnds s ≡ true → operates s ≡ false
ends_no_operator s h = subst (λ z. operates z ≡ false) (sym (same_sort s sort.RightParenthesis h)) refl

comma_no_operator : (s : Sort) → accepts class.Comma s ≡ true → operates s ≡ false
comma_no_operator s h = subst (λ z. operates z ≡ false) (sym (same_sort s sort.Comma h)) refl

no_operator_at : (k : Class) (ts : List Token) → ((s : Sort) → accepts k s ≡ true → operates s ≡ false) → starts quil tables (One k) ts ≡ true → NoOperator ts
unfolding quil tables
no_operator_at k [] h e = absurd (cc)
no_operator_at k (t ∷ ts) h e = h t.sort e

ended : (us : List Token) → Ending us → starts quil tables behind_comma us ≡ false
unfolding quil tables
ended [] e = refl
ended (t ∷ us) e = rw (comma_or_end t.sort e) refl

chain_no_operator : {ts us : List Token} {os : List Event} → Chain quil tables behind_comma ts os us → Ending us → NoOperator ts
chain_no_operator {us = us} Chain.done e = no_operator_at class.ListEnds us ends_no_operator e
chain_no_operator {ts = ts} (Chain.link r rs) e = no_operator_at class.Comma ts comma_no_operator (starts_first r)

-- an expression as a parameter
parameter_piece : (c : Context) {os : List Event} (v : ReadValue true c os) → Piece c (Rule (Sum true)) NoOperator (formula_text c.parameters (formula_of v.written)) (events (again_of v.written))
parameter_piece c v = same_text (sym (text_of_steps c.parameters (formula_of v.written) (meaning v.written) refl)) (expression_piece true c (meaning v.written) v.sound)

comma_then : {c : Context} {x : List ℕ} {os : List Event} → Piece c (Rule (Sum true)) NoOperator x os → Chunk c behind_comma NoOperator (codes ", " ++ x) os
comma_then {c} p = then_chunk (mark_chunk c class.Comma mark.Comma 44 (mark_token mark.Comma) refl refl (λ us. refl)) (of_piece p) (λ us h. tt)

-- expressions behind commas
record MoreFormulas (c : Context) (os : List Event) : Type 0 where
  pub written : List Written
  pub makes : os ≡ parts_events (values written)
  pub chunk : Chunk c (Many behind_comma) Ending (flat_map (λ y. codes ", " ++ y) (formula_texts c.parameters (map formula_of written))) (parts_events (values (map again_of written)))

more_formulas : (c : Context) {ts us : List Token} {os : List Event} → Chain quil tables behind_comma ts os us → AreFit c ts → MoreFormulas c os
more_formulas c Chain.done f = record { written = []; makes = refl; chunk = many_none {B = Ending} c behind_comma (λ us e. ended us e) }
more_formulas c (Chain.link {us = us} r rs) f =
    let b = both c r f in
    let t = first c b.one f in
    let v = read_value true c b.middle us b.second_os b.two b.fits in
    let m = more_formulas c rs (fits_left c r f) in
    record {
      written = v.written ∷ m.written;
      makes = ap₂ (λ x y. x ++ y) (b.makes ∙ ap₂ (λ x y. x ++ y) t.makes v.makes) m.makes;
      chunk = more_chunk (then_chunk (comma_then (parameter_piece c v)) m.chunk (λ vs e. chain_no_operator (many quil tables (m.chunk.reads vs e)) e)) (λ ts vs ps q. starts_read q);
    }

record MaybeParameters (c : Context) (os : List Event) : Type 0 where
  pub written : List Written
  pub makes : os ≡ parts_events (values written)
  pub chunk : Chunk c (maybe parameters) NoList (listed (formula_texts c.parameters (map formula_of written))) (parts_events (values (map again_of written)))

no_parameters : (c : Context) → Chunk c (maybe parameters) NoList [] []
no_parameters c = record { words = []; apart = tt; free = tt; text = refl; reads = λ us h. Reads.right (or_right (starts quil tables Empty us) _ h) Reads.empty }

some_parameters : {c : Context} {x y : List ℕ} {os ps : List Event} → Piece c (Rule (Sum true)) NoOperator x os → Chunk c (Many behind_comma) Ending y ps → Chunk c (maybe parameters) NoList (codes "(" ++ (x ++ y) ++ codes ")") (os ++ ps)
unfolding quil tables
some_parameters {c} {os = os} {ps = ps} p q =
    let end = mark_chunk c class.ListEnds mark.RightParenthesis 41 (mark_token mark.RightParenthesis) refl refl (λ us. refl) in
    first_chunk
    (before (λ us h. tt) (with_events (append-nil (os ++ ps)) (parenthesis_then (piece_then (piece_then p q (λ us e. chain_no_operator (many quil tables (q.reads us e)) e)) end (λ us h. starts_one (end.reads us tt))))))
    (λ ts us r. starts_read r)

parameters_again : (c : Context) (ts us : List Token) (os : List Event) → Reads quil tables (maybe parameters) ts (Made os us) → AreFit c ts → MaybeParameters c os
parameters_again c ts us os r f =
    elim (either r) [
      | inl i ↦
          let a = both c i f in
          let t = first c a.one f in
          let b = both c a.two a.fits in
          let d = both c b.one a.fits in
          let e = first c b.two b.fits in
          let v = read_value true c a.middle d.middle d.first_os d.one a.fits in
          let m = more_formulas c (many quil tables d.two) d.fits in
          record {
            written = v.written ∷ m.written;
            makes = a.makes ∙ ap₂ (λ x y. x ++ y) t.makes (b.makes ∙ ap₂ (λ x y. x ++ y) (d.makes ∙ ap₂ (λ x y. x ++ y) v.makes m.makes) e.makes ∙ append-nil _);
            chunk = some_parameters (parameter_piece c v) m.chunk;
          }
      | inr i ↦ record { written = []; makes = (empty quil tables i).0; chunk = no_parameters c }
    ]

-- ---- qubits

qubit_no_list : (s : Sort) → accepts class.Qubit s ≡ true → accepts class.ListBegins s ≡ false
qubit_no_list s h = by_number (number_of s) h
  where
    by_number : (n : ℕ) → (((n == 55) || (n == 56)) || (n == 3)) ≡ true → (n == 63) ≡ false
    by_number n e = grind (arith, nat_tests)

barred_at : (ts : List Token) → starts quil tables (One class.ListBegins) ts ≡ false → NoList ts
unfolding quil tables
barred_at [] e = refl
barred_at (t ∷ ts) e = rw e refl

chain_no_list : {ts us : List Token} {os : List Event} → Chain quil tables (One class.Qubit) ts os us → us ≡ [] → NoList ts
unfolding quil tables
chain_no_list Chain.done e = rw e refl
chain_no_list {ts = ts} (Chain.link r rs) e = barred_at ts (starts_other class.Qubit class.ListBegins ts qubit_no_list (starts_one r))

record Qubits (c : Context) (os : List Event) : Type 0 where
  pub qubits : List Qubit
  pub makes : os ≡ parts_events (acting qubits)
  pub chunk : Chunk c (Many (One class.Qubit)) AtEnd (flat_map (λ q. codes " " ++ qubit_text q) qubits) (parts_events (acting (map bare_qubit qubits)))

none_left : (k : Class) (us : List Token) → us ≡ [] → starts quil tables (One k) us ≡ false
none_left k us e = rw e refl

qubits_again : (c : Context) {ts us : List Token} {os : List Event} → Chain quil tables (One class.Qubit) ts os us → AreFit c ts → Qubits c os
qubits_again c Chain.done f = record { qubits = []; makes = refl; chunk = many_none {B = AtEnd} c (One class.Qubit) (λ us e. none_left class.Qubit us e) }
qubits_again c (Chain.link {us = us} r rs) f =
    let t = first c r f in
    let m = qubits_again c rs t.rest in
    record {
      qubits = qubit_at t.token ∷ m.qubits;
      makes = ap₂ (λ x y. x ++ y) t.makes m.makes;
      chunk = more_chunk (then_chunk (copied_qubit c t.token us t.fits t.accepted t.small) m.chunk (λ vs e. tt)) (λ ts vs ps q. starts_one q);
    }

-- ---- what stands behind the name

record BehindName (c : Context) (os : List Event) : Type 0 where
  pub written : List Written
  pub qubits : List Qubit
  pub makes : os ≡ parts_events (values written ++ acting qubits)
  pub chunk : Chunk c behind_name AtEnd (behind_text c written qubits) (parts_events (values (map again_of written) ++ acting (map bare_qubit qubits)))

behind_again : (c : Context) (ts : List Token) (os : List Event) → Reads quil tables behind_name ts (Made os []) → AreFit c ts → BehindName c os
behind_again c ts os r f =
    let b = both c r f in
    let p = parameters_again c ts b.middle b.first_os b.one f in
    let q = qubits_again c (many quil tables b.two) b.fits in
    record {
      written = p.written;
      qubits = q.qubits;
      makes = b.makes ∙ ap₂ (λ x y. x ++ y) p.makes q.makes ∙ sym (parts_append (values p.written) (acting q.qubits));
      chunk =
          with_events (sym (parts_append (values (map again_of p.written)) (acting (map bare_qubit q.qubits))))
          (then_chunk p.chunk q.chunk (λ us e. chain_no_list (many quil tables (q.chunk.reads us e)) e));
    }

record GateNamed (c : Context) (os : List Event) : Type 0 where
  pub name : Called
  pub written : List Written
  pub qubits : List Qubit
  pub makes : os ≡ parts_events (gate_parts name written qubits)
  pub chunk : Chunk c named AtEnd (blank name.text ++ behind_text c written qubits) (parts_events (gate_parts (bare_name name) (map again_of written) (map bare_qubit qubits)))

named_again : (c : Context) (ts : List Token) (os : List Event) → Reads quil tables named ts (Made os []) → AreFit c ts → GateNamed c os
named_again c ts os r f =
    let b = both c r f in
    let t = first c b.one f in
    let h = behind_again c b.middle b.second_os b.two b.fits in
    record {
      name = name_at t.token;
      written = h.written;
      qubits = h.qubits;
      makes = b.makes ∙ ap₂ (λ x y. x ++ y) t.makes h.makes;
      chunk = then_chunk (copied_name c class.Named t.token t.fits t.accepted (λ us. refl) refl) h.chunk (λ us e. tt);
    }

-- ---- a gate without modifiers

plain_name : (s : Sort) → accepts class.Gate s ≡ true → sort_class s ≡ 0
plain_name s h =
    elim (or_cases _ _ h) [
      | inl e ↦ subst (λ z. sort_class z ≡ 0) (sym (same_sort s sort.Name e)) refl
      | inr e ↦ subst (λ z. sort_class z ≡ 0) (sym (same_sort s sort.LeftOutForm e)) refl
    ]

named_line : (n : Called) (ws : List Written) (qs : List Qubit) → line_of (gate_parts n ws qs) ≡ Some (record { place = n.place; statement = statement.Gate (the_gate [] n ws qs) })
named_line n ws qs = rw (gate_means [] n ws qs) refl

named_placed : (n : Called) (ws : List Written) (qs : List Qubit) → line_of (map bare_part (gate_parts n ws qs)) ≡ Some (record { place = origin; statement = statement.Gate (bare_gate (the_gate [] n ws qs)) })
named_placed n ws qs =
    ap line_of (placed_parts [] n ws qs) ∙ named_line (bare_name n) (map bare_written ws) (map bare_qubit qs) ∙ ap (λ g. Some (record { place = origin; statement = statement.Gate g })) (placed_gate [] n ws qs)

pub plain_again : (c : Context) (t : Token) (ts : List Token) (os : List Event) → Fits (outer c) t → AreFit c ts → Reads quil tables plain_gate (t ∷ ts) (Made os []) → Reread lines c plain_gate t os
plain_again c t ts os fit f r =
    let h = head class.Gate behind_name t ts os r in
    let b = behind_again c ts h.tail_os h.reads f in
    let e = kind_of_class (outer c) t fit 0 (plain_name t.sort h.accepted) refl in
    let n = name_at t in
    word_then lines c class.Gate behind_name t os (record { place = t.place; statement = statement.Gate (the_gate [] n b.written b.qubits) })
    (gate_parts n b.written b.qubits) (h.makes ∙ ap (λ xs. Makes (Names n) ∷ xs) b.makes) (named_line n b.written b.qubits) (named_placed n b.written b.qubits)
    t.text (behind_text c b.written b.qubits) _
    (gate_parts (bare_name n) (map again_of b.written) (map bare_qubit b.qubits))
    (subst (λ k. IsLineToken k t.text) e fit.text) (sym (ap (λ u. u.sort) (fit.is ∙ ap (λ k. tok (outer c) k t.text) e))) h.accepted (λ us. refl)
    b.chunk refl (sym (append_assoc t.text _ _))
    (named_line (bare_name n) (map again_of b.written) (map bare_qubit b.qubits) ∙ ap (λ g. Some (record { place = origin; statement = statement.Gate g })) (bare_same [] n b.written b.qubits))

-- ---- modifiers

either_class : (P : Sort → Type 0) (s a b : Sort) → P a → P b → (is_sort s a || is_sort s b) ≡ true → P s
either_class P s a b p q h = elim (or_cases (is_sort s a) (is_sort s b) h) [ inl e ↦ subst P (sym (same_sort s a e)) p | inr e ↦ subst P (sym (same_sort s b e)) q ]

-- the word of a modifier, as it is printed, is read as that modifier
abbrev Modifies : Sort → Type 0
Modifies s = Keyword s (modification_text (modification_of s))

controlled : Modifies sort.Controlled
unfolding word_sort
controlled = keyword sort.Controlled (codes "CONTROLLED") (record { token = refl; one_line = refl }) (λ c. refl)

dagger : Modifies sort.Dagger
unfolding word_sort
dagger = keyword sort.Dagger (codes "DAGGER") (record { token = refl; one_line = refl }) (λ c. refl)

forked : Modifies sort.Forked
unfolding word_sort
forked = keyword sort.Forked (codes "FORKED") (record { token = refl; one_line = refl }) (λ c. refl)

modifier_word : (s : Sort) → accepts class.Modifier s ≡ true → Modifies s
modifier_word s h = either_class Modifies s sort.Controlled sort.Dagger controlled dagger h

forked_word : (s : Sort) → accepts class.Forked s ≡ true → Modifies s
forked_word s h = subst Modifies (sym (same_sort s sort.Forked h)) forked

-- a class whose words are modifiers
record Modifying (k : Class) : Type 0 where
  pub word : (s : Sort) → accepts k s ≡ true → Modifies s
  pub says : (t : Token) → value_of k t ≡ said k t
  pub small : (t : Token) (us : List Token) → is_too_large k t us ≡ false
  pub means : (s : Sort) (ps all : List Part) → worded k s ps all ≡ gate_of all

modifying : Modifying class.Modifier
modifying = record { word = modifier_word; says = λ t. refl; small = λ t us. refl; means = λ s ps all. refl }

forking : Modifying class.Forked
forking = record { word = forked_word; says = λ t. refl; small = λ t us. refl; means = λ s ps all. refl }

abbrev word_text : Word → List ℕ
word_text w = modification_text (modification_of w.sort)

abbrev said_text : List Word → List ℕ
said_text ws = flat_map (λ w. blank (word_text w)) ws

abbrev spoken : Class → Token → Word
spoken k t = record { place = t.place; class = k; sort = t.sort }

one_modifier : (c : Context) (k : Class) (m : Modifying k) (s : Sort) → accepts k s ≡ true → Chunk c (One k) Anything (blank (modification_text (modification_of s))) (Makes (Says origin k s) ∷ [])
one_modifier c k m s a =
    let w = m.word s a in
    let x = modification_text (modification_of s) in
    with_events (m.says (tok c kind.Name x) ∙ ap (λ z. Makes (Says origin k z) ∷ []) (w.same c))
    (word c k kind.Name x w.is_token (subst (λ z. accepts k z ≡ true) (sym (w.same c)) a) (λ us. m.small (tok c kind.Name x) us))

-- CONTROLLED and DAGGER
abbrev NoModifier : List Token → Type 0
NoModifier us = starts quil tables (One class.Modifier) us ≡ false

record Modifiers (c : Context) (os : List Event) : Type 0 where
  pub said : List Word
  pub makes : os ≡ parts_events (saying said)
  pub chunk : Chunk c (Many (One class.Modifier)) NoModifier (said_text said) (parts_events (saying (map bare_word said)))

modifiers_again : (c : Context) {ts us : List Token} {os : List Event} → Chain quil tables (One class.Modifier) ts os us → AreFit c ts → Modifiers c os
modifiers_again c Chain.done f = record { said = []; makes = refl; chunk = many_none {B = NoModifier} c (One class.Modifier) (λ us e. e) }
modifiers_again c (Chain.link r rs) f =
    let t = first c r f in
    let m = modifiers_again c rs t.rest in
    record {
      said = spoken class.Modifier t.token ∷ m.said;
      makes = ap₂ (λ x y. x ++ y) t.makes m.makes;
      chunk = more_chunk (then_chunk (one_modifier c class.Modifier modifying t.token.sort t.accepted) m.chunk (λ vs e. tt)) (λ ts vs ps q. starts_one q);
    }

-- a name and FORKED are neither
name_no_modifier : (s : Sort) → accepts class.Named s ≡ true → accepts class.Modifier s ≡ false
name_no_modifier s h = by_number (number_of s) h
  where
    by_number : (n : ℕ) → ((n == 0) || ((n == 1) || ((n == 2) || (n == 3)))) ≡ true → ((n == 16) || (n == 17)) ≡ false
    by_number n e = grind (arith, nat_tests)

forked_no_modifier : (s : Sort) → accepts class.Forked s ≡ true → accepts class.Modifier s ≡ false
forked_no_modifier s h = subst (λ z. accepts class.Modifier z ≡ false) (sym (same_sort s sort.Forked h)) refl

-- parts and texts of words one behind the other
said_parts : (a b : List Word) (ps : List Part) → parts_events (saying a) ++ parts_events (saying b ++ ps) ≡ parts_events (saying (a ++ b) ++ ps)
said_parts [] b ps = refl
said_parts (w ∷ a) b ps = ap (λ os. Makes (Says w.place w.class w.sort) ∷ os) (said_parts a b ps)

bare_parts : (a b : List Word) (ps : List Part) → parts_events (saying (map bare_word a)) ++ parts_events (saying (map bare_word b) ++ ps) ≡ parts_events (saying (map bare_word (a ++ b)) ++ ps)
bare_parts [] b ps = refl
bare_parts (w ∷ a) b ps = ap (λ os. Makes (Says origin w.class w.sort) ∷ os) (bare_parts a b ps)

said_texts : (a b : List Word) (y : List ℕ) → said_text a ++ (said_text b ++ y) ≡ said_text (a ++ b) ++ y
said_texts [] b y = refl
said_texts (w ∷ a) b y =
    append_assoc (blank (word_text w)) (said_text a) (said_text b ++ y) ∙ ap (λ z. blank (word_text w) ++ z) (said_texts a b y) ∙ sym (append_assoc (blank (word_text w)) (said_text (a ++ b)) y)

-- modifiers, and a gate
record Modified (c : Context) (s : Shape Class Event Name) (os : List Event) : Type 0 where
  pub said : List Word
  pub name : Called
  pub written : List Written
  pub qubits : List Qubit
  pub makes : os ≡ parts_events (saying said ++ gate_parts name written qubits)
  pub chunk : Chunk c s AtEnd (said_text said ++ (blank name.text ++ behind_text c written qubits)) (parts_events (saying (map bare_word said) ++ gate_parts (bare_name name) (map again_of written) (map bare_qubit qubits)))

-- the gate stands behind these, or more of them do
then_named : (c : Context) (ts : List Token) (os : List Event) (b : Shape Class Event Name) → Reads quil tables named ts (Made os []) → AreFit c ts → Modified c (Or named b) os
then_named c ts os b r f =
    let n = named_again c ts os r f in
    record { said = []; name = n.name; written = n.written; qubits = n.qubits; makes = n.makes; chunk = first_chunk n.chunk (λ us vs q. starts_read q) }

then_forked : (c : Context) (k : ℕ) (ts : List Token) (os : List Event) → ((us : List Token) (ps : List Event) → Reads quil tables (modified k) us (Made ps []) → AreFit c us → Modified c (modified k) ps) → Reads quil tables (Seq (One class.Forked) (modified k)) ts (Made os []) → AreFit c ts
    → Modified c (Or named (Seq (One class.Forked) (modified k))) os
then_forked c k ts os again r f =
    let b = both c r f in
    let t = first c b.one f in
    let m = again b.middle b.second_os b.two b.fits in
    let w = spoken class.Forked t.token in
    record {
      said = w ∷ m.said;
      name = m.name;
      written = m.written;
      qubits = m.qubits;
      makes = b.makes ∙ ap₂ (λ x y. x ++ y) t.makes m.makes;
      chunk =
          second_chunk
          (with_text (said_texts (w ∷ []) m.said (blank m.name.text ++ behind_text c m.written m.qubits))
          (then_chunk (with_text (sym (append-nil (blank (word_text w)))) (one_modifier c class.Forked forking t.token.sort t.accepted)) m.chunk (λ us e. tt)))
          (λ us vs q. starts_read q);
    }

-- CONTROLLED and DAGGER before either
then_more : (c : Context) (b : Shape Class Event Name) (ts : List Token) (os : List Event) → ((us : List Token) (ps : List Event) → Reads quil tables b us (Made ps []) → AreFit c us → Modified c b ps) → ((us vs : List Token) (ps : List Event) → Reads quil tables b us (Made ps vs) → NoModifier us) → Reads quil tables (Seq (Many (One class.Modifier)) b) ts (Made os []) → AreFit c ts
    → Modified c (Seq (Many (One class.Modifier)) b) os
then_more c b ts os again none r f =
    let i = both c r f in
    let w = modifiers_again c (many quil tables i.one) f in
    let m = again i.middle i.second_os i.two i.fits in
    record {
      said = w.said ++ m.said;
      name = m.name;
      written = m.written;
      qubits = m.qubits;
      makes = i.makes ∙ ap₂ (λ x y. x ++ y) w.makes m.makes ∙ said_parts w.said m.said (gate_parts m.name m.written m.qubits);
      chunk =
          with_text (said_texts w.said m.said (blank m.name.text ++ behind_text c m.written m.qubits))
          (with_events (bare_parts w.said m.said (gate_parts (bare_name m.name) (map again_of m.written) (map bare_qubit m.qubits)))
          (then_chunk w.chunk m.chunk (λ us e. none _ _ _ (m.chunk.reads us e))));
    }

named_none : (us vs : List Token) (ps : List Event) → Reads quil tables named us (Made ps vs) → NoModifier us
named_none us vs ps r = starts_other class.Named class.Modifier us name_no_modifier (starts_first r)

fifth_none : {us vs : List Token} {ps : List Event} → Reads quil tables (One class.FifthForked) us (Made ps vs) → ⊥
unfolding quil tables
fifth_none r = let i = one quil tables r in absurd (cc)

modified_again : (c : Context) (n : ℕ) (ts : List Token) (os : List Event) → Reads quil tables (modified n) ts (Made os []) → AreFit c ts → Modified c (modified n) os
modified_again c zero ts os r f =
    then_more c (Or named (One class.FifthForked)) ts os
    (λ us ps q g. elim (either q) [ inl i ↦ then_named c us ps (One class.FifthForked) i g | inr i ↦ absurd (fifth_none i) ])
    (λ us vs ps q. elim (either q) [ inl i ↦ named_none us vs ps i | inr i ↦ absurd (fifth_none i) ]) r f
modified_again c (suc k) ts os r f =
    then_more c (Or named (Seq (One class.Forked) (modified k))) ts os
    (λ us ps q g. elim (either q) [ inl i ↦ then_named c us ps (Seq (One class.Forked) (modified k)) i g | inr i ↦ then_forked c k us ps (λ vs qs p h. modified_again c k vs qs p h) i g ])
    (λ us vs ps q. elim (either q) [ inl i ↦ named_none us vs ps i | inr i ↦ starts_other class.Forked class.Modifier us forked_no_modifier (starts_first i) ]) r f

-- ---- a gate with modifiers

-- a blank behind each word is one before what comes next
blanks : (w : Word) (ws : List Word) (z : List ℕ) → word_text w ++ (said_text ws ++ blank z) ≡ flat_map (λ m. modification_text m.kind ++ codes " ") (map modifier_at (w ∷ ws)) ++ z
blanks w [] z = simp append_assoc refl
blanks w (v ∷ ws) z =
    let behind = flat_map (λ m. modification_text m.kind ++ codes " ") (map modifier_at (v ∷ ws)) in
    ap (λ y. word_text w ++ y) (append_assoc (blank (word_text v)) (said_text ws) (blank z)) ∙ ap (λ y. word_text w ++ blank y) (blanks v ws z)
    ∙ sym (append_assoc (word_text w) (codes " ") (behind ++ z)) ∙ sym (append_assoc (word_text w ++ codes " ") behind z)

modified_text : (w : Word) (ws : List Word) (n l q : List ℕ) → word_text w ++ (said_text ws ++ (blank n ++ (l ++ q))) ≡ flat_map (λ m. modification_text m.kind ++ codes " ") (map modifier_at (w ∷ ws)) ++ n ++ l ++ q
modified_text w ws n l q =
    let words = flat_map (λ m. modification_text m.kind ++ codes " ") (map modifier_at (w ∷ ws)) in
    blanks w ws (n ++ (l ++ q)) ∙ sym (append_assoc words n (l ++ q)) ∙ sym (append_assoc (words ++ n) l q)

said_line : (k : Class) (m : Modifying k) (p : Place) (s : Sort) (ms : List Word) (n : Called) (ws : List Written) (qs : List Qubit) → line_of (Maker (Says p k s) ∷ (saying ms ++ gate_parts n ws qs)) ≡ Some (record { place = p; statement = statement.Gate (the_gate (record { place = p; class = k; sort = s } ∷ ms) n ws qs) })
said_line k m p s ms n ws qs = rw (m.means s (saying ms ++ gate_parts n ws qs) (Maker (Says p k s) ∷ (saying ms ++ gate_parts n ws qs)), gate_means (record { place = p; class = k; sort = s } ∷ ms) n ws qs) refl

said_placed : (k : Class) (m : Modifying k) (p : Place) (s : Sort) (ms : List Word) (n : Called) (ws : List Written) (qs : List Qubit) → line_of (map bare_part (Maker (Says p k s) ∷ (saying ms ++ gate_parts n ws qs))) ≡ Some (record { place = origin; statement = statement.Gate (bare_gate (the_gate (record { place = p; class = k; sort = s } ∷ ms) n ws qs)) })
said_placed k m p s ms n ws qs =
    ap (λ ps. line_of (Maker (Says origin k s) ∷ ps)) (placed_parts ms n ws qs) ∙ said_line k m origin s (map bare_word ms) (bare_name n) (map bare_written ws) (map bare_qubit qs)
    ∙ ap (λ g. Some (record { place = origin; statement = statement.Gate g })) (placed_gate (record { place = p; class = k; sort = s } ∷ ms) n ws qs)

word_again : (c : Context) (k : Class) (n : ℕ) (t : Token) (ts : List Token) (os : List Event) → Modifying k → AreFit c ts → Head k (modified n) t ts os → Reread lines c (Seq (One k) (modified n)) t os
word_again c k n t ts os m f h =
    let g = modified_again c n ts h.tail_os h.reads f in
    let w = spoken k t in
    let x = m.word t.sort h.accepted in
    word_then lines c k (modified n) t os (record { place = t.place; statement = statement.Gate (the_gate (w ∷ g.said) g.name g.written g.qubits) })
    (word_part w ∷ (saying g.said ++ gate_parts g.name g.written g.qubits)) (h.makes ∙ ap₂ (λ x y. x ++ y) (m.says t) g.makes) (said_line k m t.place t.sort g.said g.name g.written g.qubits) (said_placed k m t.place t.sort g.said g.name g.written g.qubits)
    (word_text w) (said_text g.said ++ (blank g.name.text ++ behind_text c g.written g.qubits)) _
    (Maker (Says origin k t.sort) ∷ (saying (map bare_word g.said) ++ gate_parts (bare_name g.name) (map again_of g.written) (map bare_qubit g.qubits)))
    x.is_token (x.same (outer c)) h.accepted (λ us. m.small (tok (outer c) kind.Name (word_text w)) us)
    g.chunk
    (ap (λ y. y ++ parts_events (saying (map bare_word g.said) ++ gate_parts (bare_name g.name) (map again_of g.written) (map bare_qubit g.qubits))) (m.says (tok (outer c) kind.Name (word_text w)) ∙ ap (λ z. Makes (Says origin k z) ∷ []) (x.same (outer c))))
    (modified_text w g.said g.name.text (listed (formula_texts c.parameters (map formula_of g.written))) (flat_map (λ q. codes " " ++ qubit_text q) g.qubits))
    (said_line k m origin t.sort (map bare_word g.said) (bare_name g.name) (map again_of g.written) (map bare_qubit g.qubits) ∙ ap (λ y. Some (record { place = origin; statement = statement.Gate y })) (bare_same (w ∷ g.said) g.name g.written g.qubits))

-- ---- gates

starts_at : (k : Class) (s : Shape Class Event Name) (t : Token) (ts : List Token) (b : Bool) → accepts k t.sort ≡ true → (starts quil tables (Seq (One k) s) (t ∷ ts) || b) ≡ true
unfolding quil tables
starts_at k s t ts b h = or_left _ _ (or_left _ _ h)

pub modified_gate_again : (c : Context) (t : Token) (ts : List Token) (os : List Event) → AreFit c ts → Reads quil tables modified_gate (t ∷ ts) (Made os []) → Reread lines c modified_gate t os
modified_gate_again c t ts os f r =
    elim (either r) [
      | inl i ↦
          let h = head class.Modifier (modified 4) t ts os i in
          reread_left lines c (Seq (One class.Modifier) (modified 4)) (Seq (One class.Forked) (modified 3)) t ts os (starts_at class.Modifier (modified 4) t ts _ h.accepted) (word_again c class.Modifier 4 t ts os modifying f h)
      | inr i ↦
          let h = head class.Forked (modified 3) t ts os i in
          reread_right lines c (Seq (One class.Modifier) (modified 4)) (Seq (One class.Forked) (modified 3)) t ts os (starts_at class.Forked (modified 3) t ts _ h.accepted) (word_again c class.Forked 3 t ts os forking f h)
    ]

modified_starts : (t : Token) (ts : List Token) (os : List Event) (b : Bool) → Reads quil tables modified_gate (t ∷ ts) (Made os []) → (starts quil tables modified_gate (t ∷ ts) || b) ≡ true
unfolding quil tables
modified_starts t ts os b r =
    elim (either r) [
      | inl i ↦ or_left _ b (or_left _ _ (starts_read i))
      | inr i ↦ or_left _ b (or_right (starts quil tables (Seq (One class.Modifier) (modified 4)) (t ∷ ts)) _ (starts_read i))
    ]

pub gate_again : (c : Context) (t : Token) (ts : List Token) (os : List Event) → Fits (outer c) t → AreFit c ts → Reads quil tables gate (t ∷ ts) (Made os []) → Reread lines c gate t os
gate_again c t ts os fit f r =
    elim (either r) [
      | inl i ↦ let h = head class.Gate behind_name t ts os i in reread_left lines c plain_gate modified_gate t ts os (starts_at class.Gate behind_name t ts _ h.accepted) (plain_again c t ts os fit f i)
      | inr i ↦ reread_right lines c plain_gate modified_gate t ts os (modified_starts t ts os _ i) (modified_gate_again c t ts os f i)
    ]
