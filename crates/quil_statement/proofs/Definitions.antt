-- Headers of definitions, read from the tokens.
use Rattle.std.proofs.Common.{◌≡◌, Bool, true, false, if◌then◌else◌, List, [], ◌∷◌, ◌++◌, refl, sym, ◌∙◌, ap, subst, append-nil}
use Rattle.std.specs.Prelude.{filter_map}
use Rattle.std.proofs.lemmas.List.Elements.{filter_map-append}
use Rattle.std.proofs.lemmas.Bool.{or_right}
use Rattle.quil_shape.specs.Shape.{Shape}
use Rattle.quil_shape.specs.Shape.Shape.{One, Seq, Or, Many}
use Rattle.quil_shape.specs.Outcome.{Outcome}
use Rattle.quil_shape.specs.Reads.{Reads as Comes, Exceeds, starts, is_barred}
use Rattle.quil_shape.proofs.Reading.{choice_first, choice_second, choice_not_first, choice_not_second, empty_advances, token_exceeds, seq_exceeds_second}
use Rattle.quil_tree.specs.declared.place.Place.{Place}
use Rattle.quil_tree.specs.declared.statement.Name.{Name as Called}
use Rattle.quil_tree.specs.declared.item.Form.{Form}
use Rattle.quil_tree.specs.declared.item.Form.TheVariants as form
use Rattle.quil_tree.specs.declared.item.Item.TheVariants as item
use Rattle.quil_grammar.specs.declared.sort.Sort.{Sort}
use Rattle.quil_grammar.specs.declared.class.Class.{Class}
use Rattle.quil_grammar.specs.declared.class.Class.TheVariants as class
use Rattle.quil_grammar.specs.declared.stop.Stop.{Stop}
use Rattle.quil_grammar.specs.declared.stop.Stop.TheVariants as stop
use Rattle.quil_grammar.specs.Token.{Token}
use Rattle.quil_grammar.specs.Grammar.{quil, Name, Event}
use Rattle.quil_grammar.specs.Tables.{tables}
use Rattle.quil_grammar.specs.Grammar.Piece.{Says, Names}
use Rattle.quil_grammar.specs.Frames.{is_next, StopsFor}
use Rattle.quil_grammar.specs.Statements.{maybe, formals, matrix_form, any_form, gate_shape, gate_header, circuit_header}
use Rattle.quil_grammar.specs.Parts.{parts_events}
use Rattle.quil_grammar.specs.Parts.Part.{Made}
use Rattle.quil_statement.specs.Meaning.{gate_form, taken_of, name_of}
use Rattle.quil_statement.specs.Says.{Reads, SaysItem}
use Rattle.quil_statement.specs.Loops.{listed, taking, naming, IsForm, IsShape}
use Rattle.quil_statement.proofs.Tokens.{one_starts, one_barred, word_starts, word_barred}
use Rattle.quil_statement.proofs.Sequences.{reads_both, stops_first, stops_second, stops_fourth, stops_in_first, stops_in_second, not_second}

-- parameters
pub formals_read : (us vs ws xs : List Token) (ns : List Called) → Reads (One class.ListBegins) us vs [] → Reads (listed (One class.TakenParameter)) vs ws (taking ns) → Reads (One class.ListEnds) ws xs [] → Reads formals us xs (taking ns)
formals_read us vs ws xs ns r h q =
    subst (λ ps. Reads formals us xs ps) (append-nil (taking ns)) (reads_both (One class.ListBegins) (Seq (listed (One class.TakenParameter)) (One class.ListEnds)) us vs xs [] (taking ns ++ []) r (reads_both (listed (One class.TakenParameter)) (One class.ListEnds) vs ws xs (taking ns) [] h q))

pub formals_start : (us : List Token) → is_next class.ListBegins us ≡ true → starts quil tables formals us ≡ true
unfolding quil tables
formals_start [] e = absurd (cc)
formals_start (t ∷ us) e = rw e refl

formals_barred : (us : List Token) → is_next class.ListBegins us ≡ false → is_barred quil tables formals us ≡ true
unfolding quil tables
formals_barred [] e = refl
formals_barred (t ∷ us) e = rw e refl

pub formals_stand : (us vs : List Token) (ns : List Called) → is_next class.ListBegins us ≡ true → Reads formals us vs (taking ns) → Reads (maybe formals) us vs (taking ns)
formals_stand us vs ns e r = choice_first (formals_start us e) r

pub no_formals : (us vs : List Token) (ns : List Called) → is_next class.ListBegins us ≡ false → vs ≡ us → ns ≡ [] → Reads (maybe formals) us vs (taking ns)
no_formals us vs ns e f g = rw (f, g) (choice_not_first (formals_barred us e) empty_advances)

-- forms
left_out_exceeds : (us : List Token) → is_next class.LeftOutForm us ≡ true → Exceeds quil tables (One class.LeftOutForm) us us
unfolding quil tables
left_out_exceeds [] e = absurd (cc)
left_out_exceeds (t ∷ us) e = token_exceeds e refl

pub matrix_read : (us vs ws : List Token) → Reads (One class.As) us vs [] → is_next class.LeftOutForm vs ≡ false → Reads (One class.Matrix) vs ws [] → Reads matrix_form us ws []
matrix_read us vs ws r n q = reads_both (One class.As) (Or (One class.Matrix) (One class.LeftOutForm)) us vs ws [] [] r (choice_not_second (one_barred class.LeftOutForm vs n) q)

pub matrix_left_out : (us vs : List Token) → Reads (One class.As) us vs [] → is_next class.LeftOutForm vs ≡ true → Exceeds quil tables matrix_form us vs
matrix_left_out us vs r n = seq_exceeds_second r (choice_second (one_starts class.LeftOutForm vs n) (left_out_exceeds vs n))

pub matrix_stops : (us vs ws : List Token) (e : Stop) → Reads (One class.As) us vs [] → is_next class.LeftOutForm vs ≡ false → StopsFor e (One class.Matrix) vs ws → StopsFor e matrix_form us ws
matrix_stops us vs ws e r n q = stops_second (One class.As) (Or (One class.Matrix) (One class.LeftOutForm)) us vs ws [] e r (not_second (One class.Matrix) (One class.LeftOutForm) vs ws e (one_barred class.LeftOutForm vs n) q)

pub matrix_starts : (us : List Token) → is_next class.As us ≡ true → starts quil tables matrix_form us ≡ true
matrix_starts us e = word_starts class.As (Or (One class.Matrix) (One class.LeftOutForm)) us e

pub matrix_stands : (us vs : List Token) → is_next class.As us ≡ true → Reads matrix_form us vs [] → Reads (maybe matrix_form) us vs []
matrix_stands us vs e r = choice_first (matrix_starts us e) r

pub no_matrix : (us vs : List Token) → is_next class.As us ≡ false → vs ≡ us → Reads (maybe matrix_form) us vs []
no_matrix us vs e f = rw f (choice_not_first (word_barred class.As (Or (One class.Matrix) (One class.LeftOutForm)) us e) empty_advances)

abbrev later_form : Shape Class Event Name
later_form = Or (One class.Permutation) (One class.LeftOutForm)

abbrev form_word : Shape Class Event Name
form_word = Or (One class.Matrix) later_form

starts_first : (a b : Shape Class Event Name) (us : List Token) → starts quil tables a us ≡ true → starts quil tables (Or a b) us ≡ true
unfolding quil tables
starts_first a b [] e = absurd (cc)
starts_first a b (t ∷ us) e = rw e refl

starts_second : (a b : Shape Class Event Name) (us : List Token) → starts quil tables b us ≡ true → starts quil tables (Or a b) us ≡ true
unfolding quil tables
starts_second a b [] e = absurd (cc)
starts_second a b (t ∷ us) e = or_right _ _ e

both_barred : (c d : Class) (us : List Token) → is_next c us ≡ false → is_next d us ≡ false → is_barred quil tables (Or (One c) (One d)) us ≡ true
unfolding quil tables
both_barred c d [] e f = refl
both_barred c d (t ∷ us) e f = rw (e, f) refl

pub form_permutation : (us vs ws : List Token) (p : Place) (s : Sort) → Reads (One class.As) us vs [] → is_next class.Permutation vs ≡ true → Reads (One class.Permutation) vs ws (Made (Says p class.Permutation s) ∷ []) → IsForm any_form us ws true
form_permutation us vs ws p s r n q =
    record {
      parts = Made (Says p class.Permutation s) ∷ [];
      reads = reads_both (One class.As) form_word us vs ws [] (Made (Says p class.Permutation s) ∷ []) r (choice_second (starts_first (One class.Permutation) (One class.LeftOutForm) vs (one_starts class.Permutation vs n)) (choice_first (one_starts class.Permutation vs n) q));
      form = refl;
      takes_none = refl;
    }

pub form_matrix : (us vs ws : List Token) → Reads (One class.As) us vs [] → is_next class.LeftOutForm vs ≡ false → is_next class.Permutation vs ≡ false → Reads (One class.Matrix) vs ws [] → IsForm any_form us ws false
form_matrix us vs ws r n m q =
    record {
      parts = [];
      reads = reads_both (One class.As) form_word us vs ws [] [] r (choice_not_second (both_barred class.Permutation class.LeftOutForm vs m n) q);
      form = refl;
      takes_none = refl;
    }

pub form_left_out : (us vs : List Token) → Reads (One class.As) us vs [] → is_next class.LeftOutForm vs ≡ true → Exceeds quil tables any_form us vs
form_left_out us vs r n =
    seq_exceeds_second r (choice_second (starts_second (One class.Permutation) (One class.LeftOutForm) vs (one_starts class.LeftOutForm vs n)) (choice_second (one_starts class.LeftOutForm vs n) (left_out_exceeds vs n)))

pub form_permutation_stops : (us vs ws : List Token) (e : Stop) → Reads (One class.As) us vs [] → is_next class.Permutation vs ≡ true → StopsFor e (One class.Permutation) vs ws → StopsFor e any_form us ws
form_permutation_stops us vs ws e r n q =
    stops_second (One class.As) form_word us vs ws [] e r (stops_in_second (One class.Matrix) later_form vs ws e (starts_first (One class.Permutation) (One class.LeftOutForm) vs (one_starts class.Permutation vs n)) (stops_in_first (One class.Permutation) (One class.LeftOutForm) vs ws e (one_starts class.Permutation vs n) q))

pub form_matrix_stops : (us vs ws : List Token) (e : Stop) → Reads (One class.As) us vs [] → is_next class.LeftOutForm vs ≡ false → is_next class.Permutation vs ≡ false → StopsFor e (One class.Matrix) vs ws → StopsFor e any_form us ws
form_matrix_stops us vs ws e r n m q = stops_second (One class.As) form_word us vs ws [] e r (not_second (One class.Matrix) later_form vs ws e (both_barred class.Permutation class.LeftOutForm vs m n) q)

pub form_starts : (us : List Token) → is_next class.As us ≡ true → starts quil tables any_form us ≡ true
form_starts us e = word_starts class.As form_word us e

pub form_stands : (us vs : List Token) (b : Bool) → is_next class.As us ≡ true → IsForm any_form us vs b → IsForm (maybe any_form) us vs b
form_stands us vs b e h = record { parts = h.parts; reads = choice_first (form_starts us e) h.reads; form = h.form; takes_none = h.takes_none }

pub no_form : (us vs : List Token) → is_next class.As us ≡ false → vs ≡ us → IsForm (maybe any_form) us vs false
no_form us vs e f = rw f (record { parts = []; reads = choice_not_first (word_barred class.As form_word us e) empty_advances; form = refl; takes_none = refl })

-- parameters and forms
taken : (ns : List Called) → filter_map taken_of (taking ns) ≡ ns
taken [] = refl
taken (n ∷ ns) = ap (λ xs. n ∷ xs) (taken ns)

taking_no_form : (ns : List Called) → gate_form (taking ns) ≡ form.Matrix []
taking_no_form [] = refl
taking_no_form (n ∷ ns) = refl

shape_starts : (us : List Token) → is_next class.ListBegins us ≡ true → starts quil tables (Seq formals (maybe matrix_form)) us ≡ true
unfolding quil tables
shape_starts [] e = absurd (cc)
shape_starts (t ∷ us) e = rw e refl

shape_barred : (us : List Token) → is_next class.ListBegins us ≡ false → is_barred quil tables (Seq formals (maybe matrix_form)) us ≡ true
unfolding quil tables
shape_barred [] e = refl
shape_barred (t ∷ us) e = rw e refl

pub shape_with_parameters : (us vs ws : List Token) (ns : List Called) → is_next class.ListBegins us ≡ true → Reads formals us vs (taking ns) → Reads (maybe matrix_form) vs ws [] → IsShape us ws ns (form.Matrix [])
shape_with_parameters us vs ws ns e r q =
    record {
      parts = taking ns ++ [];
      reads = choice_first (shape_starts us e) (reads_both formals (maybe matrix_form) us vs ws (taking ns) [] r q);
      form = ap gate_form (append-nil (taking ns)) ∙ taking_no_form ns;
      takes = ap (λ ps. filter_map taken_of ps) (append-nil (taking ns)) ∙ taken ns;
    }

pub shape_of_form : (us vs : List Token) (b : Bool) (f : Form) (ns : List Called) → is_next class.ListBegins us ≡ false → IsForm (maybe any_form) us vs b → f ≡ (if b then form.Permutation [] else form.Matrix []) → ns ≡ [] → IsShape us vs ns f
shape_of_form us vs b f ns e h i j = record { parts = h.parts; reads = choice_not_first (shape_barred us e) h.reads; form = h.form ∙ sym i; takes = h.takes_none ∙ sym j }

pub shape_stops_first : (us vs : List Token) (e : Stop) → is_next class.ListBegins us ≡ true → StopsFor e formals us vs → StopsFor e gate_shape us vs
shape_stops_first us vs e n r = stops_in_first (Seq formals (maybe matrix_form)) (maybe any_form) us vs e (shape_starts us n) (stops_first formals (maybe matrix_form) us vs e r)

pub shape_stops_second : (us vs ws : List Token) (ns : List Called) (e : Stop) → is_next class.ListBegins us ≡ true → Reads formals us vs (taking ns) → StopsFor e (maybe matrix_form) vs ws → StopsFor e gate_shape us ws
shape_stops_second us vs ws ns e n r q = stops_in_first (Seq formals (maybe matrix_form)) (maybe any_form) us ws e (shape_starts us n) (stops_second formals (maybe matrix_form) us vs ws (parts_events (taking ns)) e r q)

pub shape_stops : (us vs : List Token) (e : Stop) → is_next class.ListBegins us ≡ false → StopsFor e (maybe any_form) us vs → StopsFor e gate_shape us vs
shape_stops us vs stop.OutOfMemory n r = tt
shape_stops us vs stop.Unexpected n r = choice_not_first (shape_barred us n) r
shape_stops us vs stop.TooLarge n r = choice_not_first (shape_barred us n) r

-- headers
pub gate_header_said : (us vs ws xs ys : List Token) (p : Place) (s : Sort) (n : Called) (ns : List Called) (f : Form) → Reads (One class.DefGate) us vs (Made (Says p class.DefGate s) ∷ []) → Reads (One class.Named) vs ws (Made (Names n) ∷ []) → IsShape ws xs ns f → Reads (One class.Colon) xs ys []
    → SaysItem gate_header us ys (item.DefGate (record { place = p; name = n; parameters = ns; form = f }))
gate_header_said us vs ws xs ys p s n ns f a b h c =
    record {
      parts = Made (Says p class.DefGate s) ∷ Made (Names n) ∷ (h.parts ++ []);
      reads = reads_both (One class.DefGate) (Seq (One class.Named) (Seq gate_shape (One class.Colon))) us vs ys (Made (Says p class.DefGate s) ∷ []) (Made (Names n) ∷ (h.parts ++ [])) a
          (reads_both (One class.Named) (Seq gate_shape (One class.Colon)) vs ws ys (Made (Names n) ∷ []) (h.parts ++ []) b (reads_both gate_shape (One class.Colon) ws xs ys h.parts [] h.reads c));
      means = rw (append-nil h.parts, h.form, h.takes) refl;
    }

pub gate_header_stops : (us vs ws xs ys : List Token) (ps qs : List Event) (ns : List Called) (f : Form) (e : Stop) → Comes quil tables (One class.DefGate) us (Outcome.Made ps vs) → Comes quil tables (One class.Named) vs (Outcome.Made qs ws) → IsShape ws xs ns f → StopsFor e (One class.Colon) xs ys → StopsFor e gate_header us ys
gate_header_stops us vs ws xs ys ps qs ns f e a b h r = stops_fourth (One class.DefGate) (One class.Named) gate_shape (One class.Colon) us vs ws xs ys ps qs (parts_events h.parts) e a b h.reads r

named_in_taking : (ns : List Called) → filter_map name_of (taking ns) ≡ []
named_in_taking [] = refl
named_in_taking (n ∷ ns) = named_in_taking ns

named_in_naming : (ns : List Called) → filter_map name_of (naming ns) ≡ ns
named_in_naming [] = refl
named_in_naming (n ∷ ns) = ap (λ xs. n ∷ xs) (named_in_naming ns)

taken_in_naming : (ns : List Called) → filter_map taken_of (naming ns) ≡ []
taken_in_naming [] = refl
taken_in_naming (n ∷ ns) = taken_in_naming ns

pub circuit_header_said : (us vs ws xs ys zs : List Token) (p : Place) (s : Sort) (n : Called) (ns qs : List Called) → Reads (One class.DefCircuit) us vs (Made (Says p class.DefCircuit s) ∷ []) → Reads (One class.Named) vs ws (Made (Names n) ∷ []) → Reads (maybe formals) ws xs (taking ns) → Reads (Many (One class.Named)) xs ys (naming qs) → Reads (One class.Colon) ys zs []
    → SaysItem circuit_header us zs (item.DefCircuit (record { place = p; name = n; parameters = ns; qubits = qs; body = [] }))
circuit_header_said us vs ws xs ys zs p s n ns qs a b c d e =
    let all = taking ns ++ (naming qs ++ []) in
    let takes : filter_map taken_of (taking ns ++ (naming qs ++ [])) ≡ ns = ap (λ ps. filter_map taken_of (taking ns ++ ps)) (append-nil (naming qs)) ∙ filter_map-append taken_of (taking ns) (naming qs) ∙ ap (λ xs. filter_map taken_of (taking ns) ++ xs) (taken_in_naming qs) ∙ append-nil (filter_map taken_of (taking ns)) ∙ taken ns in
    let names : filter_map name_of (taking ns ++ (naming qs ++ [])) ≡ qs = ap (λ ps. filter_map name_of (taking ns ++ ps)) (append-nil (naming qs)) ∙ filter_map-append name_of (taking ns) (naming qs) ∙ ap (λ xs. xs ++ filter_map name_of (naming qs)) (named_in_taking ns) ∙ named_in_naming qs in
    record {
      parts = Made (Says p class.DefCircuit s) ∷ Made (Names n) ∷ all;
      reads = reads_both (One class.DefCircuit) (Seq (One class.Named) (Seq (maybe formals) (Seq (Many (One class.Named)) (One class.Colon)))) us vs zs (Made (Says p class.DefCircuit s) ∷ []) (Made (Names n) ∷ all) a
          (reads_both (One class.Named) (Seq (maybe formals) (Seq (Many (One class.Named)) (One class.Colon))) vs ws zs (Made (Names n) ∷ []) all b
          (reads_both (maybe formals) (Seq (Many (One class.Named)) (One class.Colon)) ws xs zs (taking ns) (naming qs ++ []) c
          (reads_both (Many (One class.Named)) (One class.Colon) xs ys zs (naming qs) [] d e)));
      means = rw (takes, names) refl;
    }

pub circuit_header_stops : (us vs ws xs ys zs : List Token) (ps qs rs ss : List Event) (e : Stop) → Comes quil tables (One class.DefCircuit) us (Outcome.Made ps vs) → Comes quil tables (One class.Named) vs (Outcome.Made qs ws) → Comes quil tables (maybe formals) ws (Outcome.Made rs xs) → Comes quil tables (Many (One class.Named)) xs (Outcome.Made ss ys) → StopsFor e (One class.Colon) ys zs → StopsFor e circuit_header us zs
circuit_header_stops us vs ws xs ys zs ps qs rs ss e a b c d r =
    stops_fourth (One class.DefCircuit) (One class.Named) (maybe formals) (Seq (Many (One class.Named)) (One class.Colon)) us vs ws xs zs ps qs rs e a b c (stops_second (Many (One class.Named)) (One class.Colon) xs ys zs ss e d r)
