-- Gates, read from the tokens.
use Rattle.std.proofs.Common.{◌≡◌, ◌≢◌, ℕ, zero, suc, ◌-◌, Bool, true, false, List, [], ◌∷◌, ◌++◌, map, refl, sym, ◌∙◌, ap, subst, append_assoc, append-nil, arith}
use Rattle.std.specs.Prelude.{Some, filter_map}
use Rattle.std.proofs.lemmas.List.Elements.{filter_map-append}
use Rattle.std.proofs.lemmas.List.{map-append}
use Rattle.quil_shape.specs.Shape.{Shape}
use Rattle.quil_shape.specs.Shape.Shape.{One, Seq, Or, Many}
use Rattle.quil_shape.specs.Reads.{Halts, Exceeds, starts}
use Rattle.quil_shape.proofs.Reading.{choice_first, choice_second, choice_not_first, choice_not_second, empty_advances, token_halts, end_halts, token_exceeds}
use Rattle.quil_tree.specs.declared.place.Place.{Place}
use Rattle.quil_tree.specs.declared.statement.Name.{Name as Called}
use Rattle.quil_tree.specs.declared.statement.Qubit.{Qubit}
use Rattle.quil_tree.specs.declared.statement.Modifier.{Modifier}
use Rattle.quil_tree.specs.declared.statement.Formula.{Formula}
use Rattle.quil_tree.specs.declared.statement.Gate.{Gate}
use Rattle.quil_tree.specs.declared.statement.Statement.TheVariants as statement
use Rattle.quil_grammar.specs.declared.sort.Sort.{Sort}
use Rattle.quil_grammar.specs.declared.class.Class.{Class}
use Rattle.quil_grammar.specs.declared.class.Class.TheVariants as class
use Rattle.quil_grammar.specs.declared.stop.Stop.{Stop}
use Rattle.quil_grammar.specs.declared.stop.Stop.TheVariants as stop
use Rattle.quil_grammar.specs.Token.{Token}
use Rattle.quil_grammar.specs.Grammar.{quil, Name, Event}
use Rattle.quil_grammar.specs.Tables.{tables}
use Rattle.quil_grammar.specs.Grammar.Piece.{Says, Names}
use Rattle.quil_grammar.specs.Written.{Written, formula_of}
use Rattle.quil_grammar.specs.Frames.{is_next, StopsFor}
use Rattle.quil_grammar.specs.Statements.{formulas, parameters, maybe, behind_name, named, modified, modified_gate}
use Rattle.quil_grammar.specs.Parts.{Part, parts_events}
use Rattle.quil_grammar.specs.Parts.Part.{Made}
use Rattle.quil_statement.specs.Meaning.{modification_of, modifier_of, name_of, value_of, qubit_of, gate_of}
use Rattle.quil_statement.specs.Says.{Reads, SaysLine}
use Rattle.quil_statement.specs.Loops.{Leads, AreFormulas, AreModifiers, IsCalled, IsNamed, Forks, ModifiedSoFar, forked, Word, word_part, modifier_at, saying, values, acting}
use Rattle.quil_statement.proofs.Tokens.{word_starts, word_barred}
use Rattle.quil_statement.proofs.Sequences.{reads_both, stops_first, stops_second, stops_in_second, not_first, not_second}
use Rattle.quil_statement.proofs.Repeats.{leads_on, leads_to_end, leads_to_stop, first_leads}

-- parameters
pub parameters_read : (us vs ws xs : List Token) (fs : List Formula) → Reads (One class.ListBegins) us vs [] → AreFormulas (formulas true) vs ws fs → Reads (One class.ListEnds) ws xs [] → AreFormulas parameters us xs fs
parameters_read us vs ws xs fs r h q =
    record {
      written = h.written;
      reads = subst (λ ps. Reads parameters us xs ps) (append-nil (values h.written)) (reads_both (One class.ListBegins) (Seq (formulas true) (One class.ListEnds)) us vs xs [] (values h.written ++ []) r (reads_both (formulas true) (One class.ListEnds) vs ws xs (values h.written) [] h.reads q));
      are_meant = h.are_meant;
    }

pub parameters_start : (us : List Token) → is_next class.ListBegins us ≡ true → starts quil tables parameters us ≡ true
unfolding quil tables
parameters_start [] e = absurd (cc)
parameters_start (t ∷ us) e = rw e refl

pub some_parameters : (us vs : List Token) (fs : List Formula) → is_next class.ListBegins us ≡ true → AreFormulas parameters us vs fs → AreFormulas (maybe parameters) us vs fs
some_parameters us vs fs e h = record { written = h.written; reads = choice_first (parameters_start us e) h.reads; are_meant = h.are_meant }

pub no_parameters : (us vs : List Token) (fs : List Formula) → is_next class.ListBegins us ≡ false → vs ≡ us → fs ≡ [] → AreFormulas (maybe parameters) us vs fs
unfolding quil tables
no_parameters [] vs fs e f g = rw (f, g) (record { written = []; reads = choice_not_first refl empty_advances; are_meant = refl })
no_parameters (t ∷ us) vs fs e f g = rw (f, g) (record { written = []; reads = choice_not_first (rw e refl) empty_advances; are_meant = refl })

-- behind the name
pub called : (us vs ws : List Token) (ms : List Modifier) (n : Called) (fs : List Formula) (qs : List Qubit) → AreFormulas (maybe parameters) us vs fs → Reads (Many (One class.Qubit)) vs ws (acting qs) → IsCalled ms n us ws (record { modifiers = ms; name = n; parameters = fs; qubits = qs })
called us vs ws ms n fs qs h r =
    record {
      written = h.written;
      qubits = qs;
      reads = reads_both (maybe parameters) (Many (One class.Qubit)) us vs ws (values h.written) (acting qs) h.reads r;
      is_meant = ap (λ gs. record { modifiers = ms; name = n; parameters = gs; qubits = qs }) h.are_meant;
    }

pub qubits_stop : (us vs ws : List Token) (fs : List Formula) (e : Stop) → AreFormulas (maybe parameters) us vs fs → StopsFor e (Many (One class.Qubit)) vs ws → StopsFor e behind_name us ws
qubits_stop us vs ws fs e h r = stops_second (maybe parameters) (Many (One class.Qubit)) us vs ws (parts_events (values h.written)) e h.reads r

-- what stands among the parts of a gate
module _ (ws : List Written) (qs : List Qubit) where
  no_modifiers : filter_map modifier_of (values ws ++ acting qs) ≡ []
  no_modifiers = filter_map-append modifier_of (values ws) (acting qs) ∙ (rw (in_values ws) (in_acting qs)) where
    in_values : (vs : List Written) → filter_map modifier_of (values vs) ≡ []
    in_values [] = refl
    in_values (v ∷ vs) = in_values vs

    in_acting : (rs : List Qubit) → filter_map modifier_of (acting rs) ≡ []
    in_acting [] = refl
    in_acting (r ∷ rs) = in_acting rs

  no_names : filter_map name_of (values ws ++ acting qs) ≡ []
  no_names = filter_map-append name_of (values ws) (acting qs) ∙ (rw (in_values ws) (in_acting qs)) where
    in_values : (vs : List Written) → filter_map name_of (values vs) ≡ []
    in_values [] = refl
    in_values (v ∷ vs) = in_values vs

    in_acting : (rs : List Qubit) → filter_map name_of (acting rs) ≡ []
    in_acting [] = refl
    in_acting (r ∷ rs) = in_acting rs

  all_values : filter_map value_of (values ws ++ acting qs) ≡ map formula_of ws
  all_values = filter_map-append value_of (values ws) (acting qs) ∙ (rw (in_values ws, in_acting qs) (append-nil (map formula_of ws))) where
    in_values : (vs : List Written) → filter_map value_of (values vs) ≡ map formula_of vs
    in_values [] = refl
    in_values (v ∷ vs) = ap (λ fs. formula_of v ∷ fs) (in_values vs)

    in_acting : (rs : List Qubit) → filter_map value_of (acting rs) ≡ []
    in_acting [] = refl
    in_acting (r ∷ rs) = in_acting rs

  all_qubits : filter_map qubit_of (values ws ++ acting qs) ≡ qs
  all_qubits = filter_map-append qubit_of (values ws) (acting qs) ∙ (rw (in_values ws) (in_acting qs)) where
    in_values : (vs : List Written) → filter_map qubit_of (values vs) ≡ []
    in_values [] = refl
    in_values (v ∷ vs) = in_values vs

    in_acting : (rs : List Qubit) → filter_map qubit_of (acting rs) ≡ rs
    in_acting [] = refl
    in_acting (r ∷ rs) = ap (λ xs. r ∷ xs) (in_acting rs)

-- the same behind words
said_modifiers : (ws : List Word) (ps : List Part) → filter_map modifier_of (saying ws ++ ps) ≡ map modifier_at ws ++ filter_map modifier_of ps
said_modifiers [] ps = refl
said_modifiers (w ∷ ws) ps = ap (λ ms. modifier_at w ∷ ms) (said_modifiers ws ps)

said_names : (ws : List Word) (ps : List Part) → filter_map name_of (saying ws ++ ps) ≡ filter_map name_of ps
said_names [] ps = refl
said_names (w ∷ ws) ps = said_names ws ps

said_values : (ws : List Word) (ps : List Part) → filter_map value_of (saying ws ++ ps) ≡ filter_map value_of ps
said_values [] ps = refl
said_values (w ∷ ws) ps = said_values ws ps

said_qubits : (ws : List Word) (ps : List Part) → filter_map qubit_of (saying ws ++ ps) ≡ filter_map qubit_of ps
said_qubits [] ps = refl
said_qubits (w ∷ ws) ps = said_qubits ws ps

-- the gate that the parts mean
pub gate_means : (ws : List Word) (n : Called) (vs : List Written) (qs : List Qubit)
    → gate_of (saying ws ++ Made (Names n) ∷ (values vs ++ acting qs)) ≡ Some (statement.Gate (record { modifiers = map modifier_at ws; name = n; parameters = map formula_of vs; qubits = qs }))
gate_means ws n vs qs =
    let ms : filter_map modifier_of (saying ws ++ Made (Names n) ∷ (values vs ++ acting qs)) ≡ map modifier_at ws = said_modifiers ws (Made (Names n) ∷ (values vs ++ acting qs)) ∙ ap (λ xs. map modifier_at ws ++ xs) (no_modifiers vs qs) ∙ append-nil (map modifier_at ws) in
    let ns : filter_map name_of (saying ws ++ Made (Names n) ∷ (values vs ++ acting qs)) ≡ n ∷ [] = said_names ws (Made (Names n) ∷ (values vs ++ acting qs)) ∙ ap (λ xs. n ∷ xs) (no_names vs qs) in
    let fs : filter_map value_of (saying ws ++ Made (Names n) ∷ (values vs ++ acting qs)) ≡ map formula_of vs = said_values ws (Made (Names n) ∷ (values vs ++ acting qs)) ∙ all_values vs qs in
    let rs : filter_map qubit_of (saying ws ++ Made (Names n) ∷ (values vs ++ acting qs)) ≡ qs = said_qubits ws (Made (Names n) ∷ (values vs ++ acting qs)) ∙ all_qubits vs qs in
    rw (ns, ms, fs, rs) refl

pub plain_said : (us vs ws : List Token) (p : Place) (n : Called) (ms : List Modifier) (g : Gate) → Reads (One class.Gate) us vs (Made (Names n) ∷ []) → p ≡ n.place → ms ≡ [] → IsCalled ms n vs ws g → SaysLine (Seq (One class.Gate) behind_name) us ws (record { place = p; statement = statement.Gate g })
plain_said us vs ws p n ms g r e f h =
    record {
      parts = Made (Names n) ∷ (values h.written ++ acting h.qubits);
      reads = reads_both (One class.Gate) behind_name us vs ws (Made (Names n) ∷ []) (values h.written ++ acting h.qubits) r h.reads;
      means = rw (e, h.is_meant, f, gate_means [] n h.written h.qubits) refl;
    }

pub named_read : (us vs ws : List Token) (ms : List Modifier) (n : Called) (g : Gate) → Reads (One class.Named) us vs (Made (Names n) ∷ []) → IsCalled ms n vs ws g → IsNamed ms us ws g
named_read us vs ws ms n g r h =
    record {
      name = n;
      written = h.written;
      qubits = h.qubits;
      reads = reads_both (One class.Named) behind_name us vs ws (Made (Names n) ∷ []) (values h.written ++ acting h.qubits) r h.reads;
      is_meant = h.is_meant;
    }

-- modifiers: the first
one_word : (us vs : List Token) (c : Class) (a b : Shape Class Event Name) (p : Place) (s : Sort) → starts quil tables (Seq (One c) a) us ≡ true → Reads (One c) us vs (Made (Says p c s) ∷ []) → Leads (Or (Seq (One c) a) b) us a vs (Made (Says p c s) ∷ [])
one_word us vs c a b p s e r = let h = first_leads (One c) a us vs (Made (Says p c s) ∷ []) r in record { goes_on = λ out x. choice_first e (h.goes_on out x) }

other_word : (us vs : List Token) (c : Class) (a b : Shape Class Event Name) (p : Place) (s : Sort) → starts quil tables (Seq (One c) b) us ≡ true → Reads (One c) us vs (Made (Says p c s) ∷ []) → Leads (Or a (Seq (One c) b)) us b vs (Made (Says p c s) ∷ [])
other_word us vs c a b p s e r = let h = first_leads (One c) b us vs (Made (Says p c s) ∷ []) r in record { goes_on = λ out x. choice_second e (h.goes_on out x) }

pub forked_first : (us vs : List Token) (p : Place) (s : Sort) (ms : List Modifier) → is_next class.Forked us ≡ true → Reads (One class.Forked) us vs (Made (Says p class.Forked s) ∷ []) → ms ≡ record { place = p; kind = modification_of s } ∷ [] → ModifiedSoFar 3 us vs p ms
forked_first us vs p s ms n r e =
    record {
      first = record { place = p; class = class.Forked; sort = s };
      more = [];
      is_modifier = λ t ps all. refl;
      leads = other_word us vs class.Forked (Seq (One class.Modifier) (modified 4)) (modified 3) p s (word_starts class.Forked (modified 3) us n) r;
      is_place = refl;
      are_meant = e;
    }

pub modifier_first : (us vs : List Token) (p : Place) (s : Sort) (ms : List Modifier) → is_next class.Forked us ≡ false → Reads (One class.Modifier) us vs (Made (Says p class.Modifier s) ∷ []) → ms ≡ record { place = p; kind = modification_of s } ∷ [] → ModifiedSoFar 4 us vs p ms
modifier_first us vs p s ms n r e =
    let h = first_leads (One class.Modifier) (modified 4) us vs (Made (Says p class.Modifier s) ∷ []) r in
    record {
      first = record { place = p; class = class.Modifier; sort = s };
      more = [];
      is_modifier = λ t ps all. refl;
      leads = record { goes_on = λ out x. choice_not_second (word_barred class.Forked (modified 3) us n) (h.goes_on out x) };
      is_place = refl;
      are_meant = e;
    }

pub forked_first_stops : (us vs : List Token) (e : Stop) → is_next class.Forked us ≡ true → StopsFor e (One class.Forked) us vs → StopsFor e modified_gate us vs
forked_first_stops us vs e n r = stops_in_second (Seq (One class.Modifier) (modified 4)) (Seq (One class.Forked) (modified 3)) us vs e (word_starts class.Forked (modified 3) us n) (stops_first (One class.Forked) (modified 3) us vs e r)

pub modifier_first_stops : (us vs : List Token) (e : Stop) → is_next class.Forked us ≡ false → StopsFor e (One class.Modifier) us vs → StopsFor e modified_gate us vs
modifier_first_stops us vs e n r = not_second (Seq (One class.Modifier) (modified 4)) (Seq (One class.Forked) (modified 3)) us vs e (word_barred class.Forked (modified 3) us n) (stops_first (One class.Modifier) (modified 4) us vs e r)

-- modifiers: more of them
modified_is : (n : ℕ) → modified n ≡ Seq (Many (One class.Modifier)) (Or named (forked n))
modified_is zero = refl
modified_is (suc n) = refl

leads_past : (forks : ℕ) (us vs : List Token) (ls ms : List Modifier) (h : AreModifiers us vs ls ms) → Leads (modified forks) us (Or named (forked forks)) vs (saying h.words)
leads_past forks us vs ls ms h = rw (modified_is forks) (first_leads (Many (One class.Modifier)) (Or named (forked forks)) us vs (saying h.words) h.reads)

pub modifiers_stop_first : (forks : ℕ) (us vs : List Token) (e : Stop) → StopsFor e (Many (One class.Modifier)) us vs → StopsFor e (modified forks) us vs
modifiers_stop_first forks us vs e r = rw (modified_is forks) (stops_first (Many (One class.Modifier)) (Or named (forked forks)) us vs e r)

pub forks_to_name : (forks : ℕ) (us vs : List Token) (ls ms : List Modifier) → AreModifiers us vs ls ms → is_next class.Named vs ≡ true → Forks forks us vs ls ms true
forks_to_name forks us vs ls ms h n =
    record {
      words = h.words;
      are_meant = h.are_meant;
      up_to_name = λ e. (let k = leads_past forks us vs ls ms h in record { goes_on = λ out x. k.goes_on out (choice_first (word_starts class.Named behind_name vs n) x) });
      up_to_fork = λ e. absurd (cc);
    }

pub fork_stops : (forks : ℕ) (us vs ws : List Token) (ls ms : List Modifier) (e : Stop) → AreModifiers us vs ls ms → is_next class.Named vs ≡ false → forks ≢ 0 → StopsFor e (One class.Forked) vs ws → StopsFor e (modified forks) us ws
fork_stops zero us vs ws ls ms e h n some r = absurd (some refl)
fork_stops (suc k) us vs ws ls ms e h n some r =
    leads_to_stop (modified (suc k)) (Or named (forked (suc k))) us vs ws (saying h.words) e (leads_past (suc k) us vs ls ms h)
    (not_first named (forked (suc k)) vs ws e (word_barred class.Named behind_name vs n) (stops_first (One class.Forked) (modified k) vs ws e r))

pub fifth_exceeds : (forks : ℕ) (us vs : List Token) (ls ms : List Modifier) → AreModifiers us vs ls ms → is_next class.Named vs ≡ false → forks ≡ 0 → is_next class.FifthForked vs ≡ true → Exceeds quil tables (modified forks) us vs
unfolding quil tables
fifth_exceeds forks us [] ls ms h n e f = absurd (cc)
fifth_exceeds forks us (t ∷ vs) ls ms h n e f =
    rw e (leads_to_stop (modified 0) (Or named (forked 0)) us (t ∷ vs) (t ∷ vs) (saying h.words) stop.TooLarge (leads_past 0 us (t ∷ vs) ls ms h)
    (not_first named (forked 0) (t ∷ vs) (t ∷ vs) stop.TooLarge (word_barred class.Named behind_name (t ∷ vs) n) (token_exceeds f refl)))

pub no_name_halts : (forks : ℕ) (us vs : List Token) (ls ms : List Modifier) → AreModifiers us vs ls ms → is_next class.Named vs ≡ false → forks ≡ 0 → is_next class.FifthForked vs ≡ false → Halts quil tables (modified forks) us vs
unfolding quil tables
no_name_halts forks us [] ls ms h n e f =
    rw e (leads_to_stop (modified 0) (Or named (forked 0)) us [] [] (saying h.words) stop.Unexpected (leads_past 0 us [] ls ms h)
    (not_first named (forked 0) [] [] stop.Unexpected (word_barred class.Named behind_name [] n) end_halts))
no_name_halts forks us (t ∷ vs) ls ms h n e f =
    rw e (leads_to_stop (modified 0) (Or named (forked 0)) us (t ∷ vs) (t ∷ vs) (saying h.words) stop.Unexpected (leads_past 0 us (t ∷ vs) ls ms h)
    (not_first named (forked 0) (t ∷ vs) (t ∷ vs) stop.Unexpected (word_barred class.Named behind_name (t ∷ vs) n) (token_halts f)))

less_one : (k : ℕ) → suc k - 1 ≡ k
less_one k = omega arith

pub forks_on : (forks : ℕ) (us vs ws : List Token) (ls ms ns : List Modifier) (p : Place) (s : Sort) → AreModifiers us vs ls ms → is_next class.Named vs ≡ false → forks ≢ 0 → Reads (One class.Forked) vs ws (Made (Says p class.Forked s) ∷ []) → ns ≡ ms ++ record { place = p; kind = modification_of s } ∷ [] → Forks forks us ws ls ns false
forks_on zero us vs ws ls ms ns p s h n some r e = absurd (some refl)
forks_on (suc k) us vs ws ls ms ns p s h n some r e =
    let w : Word = record { place = p; class = class.Forked; sort = s } in
    let first : Leads (Or named (forked (suc k))) vs (modified k) ws (saying (w ∷ [])) = (let f = first_leads (One class.Forked) (modified k) vs ws (Made (Says p class.Forked s) ∷ []) r in record { goes_on = λ out x. choice_not_first (word_barred class.Named behind_name vs n) (f.goes_on out x) }) in
    record {
      words = h.words ++ w ∷ [];
      are_meant = e ∙ ap (λ xs. xs ++ modifier_at w ∷ []) h.are_meant ∙ append_assoc ls (map modifier_at h.words) (modifier_at w ∷ []) ∙ ap (λ xs. ls ++ xs) (sym (map-append modifier_at h.words (w ∷ [])));
      up_to_name = λ f. absurd (cc);
      up_to_fork = λ f. subst (λ n. Leads (modified (suc k)) us (modified n) ws (saying (h.words ++ w ∷ []))) (sym (less_one k)) (subst (λ ps. Leads (modified (suc k)) us (modified k) ws ps) (sym (map-append word_part h.words (w ∷ []))) (leads_on (modified (suc k)) (Or named (forked (suc k))) (modified k) us vs ws (saying h.words) (saying (w ∷ [])) (leads_past (suc k) us vs ls ms h) first));
    }

-- the whole of it
joined : (forks : ℕ) (ts us vs : List Token) (p : Place) (ls ms : List Modifier) (b : Bool) (h : ModifiedSoFar forks ts us p ls) (k : Forks forks us vs ls ms b) → ms ≡ map modifier_at (h.first ∷ (h.more ++ k.words))
joined forks ts us vs p ls ms b h k = k.are_meant ∙ ap (λ xs. xs ++ map modifier_at k.words) h.are_meant ∙ sym (map-append modifier_at (h.first ∷ h.more) k.words)

pub modified_on : (forks : ℕ) (ts us vs : List Token) (p : Place) (ls ms : List Modifier) (b : Bool) → ModifiedSoFar forks ts us p ls → b ≡ false → Forks forks us vs ls ms b → ModifiedSoFar (forks - 1) ts vs p ms
modified_on forks ts us vs p ls ms b h e k =
    record {
      first = h.first;
      more = h.more ++ k.words;
      is_modifier = h.is_modifier;
      leads = subst (λ ps. Leads modified_gate ts (modified (forks - 1)) vs ps) (sym (map-append word_part (h.first ∷ h.more) k.words)) (leads_on modified_gate (modified forks) (modified (forks - 1)) ts us vs (saying (h.first ∷ h.more)) (saying k.words) h.leads (k.up_to_fork e));
      is_place = h.is_place;
      are_meant = joined forks ts us vs p ls ms b h k;
    }

to_name : (forks : ℕ) (ts us vs : List Token) (p : Place) (ls ms : List Modifier) (b : Bool) (h : ModifiedSoFar forks ts us p ls) → b ≡ true → (k : Forks forks us vs ls ms b) → Leads modified_gate ts named vs (saying (h.first ∷ (h.more ++ k.words)))
to_name forks ts us vs p ls ms b h e k = subst (λ ps. Leads modified_gate ts named vs ps) (sym (map-append word_part (h.first ∷ h.more) k.words)) (leads_on modified_gate (modified forks) named ts us vs (saying (h.first ∷ h.more)) (saying k.words) h.leads (k.up_to_name e))

pub modified_stops : (forks : ℕ) (ts us vs : List Token) (p : Place) (ls : List Modifier) (e : Stop) → ModifiedSoFar forks ts us p ls → StopsFor e (modified forks) us vs → StopsFor e modified_gate ts vs
modified_stops forks ts us vs p ls e h r = leads_to_stop modified_gate (modified forks) ts us vs (saying (h.first ∷ h.more)) e h.leads r

pub named_stops : (forks : ℕ) (ts us vs ws : List Token) (p : Place) (ls ms : List Modifier) (b : Bool) (e : Stop) → ModifiedSoFar forks ts us p ls → b ≡ true → Forks forks us vs ls ms b → StopsFor e named vs ws → StopsFor e modified_gate ts ws
named_stops forks ts us vs ws p ls ms b e h i k r = leads_to_stop modified_gate named ts vs ws (saying (h.first ∷ (h.more ++ k.words))) e (to_name forks ts us vs p ls ms b h i k) r

pub modified_said : (forks : ℕ) (ts us vs ws : List Token) (p : Place) (ls ms : List Modifier) (b : Bool) (g : Gate) → ModifiedSoFar forks ts us p ls → b ≡ true → Forks forks us vs ls ms b → IsNamed ms vs ws g → SaysLine modified_gate ts ws (record { place = p; statement = statement.Gate g })
modified_said forks ts us vs ws p ls ms b g h i k q =
    let words = h.first ∷ (h.more ++ k.words) in
    let behind = Made (Names q.name) ∷ (values q.written ++ acting q.qubits) in
    record {
      parts = saying words ++ behind;
      reads = leads_to_end modified_gate named ts vs ws (saying words) behind (to_name forks ts us vs p ls ms b h i k) q.reads;
      means = rw (h.is_modifier h.first.sort (saying (h.more ++ k.words) ++ behind) (saying words ++ behind), gate_means words q.name q.written q.qubits, h.is_place, q.is_meant, joined forks ts us vs p ls ms b h k) refl;
    }
