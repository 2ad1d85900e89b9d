-- Repetitions: how they begin, go on, end and stop.
use Rattle.std.proofs.Common.{◌≡◌, ℕ, Bool, true, false, List, [], ◌∷◌, ◌++◌, map, refl, sym, ◌∙◌, ap, subst, append_assoc, append-nil}
use Rattle.std.proofs.lemmas.List.{map-append}
use Rattle.quil_shape.specs.Shape.{Shape}
use Rattle.quil_shape.specs.Shape.Shape.{One, Seq, Many, Rule}
use Rattle.quil_shape.specs.Outcome.{Outcome, after}
use Rattle.quil_shape.specs.Outcome.Outcome.{Made as Got, Stuck, Large}
use Rattle.quil_shape.specs.Reads.{Reads as Comes, Advances, starts}
use Rattle.quil_tree.specs.declared.place.Place.{Place}
use Rattle.quil_tree.specs.declared.statement.Name.{Name as Called}
use Rattle.quil_tree.specs.declared.statement.Qubit.{Qubit}
use Rattle.quil_tree.specs.declared.statement.Modifier.{Modifier}
use Rattle.quil_tree.specs.declared.statement.Formula.{Formula}
use Rattle.quil_grammar.specs.declared.sort.Sort.{Sort}
use Rattle.quil_grammar.specs.declared.class.Class.{Class}
use Rattle.quil_grammar.specs.declared.class.Class.TheVariants as class
use Rattle.quil_grammar.specs.declared.stop.Stop.{Stop}
use Rattle.quil_grammar.specs.declared.stop.Stop.TheVariants as stop
use Rattle.quil_grammar.specs.Token.{Token}
use Rattle.quil_grammar.specs.Grammar.{quil, Name, Event, Sum}
use Rattle.quil_grammar.specs.Tables.{tables}
use Rattle.quil_grammar.specs.Grammar.Piece.{Says, Names, Takes, Acts, Keeps}
use Rattle.quil_grammar.specs.Written.{Written, formula_of, events}
use Rattle.quil_grammar.specs.Frames.{is_next, StopsFor, IsFormulaRead}
use Rattle.quil_grammar.specs.Parts.{Part, parts_events}
use Rattle.quil_grammar.specs.Parts.Part.{Made, Value}
use Rattle.quil_statement.specs.Meaning.{modification_of}
use Rattle.quil_statement.specs.Says.{Reads}
use Rattle.quil_statement.specs.Loops.{Leads, Repeats, ListSoFar, listed, FormulasSoFar, AreFormulas, ModifiersSoFar, AreModifiers, acting, naming, taking, keeping, values, saying, modifier_at, Word, word_part}
use Rattle.quil_statement.proofs.Tokens.{one_starts}
use Rattle.quil_statement.proofs.Sequences.{parts_append, stops_first, stops_second}

-- what was made before what was made before
after_both : (ps qs : List Part) (out : Outcome Event Token) → after (parts_events ps) (after (parts_events qs) out) ≡ after (parts_events (ps ++ qs)) out
after_both ps qs (Got os us) = ap (λ xs. Got xs us) (sym (append_assoc (parts_events ps) (parts_events qs) os) ∙ ap (λ xs. xs ++ os) (sym (parts_append ps qs)))
after_both ps qs (Stuck us) = refl
after_both ps qs (Large us) = refl

after_none : (out : Outcome Event Token) → after [] out ≡ out
after_none (Got os us) = refl
after_none (Stuck us) = refl
after_none (Large us) = refl

-- nothing has been read
pub leads_here : (s : Shape Class Event Name) (ts : List Token) → Leads s ts s ts []
leads_here s ts = record { goes_on = λ out r. subst (λ x. Comes quil tables s ts x) (sym (after_none out)) r }

-- one step more
pub leads_on : (s r q : Shape Class Event Name) (ts us vs : List Token) (ps qs : List Part) → Leads s ts r us ps → Leads r us q vs qs → Leads s ts q vs (ps ++ qs)
leads_on s r q ts us vs ps qs h k = record { goes_on = λ out x. subst (λ y. Comes quil tables s ts y) (after_both ps qs out) (h.goes_on (after (parts_events qs) out) (k.goes_on out x)) }

-- reading comes to its end, or stops
pub leads_to_end : (s r : Shape Class Event Name) (ts us vs : List Token) (ps qs : List Part) → Leads s ts r us ps → Reads r us vs qs → Reads s ts vs (ps ++ qs)
leads_to_end s r ts us vs ps qs h k = subst (λ os. Advances quil tables s ts vs os) (sym (parts_append ps qs)) (h.goes_on (Got (parts_events qs) vs) k)

pub leads_to_stop : (s r : Shape Class Event Name) (ts us vs : List Token) (ps : List Part) (e : Stop) → Leads s ts r us ps → StopsFor e r us vs → StopsFor e s ts vs
leads_to_stop s r ts us vs ps stop.OutOfMemory h k = tt
leads_to_stop s r ts us vs ps stop.Unexpected h k = h.goes_on (Stuck vs) k
leads_to_stop s r ts us vs ps stop.TooLarge h k = h.goes_on (Large vs) k

-- one part of a repetition
pub part_leads : (a : Shape Class Event Name) (us vs : List Token) (qs : List Part) → starts quil tables a us ≡ true → Reads a us vs qs → Leads (Many a) us (Many a) vs qs
part_leads a us vs qs e r = record { goes_on = λ out x. Comes.more e r x }

pub part_stops : (a : Shape Class Event Name) (us vs : List Token) (e : Stop) → starts quil tables a us ≡ true → StopsFor e a us vs → StopsFor e (Many a) us vs
part_stops a us vs stop.OutOfMemory h r = tt
part_stops a us vs stop.Unexpected h r = Comes.more_stuck h r
part_stops a us vs stop.TooLarge h r = Comes.more_large h r

-- a first part
pub first_leads : (a b : Shape Class Event Name) (us vs : List Token) (qs : List Part) → Reads a us vs qs → Leads (Seq a b) us b vs qs
first_leads a b us vs qs r = record { goes_on = λ out x. Comes.seq r x }

not_starts : (c : Class) (us : List Token) → is_next c us ≡ false → starts quil tables (One c) us ≡ false
unfolding quil tables
not_starts c [] e = refl
not_starts c (t ∷ us) e = e

comma_starts : (x : Shape Class Event Name) (us : List Token) → is_next class.Comma us ≡ true → starts quil tables (Seq (One class.Comma) x) us ≡ true
unfolding quil tables
comma_starts x [] e = absurd (cc)
comma_starts x (t ∷ us) e = rw e refl

no_comma_starts : (x : Shape Class Event Name) (us : List Token) → is_next class.Comma us ≡ false → starts quil tables (Seq (One class.Comma) x) us ≡ false
unfolding quil tables
no_comma_starts x [] e = refl
no_comma_starts x (t ∷ us) e = rw e refl

-- repetitions of one token
module _ {A : Type 0} (f : A → Part) (c : Class) where
  pub tokens_begin : (ts : List Token) → Repeats (One c) ts ts (map f [])
  tokens_begin ts = leads_here (Many (One c)) ts

  pub tokens_go_on : (ts us vs : List Token) (xs ys : List A) (x : A) → Repeats (One c) ts us (map f xs) → is_next c us ≡ true → Reads (One c) us vs (f x ∷ []) → ys ≡ xs ++ x ∷ [] → Repeats (One c) ts vs (map f ys)
  tokens_go_on ts us vs xs ys x h n r e =
      rw e (subst (λ ps. Repeats (One c) ts vs ps) (sym (map-append f xs (x ∷ []))) (leads_on (Many (One c)) (Many (One c)) (Many (One c)) ts us vs (map f xs) (f x ∷ []) h (part_leads (One c) us vs (f x ∷ []) (one_starts c us n) r)))

  pub tokens_end : (ts us : List Token) (xs : List A) → Repeats (One c) ts us (map f xs) → is_next c us ≡ false → Reads (Many (One c)) ts us (map f xs)
  tokens_end ts us xs h n = subst (λ ps. Reads (Many (One c)) ts us ps) (append-nil (map f xs)) (leads_to_end (Many (One c)) (Many (One c)) ts us us (map f xs) [] h (Comes.none (not_starts c us n)))

  pub tokens_stop : (ts us vs : List Token) (xs : List A) (e : Stop) → Repeats (One c) ts us (map f xs) → is_next c us ≡ true → StopsFor e (One c) us vs → StopsFor e (Many (One c)) ts vs
  tokens_stop ts us vs xs e h n r = leads_to_stop (Many (One c)) (Many (One c)) ts us vs (map f xs) e h (part_stops (One c) us vs e (one_starts c us n) r)

-- lists with commas
module _ {A : Type 0} (f : A → Part) (s : Shape Class Event Name) where
  pub list_begins : (ts us : List Token) (x : A) → Reads s ts us (f x ∷ []) → ListSoFar s ts us (map f (x ∷ []))
  list_begins ts us x r = first_leads s (Many (Seq (One class.Comma) s)) ts us (f x ∷ []) r

  pub list_goes_on : (ts us vs ws : List Token) (xs ys : List A) (x : A) → ListSoFar s ts us (map f xs) → is_next class.Comma us ≡ true → Reads (One class.Comma) us vs [] → Reads s vs ws (f x ∷ []) → ys ≡ xs ++ x ∷ [] → ListSoFar s ts ws (map f ys)
  list_goes_on ts us vs ws xs ys x h n r q e =
      rw e (subst (λ ps. ListSoFar s ts ws ps) (sym (map-append f xs (x ∷ []))) (leads_on (listed s) (Many (Seq (One class.Comma) s)) (Many (Seq (One class.Comma) s)) ts us ws (map f xs) (f x ∷ []) h (part_leads (Seq (One class.Comma) s) us ws (f x ∷ []) (comma_starts s us n) (Comes.seq r q))))

  pub list_ends : (ts us : List Token) (xs : List A) → ListSoFar s ts us (map f xs) → is_next class.Comma us ≡ false → Reads (listed s) ts us (map f xs)
  list_ends ts us xs h n = subst (λ ps. Reads (listed s) ts us ps) (append-nil (map f xs)) (leads_to_end (listed s) (Many (Seq (One class.Comma) s)) ts us us (map f xs) [] h (Comes.none (no_comma_starts s us n)))

  pub list_stops : (ts us vs : List Token) (xs : List A) (e : Stop) → ListSoFar s ts us (map f xs) → is_next class.Comma us ≡ true → StopsFor e (Seq (One class.Comma) s) us vs → StopsFor e (listed s) ts vs
  list_stops ts us vs xs e h n r = leads_to_stop (listed s) (Many (Seq (One class.Comma) s)) ts us vs (map f xs) e h (part_stops (Seq (One class.Comma) s) us vs e (comma_starts s us n) r)

-- the same of each list
pub qubits_begin : (ts : List Token) → Repeats (One class.Qubit) ts ts (acting [])
qubits_begin ts = tokens_begin (λ q. Made (Acts q)) class.Qubit ts

pub qubits_go_on : (ts us vs : List Token) (xs ys : List Qubit) (x : Qubit) → Repeats (One class.Qubit) ts us (acting xs) → is_next class.Qubit us ≡ true → Reads (One class.Qubit) us vs (Made (Acts x) ∷ []) → ys ≡ xs ++ x ∷ [] → Repeats (One class.Qubit) ts vs (acting ys)
qubits_go_on ts us vs xs ys x h n r e = tokens_go_on (λ q. Made (Acts q)) class.Qubit ts us vs xs ys x h n r e

pub qubits_end : (ts us : List Token) (xs : List Qubit) → Repeats (One class.Qubit) ts us (acting xs) → is_next class.Qubit us ≡ false → Reads (Many (One class.Qubit)) ts us (acting xs)
qubits_end ts us xs h n = tokens_end (λ q. Made (Acts q)) class.Qubit ts us xs h n

pub qubits_stop : (ts us vs : List Token) (xs : List Qubit) (e : Stop) → Repeats (One class.Qubit) ts us (acting xs) → is_next class.Qubit us ≡ true → StopsFor e (One class.Qubit) us vs → StopsFor e (Many (One class.Qubit)) ts vs
qubits_stop ts us vs xs e h n r = tokens_stop (λ q. Made (Acts q)) class.Qubit ts us vs xs e h n r

pub names_begin : (ts : List Token) → Repeats (One class.Named) ts ts (naming [])
names_begin ts = tokens_begin (λ n. Made (Names n)) class.Named ts

pub names_go_on : (ts us vs : List Token) (xs ys : List Called) (x : Called) → Repeats (One class.Named) ts us (naming xs) → is_next class.Named us ≡ true → Reads (One class.Named) us vs (Made (Names x) ∷ []) → ys ≡ xs ++ x ∷ [] → Repeats (One class.Named) ts vs (naming ys)
names_go_on ts us vs xs ys x h n r e = tokens_go_on (λ n. Made (Names n)) class.Named ts us vs xs ys x h n r e

pub names_end : (ts us : List Token) (xs : List Called) → Repeats (One class.Named) ts us (naming xs) → is_next class.Named us ≡ false → Reads (Many (One class.Named)) ts us (naming xs)
names_end ts us xs h n = tokens_end (λ n. Made (Names n)) class.Named ts us xs h n

pub names_stop : (ts us vs : List Token) (xs : List Called) (e : Stop) → Repeats (One class.Named) ts us (naming xs) → is_next class.Named us ≡ true → StopsFor e (One class.Named) us vs → StopsFor e (Many (One class.Named)) ts vs
names_stop ts us vs xs e h n r = tokens_stop (λ n. Made (Names n)) class.Named ts us vs xs e h n r

pub texts_begin : (ts : List Token) → Repeats (One class.Any) ts ts (keeping [])
texts_begin ts = tokens_begin (λ x. Made (Keeps x)) class.Any ts

pub texts_go_on : (ts us vs : List Token) (xs ys : List (List ℕ)) (x : List ℕ) → Repeats (One class.Any) ts us (keeping xs) → is_next class.Any us ≡ true → Reads (One class.Any) us vs (Made (Keeps x) ∷ []) → ys ≡ xs ++ x ∷ [] → Repeats (One class.Any) ts vs (keeping ys)
texts_go_on ts us vs xs ys x h n r e = tokens_go_on (λ x. Made (Keeps x)) class.Any ts us vs xs ys x h n r e

pub texts_end : (ts us : List Token) (xs : List (List ℕ)) → Repeats (One class.Any) ts us (keeping xs) → is_next class.Any us ≡ false → Reads (Many (One class.Any)) ts us (keeping xs)
texts_end ts us xs h n = tokens_end (λ x. Made (Keeps x)) class.Any ts us xs h n

pub texts_stop : (ts us vs : List Token) (xs : List (List ℕ)) (e : Stop) → Repeats (One class.Any) ts us (keeping xs) → is_next class.Any us ≡ true → StopsFor e (One class.Any) us vs → StopsFor e (Many (One class.Any)) ts vs
texts_stop ts us vs xs e h n r = tokens_stop (λ x. Made (Keeps x)) class.Any ts us vs xs e h n r

pub formals_begin : (ts us : List Token) (xs : List Called) (x : Called) → Reads (One class.TakenParameter) ts us (Made (Takes x) ∷ []) → xs ≡ x ∷ [] → ListSoFar (One class.TakenParameter) ts us (taking xs)
formals_begin ts us xs x r e = rw e (list_begins (λ n. Made (Takes n)) (One class.TakenParameter) ts us x r)

pub formals_go_on : (ts us vs ws : List Token) (xs ys : List Called) (x : Called) → ListSoFar (One class.TakenParameter) ts us (taking xs) → is_next class.Comma us ≡ true → Reads (One class.Comma) us vs [] → Reads (One class.TakenParameter) vs ws (Made (Takes x) ∷ []) → ys ≡ xs ++ x ∷ [] → ListSoFar (One class.TakenParameter) ts ws (taking ys)
formals_go_on ts us vs ws xs ys x h n r q e = list_goes_on (λ n. Made (Takes n)) (One class.TakenParameter) ts us vs ws xs ys x h n r q e

pub formals_end : (ts us : List Token) (xs : List Called) → ListSoFar (One class.TakenParameter) ts us (taking xs) → is_next class.Comma us ≡ false → Reads (listed (One class.TakenParameter)) ts us (taking xs)
formals_end ts us xs h n = list_ends (λ n. Made (Takes n)) (One class.TakenParameter) ts us xs h n

pub formals_stop : (ts us vs : List Token) (xs : List Called) (e : Stop) → ListSoFar (One class.TakenParameter) ts us (taking xs) → is_next class.Comma us ≡ true → StopsFor e (Seq (One class.Comma) (One class.TakenParameter)) us vs → StopsFor e (listed (One class.TakenParameter)) ts vs
formals_stop ts us vs xs e h n r = list_stops (λ n. Made (Takes n)) (One class.TakenParameter) ts us vs xs e h n r

pub numbers_begin : (ts us : List Token) (xs : List (List ℕ)) (x : List ℕ) → Reads (One class.Entry) ts us (Made (Keeps x) ∷ []) → xs ≡ x ∷ [] → ListSoFar (One class.Entry) ts us (keeping xs)
numbers_begin ts us xs x r e = rw e (list_begins (λ x. Made (Keeps x)) (One class.Entry) ts us x r)

pub numbers_go_on : (ts us vs ws : List Token) (xs ys : List (List ℕ)) (x : List ℕ) → ListSoFar (One class.Entry) ts us (keeping xs) → is_next class.Comma us ≡ true → Reads (One class.Comma) us vs [] → Reads (One class.Entry) vs ws (Made (Keeps x) ∷ []) → ys ≡ xs ++ x ∷ [] → ListSoFar (One class.Entry) ts ws (keeping ys)
numbers_go_on ts us vs ws xs ys x h n r q e = list_goes_on (λ x. Made (Keeps x)) (One class.Entry) ts us vs ws xs ys x h n r q e

pub numbers_end : (ts us : List Token) (xs : List (List ℕ)) → ListSoFar (One class.Entry) ts us (keeping xs) → is_next class.Comma us ≡ false → Reads (listed (One class.Entry)) ts us (keeping xs)
numbers_end ts us xs h n = list_ends (λ x. Made (Keeps x)) (One class.Entry) ts us xs h n

pub numbers_stop : (ts us vs : List Token) (xs : List (List ℕ)) (e : Stop) → ListSoFar (One class.Entry) ts us (keeping xs) → is_next class.Comma us ≡ true → StopsFor e (Seq (One class.Comma) (One class.Entry)) us vs → StopsFor e (listed (One class.Entry)) ts vs
numbers_stop ts us vs xs e h n r = list_stops (λ x. Made (Keeps x)) (One class.Entry) ts us vs xs e h n r

pub formulas_begin : (refs : Bool) (ts us : List Token) (fs : List Formula) (f : Formula) → IsFormulaRead refs ts us f → fs ≡ f ∷ [] → FormulasSoFar refs ts us fs
formulas_begin refs ts us fs f h e =
    record {
      written = h.written ∷ [];
      so_far = list_begins (λ w. Value w) (Rule (Sum refs)) ts us h.written (subst (λ os. Advances quil tables (Rule (Sum refs)) ts us os) (sym (append-nil (events h.written))) h.advances);
      are_meant = rw (e, h.is_meaning) refl;
    }

pub formulas_go_on : (refs : Bool) (ts us vs ws : List Token) (fs gs : List Formula) (f : Formula) → FormulasSoFar refs ts us fs → is_next class.Comma us ≡ true → Reads (One class.Comma) us vs [] → IsFormulaRead refs vs ws f → gs ≡ fs ++ f ∷ [] → FormulasSoFar refs ts ws gs
formulas_go_on refs ts us vs ws fs gs f h n r q e =
    record {
      written = h.written ++ q.written ∷ [];
      so_far = list_goes_on (λ w. Value w) (Rule (Sum refs)) ts us vs ws h.written (h.written ++ q.written ∷ []) q.written h.so_far n r (subst (λ os. Advances quil tables (Rule (Sum refs)) vs ws os) (sym (append-nil (events q.written))) q.advances) refl;
      are_meant = e ∙ ap (λ xs. xs ++ f ∷ []) h.are_meant ∙ ap (λ x. map formula_of h.written ++ x ∷ []) q.is_meaning ∙ sym (map-append formula_of h.written (q.written ∷ []));
    }

pub formulas_end : (refs : Bool) (ts us : List Token) (fs : List Formula) → FormulasSoFar refs ts us fs → is_next class.Comma us ≡ false → AreFormulas (listed (Rule (Sum refs))) ts us fs
formulas_end refs ts us fs h n = record { written = h.written; reads = list_ends (λ w. Value w) (Rule (Sum refs)) ts us h.written h.so_far n; are_meant = h.are_meant }

formulas_stop : (refs : Bool) (ts us vs : List Token) (ws : List Written) (e : Stop) → ListSoFar (Rule (Sum refs)) ts us (values ws) → is_next class.Comma us ≡ true → StopsFor e (Seq (One class.Comma) (Rule (Sum refs))) us vs → StopsFor e (listed (Rule (Sum refs))) ts vs
formulas_stop refs ts us vs ws e h n r = list_stops (λ w. Value w) (Rule (Sum refs)) ts us vs ws e h n r

pub formulas_stop_first : (refs : Bool) (ts us vs : List Token) (ws : List Written) (e : Stop) → ListSoFar (Rule (Sum refs)) ts us (values ws) → is_next class.Comma us ≡ true → StopsFor e (One class.Comma) us vs → StopsFor e (listed (Rule (Sum refs))) ts vs
formulas_stop_first refs ts us vs ws e h n r = formulas_stop refs ts us vs ws e h n (stops_first (One class.Comma) (Rule (Sum refs)) us vs e r)

pub formulas_stop_second : (refs same : Bool) (ts us vs xs : List Token) (ws : List Written) (e : Stop) → same ≡ refs → ListSoFar (Rule (Sum refs)) ts us (values ws) → is_next class.Comma us ≡ true → Reads (One class.Comma) us vs [] → StopsFor e (Rule (Sum same)) vs xs → StopsFor e (listed (Rule (Sum refs))) ts xs
formulas_stop_second refs same ts us vs xs ws e i h n r q = formulas_stop refs ts us xs ws e h n (stops_second (One class.Comma) (Rule (Sum refs)) us vs xs [] e r (subst (λ b. StopsFor e (Rule (Sum b)) vs xs) i q))

pub modifiers_begin : (ts : List Token) (ms : List Modifier) → ModifiersSoFar ts ts ms ms
modifiers_begin ts ms = record { words = []; repeats = leads_here (Many (One class.Modifier)) ts; are_meant = sym (append-nil ms) }

pub modifiers_go_on : (ts us vs : List Token) (ls ms ns : List Modifier) (p : Place) (s : Sort) → ModifiersSoFar ts us ls ms → is_next class.Modifier us ≡ true → Reads (One class.Modifier) us vs (Made (Says p class.Modifier s) ∷ []) → ns ≡ ms ++ record { place = p; kind = modification_of s } ∷ [] → ModifiersSoFar ts vs ls ns
modifiers_go_on ts us vs ls ms ns p s h n r e =
    let w : Word = record { place = p; class = class.Modifier; sort = s } in
    record {
      words = h.words ++ w ∷ [];
      repeats = tokens_go_on word_part class.Modifier ts us vs h.words (h.words ++ w ∷ []) w h.repeats n r refl;
      are_meant = e ∙ ap (λ xs. xs ++ modifier_at w ∷ []) h.are_meant ∙ append_assoc ls (map modifier_at h.words) (modifier_at w ∷ []) ∙ ap (λ xs. ls ++ xs) (sym (map-append modifier_at h.words (w ∷ [])));
    }

pub modifiers_end : (ts us : List Token) (ls ms : List Modifier) → ModifiersSoFar ts us ls ms → is_next class.Modifier us ≡ false → AreModifiers ts us ls ms
modifiers_end ts us ls ms h n = record { words = h.words; reads = tokens_end word_part class.Modifier ts us h.words h.repeats n; are_meant = h.are_meant }

pub modifiers_stop : (ts us vs : List Token) (ws : List Word) (e : Stop) → Repeats (One class.Modifier) ts us (saying ws) → is_next class.Modifier us ≡ true → StopsFor e (One class.Modifier) us vs → StopsFor e (Many (One class.Modifier)) ts vs
modifiers_stop ts us vs ws e h n r = tokens_stop word_part class.Modifier ts us vs ws e h n r
