-- The parts of a line, read from the tokens.
use Rattle.std.proofs.Common.{◌≡◌, ℕ, ◌<◌, ◌≤◌, ◌^◌, ◌&&◌, ◌||◌, not, Bool, true, false, List, [], ◌∷◌, refl, sym, ◌∙◌, ap, subst, lt-ltb, le-ltb, arith}
use Rattle.std.specs.Prelude.{nat_lt, Some}
use Rattle.quil_shape.specs.Shape.{Shape}
use Rattle.quil_shape.specs.Shape.Shape.{One, Seq}
use Rattle.quil_shape.specs.Reads.{Advances, Halts, Exceeds, starts, is_barred}
use Rattle.quil_shape.proofs.Reading.{token_advances, token_exceeds, token_halts, end_halts, choice_first, choice_not_first, empty_advances}
use Rattle.quil_tree.specs.declared.place.Place.{Place}
use Rattle.quil_tree.specs.declared.statement.Qubit.{Qubit}
use Rattle.quil_tree.specs.declared.statement.Qubit.TheVariants as qubit
use Rattle.quil_tree.specs.declared.statement.Reference.{Reference}
use Rattle.quil_statement.specs.Meaning.{cell}
use Rattle.quil_grammar.specs.declared.sort.Sort.{Sort}
use Rattle.quil_grammar.specs.declared.sort.Sort.TheVariants as sort
use Rattle.quil_grammar.specs.declared.class.Class.{Class}
use Rattle.quil_grammar.specs.declared.class.Class.TheVariants as class
use Rattle.quil_grammar.specs.declared.stop.Stop.{Stop}
use Rattle.quil_grammar.specs.declared.stop.Stop.TheVariants as stop
use Rattle.quil_grammar.specs.Sort.{is_sort, is_whole}
use Rattle.quil_grammar.specs.Token.{Token}
use Rattle.quil_grammar.specs.Grammar.{quil, accepts, value_of, said, name_at, is_too_large, is_wide, whole_of, value_behind, Name, Event}
use Rattle.quil_grammar.specs.Tables.{tables}
use Rattle.quil_grammar.specs.Grammar.Event.{Makes}
use Rattle.quil_grammar.specs.Grammar.Piece.{Says, Names, Takes, Acts, Counts, Keeps}
use Rattle.quil_grammar.specs.Frames.{is_next, StopsFor}
use Rattle.quil_grammar.specs.Parts.{Part}
use Rattle.quil_grammar.specs.Parts.Part.{Made}
use Rattle.quil_grammar.specs.Statements.{address, maybe}
use Rattle.quil_grammar.proofs.Values.{fits, exceeds}
use Rattle.quil_statement.specs.Says.{is_word, is_silent, is_naming, is_counting, is_keeping, Reads, maybe_cell, maybe_qubit}

-- no token that may stand in the place
pub no_token : (c : Class) (us : List Token) → is_next c us ≡ false → Halts quil tables (One c) us us
unfolding quil tables
no_token c [] e = end_halts
no_token c (t ∷ us) e = token_halts e

-- a token, of which is known what it makes and that it isn't too large
one_reads : (c : Class) (us vs : List Token) (t : Token) (os : List Event) → us ≡ t ∷ vs → accepts c t.sort ≡ true → is_too_large c t vs ≡ false → value_of c t ≡ os → Advances quil tables (One c) us vs os
unfolding quil tables
one_reads c us vs t os e a small m = rw (e, sym m) (token_advances a small)

one_exceeds : (c : Class) (us vs : List Token) (t : Token) → us ≡ t ∷ vs → accepts c t.sort ≡ true → is_too_large c t vs ≡ true → Exceeds quil tables (One c) us us
unfolding quil tables
one_exceeds c us vs t e a large = rw e (token_exceeds a large)

word_makes : (c : Class) (t : Token) (vs : List Token) → is_word c ≡ true → (is_too_large c t vs ≡ false) × (value_of c t ≡ said c t)
word_makes class.CellType t vs e = (refl, refl)
word_makes class.Permutation t vs e = (refl, refl)
word_makes class.Modifier t vs e = (refl, refl)
word_makes class.Forked t vs e = (refl, refl)
word_makes class.Declare t vs e = (refl, refl)
word_makes class.DefGate t vs e = (refl, refl)
word_makes class.DefCircuit t vs e = (refl, refl)
word_makes class.Measure t vs e = (refl, refl)
word_makes class.Reset t vs e = (refl, refl)
word_makes class.Bare t vs e = (refl, refl)
word_makes class.Pragma t vs e = (refl, refl)
word_makes class.LabelWord t vs e = (refl, refl)
word_makes class.JumpIf t vs e = (refl, refl)
word_makes class.UnaryWord t vs e = (refl, refl)
word_makes class.PairWord t vs e = (refl, refl)
word_makes class.BinaryWord t vs e = (refl, refl)
word_makes class.Load t vs e = (refl, refl)
word_makes class.Store t vs e = (refl, refl)
word_makes class.CompareWord t vs e = (refl, refl)
word_makes _ t vs e = absurd (cc)

pub word_read : (c : Class) (us vs : List Token) (t : Token) (p : Place) (s : Sort) → is_word c ≡ true → us ≡ t ∷ vs → accepts c t.sort ≡ true → p ≡ t.place → s ≡ t.sort → Reads (One c) us vs (Made (Says p c s) ∷ [])
word_read c us vs t p s w e a f g =
    let m = word_makes c t vs w in
    rw (f, g) (one_reads c us vs t (said c t) e a m.0 m.1)

silent_makes : (c : Class) (t : Token) (vs : List Token) → is_silent c ≡ true → (is_too_large c t vs ≡ false) × (value_of c t ≡ [])
silent_makes class.IndexBegins t vs e = (refl, refl)
silent_makes class.IndexEnds t vs e = (refl, refl)
silent_makes class.ListBegins t vs e = (refl, refl)
silent_makes class.ListEnds t vs e = (refl, refl)
silent_makes class.Comma t vs e = (refl, refl)
silent_makes class.Colon t vs e = (refl, refl)
silent_makes class.Sharing t vs e = (refl, refl)
silent_makes class.Offset t vs e = (refl, refl)
silent_makes class.As t vs e = (refl, refl)
silent_makes class.Matrix t vs e = (refl, refl)
silent_makes _ t vs e = absurd (cc)

pub silent_read : (c : Class) (us vs : List Token) (t : Token) → is_silent c ≡ true → us ≡ t ∷ vs → accepts c t.sort ≡ true → Reads (One c) us vs []
silent_read c us vs t w e a =
    let m = silent_makes c t vs w in
    one_reads c us vs t [] e a m.0 m.1

naming_makes : (c : Class) (t : Token) (vs : List Token) → is_naming c ≡ true → (is_too_large c t vs ≡ false) × (value_of c t ≡ Makes (Names (name_at t)) ∷ [])
naming_makes class.Named t vs e = (refl, refl)
naming_makes class.Gate t vs e = (refl, refl)
naming_makes class.Label t vs e = (refl, refl)
naming_makes _ t vs e = absurd (cc)

pub name_read : (c : Class) (us vs : List Token) (t : Token) (p : Place) (x : List ℕ) → is_naming c ≡ true → us ≡ t ∷ vs → accepts c t.sort ≡ true → p ≡ t.place → x ≡ t.text → Reads (One c) us vs (Made (Names (record { place = p; text = x })) ∷ [])
name_read c us vs t p x w e a f g =
    let m = naming_makes c t vs w in
    rw (f, g) (one_reads c us vs t (Makes (Names (name_at t)) ∷ []) e a m.0 m.1)

pub formal_read : (us vs : List Token) (t : Token) (p : Place) (x : List ℕ) → us ≡ t ∷ vs → accepts class.TakenParameter t.sort ≡ true → p ≡ t.place → x ≡ t.text → Reads (One class.TakenParameter) us vs (Made (Takes (record { place = p; text = x })) ∷ [])
formal_read us vs t p x e a f g = rw (f, g) (one_reads class.TakenParameter us vs t (Makes (Takes (name_at t)) ∷ []) e a refl refl)

keeping_makes : (c : Class) (t : Token) (vs : List Token) → is_keeping c ≡ true → (is_too_large c t vs ≡ false) × (value_of c t ≡ Makes (Keeps t.text) ∷ [])
keeping_makes class.Any t vs e = (refl, refl)
keeping_makes class.Entry t vs e = (refl, refl)
keeping_makes _ t vs e = absurd (cc)

pub kept_read : (c : Class) (us vs : List Token) (t : Token) (x : List ℕ) → is_keeping c ≡ true → us ≡ t ∷ vs → accepts c t.sort ≡ true → x ≡ t.text → Reads (One c) us vs (Made (Keeps x) ∷ [])
kept_read c us vs t x w e a g =
    let m = keeping_makes c t vs w in
    rw g (one_reads c us vs t (Makes (Keeps t.text) ∷ []) e a m.0 m.1)

counting_makes : (c : Class) (t : Token) (vs : List Token) → is_counting c ≡ true → (is_too_large c t vs ≡ is_wide t) × (value_of c t ≡ Makes (Counts (whole_of t.text)) ∷ [])
counting_makes class.Length t vs e = (refl, refl)
counting_makes class.OffsetCount t vs e = (refl, refl)
counting_makes _ t vs e = absurd (cc)

pub count_read : (c : Class) (us vs : List Token) (t : Token) (digits : List ℕ) (value : ℕ) → is_counting c ≡ true → us ≡ t ∷ vs → accepts c t.sort ≡ true → value ≡ value_behind 0 t.text → value < 2 ^ 64 → digits ≡ t.text
    → Reads (One c) us vs (Made (Counts (record { digits = digits; value = value })) ∷ [])
count_read c us vs t digits value w e a f small g =
    let m = counting_makes c t vs w in
    rw (f, g) (one_reads c us vs t (Makes (Counts (whole_of t.text)) ∷ []) e a (m.0 ∙ fits (value_behind 0 t.text) (subst (λ n. n < 2 ^ 64) f small)) m.1)

pub count_exceeds : (c : Class) (us vs ws : List Token) (t : Token) → is_counting c ≡ true → us ≡ t ∷ vs → accepts c t.sort ≡ true → 2 ^ 64 ≤ value_behind 0 t.text → ws ≡ us → Exceeds quil tables (One c) us ws
count_exceeds c us vs ws t w e a large f =
    let m = counting_makes c t vs w in
    rw f (one_exceeds c us vs t e a (m.0 ∙ exceeds (value_behind 0 t.text) large))

-- qubits
formal_no_whole : (s : Sort) → is_sort s sort.Formal ≡ true → is_whole s ≡ false
formal_no_whole sort.Formal e = refl
formal_no_whole _ e = absurd (cc)

pub formal_qubit_read : (us vs : List Token) (t : Token) (p : Place) (x : List ℕ) → us ≡ t ∷ vs → accepts class.Qubit t.sort ≡ true → is_sort t.sort sort.Formal ≡ true → p ≡ t.place → x ≡ t.text
    → Reads (One class.Qubit) us vs (Made (Acts (qubit.Formal (record { place = p; text = x }))) ∷ [])
formal_qubit_read us vs t p x e a s f g =
    rw (f, g) (one_reads class.Qubit us vs t (Makes (Acts (qubit.Formal (name_at t))) ∷ []) e a (rw (formal_no_whole t.sort s) refl) (rw s refl))

below : (n : ℕ) → n < 65536 → not (nat_lt n 65536) ≡ false
below n h = ap not (lt-ltb n 65536 h)

above : (n : ℕ) → 65536 ≤ n → not (nat_lt n 65536) ≡ true
above n h = ap not (le-ltb n 65536 h)

and_false : (b c : Bool) → c ≡ false → (b && c) ≡ false
and_false true c e = e
and_false false c e = refl

or_false : (b c : Bool) → c ≡ false → (b || c) ≡ true → b ≡ true
or_false true c e h = refl
or_false false c e h = absurd (cc)

pub index_qubit_read : (us vs : List Token) (t : Token) (p : Place) (digits : List ℕ) (value : ℕ) → us ≡ t ∷ vs → accepts class.Qubit t.sort ≡ true → is_sort t.sort sort.Formal ≡ false → p ≡ t.place → value ≡ value_behind 0 t.text → value < 65536 → digits ≡ t.text
    → Reads (One class.Qubit) us vs (Made (Acts (qubit.Index p (record { digits = digits; value = value }))) ∷ [])
index_qubit_read us vs t p digits value e a s f h small g =
    rw (f, g, h) (one_reads class.Qubit us vs t (Makes (Acts (qubit.Index t.place (whole_of t.text))) ∷ []) e a (and_false (is_whole t.sort) (not (nat_lt (value_behind 0 t.text) 65536)) (below (value_behind 0 t.text) (subst (λ n. n < 65536) h small))) (rw s refl))

above_exceeds : (us vs : List Token) (t : Token) → us ≡ t ∷ vs → accepts class.Qubit t.sort ≡ true → is_sort t.sort sort.Formal ≡ false → 65536 ≤ value_behind 0 t.text → Exceeds quil tables (One class.Qubit) us us
above_exceeds us vs t e a s large =
    one_exceeds class.Qubit us vs t e a (rw (or_false (is_whole t.sort) (is_sort t.sort sort.Formal) s a) (above (value_behind 0 t.text) large))

pub large_qubit_exceeds : (us vs ws : List Token) (t : Token) (value : ℕ) → us ≡ t ∷ vs → accepts class.Qubit t.sort ≡ true → is_sort t.sort sort.Formal ≡ false → value ≡ value_behind 0 t.text → 65535 < value → ws ≡ us → Exceeds quil tables (One class.Qubit) us ws
large_qubit_exceeds us vs ws t value e a s g large f = rw f (above_exceeds us vs t e a s (subst (λ n. 65536 ≤ n) g large))

pub wide_qubit_exceeds : (us vs ws : List Token) (t : Token) → us ≡ t ∷ vs → accepts class.Qubit t.sort ≡ true → is_sort t.sort sort.Formal ≡ false → 2 ^ 64 ≤ value_behind 0 t.text → ws ≡ us → Exceeds quil tables (One class.Qubit) us ws
wide_qubit_exceeds us vs ws t e a s large f = rw f (above_exceeds us vs t e a s (omega (arith, large)))

-- what may lack
pub address_starts : (us : List Token) → is_next (class.Region true) us ≡ true → starts quil tables address us ≡ true
unfolding quil tables
address_starts [] e = absurd (cc)
address_starts (t ∷ us) e = rw e refl

pub one_starts : (c : Class) (us : List Token) → is_next c us ≡ true → starts quil tables (One c) us ≡ true
unfolding quil tables
one_starts c [] e = absurd (cc)
one_starts c (t ∷ us) e = e

pub one_barred : (c : Class) (us : List Token) → is_next c us ≡ false → is_barred quil tables (One c) us ≡ true
unfolding quil tables
one_barred c [] e = refl
one_barred c (t ∷ us) e = rw e refl

-- the same of what begins with one
pub word_starts : (c : Class) (a : Shape Class Event Name) (us : List Token) → is_next c us ≡ true → starts quil tables (Seq (One c) a) us ≡ true
unfolding quil tables
word_starts c a [] e = absurd (cc)
word_starts c a (t ∷ us) e = rw e refl

pub word_barred : (c : Class) (a : Shape Class Event Name) (us : List Token) → is_next c us ≡ false → is_barred quil tables (Seq (One c) a) us ≡ true
unfolding quil tables
word_barred c a [] e = refl
word_barred c a (t ∷ us) e = rw e refl

pub maybe_reads : (s : Shape Class Event Name) (us vs : List Token) (ps : List Part) → starts quil tables s us ≡ true → Reads s us vs ps → Reads (maybe s) us vs ps
maybe_reads s us vs ps e r = choice_first e r

pub maybe_stops : (s : Shape Class Event Name) (us vs : List Token) (x : Stop) → starts quil tables s us ≡ true → StopsFor x s us vs → StopsFor x (maybe s) us vs
maybe_stops s us vs stop.OutOfMemory e r = tt
maybe_stops s us vs stop.Unexpected e r = choice_first e r
maybe_stops s us vs stop.TooLarge e r = choice_first e r

pub cell_read : (us vs : List Token) (a : Reference) → is_next (class.Region true) us ≡ true → Reads address us vs (cell a ∷ []) → Reads (maybe address) us vs (maybe_cell (Some a))
cell_read us vs a e r = maybe_reads address us vs (cell a ∷ []) (address_starts us e) r

pub qubit_read : (us vs : List Token) (q : Qubit) → is_next class.Qubit us ≡ true → Reads (One class.Qubit) us vs (Made (Acts q) ∷ []) → Reads (maybe (One class.Qubit)) us vs (maybe_qubit (Some q))
qubit_read us vs q e r = maybe_reads (One class.Qubit) us vs (Made (Acts q) ∷ []) (one_starts class.Qubit us e) r

pub no_cell : (us vs : List Token) → is_next (class.Region true) us ≡ false → vs ≡ us → Reads (maybe address) us vs []
unfolding quil tables
no_cell [] vs e f = rw f (choice_not_first refl empty_advances)
no_cell (t ∷ us) vs e f = rw f (choice_not_first (rw e refl) empty_advances)

pub no_one : (c : Class) (us vs : List Token) → is_next c us ≡ false → vs ≡ us → Reads (maybe (One c)) us vs []
unfolding quil tables
no_one c [] vs e f = rw f (choice_not_first refl empty_advances)
no_one c (t ∷ us) vs e f = rw f (choice_not_first (rw e refl) empty_advances)
