-- Which statement stands there: the first token decides.
use Rattle.std.proofs.Common.{◌≡◌, ◌||◌, ◌&&◌, Bool, true, false, List, [], ◌∷◌, refl, ap}
use Rattle.std.specs.Prelude.{Some}
use Rattle.quil_shape.specs.Shape.{Shape}
use Rattle.quil_shape.specs.Shape.Shape.{One, Seq, Or, Many}
use Rattle.quil_shape.specs.Outcome.{Outcome}
use Rattle.quil_shape.specs.Outcome.Outcome.{Made as Got, Stuck, Large}
use Rattle.quil_shape.specs.Reads.{Reads as Comes, Exceeds, starts, is_barred}
use Rattle.quil_shape.proofs.Reading.{choice_first, choice_not_first, token_exceeds}
use Rattle.quil_tree.specs.declared.statement.Line.{Line}
use Rattle.quil_tree.specs.declared.item.Item.{Item}
use Rattle.quil_tree.specs.declared.item.Item.TheVariants as item
use Rattle.quil_grammar.specs.declared.class.Class.{Class}
use Rattle.quil_grammar.specs.declared.class.Class.TheVariants as class
use Rattle.quil_grammar.specs.declared.stop.Stop.{Stop}
use Rattle.quil_grammar.specs.declared.stop.Stop.TheVariants as stop
use Rattle.quil_grammar.specs.Token.{Token}
use Rattle.quil_grammar.specs.Grammar.{quil, accepts, Name, Event}
use Rattle.quil_grammar.specs.Tables.{tables}
use Rattle.quil_grammar.specs.Frames.{is_next, StopsFor}
use Rattle.quil_grammar.specs.Parts.{Part, parts_events}
use Rattle.quil_grammar.specs.Parts.Part.{Made}
use Rattle.quil_grammar.specs.Grammar.Piece.{Says}
use Rattle.quil_grammar.specs.Statements.{address, operand, maybe, behind_name, formals, gate_shape, length, sharing, plain_gate, modified_gate, gate, measure, reset, pragma, label, jump_if, unary, pair, binary, load, store, compare, control, classical, statement, declaration, gate_header, circuit_header, top_level}
use Rattle.quil_statement.specs.Meaning.{line_of, item_of, plain}
use Rattle.quil_statement.specs.Says.{SaysLine, SaysItem}
use Rattle.quil_statement.specs.Loops.{begins_classical}
use Rattle.quil_statement.proofs.Tokens.{one_starts, one_barred, word_starts, word_barred}

-- whatever reading the first shape comes to, reading the second does
record Into (s t : Shape Class Event Name) (ts : List Token) : Type 0 where
  goes : (out : Outcome Event Token) → Comes quil tables s ts out → Comes quil tables t ts out

said_into : (s t : Shape Class Event Name) (us vs : List Token) (l : Line) → Into s t us → SaysLine s us vs l → SaysLine t us vs l
said_into s t us vs l i h = record { parts = h.parts; reads = i.goes (Got (parts_events h.parts) vs) h.reads; means = h.means }

stops_into : (s t : Shape Class Event Name) (us vs : List Token) (e : Stop) → Into s t us → StopsFor e s us vs → StopsFor e t us vs
stops_into s t us vs stop.OutOfMemory i h = tt
stops_into s t us vs stop.Unexpected i h = i.goes (Stuck vs) h
stops_into s t us vs stop.TooLarge i h = i.goes (Large vs) h

here : (s t : Shape Class Event Name) (us : List Token) → starts quil tables s us ≡ true → Into s (Or s t) us
here s t us e = record { goes = λ out x. choice_first e x }

there : (s t a : Shape Class Event Name) (us : List Token) → is_barred quil tables a us ≡ true → Into s t us → Into s (Or a t) us
there s t a us e i = record { goes = λ out x. choice_not_first e (i.goes out x) }

same : (s : Shape Class Event Name) (us : List Token) → Into s s us
same s us = record { goes = λ out x. x }

bare_into : (us : List Token) → is_next class.Bare us ≡ true → Into (One class.Bare) control us
bare_into us e = here (One class.Bare) (Or pragma (Or label jump_if)) us (one_starts class.Bare us e)

pub bare_said_in : (us vs : List Token) (l : Line) → is_next class.Bare us ≡ true → SaysLine (One class.Bare) us vs l → SaysLine control us vs l
bare_said_in us vs l e h = said_into (One class.Bare) control us vs l (bare_into us e) h

pub bare_stops_in : (us vs : List Token) (x : Stop) → is_next class.Bare us ≡ true → StopsFor x (One class.Bare) us vs → StopsFor x control us vs
bare_stops_in us vs x e h = stops_into (One class.Bare) control us vs x (bare_into us e) h

pragma_into : (us : List Token) → is_next class.Bare us ≡ false → is_next class.Pragma us ≡ true → Into pragma control us
pragma_into us n0 e = there pragma (Or pragma (Or label jump_if)) (One class.Bare) us (one_barred class.Bare us n0) (here pragma (Or label jump_if) us (word_starts class.Pragma (Seq (One class.Named) (Many (One class.Any))) us e))

pub pragma_said_in : (us vs : List Token) (l : Line) → is_next class.Bare us ≡ false → is_next class.Pragma us ≡ true → SaysLine pragma us vs l → SaysLine control us vs l
pragma_said_in us vs l n0 e h = said_into pragma control us vs l (pragma_into us n0 e) h

pub pragma_stops_in : (us vs : List Token) (x : Stop) → is_next class.Bare us ≡ false → is_next class.Pragma us ≡ true → StopsFor x pragma us vs → StopsFor x control us vs
pragma_stops_in us vs x n0 e h = stops_into pragma control us vs x (pragma_into us n0 e) h

label_into : (us : List Token) → is_next class.Bare us ≡ false → is_next class.Pragma us ≡ false → is_next class.LabelWord us ≡ true → Into label control us
label_into us n0 n1 e = there label (Or pragma (Or label jump_if)) (One class.Bare) us (one_barred class.Bare us n0) (there label (Or label jump_if) pragma us (word_barred class.Pragma (Seq (One class.Named) (Many (One class.Any))) us n1) (here label jump_if us (word_starts class.LabelWord (One class.Label) us e)))

pub label_said_in : (us vs : List Token) (l : Line) → is_next class.Bare us ≡ false → is_next class.Pragma us ≡ false → is_next class.LabelWord us ≡ true → SaysLine label us vs l → SaysLine control us vs l
label_said_in us vs l n0 n1 e h = said_into label control us vs l (label_into us n0 n1 e) h

pub label_stops_in : (us vs : List Token) (x : Stop) → is_next class.Bare us ≡ false → is_next class.Pragma us ≡ false → is_next class.LabelWord us ≡ true → StopsFor x label us vs → StopsFor x control us vs
label_stops_in us vs x n0 n1 e h = stops_into label control us vs x (label_into us n0 n1 e) h

jump_if_into : (us : List Token) → is_next class.Bare us ≡ false → is_next class.Pragma us ≡ false → is_next class.LabelWord us ≡ false → Into jump_if control us
jump_if_into us n0 n1 n2 = there jump_if (Or pragma (Or label jump_if)) (One class.Bare) us (one_barred class.Bare us n0) (there jump_if (Or label jump_if) pragma us (word_barred class.Pragma (Seq (One class.Named) (Many (One class.Any))) us n1) (there jump_if jump_if label us (word_barred class.LabelWord (One class.Label) us n2) (same jump_if us)))

pub jump_if_said_in : (us vs : List Token) (l : Line) → is_next class.Bare us ≡ false → is_next class.Pragma us ≡ false → is_next class.LabelWord us ≡ false → SaysLine jump_if us vs l → SaysLine control us vs l
jump_if_said_in us vs l n0 n1 n2 h = said_into jump_if control us vs l (jump_if_into us n0 n1 n2) h

pub jump_if_stops_in : (us vs : List Token) (x : Stop) → is_next class.Bare us ≡ false → is_next class.Pragma us ≡ false → is_next class.LabelWord us ≡ false → StopsFor x jump_if us vs → StopsFor x control us vs
jump_if_stops_in us vs x n0 n1 n2 h = stops_into jump_if control us vs x (jump_if_into us n0 n1 n2) h

unary_into : (us : List Token) → is_next class.UnaryWord us ≡ true → Into unary classical us
unary_into us e = here unary (Or pair (Or binary (Or load (Or store compare)))) us (word_starts class.UnaryWord address us e)

pub unary_said_in : (us vs : List Token) (l : Line) → is_next class.UnaryWord us ≡ true → SaysLine unary us vs l → SaysLine classical us vs l
unary_said_in us vs l e h = said_into unary classical us vs l (unary_into us e) h

pub unary_stops_in : (us vs : List Token) (x : Stop) → is_next class.UnaryWord us ≡ true → StopsFor x unary us vs → StopsFor x classical us vs
unary_stops_in us vs x e h = stops_into unary classical us vs x (unary_into us e) h

pair_into : (us : List Token) → is_next class.UnaryWord us ≡ false → is_next class.PairWord us ≡ true → Into pair classical us
pair_into us n0 e = there pair (Or pair (Or binary (Or load (Or store compare)))) unary us (word_barred class.UnaryWord address us n0) (here pair (Or binary (Or load (Or store compare))) us (word_starts class.PairWord (Seq address address) us e))

pub pair_said_in : (us vs : List Token) (l : Line) → is_next class.UnaryWord us ≡ false → is_next class.PairWord us ≡ true → SaysLine pair us vs l → SaysLine classical us vs l
pair_said_in us vs l n0 e h = said_into pair classical us vs l (pair_into us n0 e) h

pub pair_stops_in : (us vs : List Token) (x : Stop) → is_next class.UnaryWord us ≡ false → is_next class.PairWord us ≡ true → StopsFor x pair us vs → StopsFor x classical us vs
pair_stops_in us vs x n0 e h = stops_into pair classical us vs x (pair_into us n0 e) h

binary_into : (us : List Token) → is_next class.UnaryWord us ≡ false → is_next class.PairWord us ≡ false → is_next class.BinaryWord us ≡ true → Into binary classical us
binary_into us n0 n1 e = there binary (Or pair (Or binary (Or load (Or store compare)))) unary us (word_barred class.UnaryWord address us n0) (there binary (Or binary (Or load (Or store compare))) pair us (word_barred class.PairWord (Seq address address) us n1) (here binary (Or load (Or store compare)) us (word_starts class.BinaryWord (Seq address operand) us e)))

pub binary_said_in : (us vs : List Token) (l : Line) → is_next class.UnaryWord us ≡ false → is_next class.PairWord us ≡ false → is_next class.BinaryWord us ≡ true → SaysLine binary us vs l → SaysLine classical us vs l
binary_said_in us vs l n0 n1 e h = said_into binary classical us vs l (binary_into us n0 n1 e) h

pub binary_stops_in : (us vs : List Token) (x : Stop) → is_next class.UnaryWord us ≡ false → is_next class.PairWord us ≡ false → is_next class.BinaryWord us ≡ true → StopsFor x binary us vs → StopsFor x classical us vs
binary_stops_in us vs x n0 n1 e h = stops_into binary classical us vs x (binary_into us n0 n1 e) h

load_into : (us : List Token) → is_next class.UnaryWord us ≡ false → is_next class.PairWord us ≡ false → is_next class.BinaryWord us ≡ false → is_next class.Load us ≡ true → Into load classical us
load_into us n0 n1 n2 e = there load (Or pair (Or binary (Or load (Or store compare)))) unary us (word_barred class.UnaryWord address us n0) (there load (Or binary (Or load (Or store compare))) pair us (word_barred class.PairWord (Seq address address) us n1) (there load (Or load (Or store compare)) binary us (word_barred class.BinaryWord (Seq address operand) us n2) (here load (Or store compare) us (word_starts class.Load (Seq address (Seq (One class.Named) address)) us e))))

pub load_said_in : (us vs : List Token) (l : Line) → is_next class.UnaryWord us ≡ false → is_next class.PairWord us ≡ false → is_next class.BinaryWord us ≡ false → is_next class.Load us ≡ true → SaysLine load us vs l → SaysLine classical us vs l
load_said_in us vs l n0 n1 n2 e h = said_into load classical us vs l (load_into us n0 n1 n2 e) h

pub load_stops_in : (us vs : List Token) (x : Stop) → is_next class.UnaryWord us ≡ false → is_next class.PairWord us ≡ false → is_next class.BinaryWord us ≡ false → is_next class.Load us ≡ true → StopsFor x load us vs → StopsFor x classical us vs
load_stops_in us vs x n0 n1 n2 e h = stops_into load classical us vs x (load_into us n0 n1 n2 e) h

store_into : (us : List Token) → is_next class.UnaryWord us ≡ false → is_next class.PairWord us ≡ false → is_next class.BinaryWord us ≡ false → is_next class.Load us ≡ false → is_next class.Store us ≡ true → Into store classical us
store_into us n0 n1 n2 n3 e = there store (Or pair (Or binary (Or load (Or store compare)))) unary us (word_barred class.UnaryWord address us n0) (there store (Or binary (Or load (Or store compare))) pair us (word_barred class.PairWord (Seq address address) us n1) (there store (Or load (Or store compare)) binary us (word_barred class.BinaryWord (Seq address operand) us n2) (there store (Or store compare) load us (word_barred class.Load (Seq address (Seq (One class.Named) address)) us n3) (here store compare us (word_starts class.Store (Seq (One class.Named) (Seq address operand)) us e)))))

pub store_said_in : (us vs : List Token) (l : Line) → is_next class.UnaryWord us ≡ false → is_next class.PairWord us ≡ false → is_next class.BinaryWord us ≡ false → is_next class.Load us ≡ false → is_next class.Store us ≡ true → SaysLine store us vs l → SaysLine classical us vs l
store_said_in us vs l n0 n1 n2 n3 e h = said_into store classical us vs l (store_into us n0 n1 n2 n3 e) h

pub store_stops_in : (us vs : List Token) (x : Stop) → is_next class.UnaryWord us ≡ false → is_next class.PairWord us ≡ false → is_next class.BinaryWord us ≡ false → is_next class.Load us ≡ false → is_next class.Store us ≡ true → StopsFor x store us vs → StopsFor x classical us vs
store_stops_in us vs x n0 n1 n2 n3 e h = stops_into store classical us vs x (store_into us n0 n1 n2 n3 e) h

compare_into : (us : List Token) → is_next class.UnaryWord us ≡ false → is_next class.PairWord us ≡ false → is_next class.BinaryWord us ≡ false → is_next class.Load us ≡ false → is_next class.Store us ≡ false → Into compare classical us
compare_into us n0 n1 n2 n3 n4 = there compare (Or pair (Or binary (Or load (Or store compare)))) unary us (word_barred class.UnaryWord address us n0) (there compare (Or binary (Or load (Or store compare))) pair us (word_barred class.PairWord (Seq address address) us n1) (there compare (Or load (Or store compare)) binary us (word_barred class.BinaryWord (Seq address operand) us n2) (there compare (Or store compare) load us (word_barred class.Load (Seq address (Seq (One class.Named) address)) us n3) (there compare compare store us (word_barred class.Store (Seq (One class.Named) (Seq address operand)) us n4) (same compare us)))))

pub compare_said_in : (us vs : List Token) (l : Line) → is_next class.UnaryWord us ≡ false → is_next class.PairWord us ≡ false → is_next class.BinaryWord us ≡ false → is_next class.Load us ≡ false → is_next class.Store us ≡ false → SaysLine compare us vs l → SaysLine classical us vs l
compare_said_in us vs l n0 n1 n2 n3 n4 h = said_into compare classical us vs l (compare_into us n0 n1 n2 n3 n4) h

pub compare_stops_in : (us vs : List Token) (x : Stop) → is_next class.UnaryWord us ≡ false → is_next class.PairWord us ≡ false → is_next class.BinaryWord us ≡ false → is_next class.Load us ≡ false → is_next class.Store us ≡ false → StopsFor x compare us vs → StopsFor x classical us vs
compare_stops_in us vs x n0 n1 n2 n3 n4 h = stops_into compare classical us vs x (compare_into us n0 n1 n2 n3 n4) h

-- all of a gate, and all of an instruction on classical memory
gate_barred : (us : List Token) → is_next class.Gate us ≡ false → is_next class.Modifier us ≡ false → is_next class.Forked us ≡ false → is_barred quil tables gate us ≡ true
unfolding quil tables
gate_barred [] a b c = refl
gate_barred (t ∷ us) a b c = rw (a, b, c) refl

plain_barred : (us : List Token) → is_next class.Gate us ≡ false → is_barred quil tables plain_gate us ≡ true
unfolding quil tables
plain_barred [] a = refl
plain_barred (t ∷ us) a = rw a refl

or_true : (a b : Bool) → (a || b) ≡ true → a ≡ false → b ≡ true
or_true true b e f = absurd (cc)
or_true false b e f = e

or_left_false : (a b : Bool) → (a || b) ≡ false → a ≡ false
or_left_false true b e = absurd (cc)
or_left_false false b e = refl

or_right_false : (a b : Bool) → (a || b) ≡ false → b ≡ false
or_right_false true b e = absurd (cc)
or_right_false false b e = e

none_of : (c d : Bool) → (c || d) ≡ false → (c ≡ false) × (d ≡ false)
none_of c d e = (or_left_false c d e, or_right_false c d e)

classical_starts : (us : List Token) → begins_classical us ≡ true → starts quil tables classical us ≡ true
unfolding quil tables
classical_starts [] e = absurd (cc)
classical_starts (t ∷ us) e =
    by_cases (accepts class.UnaryWord t.sort) (accepts class.PairWord t.sort) (accepts class.BinaryWord t.sort) (accepts class.Load t.sort) (accepts class.Store t.sort) (accepts class.CompareWord t.sort) e
  where
    by_cases : (a b c d f g : Bool) → (a || (b || (c || (d || (f || g))))) ≡ true → ((a || (false && false)) || ((b || (false && false)) || ((c || (false && false)) || ((d || (false && false)) || ((f || (false && false)) || (g || (false && false))))))) ≡ true
    by_cases true b c d f g h = refl
    by_cases false true c d f g h = refl
    by_cases false false true d f g h = refl
    by_cases false false false true f g h = refl
    by_cases false false false false true g h = refl
    by_cases false false false false false true h = refl
    by_cases false false false false false false h = absurd (cc)

classical_barred : (us : List Token) → begins_classical us ≡ false → is_barred quil tables classical us ≡ true
unfolding quil tables
classical_barred [] e = refl
classical_barred (t ∷ us) e =
    let a = none_of (accepts class.UnaryWord t.sort) _ e in
    let b = none_of (accepts class.PairWord t.sort) _ a.1 in
    let c = none_of (accepts class.BinaryWord t.sort) _ b.1 in
    let d = none_of (accepts class.Load t.sort) _ c.1 in
    let f = none_of (accepts class.Store t.sort) _ d.1 in
    rw (a.0, b.0, c.0, d.0, f.0, f.1) refl

gate_into : (s : Shape Class Event Name) (us : List Token) → Into s gate us → starts quil tables gate us ≡ true → Into s statement us
gate_into s us i e = record { goes = λ out x. choice_first e (i.goes out x) }

gate_starts : (us : List Token) → (is_next class.Gate us || (is_next class.Modifier us || is_next class.Forked us)) ≡ true → starts quil tables gate us ≡ true
unfolding quil tables
gate_starts [] e = absurd (cc)
gate_starts (t ∷ us) e = by_cases (accepts class.Gate t.sort) (accepts class.Modifier t.sort) (accepts class.Forked t.sort) e
  where
    by_cases : (a b c : Bool) → (a || (b || c)) ≡ true → ((a || (false && false)) || ((b || (false && false)) || (c || (false && false)))) ≡ true
    by_cases true b c h = refl
    by_cases false true c h = refl
    by_cases false false true h = refl
    by_cases false false false h = absurd (cc)

plain_gate_into : (us : List Token) → is_next class.Gate us ≡ true → Into plain_gate statement us
plain_gate_into us e = gate_into plain_gate us (here plain_gate modified_gate us (word_starts class.Gate behind_name us e)) (gate_starts us (rw e refl))

pub plain_gate_said_in : (us vs : List Token) (l : Line) → is_next class.Gate us ≡ true → SaysLine plain_gate us vs l → SaysLine statement us vs l
plain_gate_said_in us vs l e h = said_into plain_gate statement us vs l (plain_gate_into us e) h

pub plain_gate_stops_in : (us vs : List Token) (x : Stop) → is_next class.Gate us ≡ true → StopsFor x plain_gate us vs → StopsFor x statement us vs
plain_gate_stops_in us vs x e h = stops_into plain_gate statement us vs x (plain_gate_into us e) h

modified_gate_into : (us : List Token) → is_next class.Gate us ≡ false → (is_next class.Modifier us || is_next class.Forked us) ≡ true → Into modified_gate statement us
modified_gate_into us n e = gate_into modified_gate us (there modified_gate modified_gate plain_gate us (plain_barred us n) (same modified_gate us)) (gate_starts us (rw n e))

pub modified_gate_said_in : (us vs : List Token) (l : Line) → is_next class.Gate us ≡ false → (is_next class.Modifier us || is_next class.Forked us) ≡ true → SaysLine modified_gate us vs l → SaysLine statement us vs l
modified_gate_said_in us vs l n e h = said_into modified_gate statement us vs l (modified_gate_into us n e) h

pub modified_gate_stops_in : (us vs : List Token) (x : Stop) → is_next class.Gate us ≡ false → (is_next class.Modifier us || is_next class.Forked us) ≡ true → StopsFor x modified_gate us vs → StopsFor x statement us vs
modified_gate_stops_in us vs x n e h = stops_into modified_gate statement us vs x (modified_gate_into us n e) h

measure_into : (us : List Token) → is_next class.Gate us ≡ false → (is_next class.Modifier us || is_next class.Forked us) ≡ false → is_next class.Measure us ≡ true → Into measure statement us
measure_into us n0 n1 e = there measure (Or measure (Or reset (Or (One class.LeftOut) (Or classical control)))) gate us (let m = none_of (is_next class.Modifier us) (is_next class.Forked us) n1 in gate_barred us n0 m.0 m.1) (here measure (Or reset (Or (One class.LeftOut) (Or classical control))) us (word_starts class.Measure (Seq (One class.Qubit) (maybe address)) us e))

pub measure_said_in : (us vs : List Token) (l : Line) → is_next class.Gate us ≡ false → (is_next class.Modifier us || is_next class.Forked us) ≡ false → is_next class.Measure us ≡ true → SaysLine measure us vs l → SaysLine statement us vs l
measure_said_in us vs l n0 n1 e h = said_into measure statement us vs l (measure_into us n0 n1 e) h

pub measure_stops_in : (us vs : List Token) (x : Stop) → is_next class.Gate us ≡ false → (is_next class.Modifier us || is_next class.Forked us) ≡ false → is_next class.Measure us ≡ true → StopsFor x measure us vs → StopsFor x statement us vs
measure_stops_in us vs x n0 n1 e h = stops_into measure statement us vs x (measure_into us n0 n1 e) h

reset_into : (us : List Token) → is_next class.Gate us ≡ false → (is_next class.Modifier us || is_next class.Forked us) ≡ false → is_next class.Measure us ≡ false → is_next class.Reset us ≡ true → Into reset statement us
reset_into us n0 n1 n2 e = there reset (Or measure (Or reset (Or (One class.LeftOut) (Or classical control)))) gate us (let m = none_of (is_next class.Modifier us) (is_next class.Forked us) n1 in gate_barred us n0 m.0 m.1) (there reset (Or reset (Or (One class.LeftOut) (Or classical control))) measure us (word_barred class.Measure (Seq (One class.Qubit) (maybe address)) us n2) (here reset (Or (One class.LeftOut) (Or classical control)) us (word_starts class.Reset (maybe (One class.Qubit)) us e)))

pub reset_said_in : (us vs : List Token) (l : Line) → is_next class.Gate us ≡ false → (is_next class.Modifier us || is_next class.Forked us) ≡ false → is_next class.Measure us ≡ false → is_next class.Reset us ≡ true → SaysLine reset us vs l → SaysLine statement us vs l
reset_said_in us vs l n0 n1 n2 e h = said_into reset statement us vs l (reset_into us n0 n1 n2 e) h

pub reset_stops_in : (us vs : List Token) (x : Stop) → is_next class.Gate us ≡ false → (is_next class.Modifier us || is_next class.Forked us) ≡ false → is_next class.Measure us ≡ false → is_next class.Reset us ≡ true → StopsFor x reset us vs → StopsFor x statement us vs
reset_stops_in us vs x n0 n1 n2 e h = stops_into reset statement us vs x (reset_into us n0 n1 n2 e) h

left_out_exceeds : (us : List Token) → is_next class.LeftOut us ≡ true → Exceeds quil tables (One class.LeftOut) us us
unfolding quil tables
left_out_exceeds [] e = absurd (cc)
left_out_exceeds (t ∷ us) e = token_exceeds e refl

left_out_into : (us : List Token) → is_next class.Gate us ≡ false → (is_next class.Modifier us || is_next class.Forked us) ≡ false → is_next class.Measure us ≡ false → is_next class.Reset us ≡ false → is_next class.LeftOut us ≡ true → Into (One class.LeftOut) statement us
left_out_into us n0 n1 n2 n3 e = there (One class.LeftOut) (Or measure (Or reset (Or (One class.LeftOut) (Or classical control)))) gate us (let m = none_of (is_next class.Modifier us) (is_next class.Forked us) n1 in gate_barred us n0 m.0 m.1) (there (One class.LeftOut) (Or reset (Or (One class.LeftOut) (Or classical control))) measure us (word_barred class.Measure (Seq (One class.Qubit) (maybe address)) us n2) (there (One class.LeftOut) (Or (One class.LeftOut) (Or classical control)) reset us (word_barred class.Reset (maybe (One class.Qubit)) us n3) (here (One class.LeftOut) (Or classical control) us (one_starts class.LeftOut us e))))

pub left_out_in : (us : List Token) → is_next class.Gate us ≡ false → (is_next class.Modifier us || is_next class.Forked us) ≡ false → is_next class.Measure us ≡ false → is_next class.Reset us ≡ false → is_next class.LeftOut us ≡ true → Exceeds quil tables statement us us
left_out_in us n0 n1 n2 n3 e = (left_out_into us n0 n1 n2 n3 e).goes (Large us) (left_out_exceeds us e)

classical_into : (us : List Token) → is_next class.Gate us ≡ false → (is_next class.Modifier us || is_next class.Forked us) ≡ false → is_next class.Measure us ≡ false → is_next class.Reset us ≡ false → is_next class.LeftOut us ≡ false → begins_classical us ≡ true → Into classical statement us
classical_into us n0 n1 n2 n3 n4 e = there classical (Or measure (Or reset (Or (One class.LeftOut) (Or classical control)))) gate us (let m = none_of (is_next class.Modifier us) (is_next class.Forked us) n1 in gate_barred us n0 m.0 m.1) (there classical (Or reset (Or (One class.LeftOut) (Or classical control))) measure us (word_barred class.Measure (Seq (One class.Qubit) (maybe address)) us n2) (there classical (Or (One class.LeftOut) (Or classical control)) reset us (word_barred class.Reset (maybe (One class.Qubit)) us n3) (there classical (Or classical control) (One class.LeftOut) us (one_barred class.LeftOut us n4) (here classical control us (classical_starts us e)))))

pub classical_said_in : (us vs : List Token) (l : Line) → is_next class.Gate us ≡ false → (is_next class.Modifier us || is_next class.Forked us) ≡ false → is_next class.Measure us ≡ false → is_next class.Reset us ≡ false → is_next class.LeftOut us ≡ false → begins_classical us ≡ true → SaysLine classical us vs l → SaysLine statement us vs l
classical_said_in us vs l n0 n1 n2 n3 n4 e h = said_into classical statement us vs l (classical_into us n0 n1 n2 n3 n4 e) h

pub classical_stops_in : (us vs : List Token) (x : Stop) → is_next class.Gate us ≡ false → (is_next class.Modifier us || is_next class.Forked us) ≡ false → is_next class.Measure us ≡ false → is_next class.Reset us ≡ false → is_next class.LeftOut us ≡ false → begins_classical us ≡ true → StopsFor x classical us vs → StopsFor x statement us vs
classical_stops_in us vs x n0 n1 n2 n3 n4 e h = stops_into classical statement us vs x (classical_into us n0 n1 n2 n3 n4 e) h

control_into : (us : List Token) → is_next class.Gate us ≡ false → (is_next class.Modifier us || is_next class.Forked us) ≡ false → is_next class.Measure us ≡ false → is_next class.Reset us ≡ false → is_next class.LeftOut us ≡ false → begins_classical us ≡ false → Into control statement us
control_into us n0 n1 n2 n3 n4 n5 = there control (Or measure (Or reset (Or (One class.LeftOut) (Or classical control)))) gate us (let m = none_of (is_next class.Modifier us) (is_next class.Forked us) n1 in gate_barred us n0 m.0 m.1) (there control (Or reset (Or (One class.LeftOut) (Or classical control))) measure us (word_barred class.Measure (Seq (One class.Qubit) (maybe address)) us n2) (there control (Or (One class.LeftOut) (Or classical control)) reset us (word_barred class.Reset (maybe (One class.Qubit)) us n3) (there control (Or classical control) (One class.LeftOut) us (one_barred class.LeftOut us n4) (there control control classical us (classical_barred us n5) (same control us)))))

pub control_said_in : (us vs : List Token) (l : Line) → is_next class.Gate us ≡ false → (is_next class.Modifier us || is_next class.Forked us) ≡ false → is_next class.Measure us ≡ false → is_next class.Reset us ≡ false → is_next class.LeftOut us ≡ false → begins_classical us ≡ false → SaysLine control us vs l → SaysLine statement us vs l
control_said_in us vs l n0 n1 n2 n3 n4 n5 h = said_into control statement us vs l (control_into us n0 n1 n2 n3 n4 n5) h

pub control_stops_in : (us vs : List Token) (x : Stop) → is_next class.Gate us ≡ false → (is_next class.Modifier us || is_next class.Forked us) ≡ false → is_next class.Measure us ≡ false → is_next class.Reset us ≡ false → is_next class.LeftOut us ≡ false → begins_classical us ≡ false → StopsFor x control us vs → StopsFor x statement us vs
control_stops_in us vs x n0 n1 n2 n3 n4 n5 h = stops_into control statement us vs x (control_into us n0 n1 n2 n3 n4 n5) h

-- what stands at the top level
item_into : (s : Shape Class Event Name) (us vs : List Token) (i : Item) → Into s top_level us → SaysItem s us vs i → SaysItem top_level us vs i
item_into s us vs i k h = record { parts = h.parts; reads = k.goes (Got (parts_events h.parts) vs) h.reads; means = h.means }

declaration_top : (us : List Token) → is_next class.Declare us ≡ true → Into declaration top_level us
declaration_top us e = here declaration (Or gate_header (Or circuit_header statement)) us (word_starts class.Declare (Seq (One class.Named) (Seq (One class.CellType) (Seq length (maybe sharing)))) us e)

pub declaration_stops_top : (us vs : List Token) (x : Stop) → is_next class.Declare us ≡ true → StopsFor x declaration us vs → StopsFor x top_level us vs
declaration_stops_top us vs x e h = stops_into declaration top_level us vs x (declaration_top us e) h

pub declaration_said_top : (us vs : List Token) (i : Item) → is_next class.Declare us ≡ true → SaysItem declaration us vs i → SaysItem top_level us vs i
declaration_said_top us vs i e h = item_into declaration us vs i (declaration_top us e) h

gate_header_top : (us : List Token) → is_next class.Declare us ≡ false → is_next class.DefGate us ≡ true → Into gate_header top_level us
gate_header_top us n0 e = there gate_header (Or gate_header (Or circuit_header statement)) declaration us (word_barred class.Declare (Seq (One class.Named) (Seq (One class.CellType) (Seq length (maybe sharing)))) us n0) (here gate_header (Or circuit_header statement) us (word_starts class.DefGate (Seq (One class.Named) (Seq gate_shape (One class.Colon))) us e))

pub gate_header_stops_top : (us vs : List Token) (x : Stop) → is_next class.Declare us ≡ false → is_next class.DefGate us ≡ true → StopsFor x gate_header us vs → StopsFor x top_level us vs
gate_header_stops_top us vs x n0 e h = stops_into gate_header top_level us vs x (gate_header_top us n0 e) h

pub gate_header_said_top : (us vs : List Token) (i : Item) → is_next class.Declare us ≡ false → is_next class.DefGate us ≡ true → SaysItem gate_header us vs i → SaysItem top_level us vs i
gate_header_said_top us vs i n0 e h = item_into gate_header us vs i (gate_header_top us n0 e) h

circuit_header_top : (us : List Token) → is_next class.Declare us ≡ false → is_next class.DefGate us ≡ false → is_next class.DefCircuit us ≡ true → Into circuit_header top_level us
circuit_header_top us n0 n1 e = there circuit_header (Or gate_header (Or circuit_header statement)) declaration us (word_barred class.Declare (Seq (One class.Named) (Seq (One class.CellType) (Seq length (maybe sharing)))) us n0) (there circuit_header (Or circuit_header statement) gate_header us (word_barred class.DefGate (Seq (One class.Named) (Seq gate_shape (One class.Colon))) us n1) (here circuit_header statement us (word_starts class.DefCircuit (Seq (One class.Named) (Seq (maybe formals) (Seq (Many (One class.Named)) (One class.Colon)))) us e)))

pub circuit_header_stops_top : (us vs : List Token) (x : Stop) → is_next class.Declare us ≡ false → is_next class.DefGate us ≡ false → is_next class.DefCircuit us ≡ true → StopsFor x circuit_header us vs → StopsFor x top_level us vs
circuit_header_stops_top us vs x n0 n1 e h = stops_into circuit_header top_level us vs x (circuit_header_top us n0 n1 e) h

pub circuit_header_said_top : (us vs : List Token) (i : Item) → is_next class.Declare us ≡ false → is_next class.DefGate us ≡ false → is_next class.DefCircuit us ≡ true → SaysItem circuit_header us vs i → SaysItem top_level us vs i
circuit_header_said_top us vs i n0 n1 e h = item_into circuit_header us vs i (circuit_header_top us n0 n1 e) h

statement_top : (us : List Token) → is_next class.Declare us ≡ false → is_next class.DefGate us ≡ false → is_next class.DefCircuit us ≡ false → Into statement top_level us
statement_top us n0 n1 n2 = there statement (Or gate_header (Or circuit_header statement)) declaration us (word_barred class.Declare (Seq (One class.Named) (Seq (One class.CellType) (Seq length (maybe sharing)))) us n0) (there statement (Or circuit_header statement) gate_header us (word_barred class.DefGate (Seq (One class.Named) (Seq gate_shape (One class.Colon))) us n1) (there statement statement circuit_header us (word_barred class.DefCircuit (Seq (One class.Named) (Seq (maybe formals) (Seq (Many (One class.Named)) (One class.Colon)))) us n2) (same statement us)))

pub statement_stops_top : (us vs : List Token) (x : Stop) → is_next class.Declare us ≡ false → is_next class.DefGate us ≡ false → is_next class.DefCircuit us ≡ false → StopsFor x statement us vs → StopsFor x top_level us vs
statement_stops_top us vs x n0 n1 n2 h = stops_into statement top_level us vs x (statement_top us n0 n1 n2) h

-- a line that means a statement is no declaration and no header
pub plain_item : (ps : List Part) (l : Line) → line_of ps ≡ Some l → item_of ps ≡ Some (item.Plain l)
plain_item [] l e = absurd (cc)
plain_item (Made (Says p class.Declare s) ∷ ps) l e = absurd (cc)
plain_item (Made (Says p class.DefGate s) ∷ ps) l e = absurd (cc)
plain_item (Made (Says p class.DefCircuit s) ∷ ps) l e = absurd (cc)
plain_item _ l e = ap plain e

pub statement_said_top : (us vs : List Token) (l : Line) → is_next class.Declare us ≡ false → is_next class.DefGate us ≡ false → is_next class.DefCircuit us ≡ false → SaysLine statement us vs l → SaysItem top_level us vs (item.Plain l)
statement_said_top us vs l n0 n1 n2 h = item_into statement us vs (item.Plain l) (statement_top us n0 n1 n2) (record { parts = h.parts; reads = h.reads; means = plain_item h.parts l h.means })
