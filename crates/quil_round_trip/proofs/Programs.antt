-- A program that was read, printed and read again.
use Rattle.std.proofs.Common.{◌≡◌, ℕ, ◌+◌, ◌<◌, Bool, true, false, ◌&&◌, List, [], ◌∷◌, ◌++◌, map, length, Option, Some, None, Result, Ok, refl, sym, ◌∙◌, ap, ap₂, subst, append_assoc, append-nil, codes, arith, if◌then◌else◌}
use Rattle.std.specs.List.{flat_map, AllByRecursion}
use Rattle.std.proofs.lemmas.List.{map-append}
use Rattle.quil_lex.specs.declared.segment.End.{End}
use Rattle.quil_lex.specs.declared.segment.End.TheVariants as end
use Rattle.quil_lex.specs.Reading.{Lexeme, Span}
use Rattle.quil_lex.proofs.Slices.{token_size}
use Rattle.quil_lex.specs.Written.{Word, WrittenLine, IsLineToken, IsWritten, AreTokens, AreApart, words_bytes, line_bytes, lines_bytes, lexemes_at, line_span, spans_from}
use Rattle.quil_shape.specs.Shape.{Shape}
use Rattle.quil_shape.specs.Condition.{is_decided_by_one_token}
use Rattle.quil_shape.specs.Verdict.{IsReading as IsWhole}
use Rattle.quil_shape.specs.Outcome.Outcome.{Made}
use Rattle.quil_shape.specs.Reads.{Reads}
use Rattle.quil_tree.specs.declared.place.Place.{Place}
use Rattle.quil_tree.specs.declared.statement.Formula.{Formula}
use Rattle.quil_tree.specs.declared.statement.Line.{Line}
use Rattle.quil_tree.specs.declared.item.Form.{Form}
use Rattle.quil_tree.specs.declared.item.Form.TheVariants as form
use Rattle.quil_tree.specs.declared.item.GateDefinition.{GateDefinition}
use Rattle.quil_tree.specs.declared.item.CircuitDefinition.{CircuitDefinition}
use Rattle.quil_tree.specs.declared.item.Item.{Item}
use Rattle.quil_tree.specs.declared.item.Item.TheVariants as item
use Rattle.quil_tree.specs.Names.{distinct, texts_of}
use Rattle.quil_tree.specs.Printed.{with_commas, formula_texts, body_line, statement_text, form_text, listed}
use Rattle.quil_grammar.specs.declared.class.Class.{Class}
use Rattle.quil_grammar.specs.declared.fault.ReadFault.{ReadFault}
use Rattle.quil_grammar.specs.Token.{Token, Context, no_context, bad_token, line_tokens, span_tokens}
use Rattle.quil_grammar.specs.Grammar.{quil, Name, Event}
use Rattle.quil_grammar.specs.Tables.{tables}
use Rattle.quil_grammar.specs.Parts.{Part, parts_events}
use Rattle.quil_grammar.specs.Statements.{top_level, statement, matrix_row, permutation_row, nowhere}
use Rattle.quil_grammar.proofs.Decided.{decided_top, decided_statement, decided_row, decided_numbers}
use Rattle.quil_statement.specs.Meaning.{item_of, line_of, row_of, numbers_of}
use Rattle.quil_round_trip.specs.Unplaced.{bare_item, bare_row, bare_form, bare_line, bare_gate_definition, bare_circuit_definition}
use Rattle.quil_parse.specs.Program.{wants_body, row_shape, line_shape, line_context, body_context, with_row, with_statement, with_line, added, with_parts, Says, is_empty, has_no_lexeme, ends_well, line_end, Goes}
use Rattle.quil_round_trip.proofs.Reread.{Sense}
use Rattle.quil_round_trip.proofs.Again.{LineFits, IsReread, Reprinted, reprinted}
use Rattle.quil_round_trip.proofs.Lines.{lines}
use Rattle.quil_round_trip.proofs.Items.{items, gate_header_text, circuit_header_text}
use Rattle.quil_round_trip.proofs.Rows.{rows, number_rows}
use Rattle.quil_round_trip.proofs.Fresh.{fresh}
use Rattle.quil_round_trip.proofs.Bodies.{rows_so_far, total, AreWhole, OthersWhole, all_whole, fresh_text, same_wants, same_shape, same_context}
use Rattle.quil_round_trip.proofs.Places.{NoPlace}
use Rattle.quil_round_trip.proofs.Ends.{read_tokens, read_end, not_nowhere, not_nothing}

-- a line, as it is printed
abbrev written : Bool → Word → List Word → WrittenLine
written b w ws = record { indented = b; words = w ∷ ws }

-- What is printed of the line that leads from these items to those, and how it is read again.
pub record Step (b : Bool) (is js : List Item) : Type 0 where
  pub word : Word
  pub words : List Word
  pub is_written : IsWritten (written b word words)
  pub text : total js ≡ total is ++ line_bytes (written b word words)
  pub there : (n : ℕ) (ks : List Item) → map bare_item ks ≡ map bare_item is → (ps : List Part) × (ls : List Item) × Says ks (line_span n (written b word words)) ps × (with_parts b ks ps ≡ Some ls) × (map bare_item ls ≡ map bare_item js)

-- from a reprinted thing
step_written : (b : Bool) (w : Word) (ws : List Word) → w.blank ≡ false → AreApart (w ∷ ws) → IsWritten (written b w ws)
step_written b w ws n a = record { apart = a; margin = λ e. n }

-- a line of this shape behind items that are the same up to places
says_there : {A : Type 0} (sense : Sense A) (b : Bool) (is ks : List Item) (s : Shape Class Event Name) (n : ℕ) (w : Word) (ws : List Word) (ps : List Part) → map bare_item ks ≡ map bare_item is → line_shape b is ≡ s
    → IsWhole quil s (line_tokens (line_context b is) (lexemes_at n (if b then 5 else 1) (w ∷ ws))) (parts_events ps) → Says ks (line_span n (written b w ws)) ps
says_there sense b is ks s n w ws ps same shape h =
    let span = line_span n (written b w ws) in
    let c : line_context b is ≡ line_context b ks = sym (same_context is ks same b) in
    let tokens : line_tokens (line_context b is) span.lexemes ≡ span_tokens (line_context b ks) span = ap (λ d. line_tokens d span.lexemes) c ∙ sym (append-nil (line_tokens (line_context b ks) span.lexemes)) in
    subst (λ ts. IsWhole quil (line_shape b ks) ts (parts_events ps)) tokens (subst (λ x. IsWhole quil x (line_tokens (line_context b is) span.lexemes) (parts_events ps)) (sym (same_shape is ks same b ∙ shape)) h)

added_is : (i j : Item) (is js : List Item) → added (Some j) is ≡ Some js → js ≡ j ∷ is
added_is i j is js e = cc

-- ---- a line of the top level

pub top_step : (is js : List Item) (i : Item) → wants_body is ≡ false → i ∷ is ≡ js → (ps0 : List Part) → item_of ps0 ≡ Some i → Reprinted items no_context top_level i → Step false is js
top_step is js i none e ps0 m r =
    subst (λ ls. Step false is ls) e
    (record {
      word = r.word;
      words = r.words;
      is_written = step_written false r.word r.words r.no_blank r.apart;
      text = ap (λ x. total is ++ x) (fresh_text i (fresh ps0 i m) ∙ ap (λ x. x ++ codes "\n") (sym r.text));
      there = λ n ks same.
          let q = r.read n 1 in
          (q.0, q.1 ∷ ks, says_there items false is ks top_level n r.word r.words q.0 same (rw none refl) q.2, ap (λ o. added o ks) q.3, ap₂ (λ x xs. x ∷ xs) q.4 same);
    })

-- ---- a line of a body

-- one line more behind a text
grown : (t a r l : List ℕ) → t ++ (a ++ (r ++ (l ++ []))) ≡ (t ++ (a ++ r)) ++ l
grown t a r l = ap (λ x. t ++ (a ++ (r ++ x))) (append-nil l) ∙ ap (λ x. t ++ x) (sym (append_assoc a r l)) ∙ sym (append_assoc t (a ++ r) l)

flat_more : {A : Type 0} (f : A → List ℕ) (xs : List A) (x : A) → flat_map f (xs ++ x ∷ []) ≡ flat_map f xs ++ (f x ++ [])
flat_more f [] x = refl
flat_more f (y ∷ xs) x = ap (λ z. f y ++ z) (flat_more f xs x) ∙ sym (append_assoc (f y) (flat_map f xs) (f x ++ []))

body_bytes : (w : Word) (ws : List Word) (x : List ℕ) → words_bytes (w ∷ ws) ≡ x → body_line x ≡ line_bytes (written true w ws)
body_bytes w ws x e = ap body_line (sym e)

row_said : (row : List Formula) (ps : List Part) → Some (row_of ps) ≡ Some row → row_of ps ≡ row
row_said row ps e = cc

numbers_said : (row : List (List ℕ)) (ps : List Part) → Some (numbers_of ps) ≡ Some row → numbers_of ps ≡ row
numbers_said row ps e = cc

-- the same body with one row more
abbrev SameRow : Form → List Part → List Part → Type 0
SameRow (form.Matrix rs) ps qs = bare_row (row_of ps) ≡ bare_row (row_of qs)
SameRow (form.Permutation xs) ps qs = numbers_of ps ≡ numbers_of qs

rows_more : (rs ss : List (List Formula)) (r q : List Formula) → map bare_row rs ≡ map bare_row ss → bare_row r ≡ bare_row q → map bare_row (rs ++ r ∷ []) ≡ map bare_row (ss ++ q ∷ [])
rows_more rs ss r q e f = map-append bare_row rs (r ∷ []) ∙ ap₂ (λ x y. x ++ y ∷ []) e f ∙ sym (map-append bare_row ss (q ∷ []))

form_more : (f g : Form) (ps qs : List Part) → bare_form f ≡ bare_form g → SameRow g ps qs → bare_form (with_row f ps) ≡ bare_form (with_row g qs)
form_more (form.Matrix rs) (form.Matrix ss) ps qs e h = let same : map bare_row rs ≡ map bare_row ss = cc in ap form.Matrix (rows_more rs ss (row_of ps) (row_of qs) same h)
form_more (form.Permutation xs) (form.Permutation ys) ps qs e h = let same : xs ≡ ys = cc in ap form.Permutation (ap₂ (λ x y. x ++ y) same h)
form_more (form.Matrix rs) (form.Permutation ys) ps qs e h = absurd (cc)
form_more (form.Permutation xs) (form.Matrix ss) ps qs e h = absurd (cc)

abbrev gate_with : GateDefinition → List Part → Item
gate_with d ps = item.DefGate (record d { form = with_row d.form ps })

same_gates : (d e : GateDefinition) (is ks : List Item) → map bare_item (item.DefGate e ∷ ks) ≡ map bare_item (item.DefGate d ∷ is) → (bare_gate_definition e ≡ bare_gate_definition d) × (map bare_item ks ≡ map bare_item is)
same_gates d e is ks same = (cc, cc)

gate_more : (d e : GateDefinition) (is ks : List Item) (ps qs : List Part) → map bare_item (item.DefGate e ∷ ks) ≡ map bare_item (item.DefGate d ∷ is) → SameRow d.form qs ps → map bare_item (gate_with e qs ∷ ks) ≡ map bare_item (gate_with d ps ∷ is)
gate_more d e is ks ps qs same h =
    let p = same_gates d e is ks same in
    let more = form_more e.form d.form qs ps (ap (λ g. g.form) p.0) h in
    ap₂ (λ g xs. item.DefGate g ∷ xs) (ap₂ (λ (g : GateDefinition) f. record g { form = f }) p.0 more) p.1

same_circuits : (d e : CircuitDefinition) (is ks : List Item) → map bare_item (item.DefCircuit e ∷ ks) ≡ map bare_item (item.DefCircuit d ∷ is) → (bare_circuit_definition e ≡ bare_circuit_definition d) × (map bare_item ks ≡ map bare_item is)
same_circuits d e is ks same = (cc, cc)

abbrev circuit_with : CircuitDefinition → Line → Item
circuit_with d l = item.DefCircuit (record d { body = d.body ++ l ∷ [] })

circuit_more : (d e : CircuitDefinition) (is ks : List Item) (l m : Line) → map bare_item (item.DefCircuit e ∷ ks) ≡ map bare_item (item.DefCircuit d ∷ is) → bare_line m ≡ bare_line l → map bare_item (circuit_with e m ∷ ks) ≡ map bare_item (circuit_with d l ∷ is)
circuit_more d e is ks l m same h =
    let p = same_circuits d e is ks same in
    let body : map bare_line (e.body ++ m ∷ []) ≡ map bare_line (d.body ++ l ∷ []) = map-append bare_line e.body (m ∷ []) ∙ ap₂ (λ x y. x ++ y ∷ []) (ap (λ g. g.body) p.0) h ∙ sym (map-append bare_line d.body (l ∷ [])) in
    ap₂ (λ g xs. item.DefCircuit g ∷ xs) (ap₂ (λ (g : CircuitDefinition) b. record g { body = b }) p.0 body) p.1

-- the text of a gate with one row more
rows_text_more : (names : List (List ℕ)) (rs : List (List Formula)) (row : List Formula) → rows_so_far names (form.Matrix (rs ++ row ∷ [])) ≡ rows_so_far names (form.Matrix rs) ++ (body_line (with_commas (formula_texts names row)) ++ [])
rows_text_more names rs row = flat_more (λ r. body_line (with_commas (formula_texts names r))) rs row

form_said_more : (f : Form) (ps : List Part) → form_text (with_row f ps) ≡ form_text f
form_said_more (form.Matrix rs) ps = refl
form_said_more (form.Permutation xs) ps = refl

header_more : (d : GateDefinition) (ps : List Part) → gate_header_text (record d { form = with_row d.form ps }) ≡ gate_header_text d
header_more d ps = ap (λ x. codes "DEFGATE " ++ d.name.text ++ listed (texts_of d.parameters) ++ x ++ codes ":") (form_said_more d.form ps)

matrix_text : (d : GateDefinition) (is : List Item) (rs : List (List Formula)) (ps : List Part) (l : List ℕ) → d.form ≡ form.Matrix rs → body_line (with_commas (formula_texts (distinct (texts_of d.parameters)) (row_of ps))) ≡ l → total (gate_with d ps ∷ is) ≡ total (item.DefGate d ∷ is) ++ l
matrix_text d is rs ps l f e =
    let names = distinct (texts_of d.parameters) in
    let head = gate_header_text d ++ codes "\n" in
    let old : rows_so_far names d.form ≡ rows_so_far names (form.Matrix rs) = ap (λ x. rows_so_far names x) f in
    let new : rows_so_far names (with_row d.form ps) ≡ rows_so_far names (form.Matrix rs) ++ (l ++ []) = ap (λ x. rows_so_far names (with_row x ps)) f ∙ rows_text_more names rs (row_of ps) ∙ ap (λ x. rows_so_far names (form.Matrix rs) ++ (x ++ [])) e in
    ap (λ x. total is ++ ((x ++ codes "\n") ++ rows_so_far names (with_row d.form ps))) (header_more d ps)
    ∙ ap (λ x. total is ++ (head ++ x)) new ∙ grown (total is) head (rows_so_far names (form.Matrix rs)) l ∙ ap (λ x. (total is ++ (head ++ x)) ++ l) (sym old)

-- a row of a matrix
matrix_step : (d : GateDefinition) (is js : List Item) (rs : List (List Formula)) (ps0 : List Part) → d.form ≡ form.Matrix rs → gate_with d ps0 ∷ is ≡ js → Reprinted rows (body_context (item.DefGate d ∷ is)) matrix_row (row_of ps0) → Step true (item.DefGate d ∷ is) js
matrix_step d is js rs ps0 f e r =
    subst (λ ls. Step true (item.DefGate d ∷ is) ls) e
    (record {
      word = r.word;
      words = r.words;
      is_written = step_written true r.word r.words r.no_blank r.apart;
      text = text;
      there = there;
    })
  where
    text : total (gate_with d ps0 ∷ is) ≡ total (item.DefGate d ∷ is) ++ line_bytes (written true r.word r.words)
    text = matrix_text d is rs ps0 (line_bytes (written true r.word r.words)) f (body_bytes r.word r.words (with_commas (formula_texts (distinct (texts_of d.parameters)) (row_of ps0))) r.text)

    there : (n : ℕ) (ks : List Item) → map bare_item ks ≡ map bare_item (item.DefGate d ∷ is) → (ps : List Part) × (ls : List Item) × Says ks (line_span n (written true r.word r.words)) ps × (with_parts true ks ps ≡ Some ls) × (map bare_item ls ≡ map bare_item (gate_with d ps0 ∷ is))
    there n [] same = absurd (cc)
    there n (item.Declare x ∷ ks) same = absurd (cc)
    there n (item.DefCircuit x ∷ ks) same = absurd (cc)
    there n (item.Plain x ∷ ks) same = absurd (cc)
    there n (item.DefGate g ∷ ks) same =
        let q = r.read n 5 in
        let row : bare_row (row_of q.0) ≡ bare_row (row_of ps0) = ap bare_row (row_said q.1 q.0 q.3) ∙ q.4 in
        (q.0, gate_with g q.0 ∷ ks, says_there rows true (item.DefGate d ∷ is) (item.DefGate g ∷ ks) matrix_row n r.word r.words q.0 same (ap row_shape f) q.2, refl, gate_more d g is ks ps0 q.0 same (subst (λ x. SameRow x q.0 ps0) (sym f) row))

-- ---- the row of a permutation

-- a token has a byte
some_bytes : (x y : List ℕ) → 0 < length x → x ++ y ≡ [] → ⊥
some_bytes [] y h e = absurd (omega arith)
some_bytes (b ∷ x) y h e = absurd (cc)

first_word : (w : Word) (ws : List Word) → w.blank ≡ false → IsLineToken w.kind w.text → words_bytes (w ∷ ws) ≡ [] → ⊥
first_word w ws b h e = some_bytes w.text (words_bytes ws) (token_size w.kind w.text h.token) (subst (λ x. x ++ words_bytes ws ≡ []) (without w b) e)
  where
    without : (v : Word) → v.blank ≡ false → (if v.blank then 32 ∷ v.text else v.text) ≡ v.text
    without v n = rw n refl

-- the one row
numbers_row : (names xs : List (List ℕ)) → (xs ≡ [] → ⊥) → rows_so_far names (form.Permutation xs) ≡ body_line (with_commas xs)
numbers_row names [] h = absurd (h refl)
numbers_row names (x ∷ xs) h = refl

numbers_text : (d : GateDefinition) (is : List Item) (ps : List Part) (l : List ℕ) → d.form ≡ form.Permutation [] → (numbers_of ps ≡ [] → ⊥) → body_line (with_commas (numbers_of ps)) ≡ l → total (gate_with d ps ∷ is) ≡ total (item.DefGate d ∷ is) ++ l
numbers_text d is ps l f some e =
    let names = distinct (texts_of d.parameters) in
    let head = gate_header_text d ++ codes "\n" in
    let old : rows_so_far names d.form ≡ [] = ap (λ x. rows_so_far names x) f in
    let new : rows_so_far names (with_row d.form ps) ≡ [] ++ (l ++ []) = ap (λ x. rows_so_far names (with_row x ps)) f ∙ numbers_row names (numbers_of ps) some ∙ e ∙ sym (append-nil l) in
    ap (λ x. total is ++ ((x ++ codes "\n") ++ rows_so_far names (with_row d.form ps))) (header_more d ps)
    ∙ ap (λ x. total is ++ (head ++ x)) new ∙ grown (total is) head [] l ∙ ap (λ x. (total is ++ (head ++ x)) ++ l) (sym old)

numbers_step : (d : GateDefinition) (is js : List Item) (ps0 : List Part) → d.form ≡ form.Permutation [] → gate_with d ps0 ∷ is ≡ js → Reprinted number_rows (body_context (item.DefGate d ∷ is)) permutation_row (numbers_of ps0) → Step true (item.DefGate d ∷ is) js
numbers_step d is js ps0 f e r =
    subst (λ ls. Step true (item.DefGate d ∷ is) ls) e
    (record {
      word = r.word;
      words = r.words;
      is_written = step_written true r.word r.words r.no_blank r.apart;
      text = text;
      there = there;
    })
  where
    some : numbers_of ps0 ≡ [] → ⊥
    some none = first_word r.word r.words r.no_blank r.apart.0 (r.text ∙ ap with_commas none)

    text : total (gate_with d ps0 ∷ is) ≡ total (item.DefGate d ∷ is) ++ line_bytes (written true r.word r.words)
    text = numbers_text d is ps0 (line_bytes (written true r.word r.words)) f some (body_bytes r.word r.words (with_commas (numbers_of ps0)) r.text)

    there : (n : ℕ) (ks : List Item) → map bare_item ks ≡ map bare_item (item.DefGate d ∷ is) → (ps : List Part) × (ls : List Item) × Says ks (line_span n (written true r.word r.words)) ps × (with_parts true ks ps ≡ Some ls) × (map bare_item ls ≡ map bare_item (gate_with d ps0 ∷ is))
    there n [] same = absurd (cc)
    there n (item.Declare x ∷ ks) same = absurd (cc)
    there n (item.DefCircuit x ∷ ks) same = absurd (cc)
    there n (item.Plain x ∷ ks) same = absurd (cc)
    there n (item.DefGate g ∷ ks) same =
        let q = r.read n 5 in
        let row : numbers_of q.0 ≡ numbers_of ps0 = numbers_said q.1 q.0 q.3 ∙ q.4 in
        (q.0, gate_with g q.0 ∷ ks, says_there number_rows true (item.DefGate d ∷ is) (item.DefGate g ∷ ks) permutation_row n r.word r.words q.0 same (ap row_shape f) q.2, refl, gate_more d g is ks ps0 q.0 same (subst (λ x. SameRow x q.0 ps0) (sym f) row))

-- ---- a statement of a circuit's body

circuit_text : (d : CircuitDefinition) (is : List Item) (m : Line) (l : List ℕ) → body_line (statement_text (distinct (texts_of d.parameters)) m.statement) ≡ l → total (circuit_with d m ∷ is) ≡ total (item.DefCircuit d ∷ is) ++ l
circuit_text d is m l e =
    let f : Line → List ℕ = λ x. body_line (statement_text (distinct (texts_of d.parameters)) x.statement) in
    let head = circuit_header_text d ++ codes "\n" in
    ap (λ x. total is ++ (head ++ x)) (flat_more f d.body m ∙ ap (λ x. flat_map f d.body ++ (x ++ [])) e) ∙ grown (total is) head (flat_map f d.body) l

circuit_step : (d : CircuitDefinition) (is js : List Item) (m : Line) → circuit_with d m ∷ is ≡ js → Reprinted lines (body_context (item.DefCircuit d ∷ is)) statement m → Step true (item.DefCircuit d ∷ is) js
circuit_step d is js m e r =
    subst (λ ls. Step true (item.DefCircuit d ∷ is) ls) e
    (record {
      word = r.word;
      words = r.words;
      is_written = step_written true r.word r.words r.no_blank r.apart;
      text = circuit_text d is m (line_bytes (written true r.word r.words)) (body_bytes r.word r.words (statement_text (distinct (texts_of d.parameters)) m.statement) r.text);
      there = there;
    })
  where
    there : (n : ℕ) (ks : List Item) → map bare_item ks ≡ map bare_item (item.DefCircuit d ∷ is) → (ps : List Part) × (ls : List Item) × Says ks (line_span n (written true r.word r.words)) ps × (with_parts true ks ps ≡ Some ls) × (map bare_item ls ≡ map bare_item (circuit_with d m ∷ is))
    there n [] same = absurd (cc)
    there n (item.Declare x ∷ ks) same = absurd (cc)
    there n (item.DefGate x ∷ ks) same = absurd (cc)
    there n (item.Plain x ∷ ks) same = absurd (cc)
    there n (item.DefCircuit g ∷ ks) same =
        let q = r.read n 5 in
        (q.0, circuit_with g q.1 ∷ ks, says_there lines true (item.DefCircuit d ∷ is) (item.DefCircuit g ∷ ks) statement n r.word r.words q.0 same refl q.2, ap (λ o. added (with_statement g o) ks) q.3, circuit_more d g is ks m q.1 same q.4)

-- ---- any line

-- a line that isn't empty has a token
pub record SomeLexemes (span : Span) : Type 0 where
  pub first : Lexeme
  pub others : List Lexeme
  pub all : span.lexemes ≡ first ∷ others

pub some_lexemes : (span : Span) → is_empty span ≡ false → bad_token span.line span.end ≡ [] → SomeLexemes span
some_lexemes span e b = by span.lexemes span.end refl refl (subst (λ x. x ≡ []) refl b) e
  where
    by : (ls : List Lexeme) (f : End) → span.lexemes ≡ ls → span.end ≡ f → bad_token span.line f ≡ [] → (has_no_lexeme ls && ends_well f) ≡ false → SomeLexemes span
    by (l ∷ ls) f h k b e = record { first = l; others = ls; all = h }
    by [] end.Line h k b e = absurd (cc)
    by [] (end.Semicolon column) h k b e = absurd (cc)
    by [] (end.BadToken column) h k b e = absurd (cc)

module _ (top_again : (ts : List Token) (os : List Event) → LineFits no_context ts → Reads quil tables top_level ts (Made os []) → IsReread items no_context top_level os)
    (statement_again : (c : Context) (ts : List Token) (os : List Event) → LineFits c ts → Reads quil tables statement ts (Made os []) → IsReread lines c statement os)
    (row_again : (c : Context) → c.qubits ≡ [] → (ts : List Token) (os : List Event) → LineFits c ts → Reads quil tables matrix_row ts (Made os []) → IsReread rows c matrix_row os)
    (numbers_again : (c : Context) → c.qubits ≡ [] → (ts : List Token) (os : List Event) → LineFits c ts → Reads quil tables permutation_row ts (Made os []) → IsReread number_rows c permutation_row os) where
  module _ (span : Span) (tokens : AreTokens span.lexemes) (not_empty : is_empty span ≡ false) (ps : List Part) where
    -- what is printed of a line of a shape
    line_reprinted : {A : Type 0} (sense : Sense A) (c : Context) (s : Shape Class Event Name) → is_decided_by_one_token quil tables s ≡ true → NoPlace s
        → ((ts : List Token) (os : List Event) → LineFits c ts → Reads quil tables s ts (Made os []) → IsReread sense c s os) → (a : A) → IsWhole quil s (span_tokens c span) (parts_events ps) → sense.meaning ps ≡ Some a → Reprinted sense c s a
    line_reprinted sense c s d n again a w m =
        let some = some_lexemes span not_empty (read_end s d c span (parts_events ps) w) in
        let whole : IsWhole quil s (line_tokens c span.lexemes) (parts_events ps) = subst (λ ts. IsWhole quil s ts (parts_events ps)) (read_tokens s d c span (parts_events ps) w) w in
        reprinted sense c s d n again some.first some.others ps a (subst (λ ls. AreTokens ls) some.all tokens) (subst (λ ls. IsWhole quil s (line_tokens c ls) (parts_events ps)) some.all whole) m

    top_line : (is js : List Item) → IsWhole quil (line_shape false is) (span_tokens no_context span) (parts_events ps) → added (item_of ps) is ≡ Some js → Step false is js
    top_line is js w e = by (wants_body is) refl w (item_of ps) refl e
      where
        by : (b : Bool) → wants_body is ≡ b → IsWhole quil (if b then nowhere else top_level) (span_tokens no_context span) (parts_events ps) → (o : Option Item) → item_of ps ≡ o → added o is ≡ Some js → Step false is js
        by true h w o m e = absurd (not_nowhere (span_tokens no_context span) (parts_events ps) w)
        by false h w None m e = absurd (cc)
        by false h w (Some i) m e = let same : i ∷ is ≡ js = cc in top_step is js i h same ps m (line_reprinted items no_context top_level decided_top refl top_again i w m)

    gate_line : (d : GateDefinition) (is js : List Item) → IsWhole quil (row_shape d.form) (span_tokens (body_context (item.DefGate d ∷ is)) span) (parts_events ps) → gate_with d ps ∷ is ≡ js → Step true (item.DefGate d ∷ is) js
    gate_line d is js w e = by d.form refl w
      where
        by : (f : Form) → d.form ≡ f → IsWhole quil (row_shape f) (span_tokens (body_context (item.DefGate d ∷ is)) span) (parts_events ps) → Step true (item.DefGate d ∷ is) js
        by (form.Matrix rs) h w = matrix_step d is js rs ps h e (line_reprinted rows (body_context (item.DefGate d ∷ is)) matrix_row decided_row refl (row_again (body_context (item.DefGate d ∷ is)) refl) (row_of ps) w refl)
        by (form.Permutation []) h w = numbers_step d is js ps h e (line_reprinted number_rows (body_context (item.DefGate d ∷ is)) permutation_row decided_numbers refl (numbers_again (body_context (item.DefGate d ∷ is)) refl) (numbers_of ps) w refl)
        by (form.Permutation (x ∷ xs)) h w = absurd (not_nothing (span_tokens (body_context (item.DefGate d ∷ is)) span) (parts_events ps) w)

    circuit_line : (d : CircuitDefinition) (is js : List Item) → IsWhole quil statement (span_tokens (body_context (item.DefCircuit d ∷ is)) span) (parts_events ps) → added (with_statement d (line_of ps)) is ≡ Some js → Step true (item.DefCircuit d ∷ is) js
    circuit_line d is js w e = by (line_of ps) refl e
      where
        by : (o : Option Line) → line_of ps ≡ o → added (with_statement d o) is ≡ Some js → Step true (item.DefCircuit d ∷ is) js
        by None m e = absurd (cc)
        by (Some l) m e = let same : circuit_with d l ∷ is ≡ js = cc in circuit_step d is js l same (line_reprinted lines (body_context (item.DefCircuit d ∷ is)) statement decided_statement refl (statement_again (body_context (item.DefCircuit d ∷ is))) l w m)

    body_line_again : (is js : List Item) → IsWhole quil (line_shape true is) (span_tokens (line_context true is) span) (parts_events ps) → with_parts true is ps ≡ Some js → Step true is js
    body_line_again [] js w e = absurd (cc)
    body_line_again (item.Declare d ∷ is) js w e = absurd (cc)
    body_line_again (item.Plain d ∷ is) js w e = absurd (cc)
    body_line_again (item.DefGate d ∷ is) js w e = let same : gate_with d ps ∷ is ≡ js = cc in gate_line d is js w same
    body_line_again (item.DefCircuit d ∷ is) js w e = circuit_line d is js w e

    step : (b : Bool) (is js : List Item) → span.indented ≡ b → Says is span ps → with_parts span.indented is ps ≡ Some js → Step b is js
    step b is js h w e = by b (subst (λ x. IsWhole quil (line_shape x is) (span_tokens (line_context x is) span) (parts_events ps)) h w) (subst (λ x. with_parts x is ps ≡ Some js) h e)
      where
        by : (b : Bool) → IsWhole quil (line_shape b is) (span_tokens (line_context b is) span) (parts_events ps) → with_parts b is ps ≡ Some js → Step b is js
        by true w e = body_line_again is js w e
        by false w e = top_line is js w e

  -- ---- all lines

  -- What is printed of the lines of spans, from items to items; and how it is read from items that are the same up to places.
  pub record Rebuilt (is js : List Item) : Type 0 where
    pub written_lines : List WrittenLine
    pub are_written : AllByRecursion IsWritten written_lines
    pub text : total js ≡ total is ++ lines_bytes written_lines
    pub are_whole : AreWhole js
    pub there : (p : Place) (n : ℕ) (ks : List Item) → map bare_item ks ≡ map bare_item is → (ls : List Item) × Goes p ks (spans_from n written_lines) (Ok ls) × (map bare_item ls ≡ map bare_item js)

  rebuilt_here : (is js : List Item) → wants_body is ≡ false → OthersWhole is → is ≡ js → Rebuilt is js
  rebuilt_here is js none whole e =
      subst (λ ls. Rebuilt is ls) e
      (record {
        written_lines = [];
        are_written = tt;
        text = sym (append-nil (total is));
        are_whole = all_whole is none whole;
        there = λ p n ks same. (ks, Goes.ends (same_wants is ks same ∙ none), same);
      })

  rebuilt_behind : (b : Bool) (is js ls : List Item) → Step b is js → Rebuilt js ls → Rebuilt is ls
  rebuilt_behind b is js ls s r =
      record {
        written_lines = written b s.word s.words ∷ r.written_lines;
        are_written = (s.is_written, r.are_written);
        text = r.text ∙ ap (λ x. x ++ lines_bytes r.written_lines) s.text ∙ append_assoc (total is) (line_bytes (written b s.word s.words)) (lines_bytes r.written_lines);
        are_whole = r.are_whole;
        there = λ p n ks same.
            let q = s.there n ks same in
            let rest = r.there (line_end (line_span n (written b s.word s.words))) (n + 1) q.1 q.4 in
            (rest.0, Goes.reads q.0 refl q.2 q.3 rest.1, rest.2);
      }

  -- a line leaves each item before the last one whole
  others_whole : (b : Bool) (is js : List Item) (span : Span) (ps : List Part) → Says is span ps → span.indented ≡ b → with_parts b is ps ≡ Some js → OthersWhole is → OthersWhole js
  others_whole true [] js span ps w h e k = absurd (cc)
  others_whole true (i ∷ is) js span ps w h e k = by (with_line i ps) e
    where
      by : (o : Option Item) → added o is ≡ Some js → OthersWhole js
      by None e = absurd (cc)
      by (Some j) e = let same : j ∷ is ≡ js = cc in subst OthersWhole same k
  others_whole false is js span ps w h e k = by (wants_body is) refl (subst (λ x. IsWhole quil (line_shape x is) (span_tokens (line_context x is) span) (parts_events ps)) h w) (item_of ps) e
    where
      by : (b : Bool) → wants_body is ≡ b → IsWhole quil (if b then nowhere else top_level) (span_tokens no_context span) (parts_events ps) → (o : Option Item) → added o is ≡ Some js → OthersWhole js
      by true h w o e = absurd (not_nowhere (span_tokens no_context span) (parts_events ps) w)
      by false h w None e = absurd (cc)
      by false h w (Some i) e = let same : i ∷ is ≡ js = cc in subst OthersWhole same (all_whole is h k)

  pub rebuilt : {p : Place} {is : List Item} {spans : List Span} {r : Result (List Item) ReadFault} → Goes p is spans r → (js : List Item) → r ≡ Ok js → AllByRecursion (λ s. AreTokens s.lexemes) spans → OthersWhole is → Rebuilt is js
  rebuilt (Goes.ends {is = is} h) js e t w = let same : is ≡ js = cc in rebuilt_here is js h w same
  rebuilt (Goes.lacks_body h) js e t w = absurd (cc)
  rebuilt (Goes.skips h g) js e t w = rebuilt g js e t.1 w
  rebuilt (Goes.refuses h f) js e t w = absurd (cc)
  rebuilt (Goes.reads {is = is} {js = ks} {s = s} ps n w h g) js e t k =
      rebuilt_behind s.indented is ks js (step s t.0 n ps s.indented is ks refl w h) (rebuilt g js e t.1 (others_whole s.indented is ks s ps w refl h k))
