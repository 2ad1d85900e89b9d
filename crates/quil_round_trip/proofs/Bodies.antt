-- What is printed of the items of a program while it is read: the text so far, and what of a line doesn't depend on places.
use Rattle.std.proofs.Common.{◌≡◌, ℕ, Bool, true, false, List, [], ◌∷◌, ◌++◌, map, reverse, refl, sym, ◌∙◌, ap, ap₂, append_assoc, append-nil, codes}
use Rattle.std.specs.List.{flat_map}
use Rattle.std.proofs.lemmas.List.{reverse-append}
use Rattle.quil_tree.specs.declared.statement.Name.{Name as Called}
use Rattle.quil_tree.specs.declared.statement.Line.{Line}
use Rattle.quil_tree.specs.declared.item.Form.{Form}
use Rattle.quil_tree.specs.declared.item.Form.TheVariants as form
use Rattle.quil_tree.specs.declared.item.Item.{Item}
use Rattle.quil_tree.specs.declared.item.Item.TheVariants as item
use Rattle.quil_tree.specs.Names.{distinct, texts_of}
use Rattle.quil_tree.specs.Printed.{with_commas, formula_texts, body_line, rows_text, form_text, listed, statement_text, declaration_text, item_text, printed}
use Rattle.quil_round_trip.specs.Unplaced.{bare_name, bare_line, bare_form, bare_item}
use Rattle.quil_parse.specs.Program.{has_no_row, has_no_line, is_begun, wants_body, row_shape, body_shape, line_shape, body_context, line_context}
use Rattle.quil_round_trip.proofs.Items.{gate_header_text, circuit_header_text, header_text}
use Rattle.quil_round_trip.proofs.Fresh.{IsFresh, IsFreshForm}

-- a permutation's row is printed where it is there
abbrev pub rows_so_far : List (List ℕ) → Form → List ℕ
rows_so_far names (form.Matrix rows) = rows_text names (form.Matrix rows)
rows_so_far names (form.Permutation []) = []
rows_so_far names (form.Permutation (x ∷ xs)) = rows_text names (form.Permutation (x ∷ xs))

-- a header, and the lines of its body so far
abbrev pub so_far : Item → List ℕ
so_far (item.Declare d) = declaration_text d ++ codes "\n"
so_far (item.DefGate d) = (gate_header_text d ++ codes "\n") ++ rows_so_far (distinct (texts_of d.parameters)) d.form
so_far (item.DefCircuit d) = (circuit_header_text d ++ codes "\n") ++ flat_map (λ l. body_line (statement_text (distinct (texts_of d.parameters)) l.statement)) d.body
so_far (item.Plain l) = statement_text [] l.statement ++ codes "\n"

-- the last item first
abbrev pub total : List Item → List ℕ
total [] = []
total (i ∷ is) = total is ++ so_far i

-- ---- at the end

line_end_text : (x : List ℕ) → x ++ codes ":\n" ≡ (x ++ codes ":") ++ codes "\n"
line_end_text x = simp append_assoc refl

rows_whole : (names : List (List ℕ)) (f : Form) → has_no_row f ≡ false → rows_so_far names f ≡ rows_text names f
rows_whole names (form.Matrix rows) h = refl
rows_whole names (form.Permutation []) h = absurd (cc)
rows_whole names (form.Permutation (x ∷ xs)) h = refl

item_whole : (i : Item) → is_begun i ≡ false → so_far i ≡ item_text i
item_whole (item.Declare d) h = refl
item_whole (item.Plain l) h = refl
item_whole (item.DefGate d) h =
    ap (λ z. (gate_header_text d ++ codes "\n") ++ z) (rows_whole (distinct (texts_of d.parameters)) d.form h)
    ∙ ap (λ z. z ++ rows_text (distinct (texts_of d.parameters)) d.form) (sym (line_end_text (codes "DEFGATE " ++ d.name.text ++ listed (texts_of d.parameters) ++ form_text d.form)))
item_whole (item.DefCircuit d) h =
    ap (λ z. z ++ flat_map (λ l. body_line (statement_text (distinct (texts_of d.parameters)) l.statement)) d.body)
    (sym (line_end_text (codes "DEFCIRCUIT " ++ d.name.text ++ listed (texts_of d.parameters) ++ flat_map (λ q. codes " " ++ q.text) d.qubits)))

-- each item has a line of its body, if it has one at all
abbrev pub AreWhole : List Item → Type 0
AreWhole [] = Unit {0}
AreWhole (i ∷ is) = (is_begun i ≡ false) × AreWhole is

abbrev pub OthersWhole : List Item → Type 0
OthersWhole [] = Unit {0}
OthersWhole (i ∷ is) = AreWhole is

pub all_whole : (is : List Item) → wants_body is ≡ false → OthersWhole is → AreWhole is
all_whole [] h w = tt
all_whole (i ∷ is) h w = (h, w)

printed_append : (is js : List Item) → printed (is ++ js) ≡ printed is ++ printed js
printed_append [] js = refl
printed_append (i ∷ is) js = ap (λ z. item_text i ++ z) (printed_append is js) ∙ sym (append_assoc (item_text i) (printed is) (printed js))

pub total_printed : (is : List Item) → AreWhole is → total is ≡ printed (reverse is)
total_printed [] w = refl
total_printed (i ∷ is) w =
    ap₂ (λ x y. x ++ y) (total_printed is w.1) (item_whole i w.0 ∙ sym (append-nil (item_text i)))
    ∙ sym (printed_append (reverse is) (i ∷ [])) ∙ ap printed (sym (reverse-append (i ∷ []) is))

-- ---- a new item

fresh_rows : (names : List (List ℕ)) (f : Form) → IsFreshForm f → rows_so_far names f ≡ []
fresh_rows names (form.Matrix rows) h = ap (λ rs. flat_map (λ row. body_line (with_commas (formula_texts names row))) rs) h
fresh_rows names (form.Permutation []) h = refl
fresh_rows names (form.Permutation (x ∷ xs)) h = absurd (cc)

pub fresh_text : (i : Item) → IsFresh i → so_far i ≡ header_text [] i ++ codes "\n"
fresh_text (item.Declare d) h = refl
fresh_text (item.Plain l) h = refl
fresh_text (item.DefGate d) h = ap (λ z. (gate_header_text d ++ codes "\n") ++ z) (fresh_rows (distinct (texts_of d.parameters)) d.form h) ∙ append-nil (gate_header_text d ++ codes "\n")
fresh_text (item.DefCircuit d) h =
    ap (λ z. (circuit_header_text d ++ codes "\n") ++ flat_map (λ l. body_line (statement_text (distinct (texts_of d.parameters)) l.statement)) z) h
    ∙ append-nil (circuit_header_text d ++ codes "\n")

-- ---- what of a line doesn't depend on places

no_row_bare : (f : Form) → has_no_row (bare_form f) ≡ has_no_row f
no_row_bare (form.Matrix []) = refl
no_row_bare (form.Matrix (r ∷ rs)) = refl
no_row_bare (form.Permutation []) = refl
no_row_bare (form.Permutation (x ∷ xs)) = refl

no_line_bare : (ls : List Line) → has_no_line (map bare_line ls) ≡ has_no_line ls
no_line_bare [] = refl
no_line_bare (l ∷ ls) = refl

begun_bare : (i : Item) → is_begun (bare_item i) ≡ is_begun i
begun_bare (item.Declare d) = refl
begun_bare (item.DefGate d) = no_row_bare d.form
begun_bare (item.DefCircuit d) = no_line_bare d.body
begun_bare (item.Plain l) = refl

wants_bare : (is : List Item) → wants_body (map bare_item is) ≡ wants_body is
wants_bare [] = refl
wants_bare (i ∷ is) = begun_bare i

row_bare : (f : Form) → row_shape (bare_form f) ≡ row_shape f
row_bare (form.Matrix rows) = refl
row_bare (form.Permutation []) = refl
row_bare (form.Permutation (x ∷ xs)) = refl

body_bare : (is : List Item) → body_shape (map bare_item is) ≡ body_shape is
body_bare [] = refl
body_bare (item.Declare d ∷ is) = refl
body_bare (item.DefGate d ∷ is) = row_bare d.form
body_bare (item.DefCircuit d ∷ is) = refl
body_bare (item.Plain l ∷ is) = refl

names_bare : (ns : List Called) → texts_of (map bare_name ns) ≡ texts_of ns
names_bare [] = refl
names_bare (n ∷ ns) = ap (λ xs. n.text ∷ xs) (names_bare ns)

context_bare : (is : List Item) → body_context (map bare_item is) ≡ body_context is
context_bare [] = refl
context_bare (item.Declare d ∷ is) = refl
context_bare (item.DefGate d ∷ is) = rw (names_bare d.parameters) refl
context_bare (item.DefCircuit d ∷ is) = rw (names_bare d.parameters, names_bare d.qubits) refl
context_bare (item.Plain l ∷ is) = refl

shape_bare : (b : Bool) (is : List Item) → line_shape b (map bare_item is) ≡ line_shape b is
shape_bare true is = body_bare is
shape_bare false is = rw (wants_bare is) refl

line_context_bare : (b : Bool) (is : List Item) → line_context b (map bare_item is) ≡ line_context b is
line_context_bare true is = context_bare is
line_context_bare false is = refl

module _ (is js : List Item) (same : map bare_item js ≡ map bare_item is) where
  pub same_wants : wants_body js ≡ wants_body is
  same_wants = sym (wants_bare js) ∙ ap wants_body same ∙ wants_bare is

  pub same_shape : (b : Bool) → line_shape b js ≡ line_shape b is
  same_shape b = sym (shape_bare b js) ∙ ap (λ ks. line_shape b ks) same ∙ shape_bare b is

  pub same_context : (b : Bool) → line_context b js ≡ line_context b is
  same_context b = sym (line_context_bare b js) ∙ ap (λ ks. line_context b ks) same ∙ line_context_bare b is
