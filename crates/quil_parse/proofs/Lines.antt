-- What is told of a line, by what was read of it.
use Rattle.std.proofs.Common.{◌≡◌, ℕ, ◌<◌, Bool, true, false, List, [], ◌∷◌, ◌++◌, inl, inr, length, refl, sym, ◌∙◌, ap, subst, arith}
use Rattle.std.specs.Prelude.{Option, Some, None, Result, Ok, Err, IfOk, IfErr, OnOk, reverse, if◌then◌else◌}
use Rattle.std.specs.Result.{IsErrAnd}
use Rattle.std.proofs.lemmas.Result.{on_ok_weaker}
use Rattle.quil_shape.specs.Shape.{Shape}
use Rattle.quil_shape.specs.Condition.{is_decided_by_one_token}
use Rattle.quil_shape.specs.Reads.{Advances, Halts, Exceeds, barred, one_large}
use Rattle.quil_shape.specs.Outcome.Outcome.{Made, Stuck, Large}
use Rattle.quil_shape.specs.Verdict.{IsVerdict, IsOnlyVerdict, IsReading as IsWhole}
use Rattle.quil_shape.specs.Verdict.Verdict.{Read, Refused, TooLarge}
use Rattle.quil_shape.proofs.Verdicts.{verdict_only}
use Rattle.quil_tree.specs.declared.place.Place.{Place}
use Rattle.quil_tree.specs.declared.statement.Formula.{Formula}
use Rattle.quil_tree.specs.declared.statement.Line.{Line}
use Rattle.quil_tree.specs.declared.item.Form.{Form}
use Rattle.quil_tree.specs.declared.item.Form.TheVariants as form
use Rattle.quil_tree.specs.declared.item.GateDefinition.{GateDefinition}
use Rattle.quil_tree.specs.declared.item.CircuitDefinition.{CircuitDefinition}
use Rattle.quil_tree.specs.declared.item.Item.{Item}
use Rattle.quil_tree.specs.declared.item.Item.TheVariants as item
use Rattle.quil_grammar.specs.declared.class.Class.{Class}
use Rattle.quil_grammar.specs.declared.fault.ReadFault.{ReadFault}
use Rattle.quil_grammar.specs.declared.sort.Sort.TheVariants as sort
use Rattle.quil_grammar.specs.declared.stop.Stop.{Stop}
use Rattle.quil_grammar.specs.declared.stop.Stop.TheVariants as stop
use Rattle.quil_grammar.specs.Sort.{is_sort}
use Rattle.quil_grammar.specs.Token.{Token}
use Rattle.quil_grammar.specs.Grammar.{quil, Name, Event}
use Rattle.quil_grammar.specs.Tables.{tables}
use Rattle.quil_grammar.specs.Frames.{StopsFor}
use Rattle.quil_grammar.specs.Parts.{parts_events}
use Rattle.quil_grammar.specs.Statements.{top_level, statement, matrix_row, permutation_row, nowhere, nothing}
use Rattle.quil_grammar.proofs.Decided.{decided_top, decided_statement, decided_row, decided_numbers, decided_nowhere, decided_nothing}
use Rattle.quil_statement.specs.Says.{SaysItem, SaysLine, SaysRow, SaysNumbers}
use Rattle.quil_parse.specs.Program.{wants_body, row_shape, body_shape, line_shape, with_statement, added, line_fault}
use Rattle.quil_parse.specs.Steps.{IsAdded, IsRowAdded, IsBodyAdded, IsStopped, OrNoMemory, IsFaultAt, IsFaultBehind, last_first}

-- one token decides what stands in a line
row_decided : (f : Form) → is_decided_by_one_token quil tables (row_shape f) ≡ true
row_decided (form.Matrix rows) = decided_row
row_decided (form.Permutation []) = decided_numbers
row_decided (form.Permutation (x ∷ xs)) = decided_nothing

body_decided : (is : List Item) → is_decided_by_one_token quil tables (body_shape is) ≡ true
body_decided [] = decided_nowhere
body_decided (item.Declare d ∷ is) = decided_nowhere
body_decided (item.DefGate d ∷ is) = row_decided d.form
body_decided (item.DefCircuit d ∷ is) = decided_statement
body_decided (item.Plain l ∷ is) = decided_nowhere

either_decided : (b : Bool) → is_decided_by_one_token quil tables (if b then nowhere else top_level) ≡ true
either_decided true = decided_nowhere
either_decided false = decided_top

pub line_decided : (b : Bool) (is : List Item) → is_decided_by_one_token quil tables (line_shape b is) ≡ true
line_decided true is = body_decided is
line_decided false is = either_decided (wants_body is)

-- where nothing may stand
pub nowhere_none : StopsFor stop.Unexpected nowhere [] []
unfolding quil tables
nowhere_none = barred refl

pub nowhere_left_out : (t : Token) (ts : List Token) → is_sort t.sort sort.LeftOut ≡ true → StopsFor stop.TooLarge nowhere (t ∷ ts) (t ∷ ts)
unfolding quil tables
nowhere_left_out t ts e = one_large e refl

pub nowhere_other : (t : Token) (ts : List Token) → is_sort t.sort sort.LeftOut ≡ false → StopsFor stop.Unexpected nowhere (t ∷ ts) (t ∷ ts)
unfolding quil tables
nowhere_other t ts e = barred (rw e refl)

nothing_stands : (ts : List Token) → Halts quil tables nothing ts ts
unfolding quil tables
nothing_stands [] = barred refl
nothing_stands (t ∷ ts) = barred refl

-- what is told of tokens, by how reading the shape from them ended
module _ (s : Shape Class Event Name) (decided : is_decided_by_one_token quil tables s ≡ true) (ts : List Token) where
  whole_read : (us : List Token) (os : List Event) → Advances quil tables s ts us os → us ≡ [] → IsWhole quil s ts os
  whole_read us os r e =
      let only : IsOnlyVerdict quil s ts (Read os) = verdict_only quil tables s decided ts (Made os []) (subst (λ xs. Advances quil tables s ts xs os) e r) in
      only.is_true

  left_over : (us : List Token) (os : List Event) → Advances quil tables s ts us os → 0 < length us → IsVerdict quil s ts (Refused us)
  left_over [] os r h = absurd (omega arith)
  left_over (t ∷ us) os r h =
      let only : IsOnlyVerdict quil s ts (Refused (t ∷ us)) = verdict_only quil tables s decided ts (Made os (t ∷ us)) r in
      only.is_true

  large_stands : (us : List Token) → Exceeds quil tables s ts us → 0 < length us
  large_stands us h =
      let only : IsOnlyVerdict quil s ts (TooLarge us) = verdict_only quil tables s decided ts (Large us) h in
      let first = only.is_true.is_large.is_first in
      rw first (omega arith)

  pub stopped : (us : List Token) (end : Place) (e : Stop) (f : ReadFault) → StopsFor e s ts us → IsFaultAt end e us f → OrNoMemory f (IsStopped s ts end f)
  stopped us end stop.OutOfMemory f h k = inl k
  stopped us end stop.Unexpected f h k =
      let only : IsOnlyVerdict quil s ts (Refused us) = verdict_only quil tables s decided ts (Stuck us) h in
      inr (record { verdict = Refused us; is_verdict = only.is_true; is_fault = k })
  stopped us end stop.TooLarge f h k =
      let only : IsOnlyVerdict quil s ts (TooLarge us) = verdict_only quil tables s decided ts (Large us) h in
      elim (k (large_stands us h)) [
        | inl e ↦ inl e
        | inr e ↦ inr (record { verdict = TooLarge us; is_verdict = only.is_true; is_fault = e })
      ]

  pub behind : {A : Type 0} (P : A → Type 0) (us : List Token) (end : Place) (found : Result A Stop) (f : ReadFault)
      → ((x : A) → P x → (os : List Event) × Advances quil tables s ts us os)
      → IfOk found P → IfErr found (λ e. StopsFor e s ts us) → IsFaultBehind end found us f → OrNoMemory f (IsStopped s ts end f)
  behind P us end (Ok x) f reads h k b =
      let r = reads x h in
      inr (record { verdict = Refused us; is_verdict = left_over us r.0 r.1 b.0; is_fault = b.1 })
  behind P us end (Err e) f reads h k b = stopped us end e f k b

-- where nothing but a word that is left out is told
pub misplaced_at : (is : List Item) (b : Bool) (ts : List Token) (end : Place) (e : Stop) (f : ReadFault) → line_shape b is ≡ nowhere → StopsFor e nowhere ts ts → IsFaultAt end e ts f → OrNoMemory f (IsStopped (line_shape b is) ts end f)
misplaced_at is b ts end e f same h k = subst (λ s. OrNoMemory f (IsStopped s ts end f)) (sym same) (stopped nowhere decided_nowhere ts ts end e f h k)

-- an error that is handed on
pub from_err : {A : Type 0} (r : Result A ReadFault) (P : ReadFault → Type 0) (e : ReadFault) → IsErrAnd r (λ x. x ≡ e) → P e → IfErr r P
from_err (Ok x) P e h p = tt
from_err (Err f) P e h p = subst P (sym h) p

-- a line of the top level
begins_item : (is : List Item) → wants_body is ≡ false → line_shape false is ≡ top_level
begins_item is e = ap (λ b. if b then nowhere else top_level) e

pub lacks_line : (is : List Item) → wants_body is ≡ true → line_shape false is ≡ nowhere
lacks_line is e = ap (λ b. if b then nowhere else top_level) e

pub item_added : (is js : List Item) (ts us : List Token) (i : Item) → wants_body is ≡ false → SaysItem top_level ts us i → us ≡ [] → js ≡ i ∷ is → IsAdded false is ts js
item_added is js ts us i e h none same = record {
  parts = h.parts;
  is_whole = subst (λ s. IsWhole quil s ts (parts_events h.parts)) (sym (begins_item is e)) (whole_read top_level decided_top ts us (parts_events h.parts) h.reads none);
  is_sum = ap (λ o. added o is) h.means ∙ ap (λ x. Some x) (sym same);
}

pub item_refused : (is : List Item) (ts us : List Token) (end : Place) (found : Result Item Stop) (f : ReadFault) → wants_body is ≡ false
    → IfOk found (λ i. SaysItem top_level ts us i) → IfErr found (λ e. StopsFor e top_level ts us) → IsFaultBehind end found us f → OrNoMemory f (IsStopped (line_shape false is) ts end f)
item_refused is ts us end found f e h k b =
    subst (λ s. OrNoMemory f (IsStopped s ts end f)) (sym (begins_item is e))
    (behind top_level decided_top ts (λ i. SaysItem top_level ts us i) us end found f (λ i x. (parts_events x.parts, x.reads)) h k b)

-- a line of a circuit's body
pub statement_added : (d : CircuitDefinition) (new : List Line) (ts us : List Token) (l : Line) → SaysLine statement ts us l → us ≡ [] → new ≡ d.body ++ l ∷ [] → IsBodyAdded (item.DefCircuit d) ts (item.DefCircuit (record d { body = new }))
statement_added d new ts us l h none same = record {
  parts = h.parts;
  is_whole = whole_read statement decided_statement ts us (parts_events h.parts) h.reads none;
  is_sum = ap (with_statement d) h.means ∙ ap (λ ls. Some (item.DefCircuit (record d { body = ls }))) (sym same);
}

pub statement_refused : (ts us : List Token) (end : Place) (found : Result Line Stop) (f : ReadFault)
    → IfOk found (λ l. SaysLine statement ts us l) → IfErr found (λ e. StopsFor e statement ts us) → IsFaultBehind end found us f → OrNoMemory f (IsStopped statement ts end f)
statement_refused ts us end found f h k b = behind statement decided_statement ts (λ l. SaysLine statement ts us l) us end found f (λ l x. (parts_events x.parts, x.reads)) h k b

-- a row of a gate's body
pub row_added : (rows new : List (List Formula)) (ts us : List Token) (row : List Formula) → SaysRow ts us row → us ≡ [] → new ≡ rows ++ row ∷ [] → IsRowAdded (form.Matrix rows) ts (form.Matrix new)
row_added rows new ts us row h none same = record {
  parts = h.parts;
  is_whole = whole_read matrix_row decided_row ts us (parts_events h.parts) h.reads none;
  is_sum = ap (λ r. form.Matrix (rows ++ r ∷ [])) h.means ∙ ap (λ rs. form.Matrix rs) (sym same);
}

pub row_refused : (rows : List (List Formula)) (ts us : List Token) (end : Place) (found : Result (List Formula) Stop) (f : ReadFault)
    → IfOk found (λ row. SaysRow ts us row) → IfErr found (λ e. StopsFor e matrix_row ts us) → IsFaultBehind end found us f → OrNoMemory f (IsStopped (row_shape (form.Matrix rows)) ts end f)
row_refused rows ts us end found f h k b = behind matrix_row decided_row ts (λ row. SaysRow ts us row) us end found f (λ row x. (parts_events x.parts, x.reads)) h k b

pub numbers_added : (xs row : List (List ℕ)) (ts us : List Token) → xs ≡ [] → SaysNumbers ts us row → us ≡ [] → IsRowAdded (form.Permutation xs) ts (form.Permutation row)
numbers_added [] row ts us e h none = record {
  parts = h.parts;
  is_whole = whole_read permutation_row decided_numbers ts us (parts_events h.parts) h.reads none;
  is_sum = ap (λ r. form.Permutation r) h.means;
}
numbers_added (x ∷ xs) row ts us e h none = absurd (cc)

pub numbers_refused : (xs : List (List ℕ)) (ts us : List Token) (end : Place) (found : Result (List (List ℕ)) Stop) (f : ReadFault) → xs ≡ []
    → IfOk found (λ row. SaysNumbers ts us row) → IfErr found (λ e. StopsFor e permutation_row ts us) → IsFaultBehind end found us f → OrNoMemory f (IsStopped (row_shape (form.Permutation xs)) ts end f)
numbers_refused [] ts us end found f e h k b = behind permutation_row decided_numbers ts (λ row. SaysNumbers ts us row) us end found f (λ row x. (parts_events x.parts, x.reads)) h k b
numbers_refused (x ∷ xs) ts us end found f e h k b = absurd (cc)

pub second_row : (xs : List (List ℕ)) (ts : List Token) (end : Place) (f : ReadFault) → 0 < length xs → line_fault end (Refused ts) ≡ Some f → OrNoMemory f (IsStopped (row_shape (form.Permutation xs)) ts end f)
second_row [] ts end f h k = absurd (omega arith)
second_row (x ∷ xs) ts end f h k = stopped nothing decided_nothing ts ts end stop.Unexpected f (nothing_stands ts) k

-- a line of a gate's body, and of an item's
pub gate_added : (d : GateDefinition) (new : Form) (ts : List Token) → IsRowAdded d.form ts new → IsBodyAdded (item.DefGate d) ts (item.DefGate (record d { form = new }))
gate_added d new ts h = record { parts = h.parts; is_whole = h.is_whole; is_sum = ap (λ f. Some (item.DefGate (record d { form = f }))) h.is_sum }

alone_shape : (i : Item) (is : List Item) → body_shape (i ∷ []) ≡ body_shape (i ∷ is)
alone_shape (item.Declare d) is = refl
alone_shape (item.DefGate d) is = refl
alone_shape (item.DefCircuit d) is = refl
alone_shape (item.Plain l) is = refl

pub body_added : (i new : Item) (is js : List Item) (ts : List Token) → js ≡ new ∷ is → IsBodyAdded i ts new → IsAdded true (i ∷ is) ts js
body_added i new is js ts same h = record {
  parts = h.parts;
  is_whole = subst (λ s. IsWhole quil s ts (parts_events h.parts)) (alone_shape i is) h.is_whole;
  is_sum = ap (λ o. added o is) h.is_sum ∙ ap (λ x. Some x) (sym same);
}

pub body_refused : (i : Item) (is : List Item) (ts : List Token) (end : Place) (f : ReadFault) → OrNoMemory f (IsStopped (body_shape (i ∷ [])) ts end f) → OrNoMemory f (IsStopped (body_shape (i ∷ is)) ts end f)
body_refused i is ts end f h = subst (λ s. OrNoMemory f (IsStopped s ts end f)) (alone_shape i is) h

pub no_body : (i : Item) → ((d : GateDefinition) → i ≡ item.DefGate d → ⊥) → ((d : CircuitDefinition) → i ≡ item.DefCircuit d → ⊥) → line_shape true (i ∷ []) ≡ nowhere
no_body (item.Declare d) g c = refl
no_body (item.DefGate d) g c = absurd (g d refl)
no_body (item.DefCircuit d) g c = absurd (c d refl)
no_body (item.Plain l) g c = refl

-- the last of the items so far takes a line
pub body_ok : {A E : Type 0} (r : Result A E) (i new : Item) (last : Option Item) (before : List Item) (ts : List Token) → last ≡ Some i → OnOk r (IsBodyAdded i ts new) → OnOk r (IsAdded true (last_first last before) ts (new ∷ reverse before))
body_ok r i new last before ts same h = on_ok_weaker r (λ x. subst (λ l. IsAdded true (last_first l before) ts (new ∷ reverse before)) (sym same) (body_added i new (reverse before) (new ∷ reverse before) ts refl x)) h

pub body_err : {A : Type 0} (r : Result A ReadFault) (i : Item) (last : Option Item) (before : List Item) (ts : List Token) (end : Place) → last ≡ Some i
    → IfErr r (λ f. OrNoMemory f (IsStopped (body_shape (i ∷ [])) ts end f)) → IfErr r (λ f. OrNoMemory f (IsStopped (line_shape true (last_first last before)) ts end f))
body_err (Ok x) i last before ts end same h = tt
body_err (Err f) i last before ts end same h = subst (λ l. OrNoMemory f (IsStopped (body_shape (last_first l before)) ts end f)) (sym same) (body_refused i (reverse before) ts end f h)

pub stands_nowhere : (last : Option Item) (before : List Item) → last ≡ None → line_shape true (last_first last before) ≡ nowhere
stands_nowhere last before e = ap (λ l. body_shape (last_first l before)) e

-- the same of a line by what it is known to be
pub line_ok : {A : Type 0} (r : Result A ReadFault) (b d : Bool) (is js : List Item) (ts us : List Token) → b ≡ d → ts ≡ us → OnOk r (IsAdded b is ts js) → OnOk r (IsAdded d is us js)
line_ok r b d is js ts us e f h = subst (λ x. OnOk r (IsAdded x is us js)) e (subst (λ ys. OnOk r (IsAdded b is ys js)) f h)

pub line_err : {A : Type 0} (r : Result A ReadFault) (b d : Bool) (is : List Item) (ts us : List Token) (p q : Place) → b ≡ d → ts ≡ us → p ≡ q
    → IfErr r (λ f. OrNoMemory f (IsStopped (line_shape b is) ts p f)) → IfErr r (λ f. OrNoMemory f (IsStopped (line_shape d is) us q f))
line_err r b d is ts us p q e f g h =
    subst (λ x. IfErr r (λ z. OrNoMemory z (IsStopped (line_shape x is) us q z))) e
    (subst (λ ys. IfErr r (λ z. OrNoMemory z (IsStopped (line_shape b is) ys q z))) f
    (subst (λ x. IfErr r (λ z. OrNoMemory z (IsStopped (line_shape b is) ts x z))) g h))
