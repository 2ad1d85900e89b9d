-- Each text is a program, or has a fault.
use Rattle.std.proofs.Common.{◌≡◌, ◌≢◌, ℕ, ◌≤◌, ◌⊎◌, inl, inr, Bool, true, false, nat_lt, List, [], ◌∷◌, ◌++◌, reverse, length, Some, Result, Ok, Err, refl, sym, ap, subst, if◌then◌else◌}
use Rattle.std.specs.List.{AllByRecursion}
use Rattle.std.proofs.lemmas.Bool.{ltb-true, ltb-false}
use Rattle.std.proofs.lemmas.List.{reverse-reverse}
use Rattle.quil_lex.specs.Reading.{Span, IsReading}
use Rattle.quil_lex.specs.Written.{AreTokens}
use Rattle.quil_lex.proofs.ReadTokens.{reading_tokens}
use Rattle.quil_lex.proofs.Total.{each_text}
use Rattle.quil_shape.specs.Shape.{Shape}
use Rattle.quil_shape.specs.Outcome.{Outcome, verdict_of}
use Rattle.quil_shape.specs.Outcome.Outcome.{Made, Stuck, Large}
use Rattle.quil_shape.specs.Reads.{Reads}
use Rattle.quil_shape.specs.Condition.{is_decided_by_one_token}
use Rattle.quil_shape.specs.Verdict.{Verdict, IsVerdict, IsTooLargeAt}
use Rattle.quil_shape.specs.Verdict.Verdict.{Read, Refused, TooLarge}
use Rattle.quil_shape.proofs.Verdicts.{some_outcome, verdict_only}
use Rattle.quil_tree.specs.declared.place.Place.{Place}
use Rattle.quil_tree.specs.declared.item.Form.{Form}
use Rattle.quil_tree.specs.declared.item.Form.TheVariants as form
use Rattle.quil_tree.specs.declared.item.GateDefinition.{GateDefinition}
use Rattle.quil_tree.specs.declared.item.Item.{Item}
use Rattle.quil_tree.specs.declared.item.Item.TheVariants as item
use Rattle.quil_grammar.specs.declared.class.Class.{Class}
use Rattle.quil_grammar.specs.declared.fault.ReadFault.{ReadFault}
use Rattle.quil_grammar.specs.declared.fault.ReadFault.TheVariants as fault
use Rattle.quil_grammar.specs.declared.sort.Sort.TheVariants as sort
use Rattle.quil_grammar.specs.Sort.{is_sort}
use Rattle.quil_grammar.specs.Token.{Token, Context, no_context, line_tokens, span_tokens, span_end}
use Rattle.quil_grammar.specs.Grammar.{quil, Name, Event}
use Rattle.quil_grammar.specs.Tables.{tables}
use Rattle.quil_grammar.specs.Answer.{bad_or_unexpected}
use Rattle.quil_grammar.specs.declared.parse.TheConstants.{MOST_BYTES}
use Rattle.quil_grammar.specs.Parts.{Part, parts_events}
use Rattle.quil_grammar.specs.Statements.{top_level, statement, matrix_row, permutation_row, nowhere, nothing}
use Rattle.quil_grammar.proofs.Decided.{decided_top, decided_statement, decided_row, decided_numbers, decided_nowhere, decided_nothing}
use Rattle.quil_parse.specs.Program.{Goes, IsTreeOf, IsFaultOf, wants_body, row_shape, line_shape, line_context, body_context, with_row, with_parts, with_statement, added, line_fault, too_large, is_left_out, is_empty, line_end, beginning}
use Rattle.quil_parse.proofs.Lines.{line_decided}
use Rattle.quil_parse.proofs.Programs.{refused}
use Rattle.quil_round_trip.proofs.Places.{reads_whole}
use Rattle.quil_round_trip.proofs.Reread.{Sense}
use Rattle.quil_round_trip.proofs.Again.{LineFits, IsReread, line_fits}
use Rattle.quil_round_trip.proofs.Ends.{read_end, read_tokens, not_nowhere, not_nothing}
use Rattle.quil_round_trip.proofs.Items.{items}
use Rattle.quil_round_trip.proofs.Lines.{lines}
use Rattle.quil_round_trip.proofs.Rows.{rows, number_rows, row_again, numbers_again}
use Rattle.quil_round_trip.proofs.Declarations.{declaration_again}
use Rattle.quil_round_trip.proofs.Headers.{gate_header_again, circuit_header_again}
use Rattle.quil_round_trip.proofs.Statements.{statement_again}
use Rattle.quil_round_trip.proofs.Top.{top_again}
use Rattle.quil_round_trip.proofs.Programs.{some_lexemes}

-- ---- a line that was read is parts, and something stands behind it

record Adds (b : Bool) (is : List Item) (os : List Event) : Type 0 where
  parts : List Part
  makes : os ≡ parts_events parts
  items : List Item
  is_sum : with_parts b is parts ≡ Some items

module _ (span : Span) (tokens : AreTokens span.lexemes) (not_empty : is_empty span ≡ false) where
  -- a line that isn't empty, read as a shape whose readings are known
  meant : {A : Type 0} (sense : Sense A) (c : Context) (s : Shape Class Event Name) → is_decided_by_one_token quil tables s ≡ true
      → ((ts : List Token) (os : List Event) → LineFits c ts → Reads quil tables s ts (Made os []) → IsReread sense c s os) → (os : List Event) → Reads quil tables s (span_tokens c span) (Made os []) → IsReread sense c s os
  meant sense c s d again os r =
      let w = reads_whole s d (span_tokens c span) os r in
      let some = some_lexemes span not_empty (read_end s d c span os w) in
      let here : Reads quil tables s (line_tokens c span.lexemes) (Made os []) = subst (λ ts. Reads quil tables s ts (Made os [])) (read_tokens s d c span os w) r in
      again (line_tokens c (some.first ∷ some.others)) os (line_fits c some.first some.others (subst (λ ls. AreTokens ls) some.all tokens)) (subst (λ ls. Reads quil tables s (line_tokens c ls) (Made os [])) some.all here)

  top_adds : (is : List Item) (os : List Event) → Reads quil tables (line_shape false is) (span_tokens no_context span) (Made os []) → Adds false is os
  top_adds is os r = by (wants_body is) r
    where
      by : (b : Bool) → Reads quil tables (if b then nowhere else top_level) (span_tokens no_context span) (Made os []) → Adds false is os
      by true r = absurd (not_nowhere (span_tokens no_context span) os (reads_whole nowhere decided_nowhere (span_tokens no_context span) os r))
      by false r =
          let m = meant items no_context top_level decided_top (top_again declaration_again gate_header_again circuit_header_again) os r in
          record { parts = m.parts; makes = m.makes; items = m.thing ∷ is; is_sum = ap (λ o. added o is) m.means }

  -- a row, in the body of a gate
  row_adds : (d : GateDefinition) (is : List Item) (os : List Event) → Reads quil tables (row_shape d.form) (span_tokens (body_context (item.DefGate d ∷ is)) span) (Made os []) → Adds true (item.DefGate d ∷ is) os
  row_adds d is os r = by d.form r
    where
      by : (f : Form) → Reads quil tables (row_shape f) (span_tokens (body_context (item.DefGate d ∷ is)) span) (Made os []) → Adds true (item.DefGate d ∷ is) os
      by (form.Matrix rs) r =
          let c = body_context (item.DefGate d ∷ is) in
          let m = meant rows c matrix_row decided_row (row_again c refl) os r in
          record { parts = m.parts; makes = m.makes; items = item.DefGate (record d { form = with_row d.form m.parts }) ∷ is; is_sum = refl }
      by (form.Permutation []) r =
          let c = body_context (item.DefGate d ∷ is) in
          let m = meant number_rows c permutation_row decided_numbers (numbers_again c refl) os r in
          record { parts = m.parts; makes = m.makes; items = item.DefGate (record d { form = with_row d.form m.parts }) ∷ is; is_sum = refl }
      by (form.Permutation (x ∷ xs)) r =
          let c = body_context (item.DefGate d ∷ is) in
          absurd (not_nothing (span_tokens c span) os (reads_whole nothing decided_nothing (span_tokens c span) os r))

  -- nothing is read where nothing may stand
  no_line : {A : Type 0} (c : Context) (os : List Event) → Reads quil tables nowhere (span_tokens c span) (Made os []) → A
  no_line c os r = absurd (not_nowhere (span_tokens c span) os (reads_whole nowhere decided_nowhere (span_tokens c span) os r))

  line_adds : (b : Bool) (is : List Item) (os : List Event) → Reads quil tables (line_shape b is) (span_tokens (line_context b is) span) (Made os []) → Adds b is os
  line_adds false is os r = top_adds is os r
  line_adds true [] os r = no_line no_context os r
  line_adds true (item.Declare d ∷ is) os r = no_line no_context os r
  line_adds true (item.Plain d ∷ is) os r = no_line no_context os r
  line_adds true (item.DefGate d ∷ is) os r = row_adds d is os r
  line_adds true (item.DefCircuit d ∷ is) os r =
      let c = body_context (item.DefCircuit d ∷ is) in
      let m = meant lines c statement decided_statement (statement_again c) os r in
      record { parts = m.parts; makes = m.makes; items = item.DefCircuit (record d { body = d.body ++ m.thing ∷ [] }) ∷ is; is_sum = ap (λ o. added (with_statement d o) is) m.means }

-- ---- a line that wasn't read has a fault

record IsFaulty (p : Place) (v : Verdict Event Token) : Type 0 where
  told : ReadFault
  not_memory : told ≢ fault.OutOfMemory
  is_fault : line_fault p v ≡ Some told

bad_or_not : (b : Bool) (p : Place) → bad_or_unexpected b p ≢ fault.OutOfMemory
bad_or_not true p = λ e. absurd (cc)
bad_or_not false p = λ e. absurd (cc)

refused_faulty : (p : Place) (ts : List Token) → IsFaulty p (Refused ts)
refused_faulty p [] = record { told = fault.Unexpected p.line p.column; not_memory = λ e. absurd (cc); is_fault = refl }
refused_faulty p (t ∷ ts) = record { told = bad_or_unexpected (is_sort t.sort sort.Bad) t.place; not_memory = bad_or_not (is_sort t.sort sort.Bad) t.place; is_fault = refl }

large_faulty : (p : Place) (t : Token) (ts : List Token) → IsFaulty p (TooLarge (t ∷ ts))
large_faulty p t ts = record { told = too_large t; not_memory = by (is_left_out t.sort); is_fault = refl }
  where
    by : (b : Bool) → (if b then fault.LeftOut t.place.line t.text else fault.NumberTooWide t.place.line t.place.column) ≢ fault.OutOfMemory
    by true = λ e. absurd (cc)
    by false = λ e. absurd (cc)

nothing_large : (s : Shape Class Event Name) (ts : List Token) → IsTooLargeAt quil s ts [] → ⊥
nothing_large s ts h = let e = h.is_large.is_first in absurd (cc)

-- ---- all lines

-- reading comes to this, and it isn't want of memory
abbrev IsTold : Result (List Item) ReadFault → Type 0
IsTold (Ok is) = Unit {0}
IsTold (Err f) = f ≢ fault.OutOfMemory

record Comes (p : Place) (is : List Item) (ss : List Span) : Type 0 where
  result : Result (List Item) ReadFault
  goes : Goes p is ss result
  is_told : IsTold result

ends_so : (p : Place) (is : List Item) → Comes p is []
ends_so p is = by (wants_body is) refl
  where
    by : (b : Bool) → wants_body is ≡ b → Comes p is []
    by false e = record { result = Ok is; goes = Goes.ends e; is_told = tt }
    by true e = record { result = Err (fault.Unexpected p.line p.column); goes = Goes.lacks_body e; is_told = λ x. absurd (cc) }

refuses_so : (p : Place) (is : List Item) (s : Span) (ss : List Span) (v : Verdict Event Token) → is_empty s ≡ false → IsVerdict quil (line_shape s.indented is) (span_tokens (line_context s.indented is) s) v → IsFaulty (span_end s) v → Comes p is (s ∷ ss)
refuses_so p is s ss v e h f = record { result = Err f.told; goes = Goes.refuses e (record { verdict = v; is_verdict = h; is_fault = f.is_fault }); is_told = f.not_memory }

-- a line that isn't empty, where reading those behind it comes to something
line_comes : (p : Place) (is : List Item) (s : Span) (ss : List Span) → AreTokens s.lexemes → is_empty s ≡ false → ((q : Place) (js : List Item) → Comes q js ss) → Comes p is (s ∷ ss)
line_comes p is s ss tokens e behind =
    let some = some_outcome quil tables (line_shape s.indented is) (line_decided s.indented is) (span_tokens (line_context s.indented is) s) in
    by some.0 some.1
  where
    verdict_so : (out : Outcome Event Token) → Reads quil tables (line_shape s.indented is) (span_tokens (line_context s.indented is) s) out → IsVerdict quil (line_shape s.indented is) (span_tokens (line_context s.indented is) s) (verdict_of out)
    verdict_so out r = let only = verdict_only quil tables (line_shape s.indented is) (line_decided s.indented is) (span_tokens (line_context s.indented is) s) out r in only.is_true

    read_so : (os : List Event) → Reads quil tables (line_shape s.indented is) (span_tokens (line_context s.indented is) s) (Made os []) → Comes p is (s ∷ ss)
    read_so os r =
        let a = line_adds s tokens e s.indented is os r in
        let rest = behind (line_end s) a.items in
        record { result = rest.result; goes = Goes.reads a.parts e (subst (λ xs. IsVerdict quil (line_shape s.indented is) (span_tokens (line_context s.indented is) s) (Read xs)) a.makes (verdict_so (Made os []) r)) a.is_sum rest.goes; is_told = rest.is_told }

    by : (out : Outcome Event Token) → Reads quil tables (line_shape s.indented is) (span_tokens (line_context s.indented is) s) out → Comes p is (s ∷ ss)
    by (Made os []) r = read_so os r
    by (Made os (t ∷ us)) r = refuses_so p is s ss (Refused (t ∷ us)) e (verdict_so (Made os (t ∷ us)) r) (refused_faulty (span_end s) (t ∷ us))
    by (Stuck us) r = refuses_so p is s ss (Refused us) e (verdict_so (Stuck us) r) (refused_faulty (span_end s) us)
    by (Large []) r = absurd (nothing_large (line_shape s.indented is) (span_tokens (line_context s.indented is) s) (verdict_so (Large []) r))
    by (Large (t ∷ us)) r = refuses_so p is s ss (TooLarge (t ∷ us)) e (verdict_so (Large (t ∷ us)) r) (large_faulty (span_end s) t us)

-- any line, where reading those behind it comes to something
first_comes : (p : Place) (is : List Item) (s : Span) (ss : List Span) → AreTokens s.lexemes → ((q : Place) (js : List Item) → Comes q js ss) → Comes p is (s ∷ ss)
first_comes p is s ss tokens behind = by (is_empty s) refl
  where
    by : (b : Bool) → is_empty s ≡ b → Comes p is (s ∷ ss)
    by true e = let rest = behind p is in record { result = rest.result; goes = Goes.skips e rest.goes; is_told = rest.is_told }
    by false e = line_comes p is s ss tokens e behind

comes : (p : Place) (is : List Item) (ss : List Span) → AllByRecursion (λ s. AreTokens s.lexemes) ss → Comes p is ss
comes p is [] t = ends_so p is
comes p is (s ∷ ss) t = first_comes p is s ss t.0 (λ q js. comes q js ss t.1)

abbrev HasTreeOrFault : List ℕ → Type 0
HasTreeOrFault text = ((tree : List Item) × IsTreeOf text tree) ⊎ ((f : ReadFault) × (f ≢ fault.OutOfMemory) × IsFaultOf text f)

answers : (text : List ℕ) (spans : List Span) (r : Result (List Item) ReadFault) → length text ≤ MOST_BYTES → IsReading text spans → Goes beginning [] spans r → IsTold r → HasTreeOrFault text
answers text spans (Ok is) short reading g t = inl (reverse is, record { is_short = short; spans = spans; is_reading = reading; goes = subst (λ xs. Goes beginning [] spans (Ok xs)) (sym (reverse-reverse is)) g })
answers text spans (Err f) short reading g t = inr (f, t, refused text (Err f) (inr (record { is_short = short; spans = spans; is_reading = reading; goes = g })))

pub tree_or_fault : (text : List ℕ) → ((tree : List Item) × IsTreeOf text tree) ⊎ ((f : ReadFault) × (f ≢ fault.OutOfMemory) × IsFaultOf text f)
tree_or_fault text = by (nat_lt MOST_BYTES (length text)) refl
  where
    by : (b : Bool) → nat_lt MOST_BYTES (length text) ≡ b → HasTreeOrFault text
    by true e = inr (fault.TextTooLong (length text), λ x. absurd (cc), (ltb-true MOST_BYTES (length text) e, refl))
    by false e =
        let reading = each_text text in
        let c = comes beginning [] reading.0 (reading_tokens text reading.0 reading.1) in
        answers text reading.0 c.result (ltb-false MOST_BYTES (length text) e) reading.1 c.goes c.is_told
