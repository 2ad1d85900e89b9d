-- The verdict on the tokens of a text, and what is told of it.
use Rattle.std.proofs.Common.{◌≡◌, ◌≢◌, ℕ, ◌<◌, ◌≤◌, Bool, true, false, List, [], ◌∷◌, inl, inr, length, refl, sym, ◌∙◌, ap, subst, arith, eqb-true}
use Rattle.std.specs.Prelude.{Some, Result, Ok, Err, ◌==◌}
use Rattle.std.proofs.lemmas.List.{nil_from_length}
use Rattle.quil_lex.specs.Reading.{Span, IsReading}
use Rattle.quil_shape.specs.Shape.Shape.{Rule}
use Rattle.quil_shape.specs.Condition.{is_decided_by_one_token}
use Rattle.quil_shape.specs.Reads.{Advances, Exceeds}
use Rattle.quil_shape.specs.Outcome.Outcome.{Made, Stuck, Large}
use Rattle.quil_shape.specs.Verdict.{Verdict, IsVerdict, IsOnlyVerdict}
use Rattle.quil_shape.specs.Verdict.Verdict.{Read, Refused, TooLarge}
use Rattle.quil_shape.proofs.Verdicts.{verdict_only}
use Rattle.quil_tree.specs.declared.place.Place.{Place}
use Rattle.quil_tree.specs.declared.expr.Step.{Step}
use Rattle.quil_tree.specs.Expression.{postfix}
use Rattle.quil_grammar.specs.declared.fault.ReadFault.{ReadFault}
use Rattle.quil_grammar.specs.declared.fault.ReadFault.TheVariants as fault
use Rattle.quil_grammar.specs.declared.sort.Sort.TheVariants as sort
use Rattle.quil_grammar.specs.Sort.{is_sort}
use Rattle.quil_grammar.specs.declared.stop.Stop.{Stop}
use Rattle.quil_grammar.specs.declared.stop.Stop.TheVariants as stop
use Rattle.quil_grammar.specs.Token.{Token, tokens_among, end_of}
use Rattle.quil_grammar.specs.Grammar.{quil, Sum, Event}
use Rattle.quil_grammar.specs.Tables.{tables}
use Rattle.quil_grammar.specs.Written.{events, meaning}
use Rattle.quil_grammar.specs.Frames.{IsRead, StopsFor}
use Rattle.quil_grammar.specs.Answer.{IsExpressionOf, IsRefusal, IsFault, Gives, fault_of, bad_or_unexpected}
use Rattle.quil_grammar.specs.declared.parse.TheConstants.{MOST_BYTES}
use Rattle.quil_grammar.specs.Told.{IsFound, IsTold, Tells}
use Rattle.quil_grammar.proofs.Writings.{same_written}

pub decided : (refs : Bool) → is_decided_by_one_token quil tables (Rule (Sum refs)) ≡ true
unfolding quil tables
decided true = refl
decided false = refl

-- a token that is too large stands there
large_stands : (refs : Bool) (ts us : List Token) → Exceeds quil tables (Rule (Sum refs)) ts us → 0 < length us
large_stands refs ts us h =
    let only : IsOnlyVerdict quil (Rule (Sum refs)) ts (TooLarge us) = verdict_only quil tables (Rule (Sum refs)) (decided refs) ts (Large us) h in
    let first = only.is_true.is_large.is_first in
    rw first (omega arith)

pub stop_stands : (refs : Bool) (ts us : List Token) (e : Stop) → StopsFor e (Rule (Sum refs)) ts us → e ≡ stop.TooLarge → 0 < length us
stop_stands refs ts us stop.TooLarge h e = large_stands refs ts us h
stop_stands refs ts us stop.Unexpected h e = absurd (cc)
stop_stands refs ts us stop.OutOfMemory h e = absurd (cc)

module _ (text : List ℕ) (spans : List Span) (ts us : List Token) (same : ts ≡ tokens_among [] spans) where
  found : (steps : List Step) → IsRead true ts us steps → true ≡ (length us == 0) → IsFound text spans steps
  found steps r e =
      let none : us ≡ [] = nil_from_length us (eqb-true (length us) 0 (sym e)) in
      let all : Advances quil tables (Rule (Sum true)) ts [] (events r.written) = subst (λ xs. Advances quil tables (Rule (Sum true)) ts xs (events r.written)) none r.advances in
      record {
        written = r.written;
        only = subst (λ xs. IsOnlyVerdict quil (Rule (Sum true)) xs (Read (events r.written))) same (verdict_only quil tables (Rule (Sum true)) (decided true) ts (Made (events r.written) []) all);
        is_meaning = r.is_meaning;
      }

  left : (vs : List Token) (os : List Event) → Advances quil tables (Rule (Sum true)) ts vs os → false ≡ (length vs == 0) → IsOnlyVerdict quil (Rule (Sum true)) ts (Refused vs)
  left [] os r e = absurd (cc)
  left (t ∷ vs) os r e = verdict_only quil tables (Rule (Sum true)) (decided true) ts (Made os (t ∷ vs)) r

  refused : (f : ReadFault) → fault_of (end_of spans) (Refused us) ≡ Some f → IsOnlyVerdict quil (Rule (Sum true)) ts (Refused us) → IsTold text spans f
  refused f e h = record { verdict = Refused us; only = subst (λ xs. IsOnlyVerdict quil (Rule (Sum true)) xs (Refused us)) same h; is_fault = e }

-- no fault of a verdict is that the text is too long, or that memory ran out
bad_not_long : (b : Bool) (p : Place) (n : ℕ) → bad_or_unexpected b p ≡ fault.TextTooLong n → ⊥
bad_not_long true p n e = absurd (cc)
bad_not_long false p n e = absurd (cc)

pub not_too_long : (p : Place) (v : Verdict Event Token) (n : ℕ) → fault_of p v ≡ Some (fault.TextTooLong n) → ⊥
not_too_long p (Read os) n e = absurd (cc)
not_too_long p (Refused []) n e = absurd (cc)
not_too_long p (Refused (t ∷ ts)) n e = bad_not_long (is_sort t.sort sort.Bad) t.place n (cc)
not_too_long p (TooLarge []) n e = absurd (cc)
not_too_long p (TooLarge (t ∷ ts)) n e = absurd (cc)

-- or that the language leaves something out
bad_not_left : (b : Bool) (p : Place) (n : ℕ) (w : List ℕ) → bad_or_unexpected b p ≡ fault.LeftOut n w → ⊥
bad_not_left true p n w e = absurd (cc)
bad_not_left false p n w e = absurd (cc)

not_left_out : (p : Place) (v : Verdict Event Token) (n : ℕ) (w : List ℕ) → fault_of p v ≡ Some (fault.LeftOut n w) → ⊥
not_left_out p (Read os) n w e = absurd (cc)
not_left_out p (Refused []) n w e = absurd (cc)
not_left_out p (Refused (t ∷ ts)) n w e = bad_not_left (is_sort t.sort sort.Bad) t.place n w (cc)
not_left_out p (TooLarge []) n w e = absurd (cc)
not_left_out p (TooLarge (t ∷ ts)) n w e = absurd (cc)

-- what the reader tells of a text, by how it ended
module _ (text : List ℕ) (spans : List Span) (ts us : List Token) (end : Place) (is_reading : IsReading text spans) (only_reading : (other : List Span) → IsReading text other → spans ≡ other) (same : ts ≡ tokens_among [] spans) (is_end : end ≡ end_of spans) where
  told : (f : ReadFault) → IsTold text spans f → Tells text (Err f)
  told fault.OutOfMemory h = tt
  told (fault.NumberTooWide line column) h = record { spans = spans; is_reading = is_reading; only_reading = only_reading; answers = h }
  told (fault.BadToken line column) h = record { spans = spans; is_reading = is_reading; only_reading = only_reading; answers = h }
  told (fault.Unexpected line column) h = record { spans = spans; is_reading = is_reading; only_reading = only_reading; answers = h }
  told (fault.LeftOut n w) h = absurd (not_left_out (end_of spans) h.verdict n w h.is_fault)
  told (fault.TextTooLong n) h = absurd (not_too_long (end_of spans) h.verdict n h.is_fault)

  pub tells_found : (steps : List Step) → IsRead true ts us steps → true ≡ (length us == 0) → Tells text (Ok steps)
  tells_found steps r e = record { spans = spans; is_reading = is_reading; only_reading = only_reading; answers = found text spans ts us same steps r e }

  pub tells_left : (steps : List Step) (f : ReadFault) → IsRead true ts us steps → false ≡ (length us == 0) → fault_of end (Refused us) ≡ Some f → Tells text (Err f)
  tells_left steps f r e is_fault =
      told f (refused text spans ts us same f (subst (λ p. fault_of p (Refused us) ≡ Some f) is_end is_fault) (left text spans ts us same us (events r.written) r.advances e))

  pub tells_unexpected : (f : ReadFault) (e : Stop) → e ≡ stop.Unexpected → StopsFor e (Rule (Sum true)) ts us → fault_of end (Refused us) ≡ Some f → Tells text (Err f)
  tells_unexpected f stop.OutOfMemory same_stop h is_fault = absurd (cc)
  tells_unexpected f stop.TooLarge same_stop h is_fault = absurd (cc)
  tells_unexpected f stop.Unexpected same_stop h is_fault =
      told f (refused text spans ts us same f (subst (λ p. fault_of p (Refused us) ≡ Some f) is_end is_fault) (verdict_only quil tables (Rule (Sum true)) (decided true) ts (Stuck us) h))

  pub tells_large : (f : ReadFault) (e : Stop) → e ≡ stop.TooLarge → StopsFor e (Rule (Sum true)) ts us → fault_of end (TooLarge us) ≡ Some f → Tells text (Err f)
  tells_large f stop.OutOfMemory same_stop h is_fault = absurd (cc)
  tells_large f stop.Unexpected same_stop h is_fault = absurd (cc)
  tells_large f stop.TooLarge same_stop h is_fault =
      told f (record { verdict = TooLarge us; only = subst (λ xs. IsOnlyVerdict quil (Rule (Sum true)) xs (TooLarge us)) same (verdict_only quil tables (Rule (Sum true)) (decided true) ts (Large us) h); is_fault = subst (λ p. fault_of p (TooLarge us) ≡ Some f) is_end is_fault })

-- from what is told, the clauses: the only expression of the text, and its only fault
module _ (text : List ℕ) (spans : List Span) (is_reading : IsReading text spans) (only_reading : (other : List Span) → IsReading text other → spans ≡ other) where
  same_steps : (ss steps : List Step) → IsFound text spans ss → IsExpressionOf text steps → ss ≡ steps
  same_steps ss steps h x =
      let whole : IsVerdict quil (Rule (Sum true)) (tokens_among [] spans) (Read (events x.written)) = subst (λ ys. IsVerdict quil (Rule (Sum true)) (tokens_among [] ys) (Read (events x.written))) (sym (only_reading x.spans x.is_reading)) x.is_whole in
      let read : Read (events x.written) ≡ Read (events h.written) = h.only.is_only (Read (events x.written)) whole in
      let same : x.written ≡ h.written = same_written x.written h.written (cc) in
      h.is_meaning ∙ ap (λ w. postfix (meaning w)) (sym same) ∙ sym x.is_meaning

  no_steps : (f : ReadFault) (steps : List Step) → IsTold text spans f → IsExpressionOf text steps → ⊥
  no_steps f steps h x =
      let whole : IsVerdict quil (Rule (Sum true)) (tokens_among [] spans) (Read (events x.written)) = subst (λ ys. IsVerdict quil (Rule (Sum true)) (tokens_among [] ys) (Read (events x.written))) (sym (only_reading x.spans x.is_reading)) x.is_whole in
      let read : Read (events x.written) ≡ h.verdict = h.only.is_only (Read (events x.written)) whole in
      let none : fault_of (end_of spans) (Read (events x.written)) ≡ Some f = subst (λ v. fault_of (end_of spans) v ≡ Some f) (sym read) h.is_fault in
      absurd (cc)

  same_fault : (f g : ReadFault) → IsTold text spans f → IsRefusal text g → f ≡ g
  same_fault f g h x =
      let one : spans ≡ x.spans = only_reading x.spans x.is_reading in
      let true_verdict : IsVerdict quil (Rule (Sum true)) (tokens_among [] spans) x.verdict = subst (λ ys. IsVerdict quil (Rule (Sum true)) (tokens_among [] ys) x.verdict) (sym one) x.is_verdict in
      let verdict : x.verdict ≡ h.verdict = h.only.is_only x.verdict true_verdict in
      let at : fault_of (end_of spans) x.verdict ≡ Some g = subst (λ ys. fault_of (end_of ys) x.verdict ≡ Some g) (sym one) x.is_fault in
      let both : Some f ≡ Some g = sym h.is_fault ∙ ap (fault_of (end_of spans)) (sym verdict) ∙ at in
      cc

  no_fault : (ss : List Step) (g : ReadFault) → IsFound text spans ss → IsRefusal text g → ⊥
  no_fault ss g h x =
      let one : spans ≡ x.spans = only_reading x.spans x.is_reading in
      let true_verdict : IsVerdict quil (Rule (Sum true)) (tokens_among [] spans) x.verdict = subst (λ ys. IsVerdict quil (Rule (Sum true)) (tokens_among [] ys) x.verdict) (sym one) x.is_verdict in
      let verdict : x.verdict ≡ Read (events h.written) = h.only.is_only x.verdict true_verdict in
      let none : fault_of (end_of x.spans) (Read (events h.written)) ≡ Some g = subst (λ v. fault_of (end_of x.spans) v ≡ Some g) verdict x.is_fault in
      absurd (cc)

pub only_found : (text : List ℕ) (r : Result (List Step) ReadFault) (steps : List Step) → Tells text r → IsExpressionOf text steps → Gives r (Ok steps)
only_found text (Ok ss) steps h x = inl (ap (λ y. Ok y) (same_steps text h.spans h.is_reading h.only_reading ss steps h.answers x))
only_found text (Err fault.OutOfMemory) steps h x = inr refl
only_found text (Err (fault.NumberTooWide l c)) steps h x = absurd (no_steps text h.spans h.is_reading h.only_reading _ steps h.answers x)
only_found text (Err (fault.BadToken l c)) steps h x = absurd (no_steps text h.spans h.is_reading h.only_reading _ steps h.answers x)
only_found text (Err (fault.Unexpected l c)) steps h x = absurd (no_steps text h.spans h.is_reading h.only_reading _ steps h.answers x)
only_found text (Err (fault.LeftOut n w)) steps h x = absurd h
only_found text (Err (fault.TextTooLong n)) steps h x = absurd h

refused_as : (text : List ℕ) (r : Result (List Step) ReadFault) (f : ReadFault) → Tells text r → IsRefusal text f → Gives r (Err f)
refused_as text (Ok ss) f h x = absurd (no_fault text h.spans h.is_reading h.only_reading ss f h.answers x)
refused_as text (Err fault.OutOfMemory) f h x = inr refl
refused_as text (Err (fault.NumberTooWide l c)) f h x = inl (ap (λ y. Err y) (same_fault text h.spans h.is_reading h.only_reading (fault.NumberTooWide l c) f h.answers x))
refused_as text (Err (fault.BadToken l c)) f h x = inl (ap (λ y. Err y) (same_fault text h.spans h.is_reading h.only_reading (fault.BadToken l c) f h.answers x))
refused_as text (Err (fault.Unexpected l c)) f h x = inl (ap (λ y. Err y) (same_fault text h.spans h.is_reading h.only_reading (fault.Unexpected l c) f h.answers x))
refused_as text (Err (fault.LeftOut n w)) f h x = absurd h
refused_as text (Err (fault.TextTooLong n)) f h x = absurd h

pub only_fault : (text : List ℕ) (r : Result (List Step) ReadFault) (f : ReadFault) → Tells text r → length text ≤ MOST_BYTES → f ≢ fault.OutOfMemory → IsFault text f → Gives r (Err f)
only_fault text r fault.OutOfMemory h small some x = absurd (some refl)
only_fault text r (fault.NumberTooWide l c) h small some x = refused_as text r (fault.NumberTooWide l c) h x.1
only_fault text r (fault.BadToken l c) h small some x = refused_as text r (fault.BadToken l c) h x.1
only_fault text r (fault.Unexpected l c) h small some x = refused_as text r (fault.Unexpected l c) h x.1
only_fault text r (fault.LeftOut n w) h small some x = absurd x
only_fault text r (fault.TextTooLong n) h small some x = absurd (omega (arith, x.0))

-- a text that is too long has no other fault
pub long_fault : (text : List ℕ) (f : ReadFault) → MOST_BYTES < length text → f ≢ fault.OutOfMemory → IsFault text f → f ≡ fault.TextTooLong (length text)
long_fault text fault.OutOfMemory long some x = absurd (some refl)
long_fault text (fault.NumberTooWide l c) long some x = absurd (omega (arith, x.0))
long_fault text (fault.BadToken l c) long some x = absurd (omega (arith, x.0))
long_fault text (fault.Unexpected l c) long some x = absurd (omega (arith, x.0))
long_fault text (fault.LeftOut n w) long some x = absurd x
long_fault text (fault.TextTooLong n) long some x = rw x.1 refl
