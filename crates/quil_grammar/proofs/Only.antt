-- A text is one expression, or has one fault.
use Rattle.std.proofs.Common.{◌≡◌, ℕ, ◌<◌, ◌≤◌, ◌⊎◌, inl, inr, Bool, true, false, nat_lt, length, List, [], ◌∷◌, sym, ◌∙◌, ap, subst, ◌≢◌, refl, arith}
use Rattle.std.specs.Prelude.{Some}
use Rattle.std.proofs.lemmas.Bool.Decides.{nat_tests}
use Rattle.quil_lex.proofs.Fronts.{bool_cases}
use Rattle.quil_lex.specs.Reading.{Span}
use Rattle.quil_lex.proofs.Readings.{same_lexes}
use Rattle.quil_shape.specs.Shape.Shape.{Rule}
use Rattle.quil_shape.specs.Verdict.{Verdict, IsVerdict}
use Rattle.quil_shape.specs.Verdict.Verdict.{Read}
use Rattle.quil_shape.proofs.Verdicts.{some_outcome, verdict_only}
use Rattle.quil_tree.specs.declared.expr.Step.{Step}
use Rattle.quil_tree.specs.Expression.{postfix}
use Rattle.quil_grammar.specs.declared.fault.ReadFault.{ReadFault}
use Rattle.quil_grammar.specs.Token.{Token, tokens_among, end_of}
use Rattle.quil_grammar.specs.Grammar.{quil, Sum, Event}
use Rattle.quil_grammar.specs.Tables.{tables}
use Rattle.quil_grammar.specs.Written.{events, meaning}
use Rattle.quil_grammar.specs.Answer.{IsExpressionOf, IsRefusal, IsFault, fault_of}
use Rattle.quil_grammar.specs.declared.fault.ReadFault.TheVariants as fault
use Rattle.quil_grammar.proofs.Writings.{same_written}
use Rattle.quil_grammar.proofs.Verdicts.{decided}
use Rattle.quil_grammar.proofs.Wholes.{sum_is}
use Rattle.quil_lex.specs.Reading.{IsReading}
use Rattle.quil_lex.proofs.Total.{each_text}
use Rattle.quil_shape.specs.Verdict.{HasLargeAt, IsReading as IsWhole}
use Rattle.quil_shape.specs.Verdict.Verdict.{Refused, TooLarge}
use Rattle.quil_shape.specs.Outcome.{verdict_of}
use Rattle.quil_grammar.specs.declared.parse.TheConstants.{MOST_BYTES}
use Rattle.quil_grammar.specs.Sort.{is_sort}
use Rattle.quil_grammar.specs.declared.sort.Sort.TheVariants as sort

one_verdict : (ts : List Token) (v w : Verdict Event Token) → IsVerdict quil (Rule (Sum true)) ts v → IsVerdict quil (Rule (Sum true)) ts w → v ≡ w
one_verdict ts v w p q =
    let some = some_outcome quil tables (Rule (Sum true)) (decided true) ts in
    let only = verdict_only quil tables (Rule (Sum true)) (decided true) ts some.0 some.1 in
    only.is_only v p ∙ sym (only.is_only w q)

-- the same verdict on the spans of two readings
same_verdict : (spans others : List Span) (v w : Verdict Event Token) → spans ≡ others → IsVerdict quil (Rule (Sum true)) (tokens_among [] spans) v → IsVerdict quil (Rule (Sum true)) (tokens_among [] others) w → v ≡ w
same_verdict spans others v w e p q = one_verdict (tokens_among [] others) v w (subst (λ ss. IsVerdict quil (Rule (Sum true)) (tokens_among [] ss) v) e p) q

pub one_expression : (text : List ℕ) (ss ts : List Step) → IsExpressionOf text ss → IsExpressionOf text ts → ss ≡ ts
one_expression text ss ts a b =
    let verdict : Read (events a.written) ≡ Read (events b.written) = same_verdict a.spans b.spans (Read (events a.written)) (Read (events b.written)) (same_lexes a.is_reading b.is_reading) a.is_whole b.is_whole in
    let same = same_written a.written b.written (cc) in
    a.is_meaning ∙ ap (λ w. postfix (meaning w)) same ∙ sym b.is_meaning

one_refusal : (text : List ℕ) (f g : ReadFault) → IsRefusal text f → IsRefusal text g → f ≡ g
one_refusal text f g a b =
    let spans = same_lexes a.is_reading b.is_reading in
    let verdict = same_verdict a.spans b.spans a.verdict b.verdict spans a.is_verdict b.is_verdict in
    let same : Some f ≡ Some g = sym a.is_fault ∙ ap (λ ss. fault_of (end_of ss) a.verdict) spans ∙ ap (fault_of (end_of b.spans)) verdict ∙ b.is_fault in
    cc

not_refused : (text : List ℕ) (ss : List Step) (f : ReadFault) → IsExpressionOf text ss → ¬ IsRefusal text f
not_refused text ss f a b =
    let verdict : Read (events a.written) ≡ b.verdict = same_verdict a.spans b.spans (Read (events a.written)) b.verdict (same_lexes a.is_reading b.is_reading) a.is_whole b.is_verdict in
    let none : fault_of (end_of b.spans) (Read (events a.written)) ≡ Some f = subst (λ v. fault_of (end_of b.spans) v ≡ Some f) (sym verdict) b.is_fault in
    absurd (cc)

-- the same of all faults
pub one_fault : (text : List ℕ) (f g : ReadFault) → f ≢ fault.OutOfMemory → g ≢ fault.OutOfMemory → IsFault text f → IsFault text g → f ≡ g
one_fault text (fault.NumberTooWide l c) (fault.NumberTooWide m d) some more x y = one_refusal text (fault.NumberTooWide l c) (fault.NumberTooWide m d) x.1 y.1
one_fault text (fault.NumberTooWide l c) (fault.BadToken m d) some more x y = one_refusal text (fault.NumberTooWide l c) (fault.BadToken m d) x.1 y.1
one_fault text (fault.NumberTooWide l c) (fault.Unexpected m d) some more x y = one_refusal text (fault.NumberTooWide l c) (fault.Unexpected m d) x.1 y.1
one_fault text (fault.NumberTooWide l c) (fault.TextTooLong n) some more x y = absurd (omega (arith, x.0, y.0))
one_fault text (fault.NumberTooWide l c) fault.OutOfMemory some more x y = absurd (more refl)
one_fault text (fault.BadToken l c) (fault.NumberTooWide m d) some more x y = one_refusal text (fault.BadToken l c) (fault.NumberTooWide m d) x.1 y.1
one_fault text (fault.BadToken l c) (fault.BadToken m d) some more x y = one_refusal text (fault.BadToken l c) (fault.BadToken m d) x.1 y.1
one_fault text (fault.BadToken l c) (fault.Unexpected m d) some more x y = one_refusal text (fault.BadToken l c) (fault.Unexpected m d) x.1 y.1
one_fault text (fault.BadToken l c) (fault.TextTooLong n) some more x y = absurd (omega (arith, x.0, y.0))
one_fault text (fault.BadToken l c) fault.OutOfMemory some more x y = absurd (more refl)
one_fault text (fault.Unexpected l c) (fault.NumberTooWide m d) some more x y = one_refusal text (fault.Unexpected l c) (fault.NumberTooWide m d) x.1 y.1
one_fault text (fault.Unexpected l c) (fault.BadToken m d) some more x y = one_refusal text (fault.Unexpected l c) (fault.BadToken m d) x.1 y.1
one_fault text (fault.Unexpected l c) (fault.Unexpected m d) some more x y = one_refusal text (fault.Unexpected l c) (fault.Unexpected m d) x.1 y.1
one_fault text (fault.Unexpected l c) (fault.TextTooLong n) some more x y = absurd (omega (arith, x.0, y.0))
one_fault text (fault.Unexpected l c) fault.OutOfMemory some more x y = absurd (more refl)
one_fault text (fault.NumberTooWide l c) (fault.LeftOut m w) some more x y = absurd y
one_fault text (fault.BadToken l c) (fault.LeftOut m w) some more x y = absurd y
one_fault text (fault.Unexpected l c) (fault.LeftOut m w) some more x y = absurd y
one_fault text (fault.LeftOut m w) g some more x y = absurd x
one_fault text (fault.TextTooLong n) (fault.LeftOut m w) some more x y = absurd y
one_fault text (fault.TextTooLong n) (fault.NumberTooWide m d) some more x y = absurd (omega (arith, x.0, y.0))
one_fault text (fault.TextTooLong n) (fault.BadToken m d) some more x y = absurd (omega (arith, x.0, y.0))
one_fault text (fault.TextTooLong n) (fault.Unexpected m d) some more x y = absurd (omega (arith, x.0, y.0))
one_fault text (fault.TextTooLong n) (fault.TextTooLong k) some more x y = rw (x.1, y.1) refl
one_fault text (fault.TextTooLong n) fault.OutOfMemory some more x y = absurd (more refl)
one_fault text fault.OutOfMemory g some more x y = absurd (some refl)

pub not_both : (text : List ℕ) (ss : List Step) (f : ReadFault) → f ≢ fault.OutOfMemory → IsExpressionOf text ss → ¬ IsFault text f
not_both text ss (fault.NumberTooWide l c) some x y = not_refused text ss (fault.NumberTooWide l c) x y.1
not_both text ss (fault.BadToken l c) some x y = not_refused text ss (fault.BadToken l c) x y.1
not_both text ss (fault.Unexpected l c) some x y = not_refused text ss (fault.Unexpected l c) x y.1
not_both text ss (fault.LeftOut m w) some x y = absurd y
not_both text ss (fault.TextTooLong n) some x y = absurd (omega (arith, x.is_short, y.0))
not_both text ss fault.OutOfMemory some x y = absurd (some refl)

-- the expression of a verdict, or its fault
answer : (text : List ℕ) (spans : List Span) (v : Verdict Event Token) → length text ≤ MOST_BYTES → IsReading text spans → IsVerdict quil (Rule (Sum true)) (tokens_among [] spans) v
    → ((ss : List Step) × IsExpressionOf text ss) ⊎ ((f : ReadFault) × (f ≢ fault.OutOfMemory) × IsFault text f)
answer text spans (Read os) short r h =
    let w = sum_is h.whole in
    inl (postfix (meaning w.written), record { is_short = short; spans = spans; is_reading = r; written = w.written; is_whole = subst (λ xs. IsWhole quil (Rule (Sum true)) (tokens_among [] spans) xs) w.same h; is_meaning = refl })
answer text spans (Refused []) short r h = inr (fault.Unexpected (end_of spans).line (end_of spans).column, λ e. absurd (cc), (short, record { spans = spans; is_reading = r; verdict = Refused []; is_verdict = h; is_fault = refl }))
answer text spans (Refused (t ∷ ts)) short r h = by_sort (is_sort t.sort sort.Bad) refl where
  by_sort : (bad : Bool) → is_sort t.sort sort.Bad ≡ bad → ((ss : List Step) × IsExpressionOf text ss) ⊎ ((f : ReadFault) × (f ≢ fault.OutOfMemory) × IsFault text f)
  by_sort true e = inr (fault.BadToken t.place.line t.place.column, λ x. absurd (cc), (short, record { spans = spans; is_reading = r; verdict = Refused (t ∷ ts); is_verdict = h; is_fault = rw e refl }))
  by_sort false e = inr (fault.Unexpected t.place.line t.place.column, λ x. absurd (cc), (short, record { spans = spans; is_reading = r; verdict = Refused (t ∷ ts); is_verdict = h; is_fault = rw e refl }))
answer text spans (TooLarge []) short r h = absurd (nothing_large h.is_large) where
  nothing_large : HasLargeAt quil (Rule (Sum true)) (tokens_among [] spans) [] → ⊥
  nothing_large x = let e = x.is_first in absurd (cc)
answer text spans (TooLarge (t ∷ ts)) short r h = inr (fault.NumberTooWide t.place.line t.place.column, λ x. absurd (cc), (short, record { spans = spans; is_reading = r; verdict = TooLarge (t ∷ ts); is_verdict = h; is_fault = refl }))

short_or_long : (n m : ℕ) → (m ≤ n) ⊎ (n < m)
short_or_long n m = elim (bool_cases (nat_lt n m)) [ inl t ↦ inr (grind (arith, nat_tests)) | inr t ↦ inl (grind (arith, nat_tests)) ]

pub some_answer : (text : List ℕ) → ((ss : List Step) × IsExpressionOf text ss) ⊎ ((f : ReadFault) × (f ≢ fault.OutOfMemory) × IsFault text f)
some_answer text =
    elim (short_or_long MOST_BYTES (length text)) [
      | inl short ↦
          let reading = each_text text in
          let some = some_outcome quil tables (Rule (Sum true)) (decided true) (tokens_among [] reading.0) in
          let only = verdict_only quil tables (Rule (Sum true)) (decided true) (tokens_among [] reading.0) some.0 some.1 in
          answer text reading.0 (verdict_of some.0) short reading.1 only.is_true
      | inr long ↦ inr (fault.TextTooLong (length text), λ x. absurd (cc), (long, refl))
    ]
