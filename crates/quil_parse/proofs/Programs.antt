-- The spans of a text go on to one end, and the clauses of `parse` follow.
use Rattle.std.proofs.Common.{◌≡◌, ◌≢◌, ℕ, ◌<◌, ◌≤◌, Bool, true, false, true≢false, List, [], ◌∷◌, inl, inr, length, map, reverse, get_or, take, drop, ◌-◌, refl, sym, ◌∙◌, ap, subst, arith, rules}
use Rattle.std.specs.Prelude.{Some, Result, Ok, Err, IfOk, IfErr, OnOk, IsOk, if◌then◌else◌}
use Rattle.std.specs.Result.{IsErrAnd}
use Rattle.std.proofs.lemmas.List.{reverse-reverse, take_rest}
use Rattle.std.proofs.lemmas.Result.{err_from_is_err_and}
use Rattle.quil_lex.specs.Reading.{Span, IsReading, span_of}
use Rattle.quil_lex.specs.declared.segment.Segment.{Segment}
use Rattle.quil_lex.proofs.Readings.{same_lexes}
use Rattle.quil_shape.specs.Shape.{Shape}
use Rattle.quil_shape.specs.Condition.{is_decided_by_one_token}
use Rattle.quil_shape.specs.Verdict.{Verdict, IsVerdict}
use Rattle.quil_shape.specs.Verdict.Verdict.{Read, Refused, TooLarge}
use Rattle.quil_shape.proofs.Verdicts.{some_outcome, verdict_only}
use Rattle.quil_tree.specs.declared.place.Place.{Place}
use Rattle.quil_tree.specs.declared.item.Item.{Item}
use Rattle.quil_grammar.specs.declared.class.Class.{Class}
use Rattle.quil_grammar.specs.declared.fault.ReadFault.{ReadFault}
use Rattle.quil_grammar.specs.declared.fault.ReadFault.TheVariants as fault
use Rattle.quil_grammar.specs.declared.sort.Sort.TheVariants as sort
use Rattle.quil_grammar.specs.Sort.{is_sort}
use Rattle.quil_grammar.specs.Token.{Token, span_end}
use Rattle.quil_grammar.specs.Grammar.{quil, Name, Event}
use Rattle.quil_grammar.specs.Tables.{tables}
use Rattle.quil_grammar.specs.Parts.{Part, parts_events}
use Rattle.quil_grammar.specs.Answer.{Gives}
use Rattle.quil_grammar.specs.declared.parse.TheConstants.{MOST_BYTES}
use Rattle.quil_grammar.proofs.Parts.{same_parts}
use Rattle.quil_grammar.proofs.Verdicts.{not_too_long}
use Rattle.quil_parse.specs.Program.{Goes, ends, lacks_body, skips, reads, refuses, Says, IsLineFault, IsTreeOf, IsRefused, IsFaultOf, line_shape, with_parts, line_fault, is_left_out, is_empty, line_end, beginning}
use Rattle.quil_parse.specs.Steps.{IsAdded, IsStopped, OrNoMemory, tokens_behind}
use Rattle.quil_parse.specs.Told.{Tells, GoesOnBehind, RefusesBehind}
use Rattle.quil_parse.proofs.Lines.{line_decided}

one_verdict : (s : Shape Class Event Name) → is_decided_by_one_token quil tables s ≡ true → (ts : List Token) (v w : Verdict Event Token) → IsVerdict quil s ts v → IsVerdict quil s ts w → v ≡ w
one_verdict s decided ts v w p q =
    let some = some_outcome quil tables s decided ts in
    let only = verdict_only quil tables s decided ts some.0 some.1 in
    only.is_only v p ∙ sym (only.is_only w q)

-- a line says one thing, or is refused with one fault
same_says : (is : List Item) (s : Span) (ps qs : List Part) → Says is s ps → Says is s qs → ps ≡ qs
same_says is s ps qs p q =
    let same : Read (parts_events ps) ≡ Read (parts_events qs) = one_verdict (line_shape s.indented is) (line_decided s.indented is) (tokens_behind is s) (Read (parts_events ps)) (Read (parts_events qs)) p q in
    same_parts ps qs (cc)

same_sum : (is js ks : List Item) (s : Span) (ps qs : List Part) → Says is s ps → Says is s qs → with_parts s.indented is ps ≡ Some js → with_parts s.indented is qs ≡ Some ks → ks ≡ js
same_sum is js ks s ps qs p q a b =
    let both : Some js ≡ Some ks = sym a ∙ ap (λ xs. with_parts s.indented is xs) (same_says is s ps qs p q) ∙ b in
    cc

says_no_fault : (is : List Item) (s : Span) (ps : List Part) (f : ReadFault) → Says is s ps → IsLineFault is s f → ⊥
says_no_fault is s ps f p x =
    let same : Read (parts_events ps) ≡ x.verdict = one_verdict (line_shape s.indented is) (line_decided s.indented is) (tokens_behind is s) (Read (parts_events ps)) x.verdict p x.is_verdict in
    let none : line_fault (span_end s) (Read (parts_events ps)) ≡ Some f = subst (λ v. line_fault (span_end s) v ≡ Some f) (sym same) x.is_fault in
    absurd (cc)

same_line_fault : (is : List Item) (s : Span) (f g : ReadFault) → IsLineFault is s f → IsLineFault is s g → f ≡ g
same_line_fault is s f g x y =
    let same : x.verdict ≡ y.verdict = one_verdict (line_shape s.indented is) (line_decided s.indented is) (tokens_behind is s) x.verdict y.verdict x.is_verdict y.is_verdict in
    let both : Some f ≡ Some g = sym x.is_fault ∙ ap (line_fault (span_end s)) same ∙ y.is_fault in
    cc

not_both_tests : (b : Bool) → b ≡ true → b ≡ false → ⊥
not_both_tests b e f = true≢false (sym e ∙ f)

pub same_end : {p : Place} {is : List Item} {ss : List Span} {r q : Result (List Item) ReadFault} → Goes p is ss r → Goes p is ss q → r ≡ q
same_end (ends e) (ends f) = refl
same_end {is = is} (ends e) (lacks_body f) = absurd (not_both_tests _ f e)
same_end (lacks_body e) (ends f) = absurd (not_both_tests _ e f)
same_end (lacks_body e) (lacks_body f) = refl
same_end (skips e g) (skips f h) = same_end g h
same_end (skips e g) (reads ps f x w h) = absurd (not_both_tests _ e f)
same_end (skips e g) (refuses f x) = absurd (not_both_tests _ e f)
same_end (reads ps f x w h) (skips e g) = absurd (not_both_tests _ e f)
same_end {is = is} {q = q} (reads {js = js} {s = s} {ss = ss} ps e x w g) (reads {js = ks} qs f y v h) =
    same_end g (subst (λ k. Goes (line_end s) k ss q) (same_sum is js ks s ps qs x y w v) h)
same_end {is = is} (reads {s = s} ps e x w g) (refuses {f = f} d y) = absurd (says_no_fault is s ps f x y)
same_end (refuses e x) (skips f g) = absurd (not_both_tests _ f e)
same_end {is = is} (refuses {s = s} {f = f} e x) (reads ps d y w g) = absurd (says_no_fault is s ps f y x)
same_end {is = is} (refuses {s = s} {f = f} e x) (refuses {f = g} d y) = ap (λ z. Err z) (same_line_fault is s f g x y)

-- no line is refused because the text is too long
large_not_long : (b : Bool) (t : Token) (n : ℕ) → (if b then fault.LeftOut t.place.line t.text else fault.NumberTooWide t.place.line t.place.column) ≡ fault.TextTooLong n → ⊥
large_not_long true t n e = absurd (cc)
large_not_long false t n e = absurd (cc)

not_long : (p : Place) (v : Verdict Event Token) (n : ℕ) → line_fault p v ≡ Some (fault.TextTooLong n) → ⊥
not_long p (Read os) n e = absurd (cc)
not_long p (Refused ts) n e = not_too_long p (Refused ts) n e
not_long p (TooLarge []) n e = absurd (cc)
not_long p (TooLarge (t ∷ ts)) n e = large_not_long (is_left_out t.sort) t n (cc)

never_long : {p : Place} {is : List Item} {ss : List Span} {r : Result (List Item) ReadFault} (n : ℕ) → Goes p is ss r → r ≡ Err (fault.TextTooLong n) → ⊥
never_long n (ends e) h = absurd (cc)
never_long n (lacks_body e) h = absurd (cc)
never_long n (skips e g) h = never_long n g h
never_long n (reads ps e x w g) h = never_long n g h
never_long n (refuses {s = s} {f = f} e x) h =
    let same : f ≡ fault.TextTooLong n = cc in
    not_long (span_end s) x.verdict n (x.is_fault ∙ ap (λ z. Some z) same)

-- a step of the reader
pub goes_skip : (p : Place) (is js : List Item) (s : Span) → is_empty s ≡ true → js ≡ is → GoesOnBehind p is s p js
goes_skip p is js s e same = record { goes_on = λ ss r g. skips e (subst (λ xs. Goes p xs ss r) same g) }

pub goes_read : (p q : Place) (is js : List Item) (s : Span) → is_empty s ≡ false → IsAdded s.indented is (tokens_behind is s) js → q ≡ line_end s → GoesOnBehind p is s q js
goes_read p q is js s e h at = record { goes_on = λ ss r g. reads h.parts e h.is_whole h.is_sum (subst (λ z. Goes z js ss r) at g) }

pub goes_refused : (p : Place) (is : List Item) (s : Span) (f : ReadFault) → is_empty s ≡ false → OrNoMemory f (IsStopped (line_shape s.indented is) (tokens_behind is s) (span_end s) f) → OrNoMemory f (RefusesBehind p is s f)
goes_refused p is s f e (inl none) = inl none
goes_refused p is s f e (inr h) = inr (record { stops = λ ss. refuses e (record { verdict = h.verdict; is_verdict = h.is_verdict; is_fault = h.is_fault }) })

-- the first of some segments, and those behind it
pub first_and_rest : (xs : List Segment) (s : Segment) → 1 ≤ length xs → s ≡ get_or xs 0 s → xs ≡ s ∷ take (length xs - 1) (drop 1 xs)
first_and_rest [] s some e = absurd (omega arith)
first_and_rest (x ∷ xs) s some e = ap (λ y. y ∷ xs) (sym e) ∙ ap (λ ys. s ∷ ys) (sym (take_rest (x ∷ xs) 1))

pub first_refused : (p : Place) (is : List Item) (s : Segment) (rest all : List Segment) (f : ReadFault) (Q : Type 0) → all ≡ s ∷ rest → OrNoMemory f (RefusesBehind p is (span_of s) f) → (Goes p is (map span_of all) (Err f) → Q) → OrNoMemory f Q
first_refused p is s rest all f Q same (inl e) k = inl e
first_refused p is s rest all f Q same (inr h) k = inr (k (subst (λ xs. Goes p is (map span_of xs) (Err f)) (sym same) (h.stops (map span_of rest))))

-- the end of reading
pub finish_ok : {A : Type 0} (r : Result (List Item) ReadFault) (read : Result A ReadFault) (is : List Item) (ss : List Span) → OnOk read (Goes beginning [] ss (Ok is)) → IfOk r (λ all. IsOk read × (reverse all ≡ is)) → IfOk r (λ all. Goes beginning [] ss (Ok (reverse all)))
finish_ok (Ok all) (Ok u) is ss g h = subst (λ xs. Goes beginning [] ss (Ok xs)) (sym h.1) g
finish_ok (Ok all) (Err e) is ss g h = absurd (search (rules, h.0))
finish_ok (Err e) read is ss g h = tt

pub finish_err : {A : Type 0} (r : Result (List Item) ReadFault) (read : Result A ReadFault) (ss : List Span) → IfErr read (λ f. OrNoMemory f (Goes beginning [] ss (Err f))) → IfErr r (λ f. OrNoMemory f (read ≡ Err f)) → IfErr r (λ f. OrNoMemory f (Goes beginning [] ss (Err f)))
finish_err (Ok all) read ss g h = tt
finish_err (Err f) read ss g (inl e) = inl e
finish_err (Err f) read ss g (inr e) = subst (λ q. IfErr q (λ z. OrNoMemory z (Goes beginning [] ss (Err z)))) e g

-- what is told of a text
pub tells : (text : List ℕ) (spans : List Span) (r : Result (List Item) ReadFault) → length text ≤ MOST_BYTES → IsReading text spans
    → IfOk r (λ tree. Goes beginning [] spans (Ok (reverse tree))) → IfErr r (λ f. OrNoMemory f (Goes beginning [] spans (Err f))) → Tells text r
tells text spans (Ok tree) short reading h k = record { is_short = short; spans = spans; is_reading = reading; goes = h }
tells text spans (Err f) short reading h k = elim k [
  | inl e ↦ inl e
  | inr g ↦ inr (record { is_short = short; spans = spans; is_reading = reading; goes = g })
]

pub tells_memory : (text : List ℕ) (r : Result (List Item) ReadFault) → IsErrAnd r (λ x. x ≡ fault.OutOfMemory) → Tells text r
tells_memory text r h = let e = err_from_is_err_and r h in subst (λ q. Tells text q) (sym e.1) (inl e.2)

pub one_tree : (text : List ℕ) (t u : List Item) → IsTreeOf text t → IsTreeOf text u → t ≡ u
one_tree text t u a b =
    let spans = same_lexes a.is_reading b.is_reading in
    let one : Ok (reverse t) ≡ Ok (reverse u) = same_end a.goes (subst (λ ss. Goes beginning [] ss (Ok (reverse u))) (sym spans) b.goes) in
    let back : reverse t ≡ reverse u = cc in
    sym (reverse-reverse t) ∙ ap (λ xs. reverse xs) back ∙ reverse-reverse u

same_fault : (text : List ℕ) (f g : ReadFault) → IsRefused text f → IsRefused text g → f ≡ g
same_fault text f g a b =
    let spans = same_lexes a.is_reading b.is_reading in
    let one : ◌≡◌ {A = Result (List Item) ReadFault} (Err f) (Err g) = same_end a.goes (subst (λ ss. Goes beginning [] ss (Err g)) (sym spans) b.goes) in
    cc

not_refused : (text : List ℕ) (t : List Item) (f : ReadFault) → IsTreeOf text t → IsRefused text f → ⊥
not_refused text t f a b =
    let spans = same_lexes a.is_reading b.is_reading in
    let one : Ok (reverse t) ≡ Err f = same_end a.goes (subst (λ ss. Goes beginning [] ss (Err f)) (sym spans) b.goes) in
    absurd (cc)

-- each fault but these two is a refusal
refusal : (text : List ℕ) (f : ReadFault) → length text ≤ MOST_BYTES → f ≢ fault.OutOfMemory → IsFaultOf text f → IsRefused text f
refusal text fault.OutOfMemory short some x = absurd (some refl)
refusal text (fault.NumberTooWide l c) short some x = x
refusal text (fault.BadToken l c) short some x = x
refusal text (fault.Unexpected l c) short some x = x
refusal text (fault.LeftOut n w) short some x = x
refusal text (fault.TextTooLong n) short some x = absurd (omega (arith, x.0))

refusal_is_fault : (text : List ℕ) (f : ReadFault) → IsRefused text f → IsFaultOf text f
refusal_is_fault text fault.OutOfMemory x = tt
refusal_is_fault text (fault.NumberTooWide l c) x = x
refusal_is_fault text (fault.BadToken l c) x = x
refusal_is_fault text (fault.Unexpected l c) x = x
refusal_is_fault text (fault.LeftOut n w) x = x
refusal_is_fault text (fault.TextTooLong n) x = absurd (never_long n x.goes refl)

-- the clauses
pub found : (text : List ℕ) (r : Result (List Item) ReadFault) → Tells text r → IfOk r (λ tree. IsTreeOf text tree)
found text (Ok tree) h = h
found text (Err f) h = tt

pub only_tree : (text : List ℕ) (r : Result (List Item) ReadFault) (tree : List Item) → Tells text r → IsTreeOf text tree → Gives r (Ok tree)
only_tree text (Ok t) tree h x = inl (ap (λ z. Ok z) (one_tree text t tree h x))
only_tree text (Err f) tree (inl e) x = inr (ap (λ z. Err z) e)
only_tree text (Err f) tree (inr h) x = absurd (not_refused text tree f x h)

pub refused : (text : List ℕ) (r : Result (List Item) ReadFault) → Tells text r → IfErr r (IsFaultOf text)
refused text (Ok tree) h = tt
refused text (Err f) (inl e) = subst (λ z. IsFaultOf text z) (sym e) tt
refused text (Err f) (inr h) = refusal_is_fault text f h

gives_fault : (text : List ℕ) (r : Result (List Item) ReadFault) (f : ReadFault) → Tells text r → IsRefused text f → Gives r (Err f)
gives_fault text (Ok tree) f h x = absurd (not_refused text tree f h x)
gives_fault text (Err g) f (inl e) x = inr (ap (λ z. Err z) e)
gives_fault text (Err g) f (inr h) x = inl (ap (λ z. Err z) (same_fault text g f h x))

pub only_fault : (text : List ℕ) (r : Result (List Item) ReadFault) (f : ReadFault) → Tells text r → length text ≤ MOST_BYTES → f ≢ fault.OutOfMemory → IsFaultOf text f → Gives r (Err f)
only_fault text r f h short some x = gives_fault text r f h (refusal text f short some x)

-- a text that is too long is no program, and has no other fault
pub no_tree : (text : List ℕ) (t : List Item) → MOST_BYTES < length text → IsTreeOf text t → ⊥
no_tree text t long x = let short = x.is_short in absurd (omega arith)

not_short : (text : List ℕ) (f : ReadFault) → MOST_BYTES < length text → IsRefused text f → ⊥
not_short text f long x = let short = x.is_short in absurd (omega arith)

pub long_fault : (text : List ℕ) (f : ReadFault) → MOST_BYTES < length text → f ≢ fault.OutOfMemory → IsFaultOf text f → f ≡ fault.TextTooLong (length text)
long_fault text fault.OutOfMemory long some x = absurd (some refl)
long_fault text (fault.NumberTooWide l c) long some x = absurd (not_short text (fault.NumberTooWide l c) long x)
long_fault text (fault.BadToken l c) long some x = absurd (not_short text (fault.BadToken l c) long x)
long_fault text (fault.Unexpected l c) long some x = absurd (not_short text (fault.Unexpected l c) long x)
long_fault text (fault.LeftOut n w) long some x = absurd (not_short text (fault.LeftOut n w) long x)
long_fault text (fault.TextTooLong n) long some x = rw x.1 refl

-- all faults of a text but want of memory are one, and a program has none
pub one_fault : (text : List ℕ) (f g : ReadFault) → f ≢ fault.OutOfMemory → g ≢ fault.OutOfMemory → IsFaultOf text f → IsFaultOf text g → f ≡ g
one_fault text (fault.TextTooLong n) g some more x y = rw x.1 (sym (long_fault text g x.0 more y))
one_fault text fault.OutOfMemory g some more x y = absurd (some refl)
one_fault text (fault.NumberTooWide l c) g some more x y = same_fault text (fault.NumberTooWide l c) g x (refusal text g x.is_short more y)
one_fault text (fault.BadToken l c) g some more x y = same_fault text (fault.BadToken l c) g x (refusal text g x.is_short more y)
one_fault text (fault.Unexpected l c) g some more x y = same_fault text (fault.Unexpected l c) g x (refusal text g x.is_short more y)
one_fault text (fault.LeftOut n w) g some more x y = same_fault text (fault.LeftOut n w) g x (refusal text g x.is_short more y)

pub not_both : (text : List ℕ) (t : List Item) (f : ReadFault) → f ≢ fault.OutOfMemory → IsTreeOf text t → ¬ (IsFaultOf text f)
not_both text t f some x y = not_refused text t f x (refusal text f x.is_short some y)
