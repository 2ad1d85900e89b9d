-- Reading doesn't depend on places.
use Rattle.std.proofs.Common.{◌≡◌, Bool, true, false, not, ◌&&◌, ◌||◌, List, [], ◌∷◌, map, refl, sym, ◌∙◌, ap, subst}
use Rattle.std.proofs.lemmas.Bool.{and_parts}
use Rattle.std.proofs.lemmas.List.{map-append}
use Rattle.quil_shape.specs.Shape.{Shape}
use Rattle.quil_shape.specs.Shape.Shape.{One, Emit, Empty, Seq, Or, Many, Rule}
use Rattle.quil_shape.specs.Condition.{is_decided_by_one_token}
use Rattle.quil_shape.specs.Outcome.{Outcome, after, verdict_of}
use Rattle.quil_shape.specs.Outcome.Outcome.{Made, Stuck, Large}
use Rattle.quil_shape.specs.Reads.{Reads, starts, is_barred}
use Rattle.quil_shape.specs.Verdict.{IsOnlyVerdict, IsReading as IsWhole}
use Rattle.quil_shape.specs.Verdict.Verdict.{Read}
use Rattle.quil_shape.proofs.Verdicts.{some_outcome, verdict_only}
use Rattle.quil_grammar.specs.declared.class.Class.{Class}
use Rattle.quil_grammar.specs.declared.class.Class.TheVariants as class
use Rattle.quil_grammar.specs.Token.{Token}
use Rattle.quil_grammar.specs.Grammar.{quil, value_of, is_too_large, is_operator_next, is_wide_whole_next, is_whole_number, is_wide, body_of, Name, Event}
use Rattle.quil_grammar.specs.Tables.{tables}
use Rattle.quil_grammar.specs.Grammar.{Sum, Product, Unary, Power, Primary, OperandSum, OperandProduct, OperandUnary, OperandPower, OperandPrimary}
use Rattle.quil_grammar.specs.Grammar.Event.{Stands, Region, Index, Between, Joined, Opens, Closes, Makes}
use Rattle.quil_grammar.specs.Grammar.Piece.{Says, Names, Takes, Acts, Counts, Keeps}
use Rattle.quil_round_trip.proofs.Words.{bare}
use Rattle.quil_round_trip.proofs.Bare.{bare_event}
use Rattle.quil_round_trip.proofs.Lines.{qubit_again}

-- what a token makes
value_bare : (k : Class) (t : Token) → value_of k (bare t) ≡ map bare_event (value_of k t)
value_bare class.Number t = refl
value_bare class.Imaginary t = refl
value_bare class.Pi t = refl
value_bare class.I t = refl
value_bare class.Parameter t = refl
value_bare (class.Region b) t = refl
value_bare class.Index t = refl
value_bare class.Function t = refl
value_bare class.Additive t = refl
value_bare class.Sign t = refl
value_bare class.Multiplicative t = refl
value_bare class.Caret t = refl
value_bare class.Parenthesis t = refl
value_bare class.ArgumentBegins t = refl
value_bare class.ParenthesisEnds t = refl
value_bare class.IndexBegins t = refl
value_bare class.IndexEnds t = refl
value_bare class.Declare t = refl
value_bare class.CellType t = refl
value_bare class.Length t = refl
value_bare class.Sharing t = refl
value_bare class.Offset t = refl
value_bare class.OffsetCount t = refl
value_bare class.Named t = refl
value_bare class.DefGate t = refl
value_bare class.As t = refl
value_bare class.Matrix t = refl
value_bare class.Permutation t = refl
value_bare class.LeftOutForm t = refl
value_bare class.DefCircuit t = refl
value_bare class.Colon t = refl
value_bare class.Comma t = refl
value_bare class.ListBegins t = refl
value_bare class.ListEnds t = refl
value_bare class.TakenParameter t = refl
value_bare class.Entry t = refl
value_bare class.Modifier t = refl
value_bare class.Forked t = refl
value_bare class.FifthForked t = refl
value_bare class.Gate t = refl
value_bare class.Qubit t = ap (λ q. Makes (Acts q) ∷ []) (qubit_again t)
value_bare class.Measure t = refl
value_bare class.Reset t = refl
value_bare class.Bare t = refl
value_bare class.Pragma t = refl
value_bare class.Any t = refl
value_bare class.LabelWord t = refl
value_bare class.JumpIf t = refl
value_bare class.Label t = refl
value_bare class.UnaryWord t = refl
value_bare class.PairWord t = refl
value_bare class.BinaryWord t = refl
value_bare class.Load t = refl
value_bare class.Store t = refl
value_bare class.CompareWord t = refl
value_bare class.LeftOut t = refl
value_bare class.Nothing t = refl
value_bare class.OperandNumber t = refl
value_bare class.OperandSign t = refl

operator_bare : (us : List Token) → is_operator_next (map bare us) ≡ is_operator_next us
operator_bare [] = refl
operator_bare (t ∷ us) = refl

wide_bare : (us : List Token) → is_wide_whole_next (map bare us) ≡ is_wide_whole_next us
wide_bare [] = refl
wide_bare (t ∷ us) = ap (λ b. is_whole_number t && (is_wide t && not b)) (operator_bare us)

-- whether it is too large
large_bare : (k : Class) (t : Token) (us : List Token) → is_too_large k (bare t) (map bare us) ≡ is_too_large k t us
large_bare class.Number t us = refl
large_bare class.Imaginary t us = refl
large_bare class.Pi t us = refl
large_bare class.I t us = refl
large_bare class.Parameter t us = refl
large_bare (class.Region b) t us = refl
large_bare class.Index t us = refl
large_bare class.Function t us = refl
large_bare class.Additive t us = refl
large_bare class.Sign t us = refl
large_bare class.Multiplicative t us = refl
large_bare class.Caret t us = refl
large_bare class.Parenthesis t us = refl
large_bare class.ArgumentBegins t us = refl
large_bare class.ParenthesisEnds t us = refl
large_bare class.IndexBegins t us = refl
large_bare class.IndexEnds t us = refl
large_bare class.Declare t us = refl
large_bare class.CellType t us = refl
large_bare class.Length t us = refl
large_bare class.Sharing t us = refl
large_bare class.Offset t us = refl
large_bare class.OffsetCount t us = refl
large_bare class.Named t us = refl
large_bare class.DefGate t us = refl
large_bare class.As t us = refl
large_bare class.Matrix t us = refl
large_bare class.Permutation t us = refl
large_bare class.LeftOutForm t us = refl
large_bare class.DefCircuit t us = refl
large_bare class.Colon t us = refl
large_bare class.Comma t us = refl
large_bare class.ListBegins t us = refl
large_bare class.ListEnds t us = refl
large_bare class.TakenParameter t us = refl
large_bare class.Entry t us = refl
large_bare class.Modifier t us = refl
large_bare class.Forked t us = refl
large_bare class.FifthForked t us = refl
large_bare class.Gate t us = refl
large_bare class.Qubit t us = refl
large_bare class.Measure t us = refl
large_bare class.Reset t us = refl
large_bare class.Bare t us = refl
large_bare class.Pragma t us = refl
large_bare class.Any t us = refl
large_bare class.LabelWord t us = refl
large_bare class.JumpIf t us = refl
large_bare class.Label t us = refl
large_bare class.UnaryWord t us = refl
large_bare class.PairWord t us = refl
large_bare class.BinaryWord t us = refl
large_bare class.Load t us = refl
large_bare class.Store t us = refl
large_bare class.CompareWord t us = refl
large_bare class.LeftOut t us = refl
large_bare class.Nothing t us = refl
large_bare class.OperandNumber t us = wide_bare (t ∷ us)
large_bare class.OperandSign t us = wide_bare us

-- what the shape makes of no token has no place
abbrev is_placeless : Event → Bool
is_placeless (Index w) = true
is_placeless Joined = true
is_placeless Closes = true
is_placeless (Makes (Counts w)) = true
is_placeless o = false

placeless_bare : (o : Event) → is_placeless o ≡ true → bare_event o ≡ o
placeless_bare (Index w) h = refl
placeless_bare Joined h = refl
placeless_bare Closes h = refl
placeless_bare (Makes (Counts w)) h = refl
placeless_bare (Makes (Says p c s)) h = absurd (cc)
placeless_bare (Makes (Names n)) h = absurd (cc)
placeless_bare (Makes (Takes n)) h = absurd (cc)
placeless_bare (Makes (Acts q)) h = absurd (cc)
placeless_bare (Makes (Keeps x)) h = absurd (cc)
placeless_bare (Stands p a) h = absurd (cc)
placeless_bare (Region p x) h = absurd (cc)
placeless_bare (Between o) h = refl
placeless_bare (Opens m) h = absurd (cc)

abbrev pub has_no_place : Shape Class Event Name → Bool
has_no_place (One k) = true
has_no_place (Emit o) = is_placeless o
has_no_place Empty = true
has_no_place (Seq a b) = has_no_place a && has_no_place b
has_no_place (Or a b) = has_no_place a && has_no_place b
has_no_place (Many a) = has_no_place a
has_no_place (Rule r) = true

abbrev pub NoPlace : Shape Class Event Name → Type 0
NoPlace s = has_no_place s ≡ true

body_no_place : (r : Name) → NoPlace (body_of r)
body_no_place (Sum b) = refl
body_no_place (Product b) = refl
body_no_place (Unary b) = refl
body_no_place (Power b) = refl
body_no_place (Primary b) = refl
body_no_place OperandSum = refl
body_no_place OperandProduct = refl
body_no_place OperandUnary = refl
body_no_place OperandPower = refl
body_no_place OperandPrimary = refl

abbrev bare_outcome : Outcome Event Token → Outcome Event Token
bare_outcome (Made os us) = Made (map bare_event os) (map bare us)
bare_outcome (Stuck us) = Stuck (map bare us)
bare_outcome (Large us) = Large (map bare us)

after_bare : (os : List Event) (out : Outcome Event Token) → bare_outcome (after os out) ≡ after (map bare_event os) (bare_outcome out)
after_bare os (Made ps us) = ap (λ xs. Made xs (map bare us)) (map-append bare_event os ps)
after_bare os (Stuck us) = refl
after_bare os (Large us) = refl

starts_bare : (s : Shape Class Event Name) (ts : List Token) → starts quil tables s (map bare ts) ≡ starts quil tables s ts
unfolding quil tables
starts_bare s [] = refl
starts_bare s (t ∷ ts) = refl

barred_bare : (s : Shape Class Event Name) (ts : List Token) → is_barred quil tables s (map bare ts) ≡ is_barred quil tables s ts
unfolding quil tables
barred_bare s [] = refl
barred_bare s (t ∷ ts) = refl

choice_bare : (a b : Shape Class Event Name) (ts : List Token) → (starts quil tables a ts || is_barred quil tables b ts) ≡ true → (starts quil tables a (map bare ts) || is_barred quil tables b (map bare ts)) ≡ true
choice_bare a b ts h = rw (starts_bare a ts, barred_bare b ts) h

reads_bare : {s : Shape Class Event Name} {ts : List Token} {out : Outcome Event Token} → NoPlace s → Reads quil tables s ts out → Reads quil tables s (map bare ts) (bare_outcome out)
unfolding quil tables
reads_bare n (Reads.one {c = k} {t = t} {ts = us} h l) = subst (λ xs. Reads quil tables (One k) (bare t ∷ map bare us) (Made xs (map bare us))) (value_bare k t) (Reads.one h (large_bare k t us ∙ l))
reads_bare n (Reads.one_large {c = k} {t = t} {ts = us} h l) = Reads.one_large h (large_bare k t us ∙ l)
reads_bare n (Reads.emit {o = o} {ts = ts}) = subst (λ x. Reads quil tables (Emit o) (map bare ts) (Made (x ∷ []) (map bare ts))) (sym (placeless_bare o n)) Reads.emit
reads_bare n Reads.empty = Reads.empty
reads_bare n (Reads.seq {a = a} {b = b} {ts = ts} {os = os} {out = out} r q) = subst (λ x. Reads quil tables (Seq a b) (map bare ts) x) (sym (after_bare os out)) (Reads.seq (reads_bare (and_parts _ _ n).0 r) (reads_bare (and_parts _ _ n).1 q))
reads_bare n (Reads.seq_stuck r) = Reads.seq_stuck (reads_bare (and_parts _ _ n).0 r)
reads_bare n (Reads.seq_large r) = Reads.seq_large (reads_bare (and_parts _ _ n).0 r)
reads_bare n (Reads.left {a = a} {b = b} {ts = ts} h r) = Reads.left (choice_bare a b ts h) (reads_bare (and_parts _ _ n).0 r)
reads_bare n (Reads.right {a = a} {b = b} {ts = ts} h r) = Reads.right (choice_bare b a ts h) (reads_bare (and_parts _ _ n).1 r)
reads_bare n (Reads.none {a = a} {ts = ts} h) = Reads.none (starts_bare a ts ∙ h)
reads_bare n (Reads.more {a = a} {ts = ts} {os = os} {out = out} h r q) = subst (λ x. Reads quil tables (Many a) (map bare ts) x) (sym (after_bare os out)) (Reads.more (starts_bare a ts ∙ h) (reads_bare n r) (reads_bare n q))
reads_bare n (Reads.more_stuck {a = a} {ts = ts} h r) = Reads.more_stuck (starts_bare a ts ∙ h) (reads_bare n r)
reads_bare n (Reads.more_large {a = a} {ts = ts} h r) = Reads.more_large (starts_bare a ts ∙ h) (reads_bare n r)
reads_bare n (Reads.rule {r = m} r) = Reads.rule (reads_bare (body_no_place m) r)
reads_bare n (Reads.barred {s = s} {ts = ts} h) = Reads.barred (barred_bare s ts ∙ h)

-- ---- whole lines, of shapes in which one token decides each choice

pub record ReadWith (s : Shape Class Event Name) (ts : List Token) (os : List Event) : Type 0 where
  pub made : List Event
  pub reads : Reads quil tables s ts (Made made [])
  pub same : map bare_event made ≡ os

module _ (s : Shape Class Event Name) (decided : is_decided_by_one_token quil tables s ≡ true) where
  -- a whole is read
  pub whole_reads : (ts : List Token) (os : List Event) → IsWhole quil s ts os → Reads quil tables s ts (Made os [])
  whole_reads ts os w =
      let some = some_outcome quil tables s decided ts in
      let only = verdict_only quil tables s decided ts some.0 some.1 in
      by some.0 some.1 (only.is_only (Read os) w)
    where
      by : (out : Outcome Event Token) → Reads quil tables s ts out → Read os ≡ verdict_of out → Reads quil tables s ts (Made os [])
      by (Made ps []) r e = let same : ps ≡ os = cc in subst (λ xs. Reads quil tables s ts (Made xs [])) same r
      by (Made ps (t ∷ us)) r e = absurd (cc)
      by (Stuck us) r e = absurd (cc)
      by (Large us) r e = absurd (cc)

  pub reads_whole : (ts : List Token) (os : List Event) → Reads quil tables s ts (Made os []) → IsWhole quil s ts os
  reads_whole ts os r = let only : IsOnlyVerdict quil s ts (Read os) = verdict_only quil tables s decided ts (Made os []) r in only.is_true

  -- tokens that are read where they stand nowhere are read where they stand
  pub placed_reads : NoPlace s → (ts : List Token) (os : List Event) → Reads quil tables s (map bare ts) (Made os []) → ReadWith s ts os
  placed_reads n ts os r =
      let some = some_outcome quil tables s decided ts in
      let only : IsOnlyVerdict quil s (map bare ts) (Read os) = verdict_only quil tables s decided (map bare ts) (Made os []) r in
      let other = verdict_only quil tables s decided (map bare ts) (bare_outcome some.0) (reads_bare n some.1) in
      by some.0 some.1 (other.is_only (Read os) only.is_true)
    where
      by : (out : Outcome Event Token) → Reads quil tables s ts out → Read os ≡ verdict_of (bare_outcome out) → ReadWith s ts os
      by (Made ps []) q e = record { made = ps; reads = q; same = cc }
      by (Made ps (t ∷ us)) q e = absurd (cc)
      by (Stuck us) q e = absurd (cc)
      by (Large us) q e = absurd (cc)
