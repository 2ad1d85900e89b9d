-- What is read of an operand: a whole number with a sign or without, or an expression.
use Rattle.std.proofs.Common.{◌≡◌, ℕ, ◌<◌, ◌≤◌, ◌^◌, ◌⊎◌, inl, inr, Bool, true, false, not, ◌||◌, ◌&&◌, List, [], ◌∷◌, ◌++◌, Some, None, refl, sym, ◌∙◌, ap, subst, append_assoc, append-nil}
use Rattle.std.specs.Prelude.{nat_lt, slice_get}
use Rattle.std.specs.List.{list_all}
use Rattle.std.proofs.lemmas.Bool.{and_parts, or_left, or_parts, not-true}
use Rattle.quil_shape.specs.Shape.Shape.{Rule}
use Rattle.quil_shape.specs.Condition.{is_clear, is_clear_rule, is_decided_by_one_token}
use Rattle.quil_shape.specs.Verdict.{IsOnlyVerdict}
use Rattle.quil_shape.specs.Verdict.Verdict.{Read, TooLarge}
use Rattle.quil_shape.proofs.Verdicts.{verdict_only}
use Rattle.quil_shape.specs.Whole.{Whole}
use Rattle.quil_shape.specs.Outcome.Outcome.{Made, Stuck, Large}
use Rattle.quil_shape.specs.Reads.{Advances, Halts, Exceeds}
use Rattle.quil_shape.proofs.Reading.{barred_halts, choice_first, choice_second, choice_not_first, empty_advances, emit_advances, many_ends, rule_reads, seq_advances, seq_exceeds_first, token_advances, token_exceeds, token_then_advances}
use Rattle.quil_shape.proofs.Sound.{HasWhole, stands}
use Rattle.quil_shape.proofs.Tests.{AreTrue, tables_are_true}
use Rattle.quil_tree.specs.declared.place.Place.{Place}
use Rattle.quil_tree.specs.declared.expr.Atom.TheVariants as atom
use Rattle.quil_tree.specs.declared.expr.Operator.{Operator}
use Rattle.quil_tree.specs.declared.expr.Sign.{Sign}
use Rattle.quil_tree.specs.declared.statement.Operand.{Operand}
use Rattle.quil_tree.specs.declared.statement.Operand.TheVariants as operand
use Rattle.quil_grammar.specs.Token.{Token}
use Rattle.quil_grammar.specs.Grammar.{quil, accepts, Event, Sum, Product, Unary, Power, Primary, OperandSum, OperandUnary, OperandPower, OperandPrimary, more_terms, more_factors, exponent, is_digit, whole_of, value_behind, sign_of, operator_of, function_of, is_operator_next, is_wide, is_wide_whole_next}
use Rattle.quil_grammar.specs.Tables.{tables}
use Rattle.quil_grammar.specs.Grammar.Event.{Stands, Between, Joined, Opens, Closes}
use Rattle.quil_grammar.specs.Grammar.Around.{Signed, Parenthesized, Argument}
use Rattle.quil_grammar.specs.Written.{Written, events, start, formula_of, operand_of}
use Rattle.quil_grammar.specs.Written.Written.{Alone, Joins, Within}
use Rattle.quil_grammar.specs.Literals.{is_plain_next, is_signed_next}
use Rattle.quil_grammar.specs.Frames.{IsFormulaRead, IsOperandRead, StopsFor}
use Rattle.quil_grammar.specs.declared.class.Class.TheVariants as class
use Rattle.quil_tree.specs.declared.statement.Formula.{Formula}
use Rattle.quil_grammar.specs.declared.stop.Stop.{Stop}
use Rattle.quil_grammar.specs.declared.stop.Stop.TheVariants as stop
use Rattle.quil_grammar.proofs.Heads.{no_region, second_false, operand_reads}
use Rattle.quil_grammar.proofs.Followers.{no_operator_behind}
use Rattle.quil_grammar.proofs.Verdicts.{decided}
use Rattle.quil_grammar.proofs.Wholes.{IsWriting, sum_is, product_is, unary_is}
use Rattle.quil_grammar.proofs.Writings.{same_written}
use Rattle.quil_grammar.proofs.Values.{fits, exceeds}

-- the token is no operator
record IsNone (t : Token) : Type 0 where
  term : accepts class.Additive t.sort ≡ false
  factor : accepts class.Multiplicative t.sort ≡ false
  caret : accepts class.Caret t.sort ≡ false

no_operator : (t : Token) (us : List Token) → is_operator_next (t ∷ us) ≡ false → IsNone t
no_operator t us e =
    let first = or_parts (accepts class.Additive t.sort) (accepts class.Multiplicative t.sort || accepts class.Caret t.sort) e in
    let second = or_parts (accepts class.Multiplicative t.sort) (accepts class.Caret t.sort) first.1 in
    record { term = first.0; factor = second.0; caret = second.1 }

-- behind an operand with no operator behind it nothing more of the expression is read
no_exponent : (us : List Token) → is_operator_next us ≡ false → Advances quil tables (exponent false) us us []
unfolding quil tables
no_exponent [] e = choice_not_first refl empty_advances
no_exponent (t ∷ us) e = let c = (no_operator t us e).caret in choice_not_first (rw c refl) empty_advances

no_factors : (us : List Token) → is_operator_next us ≡ false → Advances quil tables (more_factors false) us us []
unfolding quil tables
no_factors [] e = many_ends refl
no_factors (t ∷ us) e = let c = (no_operator t us e).factor in many_ends (rw c refl)

no_terms : (us : List Token) → is_operator_next us ≡ false → Advances quil tables (more_terms false) us us []
unfolding quil tables
no_terms [] e = many_ends refl
no_terms (t ∷ us) e = let c = (no_operator t us e).term in many_ends (rw c refl)

pub unary_number : (t : Token) (us : List Token) → accepts class.Number t.sort ≡ true → is_operator_next us ≡ false → Advances quil tables (Rule (Unary false)) (t ∷ us) us (Stands t.place (atom.Number t.text) ∷ [])
unfolding quil tables
unary_number t us a e = rule_reads (choice_second (or_left _ _ a) (rule_reads (seq_advances (rule_reads (choice_first a (token_advances a refl))) (no_exponent us e))))

-- a whole number
number_operand : (t : Token) (us : List Token) → accepts class.Number t.sort ≡ true → is_operator_next us ≡ false → is_wide_whole_next (t ∷ us) ≡ false → Advances quil tables (Rule OperandSum) (t ∷ us) us (Stands t.place (atom.Number t.text) ∷ [])
unfolding quil tables
number_operand t us a e l =
    rule_reads (seq_advances (rule_reads (seq_advances (rule_reads (choice_second (or_left _ _ a) (rule_reads (seq_advances (rule_reads (choice_first a (token_advances a l))) (no_exponent us e))))) (no_factors us e))) (no_terms us e))

number_exceeds : (t : Token) (us : List Token) → accepts class.Number t.sort ≡ true → is_wide_whole_next (t ∷ us) ≡ true → Exceeds quil tables (Rule OperandSum) (t ∷ us) (t ∷ us)
unfolding quil tables
number_exceeds t us a l =
    rule_reads (seq_exceeds_first (rule_reads (seq_exceeds_first (rule_reads (choice_second (or_left _ _ a) (rule_reads (seq_exceeds_first (rule_reads (choice_first a (token_exceeds a l))))))))))

-- a whole number behind a sign
signed_operand_read : (s t : Token) (us : List Token) → accepts class.Sign s.sort ≡ true → accepts class.Number t.sort ≡ true → is_operator_next us ≡ false → is_wide_whole_next (t ∷ us) ≡ false → Advances quil tables (Rule OperandSum) (s ∷ t ∷ us) us (Opens (Signed s.place (sign_of s.sort)) ∷ Stands t.place (atom.Number t.text) ∷ Closes ∷ [])
unfolding quil tables
signed_operand_read s t us b a e l =
    rule_reads (seq_advances (rule_reads (seq_advances (rule_reads (choice_first (or_left _ _ b) (token_then_advances b l (seq_advances (unary_number t us a e) emit_advances)))) (no_factors us e))) (no_terms us e))

signed_exceeds : (s t : Token) (us : List Token) → accepts class.Sign s.sort ≡ true → is_wide_whole_next (t ∷ us) ≡ true → Exceeds quil tables (Rule OperandSum) (s ∷ t ∷ us) (s ∷ t ∷ us)
unfolding quil tables
signed_exceeds s t us b l =
    rule_reads (seq_exceeds_first (rule_reads (seq_exceeds_first (rule_reads (choice_first (or_left _ _ b) (seq_exceeds_first (token_exceeds b l)))))))

-- what such a number is
record Plain (t : Token) (us : List Token) : Type 0 where
  is_number : accepts class.Number t.sort ≡ true
  all_digits : list_all is_digit t.text ≡ true
  no_operator : is_operator_next us ≡ false

plain_parts : (t : Token) (us : List Token) → is_plain_next (t ∷ us) ≡ true → Plain t us
plain_parts t us e =
    let both = and_parts _ _ e in
    let number = and_parts _ _ both.0 in
    record { is_number = number.0; all_digits = number.1; no_operator = not-true _ both.1 }

wide_by : (t : Token) (us : List Token) → Plain t us → is_wide_whole_next (t ∷ us) ≡ is_wide t
wide_by t us p = let a = p.is_number in let d = p.all_digits in let n = p.no_operator in by_width (is_wide t) (accepts class.Number t.sort) (is_operator_next us) (list_all is_digit t.text) a d n
  where
    by_width : (w a o : Bool) (d : Bool) → a ≡ true → d ≡ true → o ≡ false → ((a && d) && (w && not o)) ≡ w
    by_width true a o d e f g = rw (e, f, g) refl
    by_width false a o d e f g = rw (e, f) refl

-- the exits of the reader
pub plain_read : (ts us : List Token) (t : Token) (p : Place) (x : List ℕ) (o : Operand) → ts ≡ t ∷ us → is_plain_next ts ≡ true → p ≡ t.place → x ≡ t.text → o ≡ operand.Literal p None (whole_of x) → value_behind 0 x < 2 ^ 64 → IsOperandRead ts us o
plain_read ts us t p x o e f g h i j =
    let parts = plain_parts t us (subst (λ xs. is_plain_next xs ≡ true) e f) in
    let d = parts.all_digits in
    rw (e, i, g, h)
    (record {
      written = Alone t.place (atom.Number t.text);
      advances = number_operand t us parts.is_number parts.no_operator (wide_by t us parts ∙ fits _ (subst (λ y. value_behind 0 y < 2 ^ 64) h j));
      is_meaning = rw d refl;
    })

pub plain_stops : (ts us : List Token) (t : Token) (x : List ℕ) (s : Stop) → ts ≡ t ∷ us → is_plain_next ts ≡ true → x ≡ t.text → (s ≡ stop.OutOfMemory) ⊎ ((s ≡ stop.TooLarge) × (2 ^ 64 ≤ value_behind 0 x)) → StopsFor s (Rule OperandSum) ts ts
plain_stops ts us t x s e f h (inl i) = rw i tt
plain_stops ts us t x s e f h (inr i) =
    let parts = plain_parts t us (subst (λ xs. is_plain_next xs ≡ true) e f) in
    rw (i.0, e) (number_exceeds t us parts.is_number (wide_by t us parts ∙ exceeds _ (subst (λ y. 2 ^ 64 ≤ value_behind 0 y) h i.1)))

pub signed_read : (ts us : List Token) (s t : Token) (p : Place) (sign : Sign) (x : List ℕ) (o : Operand) → ts ≡ s ∷ t ∷ us → is_signed_next ts ≡ true → p ≡ s.place → sign ≡ sign_of s.sort → x ≡ t.text → o ≡ operand.Literal p (Some sign) (whole_of x) → value_behind 0 x < 2 ^ 64 → IsOperandRead ts us o
signed_read ts us s t p sign x o e f g k h i j =
    let both = and_parts (accepts class.Sign s.sort) (is_plain_next (t ∷ us)) (subst (λ xs. is_signed_next xs ≡ true) e f) in
    let parts = plain_parts t us both.1 in
    let d = parts.all_digits in
    rw (e, i, g, k, h)
    (record {
      written = Within (Signed s.place (sign_of s.sort)) (Alone t.place (atom.Number t.text));
      advances = signed_operand_read s t us both.0 parts.is_number parts.no_operator (wide_by t us parts ∙ fits _ (subst (λ y. value_behind 0 y < 2 ^ 64) h j));
      is_meaning = rw d refl;
    })

pub signed_stops : (ts us : List Token) (s t : Token) (x : List ℕ) (w : Stop) → ts ≡ s ∷ t ∷ us → is_signed_next ts ≡ true → x ≡ t.text → (w ≡ stop.OutOfMemory) ⊎ ((w ≡ stop.TooLarge) × (2 ^ 64 ≤ value_behind 0 x)) → StopsFor w (Rule OperandSum) ts ts
signed_stops ts us s t x w e f h (inl i) = rw i tt
signed_stops ts us s t x w e f h (inr i) =
    let both = and_parts (accepts class.Sign s.sort) (is_plain_next (t ∷ us)) (subst (λ xs. is_signed_next xs ≡ true) e f) in
    let parts = plain_parts t us both.1 in
    rw (i.0, e) (signed_exceeds s t us both.0 (wide_by t us parts ∙ exceeds _ (subst (λ y. 2 ^ 64 ≤ value_behind 0 y) h i.1)))

pub no_operand : (ts : List Token) → slice_get ts 0 ≡ None → Halts quil tables (Rule OperandSum) ts ts
unfolding quil tables
no_operand [] e = barred_halts refl
no_operand (t ∷ ts) e = absurd (cc)

-- the first token stands there
Begins : List Token → Place → Type 0
Begins [] p = ⊥
Begins (t ∷ ts) p = p ≡ t.place

begins_more : (ts us : List Token) (p : Place) → Begins ts p → Begins (ts ++ us) p
unfolding Begins
begins_more [] us p h = absurd h
begins_more (t ∷ ts) us p h = h

-- what is no operator between operands: a number is one token, a sign is the first, and there is no cell
Spells : Written → List Token → Type 0
Spells (Alone p (atom.Number x)) ts = (t : Token) × (ts ≡ t ∷ []) × (accepts class.Number t.sort ≡ true) × (x ≡ t.text)
Spells (Alone p (atom.Cell a)) ts = ⊥
Spells (Within (Signed p s) w) ts = (t : Token) × (us : List Token) × (ts ≡ t ∷ us) × (accepts class.Sign t.sort ≡ true) × Spells w us
Spells w ts = Unit {0}

record Spelled (ts : List Token) (os : List Event) : Type 0 where
  written : Written
  same : os ≡ events written
  begins : Begins ts (start written)
  spells : Spells written ts

-- the same with nothing behind it, or in other parentheses
with_nothing : {ts : List Token} {os : List Event} → Spelled ts os → Spelled (ts ++ []) (os ++ [])
with_nothing {ts = ts} {os = os} s = subst (λ xs. Spelled xs (os ++ [])) (sym (append-nil ts)) (subst (λ ps. Spelled ts ps) (sym (append-nil os)) s)

regrouped : (ts us vs : List Token) (os ps qs : List Event) → Spelled ((ts ++ us) ++ vs) ((os ++ ps) ++ qs) → Spelled (ts ++ (us ++ vs)) (os ++ (ps ++ qs))
regrouped ts us vs os ps qs s = subst (λ xs. Spelled xs (os ++ (ps ++ qs))) (append_assoc ts us vs) (subst (λ xs. Spelled ((ts ++ us) ++ vs) xs) (append_assoc os ps qs) s)

joined : {ts : List Token} {os qs : List Event} (us : List Token) (o : Operator) → Spelled ts os → IsWriting qs → Spelled (ts ++ us) (os ++ (Between o ∷ (qs ++ Joined ∷ [])))
unfolding Spells
joined {ts = ts} {qs = qs} us o a b =
    record {
      written = Joins o a.written b.written;
      same = ap (λ xs. xs ++ (Between o ∷ (qs ++ Joined ∷ []))) a.same ∙ ap (λ xs. events a.written ++ (Between o ∷ (xs ++ Joined ∷ []))) b.same;
      begins = begins_more ts us (start a.written) a.begins;
      spells = tt;
    }

primary_spells : {ts : List Token} {os : List Event} → Whole quil (Rule (Primary false)) ts os → Spelled ts os
unfolding quil Begins Spells
primary_spells (Whole.rule (Whole.left (Whole.one {t = t} h))) = record { written = Alone t.place (atom.Number t.text); same = refl; begins = refl; spells = (t, refl, h, refl) }
primary_spells (Whole.rule (Whole.right (Whole.left (Whole.one {t = t} h)))) = record { written = Alone t.place (atom.Imaginary t.text); same = refl; begins = refl; spells = tt }
primary_spells (Whole.rule (Whole.right (Whole.right (Whole.left (Whole.one {t = t} h))))) = record { written = Alone t.place atom.Pi; same = refl; begins = refl; spells = tt }
primary_spells (Whole.rule (Whole.right (Whole.right (Whole.right (Whole.left (Whole.one {t = t} h)))))) = record { written = Alone t.place atom.I; same = refl; begins = refl; spells = tt }
primary_spells (Whole.rule (Whole.right (Whole.right (Whole.right (Whole.right (Whole.left (Whole.one {t = t} h))))))) = record { written = Alone t.place (atom.Parameter t.number); same = refl; begins = refl; spells = tt }
primary_spells (Whole.rule (Whole.right (Whole.right (Whole.right (Whole.right (Whole.right (Whole.left (Whole.seq (Whole.one {t = t} h) w)))))))) = absurd (no_region _ h)
primary_spells (Whole.rule (Whole.right (Whole.right (Whole.right (Whole.right (Whole.right (Whole.right (Whole.left (Whole.seq (Whole.one {t = t} h) (Whole.seq (Whole.one k) (Whole.seq p (Whole.seq (Whole.one l) Whole.emit))))))))))))
    = let a = sum_is p in
    record { written = Within (Argument t.place (function_of t.sort)) a.written; same = ap (λ xs. Opens (Argument t.place (function_of t.sort)) ∷ (xs ++ Closes ∷ [])) a.same; begins = refl; spells = tt }
primary_spells (Whole.rule (Whole.right (Whole.right (Whole.right (Whole.right (Whole.right (Whole.right (Whole.right (Whole.seq (Whole.one {t = t} h) (Whole.seq p (Whole.seq (Whole.one l) Whole.emit)))))))))))
    = let a = sum_is p in
    record { written = Within (Parenthesized t.place) a.written; same = ap (λ xs. Opens (Parenthesized t.place) ∷ (xs ++ Closes ∷ [])) a.same; begins = refl; spells = tt }

power_spells : {ts : List Token} {os : List Event} → Whole quil (Rule (Power false)) ts os → Spelled ts os
unfolding quil
power_spells (Whole.rule (Whole.seq p (Whole.left (Whole.seq (Whole.one {t = t} h) (Whole.seq q Whole.emit))))) = joined _ (operator_of t.sort) (primary_spells p) (unary_is q)
power_spells (Whole.rule (Whole.seq p (Whole.right Whole.empty))) = with_nothing (primary_spells p)

unary_spells : {ts : List Token} {os : List Event} → Whole quil (Rule (Unary false)) ts os → Spelled ts os
unfolding quil Begins Spells
unary_spells (Whole.rule (Whole.left (Whole.seq (Whole.one {t = t} h) (Whole.seq {ts = us} p Whole.emit)))) =
    let a = unary_spells p in
    record {
      written = Within (Signed t.place (sign_of t.sort)) a.written;
      same = ap (λ xs. Opens (Signed t.place (sign_of t.sort)) ∷ (xs ++ Closes ∷ [])) a.same;
      begins = refl;
      spells = (t, us, ap (λ xs. t ∷ xs) (append-nil us), h, a.spells);
    }
unary_spells (Whole.rule (Whole.right p)) = power_spells p

factors_spell : {us : List Token} {ps : List Event} → Whole quil (more_factors false) us ps → {ts : List Token} {os : List Event} → Spelled ts os → Spelled (ts ++ us) (os ++ ps)
unfolding quil
factors_spell Whole.none a = with_nothing a
factors_spell (Whole.more {us = vs} {ps = qs} (Whole.seq (Whole.one {t = t} h) (Whole.seq {ts = us} {os = ps} q Whole.emit)) m) {ts = ts} {os = os} a =
    regrouped ts (t ∷ (us ++ [])) vs os (Between (operator_of t.sort) ∷ (ps ++ Joined ∷ [])) qs (factors_spell m (joined (t ∷ (us ++ [])) (operator_of t.sort) a (unary_is q)))

product_spells : {ts : List Token} {os : List Event} → Whole quil (Rule (Product false)) ts os → Spelled ts os
unfolding quil
product_spells (Whole.rule (Whole.seq p m)) = factors_spell m (unary_spells p)

terms_spell : {us : List Token} {ps : List Event} → Whole quil (more_terms false) us ps → {ts : List Token} {os : List Event} → Spelled ts os → Spelled (ts ++ us) (os ++ ps)
unfolding quil
terms_spell Whole.none a = with_nothing a
terms_spell (Whole.more {us = vs} {ps = qs} (Whole.seq (Whole.one {t = t} h) (Whole.seq {ts = us} {os = ps} q Whole.emit)) m) {ts = ts} {os = os} a =
    regrouped ts (t ∷ (us ++ [])) vs os (Between (operator_of t.sort) ∷ (ps ++ Joined ∷ [])) qs (terms_spell m (joined (t ∷ (us ++ [])) (operator_of t.sort) a (product_is q)))

sum_spells : {ts : List Token} {os : List Event} → Whole quil (Rule (Sum false)) ts os → Spelled ts os
unfolding quil
sum_spells (Whole.rule (Whole.seq p m)) = terms_spell m (product_spells p)

-- where no whole number is all that comes next, a number with no operator behind it isn't written by digits alone
not_digits : (t : Token) (us : List Token) → accepts class.Number t.sort ≡ true → is_operator_next us ≡ false → is_plain_next (t ∷ us) ≡ false → list_all is_digit t.text ≡ false
not_digits t us a n e = by_digits _ _ _ a n e
  where
    by_digits : (a d o : Bool) → a ≡ true → o ≡ false → ((a && d) && not o) ≡ false → d ≡ false
    by_digits true true true e f g = absurd (cc)
    by_digits true true false e f g = absurd (cc)
    by_digits true false o e f g = refl
    by_digits false d o e f g = absurd (cc)

not_literal : (w : Written) (before us : List Token) → Spells w before → is_operator_next us ≡ false → is_plain_next (before ++ us) ≡ false → is_signed_next (before ++ us) ≡ false → operand_of w ≡ operand.Formula (formula_of w)
unfolding Spells
not_literal (Alone p (atom.Cell a)) before us h n e f = absurd h
not_literal (Alone p (atom.Number x)) before us h n e f =
    let d : list_all is_digit x ≡ false = ap (λ y. list_all is_digit y) h.3 ∙ not_digits h.0 us h.2 n (subst (λ xs. is_plain_next (xs ++ us) ≡ false) h.1 e) in
    rw d refl
not_literal (Alone p (atom.Imaginary x)) before us h n e f = refl
not_literal (Alone p atom.Pi) before us h n e f = refl
not_literal (Alone p atom.I) before us h n e f = refl
not_literal (Alone p (atom.Parameter m)) before us h n e f = refl
not_literal (Joins o a b) before us h n e f = refl
not_literal (Within (Parenthesized p) w) before us h n e f = refl
not_literal (Within (Argument p g) w) before us h n e f = refl
not_literal (Within (Signed p s) (Alone q (atom.Number x))) before us h n e f =
    let k = h.4 in
    let g : is_signed_next (h.0 ∷ k.0 ∷ us) ≡ false = subst (λ xs. is_signed_next ((h.0 ∷ xs) ++ us) ≡ false) k.1 (subst (λ xs. is_signed_next (xs ++ us) ≡ false) h.2 f) in
    let d : list_all is_digit x ≡ false = ap (λ y. list_all is_digit y) k.3 ∙ not_digits k.0 us k.2 n (second_false _ _ h.3 g) in
    rw d refl
not_literal (Within (Signed p s) (Alone q (atom.Cell a))) before us h n e f = refl
not_literal (Within (Signed p s) (Alone q (atom.Imaginary x))) before us h n e f = refl
not_literal (Within (Signed p s) (Alone q atom.Pi)) before us h n e f = refl
not_literal (Within (Signed p s) (Alone q atom.I)) before us h n e f = refl
not_literal (Within (Signed p s) (Alone q (atom.Parameter m))) before us h n e f = refl
not_literal (Within (Signed p s) (Joins o a b)) before us h n e f = refl
not_literal (Within (Signed p s) (Within m w)) before us h n e f = refl

true_tables : AreTrue quil tables
true_tables = tables_are_true quil tables (and_parts (is_clear quil tables (λ k. false) (Rule (Sum false))) (list_all (is_clear_rule quil tables) tables.rules.items) (decided false)).1

pub formula_read : (ts us : List Token) (f : Formula) → is_plain_next ts ≡ false → is_signed_next ts ≡ false → IsFormulaRead false ts us f → IsOperandRead ts us (operand.Formula f)
formula_read ts us f g h r =
    let whole : HasWhole quil (Rule (Sum false)) ts us (events r.written) = stands quil tables true_tables r.advances in
    let s = sum_spells whole.whole in
    let same : r.written ≡ s.written = same_written r.written s.written s.same in
    let plain : is_plain_next (whole.before ++ us) ≡ false = subst (λ xs. is_plain_next xs ≡ false) whole.splits g in
    let signed : is_signed_next (whole.before ++ us) ≡ false = subst (λ xs. is_signed_next xs ≡ false) whole.splits h in
    let formula : operand_of s.written ≡ operand.Formula (formula_of s.written) = not_literal s.written whole.before us s.spells (no_operator_behind r.advances) plain signed in
    record {
      written = r.written;
      advances = operand_reads ts (Made (events r.written) us) g h r.advances;
      is_meaning = rw (r.is_meaning, same) (sym formula);
    }

pub formula_stops : (ts us : List Token) (x : Stop) → is_plain_next ts ≡ false → is_signed_next ts ≡ false → StopsFor x (Rule (Sum false)) ts us → StopsFor x (Rule OperandSum) ts us
formula_stops ts us stop.OutOfMemory f g h = tt
formula_stops ts us stop.Unexpected f g h = operand_reads ts (Stuck us) f g h
formula_stops ts us stop.TooLarge f g h = operand_reads ts (Large us) f g h

-- An operand's tokens are those of a sum, if one doesn't ask how large they are.
primary_as_sum : {ts : List Token} {os : List Event} → Whole quil (Rule OperandPrimary) ts os → Whole quil (Rule (Primary false)) ts os
unfolding quil
primary_as_sum (Whole.rule (Whole.left (Whole.one {t = t} h))) = Whole.rule (Whole.left (Whole.one {c = class.Number} {t = t} h))
primary_as_sum (Whole.rule (Whole.right (Whole.left w))) = Whole.rule (Whole.right (Whole.left w))
primary_as_sum (Whole.rule (Whole.right (Whole.right (Whole.left w)))) = Whole.rule (Whole.right (Whole.right (Whole.left w)))
primary_as_sum (Whole.rule (Whole.right (Whole.right (Whole.right (Whole.left w))))) = Whole.rule (Whole.right (Whole.right (Whole.right (Whole.left w))))
primary_as_sum (Whole.rule (Whole.right (Whole.right (Whole.right (Whole.right (Whole.left w)))))) = Whole.rule (Whole.right (Whole.right (Whole.right (Whole.right (Whole.left w)))))
primary_as_sum (Whole.rule (Whole.right (Whole.right (Whole.right (Whole.right (Whole.right w)))))) = Whole.rule (Whole.right (Whole.right (Whole.right (Whole.right (Whole.right (Whole.right w))))))

power_as_sum : {ts : List Token} {os : List Event} → Whole quil (Rule OperandPower) ts os → Whole quil (Rule (Power false)) ts os
unfolding quil
power_as_sum (Whole.rule (Whole.seq w v)) = Whole.rule (Whole.seq (primary_as_sum w) v)

unary_as_sum : {ts : List Token} {os : List Event} → Whole quil (Rule OperandUnary) ts os → Whole quil (Rule (Unary false)) ts os
unfolding quil
unary_as_sum (Whole.rule (Whole.left (Whole.seq (Whole.one {t = t} h) v))) = Whole.rule (Whole.left (Whole.seq (Whole.one {c = class.Sign} {t = t} h) v))
unary_as_sum (Whole.rule (Whole.right w)) = Whole.rule (Whole.right (power_as_sum w))

operand_as_sum : {ts : List Token} {os : List Event} → Whole quil (Rule OperandSum) ts os → Whole quil (Rule (Sum false)) ts os
unfolding quil
operand_as_sum (Whole.rule (Whole.seq (Whole.rule (Whole.seq w v)) u)) = Whole.rule (Whole.seq (Whole.rule (Whole.seq (unary_as_sum w) v)) u)

operand_spells : (ts us : List Token) (os : List Event) → Advances quil tables (Rule OperandSum) ts us os → (before : List Token) × (ts ≡ before ++ us) × Spelled before os
operand_spells ts us os r = let h = stands quil tables true_tables r in (h.before, h.splits, sum_spells (operand_as_sum h.whole))

operand_decided : is_decided_by_one_token quil tables (Rule OperandSum) ≡ true
unfolding quil tables
operand_decided = refl

not_both_ways : (ts vs : List Token) (os : List Event) → Advances quil tables (Rule OperandSum) ts [] os → Exceeds quil tables (Rule OperandSum) ts vs → ⊥
not_both_ways ts vs os r q =
    let a : IsOnlyVerdict quil (Rule OperandSum) ts (Read os) = verdict_only quil tables (Rule OperandSum) operand_decided ts (Made os []) r in
    let b : IsOnlyVerdict quil (Rule OperandSum) ts (TooLarge vs) = verdict_only quil tables (Rule OperandSum) operand_decided ts (Large vs) q in
    let same : Read os ≡ TooLarge vs = b.is_only (Read os) a.is_true in
    cc

-- A whole number that is all of an operand is below 2^64.
abbrev pub IsBelow : List ℕ → Type 0
IsBelow x = list_all is_digit x ≡ true → not (nat_lt (value_behind 0 x) (2 ^ 64)) ≡ false

abbrev pub IsSmall : Written → Type 0
IsSmall (Alone p (atom.Number x)) = IsBelow x
IsSmall (Within (Signed p s) (Alone q (atom.Number x))) = IsBelow x
IsSmall w = Unit {0}

below : (ts : List Token) (t : Token) (x : List ℕ) → accepts class.Number t.sort ≡ true → x ≡ t.text → (is_wide_whole_next (t ∷ []) ≡ true → ⊥) → IsBelow x
below ts t x a e none d =
    let digits : list_all is_digit t.text ≡ true = subst (λ y. list_all is_digit y ≡ true) e d in
    by (is_wide t) refl digits
  where
    by : (b : Bool) → is_wide t ≡ b → list_all is_digit t.text ≡ true → not (nat_lt (value_behind 0 x) (2 ^ 64)) ≡ false
    by false w g = subst (λ y. not (nat_lt (value_behind 0 y) (2 ^ 64)) ≡ false) (sym e) w
    by true w g = absurd (none (wide_by t [] (record { is_number = a; all_digits = g; no_operator = refl }) ∙ w))

number_is_small : (ts before : List Token) (os : List Event) (x : List ℕ) → Advances quil tables (Rule OperandSum) ts [] os → ts ≡ before ++ [] → (t : Token) × (before ≡ t ∷ []) × (accepts class.Number t.sort ≡ true) × (x ≡ t.text) → IsBelow x
number_is_small ts before os x r e h =
    let tokens : ts ≡ h.0 ∷ [] = e ∙ append-nil before ∙ h.1 in
    below ts h.0 x h.2 h.3 (λ wide. not_both_ways (h.0 ∷ []) (h.0 ∷ []) os (subst (λ us. Advances quil tables (Rule OperandSum) us [] os) tokens r) (number_exceeds h.0 [] h.2 wide))

spelled_is_small : (ts before : List Token) (os : List Event) (w : Written) → Advances quil tables (Rule OperandSum) ts [] os → ts ≡ before ++ [] → Spells w before → IsSmall w
unfolding Spells
spelled_is_small ts before os (Alone p (atom.Number x)) r e h = number_is_small ts before os x r e h
spelled_is_small ts before os (Within (Signed p s) (Alone q (atom.Number x))) r e h =
    let k = h.4 in
    let t = k.0 in
    let tokens : ts ≡ h.0 ∷ t ∷ [] = e ∙ append-nil before ∙ h.2 ∙ ap (λ us. h.0 ∷ us) k.1 in
    below ts t x k.2 k.3 (λ wide. not_both_ways (h.0 ∷ t ∷ []) (h.0 ∷ t ∷ []) os (subst (λ us. Advances quil tables (Rule OperandSum) us [] os) tokens r) (signed_exceeds h.0 t [] h.3 wide))
spelled_is_small ts before os (Alone p (atom.Imaginary x)) r e h = tt
spelled_is_small ts before os (Alone p atom.Pi) r e h = tt
spelled_is_small ts before os (Alone p atom.I) r e h = tt
spelled_is_small ts before os (Alone p (atom.Parameter n)) r e h = tt
spelled_is_small ts before os (Alone p (atom.Cell a)) r e h = tt
spelled_is_small ts before os (Joins o a b) r e h = tt
spelled_is_small ts before os (Within (Parenthesized p) w) r e h = tt
spelled_is_small ts before os (Within (Argument p f) w) r e h = tt
spelled_is_small ts before os (Within (Signed p s) (Alone q (atom.Imaginary x))) r e h = tt
spelled_is_small ts before os (Within (Signed p s) (Alone q atom.Pi)) r e h = tt
spelled_is_small ts before os (Within (Signed p s) (Alone q atom.I)) r e h = tt
spelled_is_small ts before os (Within (Signed p s) (Alone q (atom.Parameter n))) r e h = tt
spelled_is_small ts before os (Within (Signed p s) (Alone q (atom.Cell a))) r e h = tt
spelled_is_small ts before os (Within (Signed p s) (Joins o a b)) r e h = tt
spelled_is_small ts before os (Within (Signed p s) (Within m w)) r e h = tt

-- what is read as an operand, up to the end, is a written expression; a whole number alone is below 2^64
pub operand_is_written : (ts : List Token) (os : List Event) → Advances quil tables (Rule OperandSum) ts [] os → (w : Written) × (os ≡ events w) × IsSmall w
operand_is_written ts os r = let h = operand_spells ts [] os r in let s = h.2 in (s.written, s.same, spelled_is_small ts h.0 os s.written r h.1 s.spells)
