-- The text of an operand is read as that operand again, up to places.
use Rattle.std.proofs.Common.{◌≡◌, ℕ, ◌<◌, ◌^◌, Bool, true, false, not, ◌&&◌, inl, inr, List, [], ◌∷◌, ◌++◌, map, Option, Some, None, refl, sym, ◌∙◌, ap, ap₂, subst, append-nil, ltb-true, arith}
use Rattle.std.specs.Prelude.{nat_lt}
use Rattle.std.specs.List.{list_all}
use Rattle.std.specs.Char.{is_ascii_digit}
use Rattle.std.proofs.lemmas.Bool.{and_parts, and_from, or_left, or_right, not-true}
use Rattle.std.proofs.lemmas.Bool.Decides.{nat_tests}
use Rattle.quil_lex.specs.declared.token.Kind.{Kind}
use Rattle.quil_lex.specs.declared.token.Kind.TheVariants as kind
use Rattle.quil_lex.specs.declared.token.Mark.{Mark}
use Rattle.quil_lex.specs.declared.token.Mark.TheVariants as mark
use Rattle.quil_lex.specs.Token.{byte_of, is_digits}
use Rattle.quil_lex.specs.Written.{Word, AreApart, words_bytes}
use Rattle.quil_shape.specs.Shape.Shape.{Rule}
use Rattle.quil_shape.specs.Condition.{opens}
use Rattle.quil_shape.specs.Outcome.Outcome.{Made}
use Rattle.quil_shape.specs.Reads.{Advances}
use Rattle.quil_shape.specs.Verdict.Verdict.{Read, Refused}
use Rattle.quil_shape.proofs.Reading.{choice_first, choice_second}
use Rattle.quil_shape.proofs.Verdicts.{verdict_only}
use Rattle.quil_tree.specs.declared.place.Place.{Place}
use Rattle.quil_tree.specs.declared.expr.Whole.{Whole}
use Rattle.quil_tree.specs.declared.expr.Address.{Address}
use Rattle.quil_tree.specs.declared.expr.Atom.TheVariants as atom
use Rattle.quil_tree.specs.declared.expr.Sign.{Sign}
use Rattle.quil_tree.specs.declared.expr.Sign.TheVariants as sign
use Rattle.quil_tree.specs.declared.statement.Formula.{Formula}
use Rattle.quil_tree.specs.declared.statement.Operand.{Operand}
use Rattle.quil_tree.specs.declared.statement.Operand.TheVariants as operands
use Rattle.quil_tree.specs.Expression.{Expression, postfix, trees}
use Rattle.quil_tree.specs.Expression.Expression.{Leaf, Signed as SignedTree, Applied, Called}
use Rattle.quil_tree.specs.Printed.{address_text, enclosed, expression_text, first_text, formula_text, is_whole_alone, maybe_sign, operand_text}
use Rattle.quil_tree.proofs.Postfix.{trees_of_postfix}
use Rattle.quil_grammar.specs.declared.class.Class.TheVariants as class
use Rattle.quil_grammar.specs.Token.{Token, Context}
use Rattle.quil_grammar.specs.Grammar.{quil, accepts, is_digit, is_operator_next, is_whole_number, sign_of, value_behind, Sum, OperandSum, Unary, Event}
use Rattle.quil_grammar.specs.Tables.{tables, opens_rule, opens_primary}
use Rattle.quil_grammar.specs.Grammar.Event.{Stands}
use Rattle.quil_grammar.specs.Grammar.Around.{Signed, Parenthesized}
use Rattle.quil_grammar.specs.Written.{Written, events, formula_of, meaning, operand_of, start}
use Rattle.quil_grammar.specs.Written.Written.{Alone, Within}
use Rattle.quil_grammar.specs.Frames.{IsOperandRead}
use Rattle.quil_grammar.specs.Literals.{is_plain_next, is_signed_next}
use Rattle.quil_grammar.specs.Statements.{address, operand}
use Rattle.quil_grammar.proofs.Atoms.{number_read}
use Rattle.quil_grammar.proofs.Literals.{plain_read, signed_read, formula_read, unary_number}
use Rattle.quil_grammar.proofs.Verdicts.{decided}
use Rattle.quil_grammar.proofs.Writings.{same_written}
use Rattle.quil_round_trip.specs.Unplaced.{origin, bare_step, bare_formula, bare_operand}
use Rattle.quil_round_trip.proofs.Words.{tok, toks}
use Rattle.quil_round_trip.proofs.Values.{IsIndex, IsCell, IsExpression, IsSoundOperand}
use Rattle.quil_round_trip.proofs.Pieces.{Piece, NoOperator}
use Rattle.quil_round_trip.proofs.Expressions.{canon, canon_start, canon_means, bare_postfix, expression_piece, address_piece, primary_sum, sum_enclosed, as_unary, as_product, as_sum, signs, no_operator, number_opens, mark_token, word}

-- what is known of an operand that was read

-- the two tests for a digit are the same
digit_same : (b : ℕ) → is_ascii_digit b ≡ is_digit b
digit_same b = grind (arith, nat_tests)

digits_same : (xs : List ℕ) → list_all is_ascii_digit xs ≡ list_all is_digit xs
digits_same [] = refl
digits_same (b ∷ bs) = ap₂ (λ x y. x && y) (digit_same b) (digits_same bs)

digits_all : (xs : List ℕ) → is_digits xs ≡ true → list_all is_digit xs ≡ true
digits_all [] h = absurd (cc)
digits_all (b ∷ bs) h = sym (digits_same (b ∷ bs)) ∙ h

-- ---- where an expression is no literal

-- what a reading to the end makes is all that can be made
same_reading : (ts us : List Token) (os ps : List Event) → Advances quil tables (Rule (Sum false)) ts [] os → Advances quil tables (Rule (Sum false)) ts us ps → os ≡ ps
same_reading ts [] os ps r q =
    let a = verdict_only quil tables (Rule (Sum false)) (decided false) ts (Made os []) r in
    let b = verdict_only quil tables (Rule (Sum false)) (decided false) ts (Made ps []) q in
    let same : Read ps ≡ Read os = a.is_only (Read ps) b.is_true in
    cc
same_reading ts (u ∷ us) os ps r q =
    let a = verdict_only quil tables (Rule (Sum false)) (decided false) ts (Made os []) r in
    let b = verdict_only quil tables (Rule (Sum false)) (decided false) ts (Made ps (u ∷ us)) q in
    let same : Refused (u ∷ us) ≡ Read os = a.is_only (Refused (u ∷ us)) b.is_true in
    absurd (cc)

unary_sum : (ts us : List Token) (os : List Event) → is_operator_next us ≡ false → Advances quil tables (Rule (Unary false)) ts us os → Advances quil tables (Rule (Sum false)) ts us os
unary_sum ts us os e r = let n = no_operator us e in as_sum false ts us os n.term (as_product false ts us os n.factor r)

-- a whole number that is all that comes next is all of the expression
plain_is : (ts : List Token) (w : Written) → Advances quil tables (Rule (Sum false)) ts [] (events w) → is_plain_next ts ≡ true → (p : Place) × (x : List ℕ) × (list_all is_digit x ≡ true) × (w ≡ Alone p (atom.Number x))
plain_is [] w r h = absurd (cc)
plain_is (t ∷ us) w r h =
    let both = and_parts (is_whole_number t) (not (is_operator_next us)) h in
    let number = and_parts (accepts class.Number t.sort) (list_all is_digit t.text) both.0 in
    let none = not-true (is_operator_next us) both.1 in
    (t.place, t.text, number.1, same_written w (Alone t.place (atom.Number t.text)) (same_reading (t ∷ us) us (events w) _ r (unary_sum (t ∷ us) us _ none (unary_number t us number.0 none))))

signed_is : (ts : List Token) (w : Written) → Advances quil tables (Rule (Sum false)) ts [] (events w) → is_signed_next ts ≡ true → (p : Place) × (s : Sign) × (v : Written) × (w ≡ Within (Signed p s) v)
signed_is [] w r h = absurd (cc)
signed_is (t ∷ []) w r h = let both = and_parts (accepts class.Sign t.sort) false h in absurd (cc)
signed_is (t ∷ u ∷ us) w r h =
    let first = and_parts (accepts class.Sign t.sort) (is_plain_next (u ∷ us)) h in
    let both = and_parts (is_whole_number u) (not (is_operator_next us)) first.1 in
    let number = and_parts (accepts class.Number u.sort) (list_all is_digit u.text) both.0 in
    let none = not-true (is_operator_next us) both.1 in
    let v : Written = Alone u.place (atom.Number u.text) in
    (t.place, sign_of t.sort, v, same_written w (Within (Signed t.place (sign_of t.sort)) v) (same_reading (t ∷ u ∷ us) us (events w) _ r (unary_sum (t ∷ u ∷ us) us _ none (signs false t (u ∷ us) us _ first.0 (unary_number u us number.0 none)))))

false_unless : (b : Bool) → (b ≡ true → ⊥) → b ≡ false
false_unless true h = absurd (h refl)
false_unless false h = refl

never_signed : (e : Expression) (p : Place) (s : Sign) (v : Written) → canon false e ≡ Within (Signed p s) v → ⊥
never_signed (Leaf q a) p s v h = cc
never_signed (SignedTree q r a) p s v h = cc
never_signed (Applied q o a b) p s v h = cc
never_signed (Called q f a) p s v h = cc

not_alone : (e : Expression) (p : Place) (x : List ℕ) → is_whole_alone (postfix e) ≡ false → list_all is_digit x ≡ true → canon false e ≡ Alone p (atom.Number x) → ⊥
not_alone (Leaf q (atom.Number y)) p x n d h = let same : y ≡ x = cc in let a : list_all is_ascii_digit y ≡ true = digits_same y ∙ (ap (λ z. list_all is_digit z) same ∙ d) in cc
not_alone (Leaf q (atom.Imaginary y)) p x n d h = cc
not_alone (Leaf q atom.Pi) p x n d h = cc
not_alone (Leaf q atom.I) p x n d h = cc
not_alone (Leaf q (atom.Parameter m)) p x n d h = cc
not_alone (Leaf q (atom.Cell a)) p x n d h = cc
not_alone (SignedTree q r a) p x n d h = cc
not_alone (Applied q o a b) p x n d h = cc
not_alone (Called q f a) p x n d h = cc

-- ---- pieces

-- what an operand is read as, and its piece, which stands at the end of a line
abbrev IsPrinted : Context → List ℕ → Operand → Type 0
IsPrinted c x o = (w : Written) × (operand_of w ≡ o) × Piece c operand (λ us. us ≡ []) x (events w)

reference_piece : (c : Context) (a : Address) → IsCell true c a → Piece c operand (λ us. us ≡ []) (address_text a) (events (Alone origin (atom.Cell a)))
unfolding quil tables
reference_piece c a h =
    let p = address_piece c a h in
    record { kind = p.kind; front = p.front; rest = p.rest; apart = p.apart; text = p.text; opened = or_left _ _ p.opened; reads = λ us e. choice_first p.opened (p.reads us tt) }

-- words that are read as an operand that is no address
by_words : (c : Context) (o : Operand) (k : Kind) (front x : List ℕ) (rest : List Word) → AreApart (word k front false ∷ rest) → front ++ words_bytes rest ≡ x → opens_rule OperandSum (tok c k front).sort ≡ true → IsOperandRead (tok c k front ∷ (toks c rest ++ [])) [] o → IsPrinted c x o
unfolding quil tables
by_words c o k front x rest a t b r = (
  r.written,
  sym r.is_meaning,
  record {
    kind = k;
    front = front;
    rest = rest;
    apart = a;
    text = t;
    opened = or_right (opens quil tables address (tok c k front).sort) (opens_rule OperandSum (tok c k front).sort) b;
    reads = λ us e. subst (λ vs. Advances quil tables operand (tok c k front ∷ (toks c rest ++ vs)) vs (events r.written)) (sym e) (choice_second b r.advances);
  },
)

-- a number alone
small : (n : ℕ) → not (nat_lt n (2 ^ 64)) ≡ false → n < 2 ^ 64
small n h = ltb-true n (2 ^ 64) (by (nat_lt n (2 ^ 64)) h)
  where
    by : (b : Bool) → not b ≡ false → b ≡ true
    by true e = refl
    by false e = absurd (cc)

is_plain : (c : Context) (w : Whole) → IsIndex c class.Number w → is_plain_next (tok c kind.Whole w.digits ∷ []) ≡ true
is_plain c w h = and_from _ _ (and_from _ _ h.read.accepted (digits_all w.digits h.read.text.token)) refl

plain_piece : (c : Context) (w : Whole) → IsIndex c class.Number w → IsPrinted c w.digits (operands.Literal origin None w)
plain_piece c w h =
    let t = tok c kind.Whole w.digits in
    by_words c (operands.Literal origin None w) kind.Whole w.digits w.digits [] (h.read.text, tt, tt) (append-nil w.digits) (or_left (opens_primary false t.sort) (accepts class.Sign t.sort) (number_opens false t.sort h.read.accepted))
    (plain_read (t ∷ []) [] t origin w.digits (operands.Literal origin None w) refl (is_plain c w h) refl refl (ap (λ v. operands.Literal origin None v) h.value) (small (value_behind 0 w.digits) h.small))

sign_piece : (c : Context) (w : Whole) (s : Sign) (m : Mark) → accepts class.Sign (tok c (kind.Mark m) (byte_of m ∷ [])).sort ≡ true → s ≡ sign_of (tok c (kind.Mark m) (byte_of m ∷ [])).sort → IsIndex c class.Number w → IsPrinted c (byte_of m ∷ w.digits) (operands.Literal origin (Some s) w)
sign_piece c w s m a e h =
    let t = tok c kind.Whole w.digits in
    let u = tok c (kind.Mark m) (byte_of m ∷ []) in
    by_words c (operands.Literal origin (Some s) w) (kind.Mark m) (byte_of m ∷ []) (byte_of m ∷ w.digits) (word kind.Whole w.digits false ∷ []) (mark_token m, inr (inl refl), (h.read.text, tt, tt)) (ap (λ y. byte_of m ∷ y) (append-nil w.digits)) (or_right (opens_primary false u.sort) (accepts class.Sign u.sort) a)
    (signed_read (u ∷ t ∷ []) [] u t origin s w.digits (operands.Literal origin (Some s) w) refl (and_from _ _ a (is_plain c w h)) refl e refl (ap (λ v. operands.Literal origin (Some s) v) h.value) (small (value_behind 0 w.digits) h.small))

literal_piece : (c : Context) (s : Option Sign) (w : Whole) → IsIndex c class.Number w → IsPrinted c (maybe_sign s ++ w.digits) (operands.Literal origin s w)
literal_piece c None w h = plain_piece c w h
literal_piece c (Some sign.Plus) w h = sign_piece c w sign.Plus mark.Plus refl refl h
literal_piece c (Some sign.Minus) w h = sign_piece c w sign.Minus mark.Minus refl refl h

-- an expression, where it is no literal
by_expression : (c : Context) (w : Written) (x : List ℕ) → Piece c (Rule (Sum false)) NoOperator x (events w) → ((p : Place) (y : List ℕ) → list_all is_digit y ≡ true → w ≡ Alone p (atom.Number y) → ⊥) → ((p : Place) (s : Sign) (v : Written) → w ≡ Within (Signed p s) v → ⊥) → IsPrinted c x (operands.Formula (formula_of w))
unfolding quil tables
by_expression c w x p n m =
    let ts = tok c p.kind p.front ∷ (toks c p.rest ++ []) in
    let r : Advances quil tables (Rule (Sum false)) ts [] (events w) = p.reads [] refl in
    let plain : is_plain_next ts ≡ false = false_unless (is_plain_next ts) (λ h. let q = plain_is ts w r h in n q.0 q.1 q.2 q.3) in
    let signed : is_signed_next ts ≡ false = false_unless (is_signed_next ts) (λ h. let q = signed_is ts w r h in m q.0 q.1 q.2 q.3) in
    by_words c (operands.Formula (formula_of w)) p.kind p.front x p.rest p.apart p.text p.opened (formula_read ts [] (formula_of w) plain signed (record { written = w; advances = r; is_meaning = refl }))

bare_steps : (e : Expression) → postfix (meaning (canon false e)) ≡ map bare_step (postfix e)
bare_steps e = ap postfix (canon_means false e) ∙ bare_postfix e

formula_same : (f : Formula) (e : Expression) (p : Place) → p ≡ origin → f.expr ≡ postfix e → record { place = p; expr = postfix (meaning (canon false e)) } ≡ bare_formula f
formula_same f e p h k = rw (h, k, bare_steps e) refl

-- the expression of a formula, as it is printed
pub text_of_steps : (names : List (List ℕ)) (f : Formula) (e : Expression) → f.expr ≡ postfix e → formula_text names f ≡ expression_text names false e
text_of_steps names f e h = ap (λ ss. first_text names (trees ss [])) h ∙ ap (λ es. first_text names es) (trees_of_postfix e)

pub formula_bare : (f : Formula) (e : Expression) → f.expr ≡ postfix e → formula_of (canon false e) ≡ bare_formula f
formula_bare f e h = formula_same f e (start (canon false e)) (canon_start false e) h

expression_operand : (c : Context) (e : Expression) (b : Bool) → is_whole_alone (postfix e) ≡ b → IsExpression false c e → (f : Formula) → f.expr ≡ postfix e → IsPrinted c (enclosed b (expression_text c.parameters false e)) (operands.Formula (bare_formula f))
expression_operand c e true n h f k =
    subst (λ g. IsPrinted c (enclosed true (expression_text c.parameters false e)) (operands.Formula g)) (formula_same f e origin refl k)
    (by_expression c (Within (Parenthesized origin) (canon false e)) (enclosed true (expression_text c.parameters false e)) (primary_sum (sum_enclosed (expression_piece false c e h))) (λ p y d w. cc) (λ p s v w. cc))
expression_operand c e false n h f k =
    subst (λ g. IsPrinted c (expression_text c.parameters false e) (operands.Formula g)) (formula_bare f e k)
    (by_expression c (canon false e) (expression_text c.parameters false e) (expression_piece false c e h) (λ p y d w. not_alone e p y n d w) (λ p s v w. never_signed e p s v w))

formula_operand : (c : Context) (f : Formula) (e : Expression) → f.expr ≡ postfix e → IsExpression false c e → IsPrinted c (operand_text c.parameters (operands.Formula f)) (bare_operand (operands.Formula f))
formula_operand c f e k h =
    subst (λ x. IsPrinted c (enclosed (is_whole_alone f.expr) x) (operands.Formula (bare_formula f))) (sym (text_of_steps c.parameters f e k))
    (expression_operand c e (is_whole_alone f.expr) (ap is_whole_alone (sym k)) h f k)

pub operand_piece : (c : Context) (o : Operand) → IsSoundOperand c o → (w : Written) × (operand_of w ≡ bare_operand o) × Piece c operand (λ us. us ≡ []) (operand_text c.parameters o) (events w)
operand_piece c (operands.Reference r) h = (Alone origin (atom.Cell r.address), refl, reference_piece c r.address h)
operand_piece c (operands.Literal p s w) h = literal_piece c s w h
operand_piece c (operands.Formula f) h = formula_operand c f h.0 h.1 h.2
