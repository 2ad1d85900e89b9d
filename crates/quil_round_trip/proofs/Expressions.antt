-- The text of an expression is read as that expression again, up to places.
use Rattle.std.proofs.Common.{◌≡◌, ℕ, Bool, true, false, ◌||◌, inl, inr, List, [], ◌∷◌, ◌++◌, map, refl, sym, ◌∙◌, ap, subst, append_assoc, append-nil}
use Rattle.std.specs.Prelude.{codes, slice_get}
use Rattle.std.proofs.lemmas.Bool.{or_left, or_right, or_parts}
use Rattle.std.proofs.lemmas.List.{map-append}
use Rattle.quil_lex.specs.declared.token.Kind.{Kind}
use Rattle.quil_lex.specs.declared.token.Kind.TheVariants as kind
use Rattle.quil_lex.specs.declared.token.Mark.{Mark}
use Rattle.quil_lex.specs.declared.token.Mark.TheVariants as mark
use Rattle.quil_lex.specs.Token.{byte_of}
use Rattle.quil_lex.specs.Written.{Word, IsLineToken, AreApart, words_bytes}
use Rattle.quil_shape.specs.Shape.{Shape}
use Rattle.quil_shape.specs.Shape.Shape.{Rule}
use Rattle.quil_shape.specs.Condition.{opens}
use Rattle.quil_shape.specs.Reads.{Advances}
use Rattle.quil_shape.proofs.Reading.{choice_first, choice_second, choice_not_first, empty_advances, emit_advances, many_ends, many_advances, rule_reads, seq_advances, token_advances, token_then_advances}
use Rattle.quil_tree.specs.declared.expr.Whole.{Whole}
use Rattle.quil_tree.specs.declared.expr.Address.{Address}
use Rattle.quil_tree.specs.declared.expr.Atom.{Atom}
use Rattle.quil_tree.specs.declared.expr.Atom.TheVariants as atom
use Rattle.quil_tree.specs.declared.expr.Sign.{Sign}
use Rattle.quil_tree.specs.declared.expr.Sign.TheVariants as sign
use Rattle.quil_tree.specs.declared.expr.Operator.{Operator}
use Rattle.quil_tree.specs.declared.expr.Operator.TheVariants as operator
use Rattle.quil_tree.specs.declared.expr.Function.{Function}
use Rattle.quil_tree.specs.declared.expr.Function.TheVariants as function
use Rattle.quil_tree.specs.declared.expr.Action.TheVariants as action
use Rattle.quil_tree.specs.declared.expr.Step.{Step}
use Rattle.quil_tree.specs.Expression.{Expression, postfix}
use Rattle.quil_tree.specs.Expression.Expression.{Leaf, Signed as SignedTree, Applied, Called}
use Rattle.quil_tree.specs.Printed.{address_text, atom_text, expression_text, function_text, name_or_none, operator_text, sign_text}
use Rattle.quil_grammar.specs.declared.class.Class.{Class}
use Rattle.quil_grammar.specs.declared.class.Class.TheVariants as class
use Rattle.quil_grammar.specs.declared.sort.Sort.{Sort}
use Rattle.quil_grammar.specs.Sort.{word_sort}
use Rattle.quil_grammar.specs.Token.{Token, Context}
use Rattle.quil_grammar.specs.Grammar.{quil, accepts, index, is_operator_next, sign_of, operator_of, function_of, more_terms, more_factors, exponent, parenthesized, Name, Sum, Product, Unary, Primary, Event}
use Rattle.quil_grammar.specs.Tables.{tables, opens_primary}
use Rattle.quil_grammar.specs.Grammar.Event.{Region, Index, Between, Joined, Opens, Closes}
use Rattle.quil_grammar.specs.Grammar.Around.{Signed, Parenthesized, Argument}
use Rattle.quil_grammar.specs.Written.{Written, events, events_of_atom, meaning, start, cell_events}
use Rattle.quil_grammar.specs.Written.Written.{Alone, Joins, Within}
use Rattle.quil_grammar.specs.Frames.{is_next}
use Rattle.quil_grammar.specs.Statements.{address}
use Rattle.quil_grammar.proofs.Atoms.{number_read, imaginary_read, pi_read, i_read, parameter_read, cell_read}
use Rattle.quil_round_trip.specs.Unplaced.{origin, bare_step}
use Rattle.quil_round_trip.proofs.Words.{tok, toks, toks_append, bytes_append, apart_append, IsFree}
use Rattle.quil_round_trip.proofs.Values.{IsRead, IsParameter, IsIndex, IsCell, IsAtom, IsExpression}
use Rattle.quil_round_trip.proofs.Pieces.{Piece, Anything, NoOperator}

-- ---- what is printed

abbrev pub bare_expression : Expression → Expression
bare_expression (Leaf p a) = Leaf origin a
bare_expression (SignedTree p s a) = SignedTree origin s (bare_expression a)
bare_expression (Applied p o a b) = Applied origin o (bare_expression a) (bare_expression b)
bare_expression (Called p f a) = Called origin f (bare_expression a)

abbrev pub in_parentheses : Bool → Written → Written
in_parentheses true w = Within (Parenthesized origin) w
in_parentheses false w = w

-- an expression as it is printed, as an operand or alone
abbrev pub canon : Bool → Expression → Written
canon i (Leaf p a) = Alone origin a
canon i (SignedTree p s a) = Within (Parenthesized origin) (Within (Signed origin s) (canon true a))
canon i (Applied p o a b) = in_parentheses i (Joins o (canon true a) (canon true b))
canon i (Called p f a) = Within (Argument origin f) (canon false a)

pub canon_start : (i : Bool) (e : Expression) → start (canon i e) ≡ origin
canon_start i (Leaf p a) = refl
canon_start i (SignedTree p s a) = refl
canon_start true (Applied p o a b) = refl
canon_start false (Applied p o a b) = canon_start true a
canon_start i (Called p f a) = refl

joins_mean : (o : Operator) (a b : Expression) → meaning (canon true a) ≡ bare_expression a → meaning (canon true b) ≡ bare_expression b → meaning (Joins o (canon true a) (canon true b)) ≡ Applied origin o (bare_expression a) (bare_expression b)
joins_mean o a b e f = rw (canon_start true a, e, f) refl

pub canon_means : (i : Bool) (e : Expression) → meaning (canon i e) ≡ bare_expression e
canon_means i (Leaf p a) = refl
canon_means i (SignedTree p s a) = ap (λ e. SignedTree origin s e) (canon_means true a)
canon_means true (Applied p o a b) = joins_mean o a b (canon_means true a) (canon_means true b)
canon_means false (Applied p o a b) = joins_mean o a b (canon_means true a) (canon_means true b)
canon_means i (Called p f a) = ap (λ e. Called origin f e) (canon_means false a)

one_more : (ss ts : List Step) (s : Step) → ss ≡ map bare_step ts → ss ++ bare_step s ∷ [] ≡ map bare_step (ts ++ s ∷ [])
one_more ss ts s e = ap (λ xs. xs ++ bare_step s ∷ []) e ∙ sym (map-append bare_step ts (s ∷ []))

pub bare_postfix : (e : Expression) → postfix (bare_expression e) ≡ map bare_step (postfix e)
bare_postfix (Leaf p a) = refl
bare_postfix (SignedTree p s a) = one_more (postfix (bare_expression a)) (postfix a) (record { place = p; action = action.Sign s }) (bare_postfix a)
bare_postfix (Applied p o a b) =
    let last : Step = record { place = p; action = action.Apply o } in
    ap (λ xs. xs ++ (postfix (bare_expression b) ++ bare_step last ∷ [])) (bare_postfix a)
    ∙ ap (λ xs. map bare_step (postfix a) ++ xs) (one_more (postfix (bare_expression b)) (postfix b) last (bare_postfix b))
    ∙ sym (map-append bare_step (postfix a) (postfix b ++ last ∷ []))
bare_postfix (Called p f a) = one_more (postfix (bare_expression a)) (postfix a) (record { place = p; action = action.Call f }) (bare_postfix a)

-- ---- tokens

-- no operator comes next
pub record IsNone (us : List Token) : Type 0 where
  pub term : is_next class.Additive us ≡ false
  pub factor : is_next class.Multiplicative us ≡ false
  pub caret : is_next class.Caret us ≡ false

pub no_operator : (us : List Token) → is_operator_next us ≡ false → IsNone us
unfolding quil
no_operator [] e = record { term = refl; factor = refl; caret = refl }
no_operator (t ∷ us) e =
    let first = or_parts (accepts class.Additive t.sort) (accepts class.Multiplicative t.sort || accepts class.Caret t.sort) e in
    let second = or_parts (accepts class.Multiplicative t.sort) (accepts class.Caret t.sort) first.1 in
    record { term = first.0; factor = second.0; caret = second.1 }

-- behind an operand nothing more is read where no operator comes next
no_exponent : (refs : Bool) (us : List Token) → is_next class.Caret us ≡ false → Advances quil tables (exponent refs) us us []
unfolding quil tables
no_exponent refs [] e = choice_not_first refl empty_advances
no_exponent refs (t ∷ us) e = choice_not_first (rw e refl) empty_advances

no_factors : (refs : Bool) (us : List Token) → is_next class.Multiplicative us ≡ false → Advances quil tables (more_factors refs) us us []
unfolding quil tables
no_factors refs [] e = many_ends refl
no_factors refs (t ∷ us) e = many_ends (rw e refl)

no_terms : (refs : Bool) (us : List Token) → is_next class.Additive us ≡ false → Advances quil tables (more_terms refs) us us []
unfolding quil tables
no_terms refs [] e = many_ends refl
no_terms refs (t ∷ us) e = many_ends (rw e refl)

without_nothing : {s : Shape Class Event Name} {ts us : List Token} {os : List Event} → Advances quil tables s ts us (os ++ []) → Advances quil tables s ts us os
without_nothing {s = s} {ts = ts} {us = us} {os = os} r = subst (λ xs. Advances quil tables s ts us xs) (append-nil os) r

pub as_unary : (refs : Bool) (t : Token) (ts us : List Token) (os : List Event) → opens_primary refs t.sort ≡ true → is_next class.Caret us ≡ false → Advances quil tables (Rule (Primary refs)) (t ∷ ts) us os → Advances quil tables (Rule (Unary refs)) (t ∷ ts) us os
unfolding quil tables
as_unary refs t ts us os a n r = without_nothing (rule_reads (choice_second a (rule_reads (seq_advances r (no_exponent refs us n)))))

pub as_product : (refs : Bool) (ts us : List Token) (os : List Event) → is_next class.Multiplicative us ≡ false → Advances quil tables (Rule (Unary refs)) ts us os → Advances quil tables (Rule (Product refs)) ts us os
unfolding quil tables
as_product refs ts us os n r = without_nothing (rule_reads (seq_advances r (no_factors refs us n)))

pub as_sum : (refs : Bool) (ts us : List Token) (os : List Event) → is_next class.Additive us ≡ false → Advances quil tables (Rule (Product refs)) ts us os → Advances quil tables (Rule (Sum refs)) ts us os
unfolding quil tables
as_sum refs ts us os n r = without_nothing (rule_reads (seq_advances r (no_terms refs us n)))

-- with an operator behind the first operand
powers : (refs : Bool) (a t : Token) (ts us vs : List Token) (os ps : List Event) → opens_primary refs a.sort ≡ true → accepts class.Caret t.sort ≡ true
    → Advances quil tables (Rule (Primary refs)) (a ∷ ts) (t ∷ us) os → Advances quil tables (Rule (Unary refs)) us vs ps → Advances quil tables (Rule (Unary refs)) (a ∷ ts) vs (os ++ (Between (operator_of t.sort) ∷ (ps ++ Joined ∷ [])))
unfolding quil tables
powers refs a t ts us vs os ps h e r q = rule_reads (choice_second h (rule_reads (seq_advances r (choice_first (or_left _ _ e) (token_then_advances e refl (seq_advances q emit_advances))))))

multiplies : (refs : Bool) (t : Token) (ts us vs : List Token) (os ps : List Event) → accepts class.Multiplicative t.sort ≡ true → is_next class.Multiplicative vs ≡ false
    → Advances quil tables (Rule (Unary refs)) ts (t ∷ us) os → Advances quil tables (Rule (Unary refs)) us vs ps → Advances quil tables (Rule (Product refs)) ts vs (os ++ (Between (operator_of t.sort) ∷ (ps ++ Joined ∷ [])))
unfolding quil tables
multiplies refs t ts us vs os ps e n r q = rule_reads (seq_advances r (without_nothing (many_advances (or_left _ _ e) (token_then_advances e refl (seq_advances q emit_advances)) (no_factors refs vs n))))

adds : (refs : Bool) (t : Token) (ts us vs : List Token) (os ps : List Event) → accepts class.Additive t.sort ≡ true → is_next class.Additive vs ≡ false
    → Advances quil tables (Rule (Product refs)) ts (t ∷ us) os → Advances quil tables (Rule (Product refs)) us vs ps → Advances quil tables (Rule (Sum refs)) ts vs (os ++ (Between (operator_of t.sort) ∷ (ps ++ Joined ∷ [])))
unfolding quil tables
adds refs t ts us vs os ps e n r q = rule_reads (seq_advances r (without_nothing (many_advances (or_left _ _ e) (token_then_advances e refl (seq_advances q emit_advances)) (no_terms refs vs n))))

pub signs : (refs : Bool) (t : Token) (ts us : List Token) (os : List Event) → accepts class.Sign t.sort ≡ true → Advances quil tables (Rule (Unary refs)) ts us os → Advances quil tables (Rule (Unary refs)) (t ∷ ts) us (Opens (Signed t.place (sign_of t.sort)) ∷ (os ++ Closes ∷ []))
unfolding quil tables
signs refs t ts us os e r = rule_reads (choice_first (or_left _ _ e) (token_then_advances e refl (seq_advances r emit_advances)))

-- operands on both sides of an operator, and no operator behind them
power_sum : (refs : Bool) (a t b : Token) (ts us vs : List Token) (os ps : List Event) → accepts class.Caret t.sort ≡ true → opens_primary refs a.sort ≡ true → opens_primary refs b.sort ≡ true → IsNone vs
    → Advances quil tables (Rule (Primary refs)) (a ∷ ts) (t ∷ b ∷ us) os → Advances quil tables (Rule (Primary refs)) (b ∷ us) vs ps → Advances quil tables (Rule (Sum refs)) (a ∷ ts) vs (os ++ (Between (operator_of t.sort) ∷ (ps ++ Joined ∷ [])))
power_sum refs a t b ts us vs os ps e h k n r q = as_sum refs _ vs _ n.term (as_product refs _ vs _ n.factor (powers refs a t ts (b ∷ us) vs os ps h e r (as_unary refs b us vs ps k n.caret q)))

product_sum : (refs : Bool) (a t b : Token) (ts us vs : List Token) (os ps : List Event) → accepts class.Multiplicative t.sort ≡ true → is_next class.Caret (t ∷ b ∷ us) ≡ false → opens_primary refs a.sort ≡ true → opens_primary refs b.sort ≡ true → IsNone vs
    → Advances quil tables (Rule (Primary refs)) (a ∷ ts) (t ∷ b ∷ us) os → Advances quil tables (Rule (Primary refs)) (b ∷ us) vs ps → Advances quil tables (Rule (Sum refs)) (a ∷ ts) vs (os ++ (Between (operator_of t.sort) ∷ (ps ++ Joined ∷ [])))
product_sum refs a t b ts us vs os ps e f h k n r q = as_sum refs _ vs _ n.term (multiplies refs t (a ∷ ts) (b ∷ us) vs os ps e n.factor (as_unary refs a ts (t ∷ b ∷ us) os h f r) (as_unary refs b us vs ps k n.caret q))

sum_sum : (refs : Bool) (a t b : Token) (ts us vs : List Token) (os ps : List Event) → accepts class.Additive t.sort ≡ true → is_next class.Caret (t ∷ b ∷ us) ≡ false → is_next class.Multiplicative (t ∷ b ∷ us) ≡ false → opens_primary refs a.sort ≡ true → opens_primary refs b.sort ≡ true → IsNone vs
    → Advances quil tables (Rule (Primary refs)) (a ∷ ts) (t ∷ b ∷ us) os → Advances quil tables (Rule (Primary refs)) (b ∷ us) vs ps → Advances quil tables (Rule (Sum refs)) (a ∷ ts) vs (os ++ (Between (operator_of t.sort) ∷ (ps ++ Joined ∷ [])))
sum_sum refs a t b ts us vs os ps e f g h k n r q =
    adds refs t (a ∷ ts) (b ∷ us) vs os ps e n.term (as_product refs _ (t ∷ b ∷ us) os g (as_unary refs a ts (t ∷ b ∷ us) os h f r)) (as_product refs _ vs ps n.factor (as_unary refs b us vs ps k n.caret q))

-- a sum in parentheses
closes : (refs : Bool) (u : Token) (ts us : List Token) (os : List Event) → accepts class.ParenthesisEnds u.sort ≡ true → Advances quil tables (Rule (Sum refs)) ts (u ∷ us) os → Advances quil tables (parenthesized refs) ts us (os ++ Closes ∷ [])
unfolding quil tables
closes refs u ts us os e r = seq_advances r (token_then_advances e refl emit_advances)

-- what opens a primary
pub number_opens : (refs : Bool) (s : Sort) → accepts class.Number s ≡ true → opens_primary refs s ≡ true
number_opens refs s a = or_left (accepts class.Number s) (accepts class.Imaginary s || (accepts class.Pi s || (accepts class.I s || (accepts class.Parameter s || (accepts (class.Region refs) s || (accepts class.Function s || (accepts class.Parenthesis s))))))) a

imaginary_opens : (refs : Bool) (s : Sort) → accepts class.Imaginary s ≡ true → opens_primary refs s ≡ true
imaginary_opens refs s a = or_right (accepts class.Number s) (accepts class.Imaginary s || (accepts class.Pi s || (accepts class.I s || (accepts class.Parameter s || (accepts (class.Region refs) s || (accepts class.Function s || (accepts class.Parenthesis s))))))) (or_left (accepts class.Imaginary s) (accepts class.Pi s || (accepts class.I s || (accepts class.Parameter s || (accepts (class.Region refs) s || (accepts class.Function s || (accepts class.Parenthesis s)))))) a)

parameter_opens : (refs : Bool) (s : Sort) → accepts class.Parameter s ≡ true → opens_primary refs s ≡ true
parameter_opens refs s a = or_right (accepts class.Number s) (accepts class.Imaginary s || (accepts class.Pi s || (accepts class.I s || (accepts class.Parameter s || (accepts (class.Region refs) s || (accepts class.Function s || (accepts class.Parenthesis s))))))) (or_right (accepts class.Imaginary s) (accepts class.Pi s || (accepts class.I s || (accepts class.Parameter s || (accepts (class.Region refs) s || (accepts class.Function s || (accepts class.Parenthesis s)))))) (or_right (accepts class.Pi s) (accepts class.I s || (accepts class.Parameter s || (accepts (class.Region refs) s || (accepts class.Function s || (accepts class.Parenthesis s))))) (or_right (accepts class.I s) (accepts class.Parameter s || (accepts (class.Region refs) s || (accepts class.Function s || (accepts class.Parenthesis s)))) (or_left (accepts class.Parameter s) (accepts (class.Region refs) s || (accepts class.Function s || (accepts class.Parenthesis s))) a))))

region_opens : (refs : Bool) (s : Sort) → accepts (class.Region refs) s ≡ true → opens_primary refs s ≡ true
region_opens refs s a = or_right (accepts class.Number s) (accepts class.Imaginary s || (accepts class.Pi s || (accepts class.I s || (accepts class.Parameter s || (accepts (class.Region refs) s || (accepts class.Function s || (accepts class.Parenthesis s))))))) (or_right (accepts class.Imaginary s) (accepts class.Pi s || (accepts class.I s || (accepts class.Parameter s || (accepts (class.Region refs) s || (accepts class.Function s || (accepts class.Parenthesis s)))))) (or_right (accepts class.Pi s) (accepts class.I s || (accepts class.Parameter s || (accepts (class.Region refs) s || (accepts class.Function s || (accepts class.Parenthesis s))))) (or_right (accepts class.I s) (accepts class.Parameter s || (accepts (class.Region refs) s || (accepts class.Function s || (accepts class.Parenthesis s)))) (or_right (accepts class.Parameter s) (accepts (class.Region refs) s || (accepts class.Function s || (accepts class.Parenthesis s))) (or_left (accepts (class.Region refs) s) (accepts class.Function s || (accepts class.Parenthesis s)) a)))))

function_opens : (refs : Bool) (s : Sort) → accepts class.Function s ≡ true → opens_primary refs s ≡ true
function_opens refs s a = or_right (accepts class.Number s) (accepts class.Imaginary s || (accepts class.Pi s || (accepts class.I s || (accepts class.Parameter s || (accepts (class.Region refs) s || (accepts class.Function s || (accepts class.Parenthesis s))))))) (or_right (accepts class.Imaginary s) (accepts class.Pi s || (accepts class.I s || (accepts class.Parameter s || (accepts (class.Region refs) s || (accepts class.Function s || (accepts class.Parenthesis s)))))) (or_right (accepts class.Pi s) (accepts class.I s || (accepts class.Parameter s || (accepts (class.Region refs) s || (accepts class.Function s || (accepts class.Parenthesis s))))) (or_right (accepts class.I s) (accepts class.Parameter s || (accepts (class.Region refs) s || (accepts class.Function s || (accepts class.Parenthesis s)))) (or_right (accepts class.Parameter s) (accepts (class.Region refs) s || (accepts class.Function s || (accepts class.Parenthesis s))) (or_right (accepts (class.Region refs) s) (accepts class.Function s || (accepts class.Parenthesis s)) (or_left (accepts class.Function s) (accepts class.Parenthesis s) a))))))

calls : (refs : Bool) (t u v : Token) (ts us : List Token) (os : List Event) → accepts class.Function t.sort ≡ true → accepts class.ArgumentBegins u.sort ≡ true → accepts class.ParenthesisEnds v.sort ≡ true → Advances quil tables (Rule (Sum refs)) ts (v ∷ us) os
    → Advances quil tables (Rule (Primary refs)) (t ∷ u ∷ ts) us (Opens (Argument t.place (function_of t.sort)) ∷ (os ++ Closes ∷ []))
unfolding quil tables
calls refs t u v ts us os a e f r =
    let begins = or_left _ _ a in
    let in_call = or_left _ _ begins in
    let in_cell = or_right _ _ in_call in
    let in_parameter = or_right _ _ in_cell in
    let in_i = or_right _ _ in_parameter in
    let in_pi = or_right _ _ in_i in
    let in_imaginary = or_right _ _ in_pi in
    let call = token_then_advances a refl (token_then_advances e refl (closes refs v ts us os f r)) in
    rule_reads (choice_second in_imaginary (choice_second in_pi (choice_second in_i (choice_second in_parameter (choice_second in_cell (choice_second in_call (choice_first begins call)))))))

encloses : (refs : Bool) (c : Context) (v : Token) (ts us : List Token) (os : List Event) → accepts class.ParenthesisEnds v.sort ≡ true → Advances quil tables (Rule (Sum refs)) ts (v ∷ us) os
    → Advances quil tables (Rule (Primary refs)) (tok c (kind.Mark mark.LeftParenthesis) (40 ∷ []) ∷ ts) us (Opens (Parenthesized origin) ∷ (os ++ Closes ∷ []))
unfolding quil tables
encloses refs c v ts us os f r =
    rule_reads (choice_second refl (choice_second refl (choice_second refl (choice_second refl (choice_second refl (choice_second refl (choice_second refl (token_then_advances refl refl (closes refs v ts us os f r)))))))))

-- ---- words

abbrev pub word : Kind → List ℕ → Bool → Word
word k x b = record { kind = k; text = x; blank = b }

abbrev begins : Word
begins = word (kind.Mark mark.LeftParenthesis) (40 ∷ []) false

abbrev ends : Word
ends = word (kind.Mark mark.RightParenthesis) (41 ∷ []) false

pub mark_token : (m : Mark) → IsLineToken (kind.Mark m) (byte_of m ∷ [])
mark_token mark.LeftParenthesis = record { token = refl; one_line = refl }
mark_token mark.RightParenthesis = record { token = refl; one_line = refl }
mark_token mark.LeftBracket = record { token = refl; one_line = refl }
mark_token mark.RightBracket = record { token = refl; one_line = refl }
mark_token mark.Comma = record { token = refl; one_line = refl }
mark_token mark.Colon = record { token = refl; one_line = refl }
mark_token mark.Plus = record { token = refl; one_line = refl }
mark_token mark.Minus = record { token = refl; one_line = refl }
mark_token mark.Star = record { token = refl; one_line = refl }
mark_token mark.Slash = record { token = refl; one_line = refl }
mark_token mark.Caret = record { token = refl; one_line = refl }

-- the blank before a word changes nothing behind it
pub apart_blank : (k : Kind) (x : List ℕ) (b : Bool) (ws : List Word) → AreApart (word k x false ∷ ws) → AreApart (word k x b ∷ ws)
apart_blank k x b [] h = h
apart_blank k x b (w ∷ ws) h = h

module _ {c : Context} {s : Shape Class Event Name} {B : List Token → Type 0} {x : List ℕ} {os : List Event} (p : Piece c s B x os) where
  -- more words behind a piece
  pub apart_then : (ws : List Word) → AreApart ws → IsFree ws → AreApart (word p.kind p.front false ∷ (p.rest ++ ws))
  apart_then ws a f = apart_append (word p.kind p.front false ∷ p.rest) ws p.apart a f

  pub text_then : (ws : List Word) → p.front ++ words_bytes (p.rest ++ ws) ≡ x ++ words_bytes ws
  text_then ws = ap (λ y. p.front ++ y) (bytes_append p.rest ws) ∙ sym (append_assoc p.front (words_bytes p.rest) (words_bytes ws)) ∙ ap (λ y. y ++ words_bytes ws) p.text

  pub reads_then : (ws : List Word) (us : List Token) → B (toks c ws ++ us) → Advances quil tables s (tok c p.kind p.front ∷ (toks c (p.rest ++ ws) ++ us)) (toks c ws ++ us) os
  reads_then ws us h = subst (λ ts. Advances quil tables s (tok c p.kind p.front ∷ ts) (toks c ws ++ us) os) (sym (toks_append c p.rest ws us)) (p.reads (toks c ws ++ us) h)

-- the same text, written otherwise
pub same_text : {c : Context} {s : Shape Class Event Name} {B : List Token → Type 0} {x y : List ℕ} {os : List Event} → x ≡ y → Piece c s B x os → Piece c s B y os
same_text e p = record { kind = p.kind; front = p.front; rest = p.rest; apart = p.apart; text = p.text ∙ e; opened = p.opened; reads = p.reads }

-- a primary is an expression
pub primary_sum : {refs : Bool} {c : Context} {x : List ℕ} {os : List Event} → Piece c (Rule (Primary refs)) Anything x os → Piece c (Rule (Sum refs)) NoOperator x os
unfolding quil tables
primary_sum {refs} {c} {x} {os} p =
    record {
      kind = p.kind;
      front = p.front;
      rest = p.rest;
      apart = p.apart;
      text = p.text;
      opened = or_left (opens_primary refs (tok c p.kind p.front).sort) (accepts class.Sign (tok c p.kind p.front).sort) p.opened;
      reads = λ us h. let n = no_operator us h in as_sum refs _ us os n.term (as_product refs _ us os n.factor (as_unary refs _ _ us os p.opened n.caret (p.reads us tt)));
    }

-- an expression in parentheses is a primary
pub sum_enclosed : {refs : Bool} {c : Context} {x : List ℕ} {os : List Event} → Piece c (Rule (Sum refs)) NoOperator x os → Piece c (Rule (Primary refs)) Anything (codes "(" ++ (x ++ codes ")")) (Opens (Parenthesized origin) ∷ (os ++ Closes ∷ []))
unfolding quil tables
sum_enclosed {refs} {c} {x} {os} p =
    record {
      kind = kind.Mark mark.LeftParenthesis;
      front = 40 ∷ [];
      rest = word p.kind p.front false ∷ (p.rest ++ ends ∷ []);
      apart = (mark_token mark.LeftParenthesis, inr (inl refl), apart_then p (ends ∷ []) (mark_token mark.RightParenthesis, tt, tt) (inr refl));
      text = ap (λ y. 40 ∷ y) (text_then p (ends ∷ []));
      opened = refl;
      reads = λ us h. encloses refs c (tok c (kind.Mark mark.RightParenthesis) (41 ∷ [])) _ us os refl (reads_then p (ends ∷ []) us refl);
    }

-- a sign before a primary is an expression
sign_before : {refs : Bool} {c : Context} {x : List ℕ} {os : List Event} (m : Mark) → accepts class.Sign (tok c (kind.Mark m) (byte_of m ∷ [])).sort ≡ true → Piece c (Rule (Primary refs)) Anything x os
    → Piece c (Rule (Sum refs)) NoOperator (byte_of m ∷ x) (Opens (Signed origin (sign_of (tok c (kind.Mark m) (byte_of m ∷ [])).sort)) ∷ (os ++ Closes ∷ []))
unfolding quil tables
sign_before {refs} {c} {x} {os} m a p =
    record {
      kind = kind.Mark m;
      front = byte_of m ∷ [];
      rest = word p.kind p.front false ∷ p.rest;
      apart = (mark_token m, inr (inl refl), p.apart);
      text = ap (λ y. byte_of m ∷ y) p.text;
      opened = or_right (opens_primary refs (tok c (kind.Mark m) (byte_of m ∷ [])).sort) (accepts class.Sign (tok c (kind.Mark m) (byte_of m ∷ [])).sort) a;
      reads = λ us h.
          let n = no_operator us h in
          as_sum refs _ us _ n.term (as_product refs _ us _ n.factor (signs refs (tok c (kind.Mark m) (byte_of m ∷ [])) _ us os a (as_unary refs _ _ us os p.opened n.caret (p.reads us tt))));
    }

pub signed_sum : {refs : Bool} {c : Context} {x : List ℕ} {os : List Event} (s : Sign) → Piece c (Rule (Primary refs)) Anything x os → Piece c (Rule (Sum refs)) NoOperator (sign_text s ++ x) (Opens (Signed origin s) ∷ (os ++ Closes ∷ []))
signed_sum sign.Plus p = sign_before mark.Plus refl p
signed_sum sign.Minus p = sign_before mark.Minus refl p

-- a function of an expression is a primary
function_before : {refs : Bool} {c : Context} {x : List ℕ} {os : List Event} (n : List ℕ) → IsLineToken kind.Name n → accepts class.Function (tok c kind.Name n).sort ≡ true → Piece c (Rule (Sum refs)) NoOperator x os
    → Piece c (Rule (Primary refs)) Anything (n ++ (codes "(" ++ (x ++ codes ")"))) (Opens (Argument origin (function_of (tok c kind.Name n).sort)) ∷ (os ++ Closes ∷ []))
unfolding quil tables
function_before {refs} {c} {x} {os} n l a p =
    record {
      kind = kind.Name;
      front = n;
      rest = begins ∷ word p.kind p.front false ∷ (p.rest ++ ends ∷ []);
      apart = (l, inr (inr refl), (mark_token mark.LeftParenthesis, inr (inl refl), apart_then p (ends ∷ []) (mark_token mark.RightParenthesis, tt, tt) (inr refl)));
      text = ap (λ y. n ++ (40 ∷ y)) (text_then p (ends ∷ []));
      opened = function_opens refs (tok c kind.Name n).sort a;
      reads = λ us h. calls refs (tok c kind.Name n) (tok c (kind.Mark mark.LeftParenthesis) (40 ∷ [])) (tok c (kind.Mark mark.RightParenthesis) (41 ∷ [])) _ us os a refl refl (reads_then p (ends ∷ []) us refl);
    }

pub called_primary : {refs : Bool} {c : Context} {x : List ℕ} {os : List Event} (f : Function) → Piece c (Rule (Sum refs)) NoOperator x os → Piece c (Rule (Primary refs)) Anything (((function_text f ++ codes "(") ++ x) ++ codes ")") (Opens (Argument origin f) ∷ (os ++ Closes ∷ []))
unfolding word_sort
called_primary function.Sqrt p = function_before (codes "sqrt") (record { token = refl; one_line = refl }) refl p
called_primary function.Sin p = function_before (codes "sin") (record { token = refl; one_line = refl }) refl p
called_primary function.Cos p = function_before (codes "cos") (record { token = refl; one_line = refl }) refl p
called_primary function.Cis p = function_before (codes "cis") (record { token = refl; one_line = refl }) refl p
called_primary function.Exp p = function_before (codes "exp") (record { token = refl; one_line = refl }) refl p

-- two primaries with an operator between them are an expression
module _ {refs : Bool} {c : Context} {x y : List ℕ} {os ps : List Event} (p : Piece c (Rule (Primary refs)) Anything x os) (q : Piece c (Rule (Primary refs)) Anything y ps) where
  -- how the operator is read between them
  Joining : Mark → Operator → Type 0
  Joining m o = (us vs : List Token) → Advances quil tables (Rule (Primary refs)) (tok c p.kind p.front ∷ vs) (tok c (kind.Mark m) (byte_of m ∷ []) ∷ tok c q.kind q.front ∷ (toks c q.rest ++ us)) os
      → IsNone us → Advances quil tables (Rule (Sum refs)) (tok c p.kind p.front ∷ vs) us (os ++ (Between o ∷ (ps ++ Joined ∷ [])))

  operator_between : (m : Mark) (o : Operator) → Joining m o → Piece c (Rule (Sum refs)) NoOperator (x ++ (32 ∷ byte_of m ∷ 32 ∷ y)) (os ++ (Between o ∷ (ps ++ Joined ∷ [])))
  unfolding quil tables Joining
  operator_between m o j =
      let behind : List Word = word (kind.Mark m) (byte_of m ∷ []) true ∷ word q.kind q.front true ∷ q.rest in
      record {
        kind = p.kind;
        front = p.front;
        rest = p.rest ++ behind;
        apart = apart_then p behind (mark_token m, inl refl, apart_blank q.kind q.front true q.rest q.apart) (inl refl);
        text = text_then p behind ∙ ap (λ z. x ++ (32 ∷ byte_of m ∷ 32 ∷ z)) q.text;
        opened = or_left (opens_primary refs (tok c p.kind p.front).sort) (accepts class.Sign (tok c p.kind p.front).sort) p.opened;
        reads = λ us h. j us (toks c (p.rest ++ behind) ++ us) (reads_then p behind us tt) (no_operator us h);
      }

  operated : (o : Operator) → Piece c (Rule (Sum refs)) NoOperator (x ++ (operator_text o ++ y)) (os ++ (Between o ∷ (ps ++ Joined ∷ [])))
  unfolding quil tables Joining
  operated operator.Add = operator_between mark.Plus operator.Add (λ us vs r n. sum_sum refs _ _ _ vs _ us os ps refl refl refl p.opened q.opened n r (q.reads us tt))
  operated operator.Subtract = operator_between mark.Minus operator.Subtract (λ us vs r n. sum_sum refs _ _ _ vs _ us os ps refl refl refl p.opened q.opened n r (q.reads us tt))
  operated operator.Multiply = operator_between mark.Star operator.Multiply (λ us vs r n. product_sum refs _ _ _ vs _ us os ps refl refl p.opened q.opened n r (q.reads us tt))
  operated operator.Divide = operator_between mark.Slash operator.Divide (λ us vs r n. product_sum refs _ _ _ vs _ us os ps refl refl p.opened q.opened n r (q.reads us tt))
  operated operator.Power = operator_between mark.Caret operator.Power (λ us vs r n. power_sum refs _ _ _ vs _ us os ps refl p.opened q.opened n r (q.reads us tt))

  pub applied_sum : (o : Operator) → Piece c (Rule (Sum refs)) NoOperator ((x ++ operator_text o) ++ y) (os ++ (Between o ∷ (ps ++ Joined ∷ [])))
  applied_sum o = same_text (sym (append_assoc x (operator_text o) y)) (operated o)

-- ---- atoms

-- one word
one_word : {s : Shape Class Event Name} {c : Context} {os : List Event} (k : Kind) (x y : List ℕ) → IsLineToken k x → x ≡ y → opens quil tables s (tok c k x).sort ≡ true → ((us : List Token) → Advances quil tables s (tok c k x ∷ us) us os) → Piece c s Anything y os
one_word k x y l e o r = record { kind = k; front = x; rest = []; apart = (l, tt, tt); text = append-nil x ∙ e; opened = o; reads = λ us h. r us }

index_of : (c : Context) (w : Whole) → IsIndex c class.Index w → (us : List Token) → Advances quil tables index (tok c (kind.Mark mark.LeftBracket) (91 ∷ []) ∷ tok c kind.Whole w.digits ∷ tok c (kind.Mark mark.RightBracket) (93 ∷ []) ∷ us) us (Index w ∷ [])
unfolding quil tables
index_of c w h us =
    subst (λ v. Advances quil tables index (tok c (kind.Mark mark.LeftBracket) (91 ∷ []) ∷ tok c kind.Whole w.digits ∷ tok c (kind.Mark mark.RightBracket) (93 ∷ []) ∷ us) us (Index v ∷ [])) (sym h.value)
    (choice_first refl (token_then_advances refl refl (token_then_advances h.read.accepted h.small (token_advances refl refl))))

-- the words of a cell, for a shape that takes a region and then an index
cell_words : {s : Shape Class Event Name} {refs : Bool} (c : Context) (a : Address) → IsCell refs c a → opens quil tables s (tok c kind.Name a.region).sort ≡ true
    → ((us vs : List Token) → Advances quil tables index us vs (Index a.index ∷ []) → Advances quil tables s (tok c kind.Name a.region ∷ us) vs (Region origin a.region ∷ Index a.index ∷ []))
    → Piece c s Anything (address_text a) (Region origin a.region ∷ Index a.index ∷ [])
cell_words c a h o r =
    record {
      kind = kind.Name;
      front = a.region;
      rest = word (kind.Mark mark.LeftBracket) (91 ∷ []) false ∷ word kind.Whole a.index.digits false ∷ word (kind.Mark mark.RightBracket) (93 ∷ []) false ∷ [];
      apart = (h.region.text, inr (inr refl), (mark_token mark.LeftBracket, inr (inl refl), (h.index.read.text, inr (inr refl), (mark_token mark.RightBracket, tt, tt))));
      text = sym (append_assoc (a.region ++ codes "[") a.index.digits (codes "]") ∙ append_assoc a.region (codes "[") (a.index.digits ++ codes "]"));
      opened = o;
      reads = λ us b. r _ us (index_of c a.index h.index us);
    }

pub address_piece : (c : Context) (a : Address) → IsCell true c a → Piece c address Anything (address_text a) (cell_events (record { place = origin; address = a }))
unfolding quil tables
address_piece c a h = cell_words c a h (or_left _ _ h.region.accepted) (λ us vs r. token_then_advances h.region.accepted refl r)

cell_primary : (refs : Bool) (c : Context) (a : Address) → IsCell refs c a → Piece c (Rule (Primary refs)) Anything (address_text a) (events_of_atom origin (atom.Cell a))
unfolding quil tables
cell_primary refs c a h =
    let accepted : accepts (class.Region refs) (tok c kind.Name a.region).sort ≡ true = subst (λ b. accepts (class.Region b) (tok c kind.Name a.region).sort ≡ true) (sym h.taken) h.region.accepted in
    cell_words c a h (region_opens refs (tok c kind.Name a.region).sort accepted) (λ us vs r. cell_read refs (tok c kind.Name a.region ∷ us) us vs (tok c kind.Name a.region) origin a.region a.index refl accepted refl refl r)

number_primary : (refs : Bool) (c : Context) (k : Kind) (x : List ℕ) → IsRead c class.Number k x → Piece c (Rule (Primary refs)) Anything x (events_of_atom origin (atom.Number x))
unfolding quil tables
number_primary refs c k x r = one_word k x x r.text refl (number_opens refs (tok c k x).sort r.accepted) (λ us. number_read refs (tok c k x ∷ us) us (tok c k x) origin x refl r.accepted refl refl)

parameter_primary : (refs : Bool) (c : Context) (n : ℕ) → IsParameter c n → Piece c (Rule (Primary refs)) Anything (name_or_none (slice_get c.parameters n)) (events_of_atom origin (atom.Parameter n))
unfolding quil tables
parameter_primary refs c n h =
    one_word kind.Parameter h.name (name_or_none (slice_get c.parameters n)) h.read.text (ap name_or_none (sym h.named)) (parameter_opens refs (tok c kind.Parameter h.name).sort h.read.accepted)
    (λ us. parameter_read refs (tok c kind.Parameter h.name ∷ us) us (tok c kind.Parameter h.name) origin n refl h.read.accepted refl (sym h.number))

leaf_primary : (refs : Bool) (c : Context) (a : Atom) → IsAtom refs c a → Piece c (Rule (Primary refs)) Anything (atom_text c.parameters a) (events_of_atom origin a)
unfolding quil tables word_sort
leaf_primary refs c (atom.Number x) (inl r) = number_primary refs c kind.Whole x r
leaf_primary refs c (atom.Number x) (inr r) = number_primary refs c kind.Decimal x r
leaf_primary refs c (atom.Imaginary x) r = one_word kind.Imaginary x x r.text refl (imaginary_opens refs (tok c kind.Imaginary x).sort r.accepted) (λ us. imaginary_read refs (tok c kind.Imaginary x ∷ us) us (tok c kind.Imaginary x) origin x refl r.accepted refl refl)
leaf_primary refs c atom.Pi r = one_word kind.Name (codes "pi") (codes "pi") (record { token = refl; one_line = refl }) refl refl (λ us. pi_read refs (tok c kind.Name (codes "pi") ∷ us) us (tok c kind.Name (codes "pi")) origin refl refl refl)
leaf_primary refs c atom.I r = one_word kind.Name (codes "i") (codes "i") (record { token = refl; one_line = refl }) refl refl (λ us. i_read refs (tok c kind.Name (codes "i") ∷ us) us (tok c kind.Name (codes "i")) origin refl refl refl)
leaf_primary refs c (atom.Parameter n) r = parameter_primary refs c n r
leaf_primary refs c (atom.Cell a) r = cell_primary refs c a r

-- ---- expressions

Built : Bool → Context → Bool → Expression → Type 0
Built refs c true e = Piece c (Rule (Primary refs)) Anything (expression_text c.parameters true e) (events (canon true e))
Built refs c false e = Piece c (Rule (Sum refs)) NoOperator (expression_text c.parameters false e) (events (canon false e))

build : (refs : Bool) (c : Context) (i : Bool) (e : Expression) → IsExpression refs c e → Built refs c i e
unfolding Built
build refs c true (Leaf p a) h = leaf_primary refs c a h
build refs c false (Leaf p a) h = primary_sum (leaf_primary refs c a h)
build refs c true (SignedTree p s a) h = sum_enclosed (signed_sum s (build refs c true a h))
build refs c false (SignedTree p s a) h = primary_sum (sum_enclosed (signed_sum s (build refs c true a h)))
build refs c true (Applied p o a b) h = sum_enclosed (applied_sum (build refs c true a h.0) (build refs c true b h.1) o)
build refs c false (Applied p o a b) h = applied_sum (build refs c true a h.0) (build refs c true b h.1) o
build refs c true (Called p f a) h = called_primary f (build refs c false a h)
build refs c false (Called p f a) h = primary_sum (called_primary f (build refs c false a h))

pub expression_piece : (refs : Bool) (c : Context) (e : Expression) → IsExpression refs c e → Piece c (Rule (Sum refs)) NoOperator (expression_text c.parameters false e) (events (canon false e))
unfolding Built
expression_piece refs c e h = build refs c false e h
