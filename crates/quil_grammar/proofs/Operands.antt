-- Reading on where an operand is to be read.
use Rattle.std.proofs.Common.{◌≡◌, ℕ, Bool, true, false, List, [], ◌∷◌, ◌++◌, refl, sym, ◌∙◌, ap, subst}
use Rattle.quil_shape.specs.Shape.{Shape}
use Rattle.quil_shape.specs.Shape.Shape.{One, Emit, Seq, Rule}
use Rattle.quil_shape.specs.Reads.{Advances, Halts, GoesOn, starts, is_barred}
use Rattle.quil_shape.proofs.Reading.{goes_then, goes_next, goes_past, goes_rule, goes_first, goes_second, goes_seq, goes_to_stop, goes_to_large, stops_behind, stops_here, exceeds_behind, exceeds_here, token_advances, token_halts, end_halts, seq_halts_first}
use Rattle.quil_tree.specs.declared.place.Place.{Place}
use Rattle.quil_tree.specs.declared.expr.Atom.{Atom}
use Rattle.quil_tree.specs.declared.expr.Sign.{Sign}
use Rattle.quil_tree.specs.declared.expr.Function.{Function}
use Rattle.quil_tree.specs.declared.expr.Function.TheVariants as function
use Rattle.quil_tree.specs.declared.expr.Step.{Step}
use Rattle.quil_tree.specs.declared.expr.Action.TheVariants as action
use Rattle.quil_grammar.specs.declared.sort.Sort.TheVariants as sort
use Rattle.quil_grammar.specs.declared.class.Class.{Class}
use Rattle.quil_grammar.specs.declared.class.Class.TheVariants as class
use Rattle.quil_grammar.specs.declared.reader.Todo.{Todo}
use Rattle.quil_grammar.specs.declared.reader.Todo.TheVariants as todo
use Rattle.quil_grammar.specs.declared.stop.Stop.{Stop}
use Rattle.quil_grammar.specs.declared.stop.Stop.TheVariants as stop
use Rattle.quil_grammar.specs.Token.{Token}
use Rattle.quil_grammar.specs.Grammar.{quil, accepts, sign_of, function_of, Name, Event, Sum, Unary, Power, Primary, more_terms, more_factors, exponent, parenthesized, signed}
use Rattle.quil_grammar.specs.Tables.{tables}
use Rattle.quil_grammar.specs.Grammar.Event.{Opens, Closes}
use Rattle.quil_grammar.specs.Grammar.Around.{Signed, Parenthesized, Argument}
use Rattle.quil_grammar.specs.Written.{Alone, events_of_atom}
use Rattle.quil_grammar.specs.Frames.{is_next, MoreTerms, MoreFactors, AnExponent, Rest, shapes, held, todos, Wants, Holds, StopsFor, GoesToStand}
use Rattle.quil_grammar.specs.declared.reader.Reader.{Reader}
use Rattle.std.specs.Prelude.{Result, Err}
use Rattle.std.specs.Result.{IsErrAnd}
use Rattle.std.proofs.lemmas.Result.{err_from_is_err_and}
use Rattle.std.proofs.lemmas.Bool.{or_right}
use Rattle.quil_grammar.proofs.Sorts.{same_sort}
use Rattle.quil_grammar.proofs.Atoms.{token, function_cases}

-- the second side of a choice decides
-- a sign is read, and an operand is still to be read
sign_goes : (refs : Bool) (t : Token) (us : List Token) (os : List Event) (k : List (Shape Class Event Name)) → accepts class.Sign t.sort ≡ true
    → GoesOn quil tables (Rule (Unary refs) ∷ k) (t ∷ us) os (Rule (Unary refs) ∷ Emit Closes ∷ k) us (os ++ Opens (Signed t.place (sign_of t.sort)) ∷ [])
unfolding quil tables
sign_goes refs t us os k a = goes_then goes_rule (goes_then (goes_first (rw a refl)) (goes_then goes_seq (goes_then (goes_next (token_advances a refl)) goes_seq)))

-- where no sign stands, a primary and then an exponent are to be read
to_primary : (refs : Bool) (us : List Token) (os : List Event) (k : List (Shape Class Event Name)) → is_next class.Sign us ≡ false → GoesOn quil tables (Rule (Unary refs) ∷ k) us os (Rule (Primary refs) ∷ exponent refs ∷ k) us os
unfolding quil tables
to_primary refs [] os k e = goes_then goes_rule (goes_then (goes_second refl) (goes_then goes_rule goes_seq))
to_primary refs (t ∷ us) os k e = goes_then goes_rule (goes_then (goes_second (or_right (starts quil tables (Rule (Power refs)) (t ∷ us)) (is_barred quil tables (signed refs) (t ∷ us)) (rw e refl))) (goes_then goes_rule goes_seq))

-- a sum in parentheses begins with an operand
begins_sum : (refs : Bool) (us : List Token) (os : List Event) (k : List (Shape Class Event Name))
    → GoesOn quil tables (parenthesized refs ∷ k) us os (Rule (Unary refs) ∷ more_factors refs ∷ more_terms refs ∷ Seq (One class.ParenthesisEnds) (Emit Closes) ∷ k) us os
unfolding quil
begins_sum refs us os k = goes_then goes_seq (goes_then goes_rule (goes_then goes_seq (goes_then goes_rule goes_seq)))

parenthesis_stands : (refs : Bool) (x : List ℕ) (p : Place) (n : ℕ) (us : List Token) (os : List Event) (k : List (Shape Class Event Name))
    → GoesOn quil tables (Rule (Primary refs) ∷ k) (token sort.LeftParenthesis x p n ∷ us) os (parenthesized refs ∷ k) us (os ++ Opens (Parenthesized p) ∷ [])
unfolding quil tables
parenthesis_stands refs x p n us os k =
    goes_then goes_rule (goes_then (goes_second refl) (goes_then (goes_second refl) (goes_then (goes_second refl) (goes_then (goes_second refl) (goes_then (goes_second refl) (goes_then (goes_second refl) (goes_then (goes_second refl)
    (goes_then goes_seq (goes_next (token_advances refl refl))))))))))

parenthesis_goes : (refs : Bool) (t : Token) (us : List Token) (os : List Event) (k : List (Shape Class Event Name)) → t.sort ≡ sort.LeftParenthesis
    → GoesOn quil tables (Rule (Primary refs) ∷ k) (t ∷ us) os (parenthesized refs ∷ k) us (os ++ Opens (Parenthesized t.place) ∷ [])
parenthesis_goes refs t us os k e = subst (λ s. GoesOn quil tables (Rule (Primary refs) ∷ k) (token s t.text t.place t.number ∷ us) os (parenthesized refs ∷ k) us (os ++ Opens (Parenthesized t.place) ∷ [])) (sym e) (parenthesis_stands refs t.text t.place t.number us os k)

-- a function goes on to its argument
sqrt_stands : (refs : Bool) (x : List ℕ) (p : Place) (n : ℕ) (us : List Token) (os : List Event) (k : List (Shape Class Event Name))
    → GoesOn quil tables (Rule (Primary refs) ∷ k) (token sort.Sqrt x p n ∷ us) os (Seq (One class.ArgumentBegins) (parenthesized refs) ∷ k) us (os ++ Opens (Argument p function.Sqrt) ∷ [])
unfolding quil tables
sqrt_stands refs x p n us os k =
    goes_then goes_rule (goes_then (goes_second refl) (goes_then (goes_second refl) (goes_then (goes_second refl) (goes_then (goes_second refl) (goes_then (goes_second refl) (goes_then (goes_second refl) (goes_then (goes_first refl)
    (goes_then goes_seq (goes_next (token_advances refl refl))))))))))

sin_stands : (refs : Bool) (x : List ℕ) (p : Place) (n : ℕ) (us : List Token) (os : List Event) (k : List (Shape Class Event Name))
    → GoesOn quil tables (Rule (Primary refs) ∷ k) (token sort.Sin x p n ∷ us) os (Seq (One class.ArgumentBegins) (parenthesized refs) ∷ k) us (os ++ Opens (Argument p function.Sin) ∷ [])
unfolding quil tables
sin_stands refs x p n us os k =
    goes_then goes_rule (goes_then (goes_second refl) (goes_then (goes_second refl) (goes_then (goes_second refl) (goes_then (goes_second refl) (goes_then (goes_second refl) (goes_then (goes_second refl) (goes_then (goes_first refl)
    (goes_then goes_seq (goes_next (token_advances refl refl))))))))))

cos_stands : (refs : Bool) (x : List ℕ) (p : Place) (n : ℕ) (us : List Token) (os : List Event) (k : List (Shape Class Event Name))
    → GoesOn quil tables (Rule (Primary refs) ∷ k) (token sort.Cos x p n ∷ us) os (Seq (One class.ArgumentBegins) (parenthesized refs) ∷ k) us (os ++ Opens (Argument p function.Cos) ∷ [])
unfolding quil tables
cos_stands refs x p n us os k =
    goes_then goes_rule (goes_then (goes_second refl) (goes_then (goes_second refl) (goes_then (goes_second refl) (goes_then (goes_second refl) (goes_then (goes_second refl) (goes_then (goes_second refl) (goes_then (goes_first refl)
    (goes_then goes_seq (goes_next (token_advances refl refl))))))))))

cis_stands : (refs : Bool) (x : List ℕ) (p : Place) (n : ℕ) (us : List Token) (os : List Event) (k : List (Shape Class Event Name))
    → GoesOn quil tables (Rule (Primary refs) ∷ k) (token sort.Cis x p n ∷ us) os (Seq (One class.ArgumentBegins) (parenthesized refs) ∷ k) us (os ++ Opens (Argument p function.Cis) ∷ [])
unfolding quil tables
cis_stands refs x p n us os k =
    goes_then goes_rule (goes_then (goes_second refl) (goes_then (goes_second refl) (goes_then (goes_second refl) (goes_then (goes_second refl) (goes_then (goes_second refl) (goes_then (goes_second refl) (goes_then (goes_first refl)
    (goes_then goes_seq (goes_next (token_advances refl refl))))))))))

exp_stands : (refs : Bool) (x : List ℕ) (p : Place) (n : ℕ) (us : List Token) (os : List Event) (k : List (Shape Class Event Name))
    → GoesOn quil tables (Rule (Primary refs) ∷ k) (token sort.Exp x p n ∷ us) os (Seq (One class.ArgumentBegins) (parenthesized refs) ∷ k) us (os ++ Opens (Argument p function.Exp) ∷ [])
unfolding quil tables
exp_stands refs x p n us os k =
    goes_then goes_rule (goes_then (goes_second refl) (goes_then (goes_second refl) (goes_then (goes_second refl) (goes_then (goes_second refl) (goes_then (goes_second refl) (goes_then (goes_second refl) (goes_then (goes_first refl)
    (goes_then goes_seq (goes_next (token_advances refl refl))))))))))

function_goes : (refs : Bool) (t : Token) (us : List Token) (os : List Event) (k : List (Shape Class Event Name)) → accepts class.Function t.sort ≡ true
    → GoesOn quil tables (Rule (Primary refs) ∷ k) (t ∷ us) os (Seq (One class.ArgumentBegins) (parenthesized refs) ∷ k) us (os ++ Opens (Argument t.place (function_of t.sort)) ∷ [])
function_goes refs t us os k e =
    function_cases (λ s. GoesOn quil tables (Rule (Primary refs) ∷ k) (token s t.text t.place t.number ∷ us) os (Seq (One class.ArgumentBegins) (parenthesized refs) ∷ k) us (os ++ Opens (Argument t.place (function_of s)) ∷ []))
    (sqrt_stands refs t.text t.place t.number us os k) (sin_stands refs t.text t.place t.number us os k) (cos_stands refs t.text t.place t.number us os k) (cis_stands refs t.text t.place t.number us os k) (exp_stands refs t.text t.place t.number us os k) t.sort e

argument_goes : (refs : Bool) (t : Token) (us : List Token) (os : List Event) (k : List (Shape Class Event Name)) → accepts class.ArgumentBegins t.sort ≡ true
    → GoesOn quil tables (Seq (One class.ArgumentBegins) (parenthesized refs) ∷ k) (t ∷ us) os (parenthesized refs ∷ k) us os
unfolding quil tables
argument_goes refs t us os k e = goes_then goes_seq (goes_past (token_advances e refl))

no_argument : (refs : Bool) (us : List Token) → is_next class.ArgumentBegins us ≡ false → Halts quil tables (Seq (One class.ArgumentBegins) (parenthesized refs)) us us
unfolding quil tables
no_argument refs [] e = seq_halts_first end_halts
no_argument refs (t ∷ us) e = seq_halts_first (token_halts e)

-- a stop in what is read next stops the expression
pub stops_in : (e : Stop) (refs : Bool) (ts us vs : List Token) (a : Shape Class Event Name) (k : List (Shape Class Event Name)) (os : List Event)
    → GoesOn quil tables (Rule (Sum refs) ∷ []) ts [] (a ∷ k) us os → StopsFor e a us vs → StopsFor e (Rule (Sum refs)) ts vs
stops_in stop.Unexpected refs ts us vs a k os g h = goes_to_stop (stops_behind g (stops_here h))
stops_in stop.TooLarge refs ts us vs a k os g h = goes_to_large (exceeds_behind g (exceeds_here h))
stops_in stop.OutOfMemory refs ts us vs a k os g h = tt

-- four in a row, put one after the other
in_turn : {A : Type 0} (xs : List A) (a b c d : A) → xs ++ a ∷ b ∷ c ∷ d ∷ [] ≡ (((xs ++ a ∷ []) ++ b ∷ []) ++ c ∷ []) ++ d ∷ []
in_turn [] a b c d = refl
in_turn (x ∷ xs) a b c d = ap (λ ys. x ∷ ys) (in_turn xs a b c d)

-- the exits of the reader
pub wants_sign : (refs same : Bool) (ts us vs : List Token) (t : Token) (k k' : List Todo) (ss ss' : List Step) (p : Place) (s : Sign)
    → Wants refs ts us k ss → us ≡ t ∷ vs → accepts class.Sign t.sort ≡ true → p ≡ t.place → s ≡ sign_of t.sort → k' ≡ k ++ todo.Signed p s ∷ [] → same ≡ refs → ss' ≡ ss → Wants same ts vs k' ss'
wants_sign refs same ts us vs t k k' ss ss' p s h e a f g i j l =
    rw (j, l, i, f, g)
    (record {
      frames = Rest (Signed t.place (sign_of t.sort)) ∷ h.frames;
      is_to_do = ap (λ ks. ks ++ todo.Signed t.place (sign_of t.sort) ∷ []) h.is_to_do;
      is_kept = h.is_kept;
      goes_on = goes_then h.goes_on (rw e (sign_goes refs t vs (held h.frames) (shapes refs h.frames) a));
    })

begun : (refs : Bool) (us vs : List Token) (os ps : List Event) (k : List (Shape Class Event Name)) → is_next class.Sign us ≡ false
    → GoesOn quil tables (Rule (Primary refs) ∷ exponent refs ∷ k) us os (parenthesized refs ∷ exponent refs ∷ k) vs ps
    → GoesOn quil tables (Rule (Unary refs) ∷ k) us os (Rule (Unary refs) ∷ more_factors refs ∷ more_terms refs ∷ Seq (One class.ParenthesisEnds) (Emit Closes) ∷ exponent refs ∷ k) vs ps
begun refs us vs os ps k n g = goes_then (to_primary refs us os k n) (goes_then g (begins_sum refs vs ps (exponent refs ∷ k)))

pub wants_parenthesized : (refs same : Bool) (ts us vs : List Token) (t : Token) (k k' : List Todo) (ss ss' : List Step) (p : Place)
    → Wants refs ts us k ss → is_next class.Sign us ≡ false → us ≡ t ∷ vs → accepts class.Parenthesis t.sort ≡ true → p ≡ t.place → k' ≡ k ++ todo.Exponent ∷ todo.Parenthesized p ∷ todo.Terms ∷ todo.Factors ∷ [] → same ≡ refs → ss' ≡ ss → Wants same ts vs k' ss'
wants_parenthesized refs same ts us vs t k k' ss ss' p h n e a f i j l =
    let start = parenthesis_goes refs t vs (held h.frames) (exponent refs ∷ shapes refs h.frames) (same_sort t.sort sort.LeftParenthesis a) in
    rw (j, l, i, f)
    (record {
      frames = MoreFactors ∷ MoreTerms ∷ Rest (Parenthesized t.place) ∷ AnExponent ∷ h.frames;
      is_to_do = rw h.is_to_do (in_turn (todos h.frames) todo.Exponent (todo.Parenthesized t.place) todo.Terms todo.Factors);
      is_kept = h.is_kept;
      goes_on = goes_then h.goes_on (begun refs us vs (held h.frames) (held h.frames ++ Opens (Parenthesized t.place) ∷ []) (shapes refs h.frames) n (rw e start));
    })

pub wants_argument : (refs same : Bool) (ts us vs ws : List Token) (t u : Token) (k k' : List Todo) (ss ss' : List Step) (p : Place) (f : Function)
    → Wants refs ts us k ss → is_next class.Sign us ≡ false → us ≡ t ∷ vs → accepts class.Function t.sort ≡ true → vs ≡ u ∷ ws → accepts class.ArgumentBegins u.sort ≡ true
    → p ≡ t.place → f ≡ function_of t.sort → k' ≡ k ++ todo.Exponent ∷ todo.Argument p f ∷ todo.Terms ∷ todo.Factors ∷ [] → same ≡ refs → ss' ≡ ss → Wants same ts ws k' ss'
wants_argument refs same ts us vs ws t u k k' ss ss' p f h n e a d b g q i j l =
    let m = Argument t.place (function_of t.sort) in
    let first = function_goes refs t vs (held h.frames) (exponent refs ∷ shapes refs h.frames) a in
    let second = argument_goes refs u ws (held h.frames ++ Opens m ∷ []) (exponent refs ∷ shapes refs h.frames) b in
    rw (j, l, i, g, q)
    (record {
      frames = MoreFactors ∷ MoreTerms ∷ Rest m ∷ AnExponent ∷ h.frames;
      is_to_do = rw h.is_to_do (in_turn (todos h.frames) todo.Exponent (todo.Argument t.place (function_of t.sort)) todo.Terms todo.Factors);
      is_kept = h.is_kept;
      goes_on = goes_then h.goes_on (begun refs us ws (held h.frames) (held h.frames ++ Opens m ∷ []) (shapes refs h.frames) n (rw e (goes_then first (rw d second))));
    })

pub stops_at_argument : (refs same : Bool) (ts us vs ws : List Token) (t : Token) (k : List Todo) (ss : List Step)
    → Wants refs ts us k ss → is_next class.Sign us ≡ false → us ≡ t ∷ vs → accepts class.Function t.sort ≡ true → is_next class.ArgumentBegins vs ≡ false → ws ≡ vs → same ≡ refs → Halts quil tables (Rule (Sum same)) ts ws
stops_at_argument refs same ts us vs ws t k ss h n e a d i j =
    let first = function_goes refs t vs (held h.frames) (exponent refs ∷ shapes refs h.frames) a in
    rw (i, j) (stops_in stop.Unexpected refs ts vs vs (Seq (One class.ArgumentBegins) (parenthesized refs)) (exponent refs ∷ shapes refs h.frames) (held h.frames ++ Opens (Argument t.place (function_of t.sort)) ∷ [])
    (goes_then h.goes_on (goes_then (to_primary refs us (held h.frames) (shapes refs h.frames) n) (rw e first))) (no_argument refs vs d))

pub stops_at_atom : (refs inner same : Bool) (ts us vs ws : List Token) (k : List Todo) (ss : List Step) (e : Stop)
    → Wants refs ts us k ss → is_next class.Sign us ≡ false → StopsFor e (Rule (Primary inner)) vs ws → inner ≡ refs → vs ≡ us → same ≡ refs → StopsFor e (Rule (Sum same)) ts ws
stops_at_atom refs inner same ts us vs ws k ss e h n s i v j =
    let atom = rw (i, v) at s in
    rw j (stops_in e refs ts us ws (Rule (Primary refs)) (exponent refs ∷ shapes refs h.frames) (held h.frames) (goes_then h.goes_on (to_primary refs us (held h.frames) (shapes refs h.frames) n)) atom)

pub holds_atom : (refs inner same : Bool) (ts us vs ws xs : List Token) (k k' : List Todo) (ss ss' : List Step) (p q : Place) (a : Atom)
    → Wants refs ts us k ss → is_next class.Sign us ≡ false → Advances quil tables (Rule (Primary inner)) vs ws (events_of_atom p a) → inner ≡ refs → vs ≡ us → xs ≡ ws
    → k' ≡ k ++ todo.Exponent ∷ [] → ss' ≡ ss ++ record { place = p; action = action.Push a } ∷ [] → q ≡ p → same ≡ refs → Holds same ts xs k' ss' q
holds_atom refs inner same ts us vs ws xs k k' ss ss' p q a h n r e v w i l m j =
    let atom = rw (e, v) at r in
    rw (j, i, l, m, w)
    (record {
      frames = AnExponent ∷ h.frames;
      operand = Alone p a;
      is_to_do = ap (λ ks. ks ++ todo.Exponent ∷ []) h.is_to_do;
      is_kept = ap (λ xs. xs ++ record { place = p; action = action.Push a } ∷ []) h.is_kept;
      is_begin = refl;
      goes_on = goes_then h.goes_on (goes_then (to_primary refs us (held h.frames) (shapes refs h.frames) n) (goes_next atom));
    })

-- an error stops the expression where its stop does
pub err_stands : (ts : List Token) (e : Stop) (s : Result Bool Stop) (reader : Reader) → IsErrAnd s (λ x. x ≡ e) → StopsFor e (Rule (Sum reader.references)) ts reader.rest.now → GoesToStand ts s reader
err_stands ts e s reader is_error h =
    let p = err_from_is_err_and s is_error in
    subst (λ x. GoesToStand ts x reader) (sym (p.1 ∙ ap (λ x. Err x) p.2)) h
