-- Reading on behind an operand.
use Rattle.std.proofs.Common.{◌≡◌, Bool, true, false, List, [], ◌∷◌, ◌++◌, refl, sym, ◌∙◌, ap, subst, append_assoc}
use Rattle.std.proofs.lemmas.List.{same_from_push}
use Rattle.quil_shape.specs.Shape.{Shape}
use Rattle.quil_shape.specs.Shape.Shape.{One, Emit, Seq, Rule}
use Rattle.quil_shape.specs.Reads.{GoesOn, Halts}
use Rattle.quil_shape.proofs.Reading.{goes_then, goes_next, goes_past, goes_rule, goes_first, goes_second, goes_seq, goes_more, goes_to_stop, stops_behind, stops_here, token_advances, token_halts, end_halts, seq_halts_first, many_ends, empty_advances, emit_advances}
use Rattle.quil_shape.proofs.Expected.{not_empty}
use Rattle.quil_tree.specs.declared.place.Place.{Place}
use Rattle.quil_tree.specs.declared.expr.Sign.{Sign}
use Rattle.quil_tree.specs.declared.expr.Operator.{Operator}
use Rattle.quil_tree.specs.declared.expr.Function.{Function}
use Rattle.quil_tree.specs.declared.expr.Step.{Step}
use Rattle.quil_tree.specs.declared.expr.Action.TheVariants as action
use Rattle.quil_tree.specs.Expression.{postfix}
use Rattle.quil_grammar.specs.declared.class.Class.{Class}
use Rattle.quil_grammar.specs.declared.class.Class.TheVariants as class
use Rattle.quil_grammar.specs.declared.reader.Todo.{Todo}
use Rattle.quil_grammar.specs.declared.reader.Todo.TheVariants as todo
use Rattle.quil_grammar.specs.Token.{Token}
use Rattle.quil_grammar.specs.Grammar.{quil, accepts, operator_of, Name, Event, Sum, Unary, more_terms, more_factors, exponent}
use Rattle.quil_grammar.specs.Tables.{tables}
use Rattle.quil_grammar.specs.Grammar.Event.{Between, Joined, Opens, Closes}
use Rattle.quil_grammar.specs.Grammar.Around.{Signed, Parenthesized, Argument}
use Rattle.quil_grammar.specs.Written.{Written, Joins, Within, events, meaning, start}
use Rattle.quil_grammar.specs.Frames.{is_next, Frame, MoreTerms, MoreFactors, AnExponent, Operand, Rest, shapes, shape_of, held, held_behind, kept, kept_behind, todos, todo_of, Wants, Holds}

-- the frame that is to be read so, with the first operand that it may hold
abbrev frame_of : Todo → Written → Frame
frame_of todo.Terms a = MoreTerms
frame_of todo.Factors a = MoreFactors
frame_of todo.Exponent a = AnExponent
frame_of (todo.Operand o p) a = Operand o a
frame_of (todo.Signed p s) a = Rest (Signed p s)
frame_of (todo.Parenthesized p) a = Rest (Parenthesized p)
frame_of (todo.Argument p f) a = Rest (Argument p f)

-- the first operand of a frame, or any
abbrev first_of : Written → Frame → Written
first_of w (Operand o a) = a
first_of w MoreTerms = w
first_of w MoreFactors = w
first_of w AnExponent = w
first_of w (Rest m) = w

frame_again : (w : Written) (f : Frame) → f ≡ frame_of (todo_of f) (first_of w f)
frame_again w MoreTerms = refl
frame_again w MoreFactors = refl
frame_again w AnExponent = refl
frame_again w (Operand o a) = refl
frame_again w (Rest (Signed p s)) = refl
frame_again w (Rest (Parenthesized p)) = refl
frame_again w (Rest (Argument p f)) = refl

-- what the reader holds, with the innermost frame taken from what is to do
record Opened (refs : Bool) (ts us : List Token) (k : List Todo) (next : Todo) (ss : List Step) (begin : Place) : Type 0 where
  frames : List Frame
  first : Written
  operand : Written
  is_to_do : k ≡ todos frames
  is_next_todo : next ≡ todo_of (frame_of next first)
  is_kept : ss ≡ kept_behind (kept frames) (frame_of next first) ++ postfix (meaning operand)
  is_begin : begin ≡ start operand
  goes_on : GoesOn quil tables (Rule (Sum refs) ∷ []) ts [] (shape_of refs (frame_of next first) ∷ shapes refs frames) us (held_behind (held frames) (frame_of next first) ++ events operand)

open_frames : (refs : Bool) (ts us : List Token) (k : List Todo) (next : Todo) (ss : List Step) (begin : Place) (fs : List Frame) (w : Written)
    → k ++ next ∷ [] ≡ todos fs → ss ≡ kept fs ++ postfix (meaning w) → begin ≡ start w → GoesOn quil tables (Rule (Sum refs) ∷ []) ts [] (shapes refs fs) us (held fs ++ events w)
    → Opened refs ts us k next ss begin
open_frames refs ts us k next ss begin [] w e f g h = absurd (not_empty k next e)
open_frames refs ts us k next ss begin (a ∷ fs) w e f g h =
    let both = same_from_push k (todos fs) next (todo_of a) e in
    let same : a ≡ frame_of next (first_of w a) = frame_again w a ∙ ap (λ t. frame_of t (first_of w a)) (sym both.1) in
    record {
      frames = fs;
      first = first_of w a;
      operand = w;
      is_to_do = both.0;
      is_next_todo = both.1 ∙ ap todo_of same;
      is_kept = subst (λ x. ss ≡ kept_behind (kept fs) x ++ postfix (meaning w)) same f;
      is_begin = g;
      goes_on = subst (λ x. GoesOn quil tables (Rule (Sum refs) ∷ []) ts [] (shape_of refs x ∷ shapes refs fs) us (held_behind (held fs) x ++ events w)) same h;
    }

opened : (refs : Bool) (ts us : List Token) (k : List Todo) (next : Todo) (ss : List Step) (begin : Place) → Holds refs ts us (k ++ next ∷ []) ss begin → Opened refs ts us k next ss begin
opened refs ts us k next ss begin h = open_frames refs ts us k next ss begin h.frames h.operand h.is_to_do h.is_kept h.is_begin h.goes_on

-- nothing more is to be read of a sum, a product or a power
no_terms : (refs : Bool) (us : List Token) (os : List Event) (k : List (Shape Class Event Name)) → is_next class.Additive us ≡ false → GoesOn quil tables (more_terms refs ∷ k) us os k us os
unfolding quil tables
no_terms refs [] os k e = goes_past (many_ends refl)
no_terms refs (t ∷ us) os k e = goes_past (many_ends (rw e refl))

no_factors : (refs : Bool) (us : List Token) (os : List Event) (k : List (Shape Class Event Name)) → is_next class.Multiplicative us ≡ false → GoesOn quil tables (more_factors refs ∷ k) us os k us os
unfolding quil tables
no_factors refs [] os k e = goes_past (many_ends refl)
no_factors refs (t ∷ us) os k e = goes_past (many_ends (rw e refl))

no_exponent : (refs : Bool) (us : List Token) (os : List Event) (k : List (Shape Class Event Name)) → is_next class.Caret us ≡ false → GoesOn quil tables (exponent refs ∷ k) us os k us os
unfolding quil tables
no_exponent refs [] os k e = goes_then (goes_second refl) (goes_past empty_advances)
no_exponent refs (t ∷ us) os k e = goes_then (goes_second (rw e refl)) (goes_past empty_advances)

-- an operator is read, and its second operand is to be read
a_term : (refs : Bool) (t : Token) (ts us : List Token) (os : List Event) (k : List (Shape Class Event Name)) → ts ≡ t ∷ us → accepts class.Additive t.sort ≡ true
    → GoesOn quil tables (more_terms refs ∷ k) ts os (Rule (Unary refs) ∷ more_factors refs ∷ Emit Joined ∷ more_terms refs ∷ k) us (os ++ Between (operator_of t.sort) ∷ [])
unfolding quil tables
a_term refs t ts us os k e a = rw e (goes_then (goes_more (rw a refl)) (goes_then goes_seq (goes_then (goes_next (token_advances a refl)) (goes_then goes_seq (goes_then goes_rule goes_seq)))))

a_factor : (refs : Bool) (t : Token) (ts us : List Token) (os : List Event) (k : List (Shape Class Event Name)) → ts ≡ t ∷ us → accepts class.Multiplicative t.sort ≡ true
    → GoesOn quil tables (more_factors refs ∷ k) ts os (Rule (Unary refs) ∷ Emit Joined ∷ more_factors refs ∷ k) us (os ++ Between (operator_of t.sort) ∷ [])
unfolding quil tables
a_factor refs t ts us os k e a = rw e (goes_then (goes_more (rw a refl)) (goes_then goes_seq (goes_then (goes_next (token_advances a refl)) goes_seq)))

an_exponent : (refs : Bool) (t : Token) (ts us : List Token) (os : List Event) (k : List (Shape Class Event Name)) → ts ≡ t ∷ us → accepts class.Caret t.sort ≡ true
    → GoesOn quil tables (exponent refs ∷ k) ts os (Rule (Unary refs) ∷ Emit Joined ∷ k) us (os ++ Between (operator_of t.sort) ∷ [])
unfolding quil tables
an_exponent refs t ts us os k e a = rw e (goes_then (goes_first (rw a refl)) (goes_then goes_seq (goes_then (goes_next (token_advances a refl)) goes_seq)))

-- a parenthesis ends
ends : (t : Token) (ts us : List Token) (os : List Event) (k : List (Shape Class Event Name)) → ts ≡ t ∷ us → accepts class.ParenthesisEnds t.sort ≡ true
    → GoesOn quil tables (Seq (One class.ParenthesisEnds) (Emit Closes) ∷ k) ts os k us (os ++ Closes ∷ [])
unfolding quil tables
ends t ts us os k e a = rw e (goes_then goes_seq (goes_then (goes_past (token_advances a refl)) (goes_next emit_advances)))

no_end : (us : List Token) → is_next class.ParenthesisEnds us ≡ false → Halts quil tables (Seq (One class.ParenthesisEnds) (Emit Closes)) us us
unfolding quil tables
no_end [] e = seq_halts_first end_halts
no_end (t ∷ us) e = seq_halts_first (token_halts e)

-- what is made of two operands, and of what stands round one
joined_events : (os : List Event) (o : Operator) (a b : Written) → (((os ++ events a) ++ Between o ∷ []) ++ events b) ++ Joined ∷ [] ≡ os ++ events (Joins o a b)
joined_events os o a b = simp (append_assoc)

applied_steps : (ks xs ys : List Step) (s : Step) → ((ks ++ xs) ++ ys) ++ s ∷ [] ≡ ks ++ (xs ++ (ys ++ s ∷ []))
applied_steps ks xs ys s = simp (append_assoc)

closed_events : (os ms : List Event) (o : Event) → ((os ++ o ∷ []) ++ ms) ++ Closes ∷ [] ≡ os ++ (o ∷ (ms ++ Closes ∷ []))
closed_events os ms o = simp (append_assoc)

-- the exits of the reader
pub terms_end : (refs same : Bool) (ts us vs : List Token) (k k' : List Todo) (ss ss' : List Step) (p q : Place)
    → Holds refs ts us (k ++ todo.Terms ∷ []) ss p → is_next class.Additive us ≡ false → vs ≡ us → same ≡ refs → k' ≡ k → ss' ≡ ss → q ≡ p → Holds same ts vs k' ss' q
terms_end refs same ts us vs k k' ss ss' p q h n e f g i j =
    let o = opened refs ts us k todo.Terms ss p h in
    rw (e, f, g, i, j)
    (record {
      frames = o.frames;
      operand = o.operand;
      is_to_do = o.is_to_do;
      is_kept = o.is_kept;
      is_begin = o.is_begin;
      goes_on = goes_then o.goes_on (no_terms refs us (held o.frames ++ events o.operand) (shapes refs o.frames) n);
    })

pub factors_end : (refs same : Bool) (ts us vs : List Token) (k k' : List Todo) (ss ss' : List Step) (p q : Place)
    → Holds refs ts us (k ++ todo.Factors ∷ []) ss p → is_next class.Multiplicative us ≡ false → vs ≡ us → same ≡ refs → k' ≡ k → ss' ≡ ss → q ≡ p → Holds same ts vs k' ss' q
factors_end refs same ts us vs k k' ss ss' p q h n e f g i j =
    let o = opened refs ts us k todo.Factors ss p h in
    rw (e, f, g, i, j)
    (record {
      frames = o.frames;
      operand = o.operand;
      is_to_do = o.is_to_do;
      is_kept = o.is_kept;
      is_begin = o.is_begin;
      goes_on = goes_then o.goes_on (no_factors refs us (held o.frames ++ events o.operand) (shapes refs o.frames) n);
    })

pub exponent_ends : (refs same : Bool) (ts us vs : List Token) (k k' : List Todo) (ss ss' : List Step) (p q : Place)
    → Holds refs ts us (k ++ todo.Exponent ∷ []) ss p → is_next class.Caret us ≡ false → vs ≡ us → same ≡ refs → k' ≡ k → ss' ≡ ss → q ≡ p → Holds same ts vs k' ss' q
exponent_ends refs same ts us vs k k' ss ss' p q h n e f g i j =
    let o = opened refs ts us k todo.Exponent ss p h in
    rw (e, f, g, i, j)
    (record {
      frames = o.frames;
      operand = o.operand;
      is_to_do = o.is_to_do;
      is_kept = o.is_kept;
      is_begin = o.is_begin;
      goes_on = goes_then o.goes_on (no_exponent refs us (held o.frames ++ events o.operand) (shapes refs o.frames) n);
    })

pub terms_go_on : (refs same : Bool) (ts us vs : List Token) (t : Token) (k k' : List Todo) (ss ss' : List Step) (p q : Place) (op : Operator)
    → Holds refs ts us (k ++ todo.Terms ∷ []) ss p → us ≡ t ∷ vs → accepts class.Additive t.sort ≡ true → op ≡ operator_of t.sort → q ≡ p
    → k' ≡ ((k ++ todo.Terms ∷ []) ++ todo.Operand op q ∷ []) ++ todo.Factors ∷ [] → same ≡ refs → ss' ≡ ss → Wants same ts vs k' ss'
terms_go_on refs same ts us vs t k k' ss ss' p q op h e a f g i j l =
    let o = opened refs ts us k todo.Terms ss p h in
    rw (j, l, i, g, f)
    (record {
      frames = MoreFactors ∷ Operand (operator_of t.sort) o.operand ∷ MoreTerms ∷ o.frames;
      is_to_do = ap (λ x. ((x ++ todo.Terms ∷ []) ++ todo.Operand (operator_of t.sort) p ∷ []) ++ todo.Factors ∷ []) o.is_to_do ∙ ap (λ b. ((todos o.frames ++ todo.Terms ∷ []) ++ todo.Operand (operator_of t.sort) b ∷ []) ++ todo.Factors ∷ []) o.is_begin;
      is_kept = o.is_kept;
      goes_on = goes_then o.goes_on (a_term refs t us vs (held o.frames ++ events o.operand) (shapes refs o.frames) e a);
    })

pub factors_go_on : (refs same : Bool) (ts us vs : List Token) (t : Token) (k k' : List Todo) (ss ss' : List Step) (p q : Place) (op : Operator)
    → Holds refs ts us (k ++ todo.Factors ∷ []) ss p → us ≡ t ∷ vs → accepts class.Multiplicative t.sort ≡ true → op ≡ operator_of t.sort → q ≡ p
    → k' ≡ (k ++ todo.Factors ∷ []) ++ todo.Operand op q ∷ [] → same ≡ refs → ss' ≡ ss → Wants same ts vs k' ss'
factors_go_on refs same ts us vs t k k' ss ss' p q op h e a f g i j l =
    let o = opened refs ts us k todo.Factors ss p h in
    rw (j, l, i, g, f)
    (record {
      frames = Operand (operator_of t.sort) o.operand ∷ MoreFactors ∷ o.frames;
      is_to_do = ap (λ x. (x ++ todo.Factors ∷ []) ++ todo.Operand (operator_of t.sort) p ∷ []) o.is_to_do ∙ ap (λ b. (todos o.frames ++ todo.Factors ∷ []) ++ todo.Operand (operator_of t.sort) b ∷ []) o.is_begin;
      is_kept = o.is_kept;
      goes_on = goes_then o.goes_on (a_factor refs t us vs (held o.frames ++ events o.operand) (shapes refs o.frames) e a);
    })

pub exponent_goes_on : (refs same : Bool) (ts us vs : List Token) (t : Token) (k k' : List Todo) (ss ss' : List Step) (p q : Place) (op : Operator)
    → Holds refs ts us (k ++ todo.Exponent ∷ []) ss p → us ≡ t ∷ vs → accepts class.Caret t.sort ≡ true → op ≡ operator_of t.sort → q ≡ p
    → k' ≡ k ++ todo.Operand op q ∷ [] → same ≡ refs → ss' ≡ ss → Wants same ts vs k' ss'
exponent_goes_on refs same ts us vs t k k' ss ss' p q op h e a f g i j l =
    let o = opened refs ts us k todo.Exponent ss p h in
    rw (j, l, i, g, f)
    (record {
      frames = Operand (operator_of t.sort) o.operand ∷ o.frames;
      is_to_do = ap (λ x. x ++ todo.Operand (operator_of t.sort) p ∷ []) o.is_to_do ∙ ap (λ b. todos o.frames ++ todo.Operand (operator_of t.sort) b ∷ []) o.is_begin;
      is_kept = o.is_kept;
      goes_on = goes_then o.goes_on (an_exponent refs t us vs (held o.frames ++ events o.operand) (shapes refs o.frames) e a);
    })

-- the place that an operator keeps is that of its first operand
kept_place : (op : Operator) (p q : Place) → todo.Operand op p ≡ todo.Operand op q → p ≡ q
kept_place op p q e = cc

pub joins : (refs same : Bool) (ts us vs : List Token) (k k' : List Todo) (ss ss' : List Step) (p q r : Place) (op : Operator)
    → Holds refs ts us (k ++ todo.Operand op q ∷ []) ss p → vs ≡ us → same ≡ refs → k' ≡ k → ss' ≡ ss ++ record { place = q; action = action.Apply op } ∷ [] → r ≡ q → Holds same ts vs k' ss' r
joins refs same ts us vs k k' ss ss' p q r op h e f g i j =
    let o = opened refs ts us k (todo.Operand op q) ss p h in
    let w = Joins op o.first o.operand in
    let begin : q ≡ start o.first = kept_place op q (start o.first) o.is_next_todo in
    rw (e, f, g, i, j)
    (record {
      frames = o.frames;
      operand = w;
      is_to_do = o.is_to_do;
      is_kept = ap (λ xs. xs ++ record { place = q; action = action.Apply op } ∷ []) o.is_kept ∙ applied_steps (kept o.frames) (postfix (meaning o.first)) (postfix (meaning o.operand)) (record { place = q; action = action.Apply op })
          ∙ ap (λ b. kept o.frames ++ (postfix (meaning o.first) ++ (postfix (meaning o.operand) ++ record { place = b; action = action.Apply op } ∷ []))) begin;
      is_begin = begin;
      goes_on = subst (λ xs. GoesOn quil tables (Rule (Sum refs) ∷ []) ts [] (shapes refs o.frames) us xs) (joined_events (held o.frames) op o.first o.operand) (goes_then o.goes_on (goes_next emit_advances));
    })

pub signs : (refs same : Bool) (ts us vs : List Token) (k k' : List Todo) (ss ss' : List Step) (p q r : Place) (s : Sign)
    → Holds refs ts us (k ++ todo.Signed q s ∷ []) ss p → vs ≡ us → same ≡ refs → k' ≡ k → ss' ≡ ss ++ record { place = q; action = action.Sign s } ∷ [] → r ≡ q → Holds same ts vs k' ss' r
signs refs same ts us vs k k' ss ss' p q r s h e f g i j =
    let o = opened refs ts us k (todo.Signed q s) ss p h in
    rw (e, f, g, i, j)
    (record {
      frames = o.frames;
      operand = Within (Signed q s) o.operand;
      is_to_do = o.is_to_do;
      is_kept = ap (λ xs. xs ++ record { place = q; action = action.Sign s } ∷ []) o.is_kept ∙ append_assoc (kept o.frames) (postfix (meaning o.operand)) (record { place = q; action = action.Sign s } ∷ []);
      is_begin = refl;
      goes_on = subst (λ xs. GoesOn quil tables (Rule (Sum refs) ∷ []) ts [] (shapes refs o.frames) us xs) (closed_events (held o.frames) (events o.operand) (Opens (Signed q s))) (goes_then o.goes_on (goes_next emit_advances));
    })

pub parenthesis_ends : (refs same : Bool) (ts us vs : List Token) (t : Token) (k k' : List Todo) (ss ss' : List Step) (p q r : Place)
    → Holds refs ts us (k ++ todo.Parenthesized q ∷ []) ss p → us ≡ t ∷ vs → accepts class.ParenthesisEnds t.sort ≡ true → same ≡ refs → k' ≡ k → ss' ≡ ss → r ≡ q → Holds same ts vs k' ss' r
parenthesis_ends refs same ts us vs t k k' ss ss' p q r h e a f g i j =
    let o = opened refs ts us k (todo.Parenthesized q) ss p h in
    rw (f, g, i, j)
    (record {
      frames = o.frames;
      operand = Within (Parenthesized q) o.operand;
      is_to_do = o.is_to_do;
      is_kept = o.is_kept;
      is_begin = refl;
      goes_on = subst (λ xs. GoesOn quil tables (Rule (Sum refs) ∷ []) ts [] (shapes refs o.frames) vs xs) (closed_events (held o.frames) (events o.operand) (Opens (Parenthesized q))) (goes_then o.goes_on (ends t us vs ((held o.frames ++ Opens (Parenthesized q) ∷ []) ++ events o.operand) (shapes refs o.frames) e a));
    })

pub argument_ends : (refs same : Bool) (ts us vs : List Token) (t : Token) (k k' : List Todo) (ss ss' : List Step) (p q r : Place) (f : Function)
    → Holds refs ts us (k ++ todo.Argument q f ∷ []) ss p → us ≡ t ∷ vs → accepts class.ParenthesisEnds t.sort ≡ true → same ≡ refs → k' ≡ k → ss' ≡ ss ++ record { place = q; action = action.Call f } ∷ [] → r ≡ q → Holds same ts vs k' ss' r
argument_ends refs same ts us vs t k k' ss ss' p q r c h e a f g i j =
    let o = opened refs ts us k (todo.Argument q c) ss p h in
    rw (f, g, i, j)
    (record {
      frames = o.frames;
      operand = Within (Argument q c) o.operand;
      is_to_do = o.is_to_do;
      is_kept = ap (λ xs. xs ++ record { place = q; action = action.Call c } ∷ []) o.is_kept ∙ append_assoc (kept o.frames) (postfix (meaning o.operand)) (record { place = q; action = action.Call c } ∷ []);
      is_begin = refl;
      goes_on = subst (λ xs. GoesOn quil tables (Rule (Sum refs) ∷ []) ts [] (shapes refs o.frames) vs xs) (closed_events (held o.frames) (events o.operand) (Opens (Argument q c))) (goes_then o.goes_on (ends t us vs ((held o.frames ++ Opens (Argument q c) ∷ []) ++ events o.operand) (shapes refs o.frames) e a));
    })

pub no_parenthesis : (refs same : Bool) (ts us vs : List Token) (k : List Todo) (ss : List Step) (p q : Place)
    → Holds refs ts us (k ++ todo.Parenthesized q ∷ []) ss p → is_next class.ParenthesisEnds us ≡ false → vs ≡ us → same ≡ refs → Halts quil tables (Rule (Sum same)) ts vs
no_parenthesis refs same ts us vs k ss p q h n e f =
    let o = opened refs ts us k (todo.Parenthesized q) ss p h in
    rw (e, f) (goes_to_stop (stops_behind o.goes_on (stops_here (no_end us n))))

pub no_argument_end : (refs same : Bool) (ts us vs : List Token) (k : List Todo) (ss : List Step) (p q : Place) (f : Function)
    → Holds refs ts us (k ++ todo.Argument q f ∷ []) ss p → is_next class.ParenthesisEnds us ≡ false → vs ≡ us → same ≡ refs → Halts quil tables (Rule (Sum same)) ts vs
no_argument_end refs same ts us vs k ss p q c h n e f =
    let o = opened refs ts us k (todo.Argument q c) ss p h in
    rw (e, f) (goes_to_stop (stops_behind o.goes_on (stops_here (no_end us n))))
