-- No operator follows an expression that was read.
use Rattle.std.proofs.Common.{◌≡◌, Bool, true, false, not, ◌||◌, ◌&&◌, List, [], ◌∷◌, refl}
use Rattle.quil_shape.specs.Shape.Shape.{One, Emit, Empty, Seq, Rule}
use Rattle.quil_shape.specs.Outcome.{Outcome, after}
use Rattle.quil_shape.specs.Outcome.Outcome.{Made, Stuck, Large}
use Rattle.quil_shape.specs.Reads.{Reads, starts, is_barred, first_passes}
use Rattle.quil_grammar.specs.Token.{Token}
use Rattle.quil_grammar.specs.Grammar.{quil, accepts, Sum, Product, Unary, Power, Event, more_terms, more_factors, exponent, is_operator_next}
use Rattle.quil_grammar.specs.Tables.{tables}
use Rattle.quil_grammar.specs.declared.class.Class.{Class}
use Rattle.quil_grammar.specs.declared.class.Class.TheVariants as class
use Rattle.quil_grammar.specs.declared.sort.Sort.{Sort}

-- a token of no such sort comes behind what was made
Without : (Sort → Bool) → Outcome Event Token → Type 0
Without test (Made os us) = first_passes quil test us ≡ false
Without test (Stuck us) = Unit {0}
Without test (Large us) = Unit {0}

raises : Sort → Bool
raises s = accepts class.Caret s

multiplies : Sort → Bool
multiplies s = accepts class.Multiplicative s || accepts class.Caret s

operates : Sort → Bool
operates s = accepts class.Additive s || (accepts class.Multiplicative s || accepts class.Caret s)

after_without : (test : Sort → Bool) (os : List Event) (out : Outcome Event Token) → Without test out → Without test (after os out)
unfolding Without
after_without test os (Made ps us) h = h
after_without test os (Stuck us) h = tt
after_without test os (Large us) h = tt

barred_false : (b : Bool) → (not (b || false) && true) ≡ true → b ≡ false
barred_false true e = absurd (cc)
barred_false false e = refl

no_caret : (refs : Bool) (ts : List Token) → (starts quil tables Empty ts || is_barred quil tables (Seq (One class.Caret) (Seq (Rule (Unary refs)) (Emit Event.Joined))) ts) ≡ true → first_passes quil raises ts ≡ false
unfolding quil tables raises
no_caret refs [] h = refl
no_caret refs (t ∷ ts) h = barred_false _ h

both_false : (a b : Bool) → (a || false) ≡ false → b ≡ false → (a || b) ≡ false
both_false true b e f = absurd (cc)
both_false false b e f = f

no_factor : (refs : Bool) (ts : List Token) → starts quil tables (Seq (One class.Multiplicative) (Seq (Rule (Unary refs)) (Emit Event.Joined))) ts ≡ false → first_passes quil raises ts ≡ false → first_passes quil multiplies ts ≡ false
unfolding quil tables raises multiplies
no_factor refs [] e f = refl
no_factor refs (t ∷ ts) e f = both_false _ _ e f

no_term : (refs : Bool) (ts : List Token) → starts quil tables (Seq (One class.Additive) (Seq (Rule (Product refs)) (Emit Event.Joined))) ts ≡ false → first_passes quil multiplies ts ≡ false → first_passes quil operates ts ≡ false
unfolding quil tables multiplies operates
no_term refs [] e f = refl
no_term refs (t ∷ ts) e f = both_false _ _ e f

mutual
  unfolding quil tables Without

  unary_ends : {refs : Bool} {ts : List Token} {out : Outcome Event Token} → Reads quil tables (Rule (Unary refs)) ts out → Without raises out
  unary_ends (Reads.rule (Reads.left h r)) = joined_ends r
  unary_ends (Reads.rule (Reads.right h r)) = power_ends r
  unary_ends (Reads.rule (Reads.barred h)) = tt
  unary_ends (Reads.barred h) = tt

  operand_ends : {refs : Bool} {o : Event} {ts : List Token} {out : Outcome Event Token} → Reads quil tables (Seq (Rule (Unary refs)) (Emit o)) ts out → Without raises out
  operand_ends (Reads.seq r Reads.emit) = unary_ends r
  operand_ends (Reads.seq r (Reads.barred h)) = tt
  operand_ends (Reads.seq_stuck r) = tt
  operand_ends (Reads.seq_large r) = tt
  operand_ends (Reads.barred h) = tt

  joined_ends : {refs : Bool} {c : Class} {o : Event} {ts : List Token} {out : Outcome Event Token} → Reads quil tables (Seq (One c) (Seq (Rule (Unary refs)) (Emit o))) ts out → Without raises out
  joined_ends (Reads.seq {os = os} {out = out} r q) = after_without raises os out (operand_ends q)
  joined_ends (Reads.seq_stuck r) = tt
  joined_ends (Reads.seq_large r) = tt
  joined_ends (Reads.barred h) = tt

  exponent_ends : {refs : Bool} {ts : List Token} {out : Outcome Event Token} → Reads quil tables (exponent refs) ts out → Without raises out
  exponent_ends (Reads.left h r) = joined_ends r
  exponent_ends {refs = refs} {ts = ts} (Reads.right h Reads.empty) = no_caret refs ts h
  exponent_ends (Reads.right h (Reads.barred k)) = tt
  exponent_ends (Reads.barred h) = tt

  power_ends : {refs : Bool} {ts : List Token} {out : Outcome Event Token} → Reads quil tables (Rule (Power refs)) ts out → Without raises out
  power_ends (Reads.rule (Reads.seq {os = os} {out = out} r q)) = after_without raises os out (exponent_ends q)
  power_ends (Reads.rule (Reads.seq_stuck r)) = tt
  power_ends (Reads.rule (Reads.seq_large r)) = tt
  power_ends (Reads.rule (Reads.barred h)) = tt
  power_ends (Reads.barred h) = tt

factors_end : {refs : Bool} {ts : List Token} {out : Outcome Event Token} → first_passes quil raises ts ≡ false → Reads quil tables (more_factors refs) ts out → Without multiplies out
unfolding Without
factors_end {refs = refs} {ts = ts} e (Reads.none h) = no_factor refs ts h e
factors_end e (Reads.more {os = os} {out = out} h r q) = after_without multiplies os out (factors_end (joined_ends r) q)
factors_end e (Reads.more_stuck h r) = tt
factors_end e (Reads.more_large h r) = tt
factors_end e (Reads.barred h) = tt

product_ends : {refs : Bool} {ts : List Token} {out : Outcome Event Token} → Reads quil tables (Rule (Product refs)) ts out → Without multiplies out
unfolding quil tables Without
product_ends (Reads.rule (Reads.seq {os = os} {out = out} r q)) = after_without multiplies os out (factors_end (unary_ends r) q)
product_ends (Reads.rule (Reads.seq_stuck r)) = tt
product_ends (Reads.rule (Reads.seq_large r)) = tt
product_ends (Reads.rule (Reads.barred h)) = tt
product_ends (Reads.barred h) = tt

term_ends : {refs : Bool} {o : Event} {ts : List Token} {out : Outcome Event Token} → Reads quil tables (Seq (Rule (Product refs)) (Emit o)) ts out → Without multiplies out
unfolding Without
term_ends (Reads.seq r Reads.emit) = product_ends r
term_ends (Reads.seq r (Reads.barred h)) = tt
term_ends (Reads.seq_stuck r) = tt
term_ends (Reads.seq_large r) = tt
term_ends (Reads.barred h) = tt

added_ends : {refs : Bool} {c : Class} {o : Event} {ts : List Token} {out : Outcome Event Token} → Reads quil tables (Seq (One c) (Seq (Rule (Product refs)) (Emit o))) ts out → Without multiplies out
unfolding Without
added_ends (Reads.seq {os = os} {out = out} r q) = after_without multiplies os out (term_ends q)
added_ends (Reads.seq_stuck r) = tt
added_ends (Reads.seq_large r) = tt
added_ends (Reads.barred h) = tt

terms_end : {refs : Bool} {ts : List Token} {out : Outcome Event Token} → first_passes quil multiplies ts ≡ false → Reads quil tables (more_terms refs) ts out → Without operates out
unfolding Without
terms_end {refs = refs} {ts = ts} e (Reads.none h) = no_term refs ts h e
terms_end e (Reads.more {os = os} {out = out} h r q) = after_without operates os out (terms_end (added_ends r) q)
terms_end e (Reads.more_stuck h r) = tt
terms_end e (Reads.more_large h r) = tt
terms_end e (Reads.barred h) = tt

sum_ends : {refs : Bool} {ts : List Token} {out : Outcome Event Token} → Reads quil tables (Rule (Sum refs)) ts out → Without operates out
unfolding quil tables Without
sum_ends (Reads.rule (Reads.seq {os = os} {out = out} r q)) = after_without operates os out (terms_end (product_ends r) q)
sum_ends (Reads.rule (Reads.seq_stuck r)) = tt
sum_ends (Reads.rule (Reads.seq_large r)) = tt
sum_ends (Reads.rule (Reads.barred h)) = tt
sum_ends (Reads.barred h) = tt

passes_none : (ts : List Token) → first_passes quil operates ts ≡ false → is_operator_next ts ≡ false
unfolding quil operates
passes_none [] e = refl
passes_none (t ∷ ts) e = e

pub no_operator_behind : {refs : Bool} {ts us : List Token} {os : List Event} → Reads quil tables (Rule (Sum refs)) ts (Made os us) → is_operator_next us ≡ false
unfolding Without
no_operator_behind {us = us} r = passes_none us (sum_ends r)
