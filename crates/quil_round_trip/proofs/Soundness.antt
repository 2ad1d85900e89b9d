-- What is read as an expression is one of sound atoms.
use Rattle.std.proofs.Common.{◌≡◌, Bool, true, false, List, [], ◌∷◌, ◌++◌, refl}
use Rattle.quil_shape.specs.Shape.{Shape}
use Rattle.quil_shape.specs.Shape.Shape.{One, Emit, Empty, Seq, Or, Many, Rule}
use Rattle.quil_shape.specs.Outcome.{Outcome, after}
use Rattle.quil_shape.specs.Outcome.Outcome.{Made, Stuck, Large}
use Rattle.quil_shape.specs.Reads.{Reads}
use Rattle.quil_tree.specs.declared.place.Place.{Place}
use Rattle.quil_tree.specs.declared.expr.Atom.{Atom}
use Rattle.quil_tree.specs.declared.expr.Atom.TheVariants as atom
use Rattle.quil_grammar.specs.Token.{Token, Context}
use Rattle.quil_grammar.specs.Grammar.{quil, body_of, more_terms, more_factors, whole_of, Name, Sum, Product, Unary, Power, Primary, OperandSum, OperandProduct, OperandUnary, OperandPower, OperandPrimary, Event}
use Rattle.quil_grammar.specs.Tables.{tables}
use Rattle.quil_grammar.specs.Grammar.Event.{Between, Joined, Closes}
use Rattle.quil_grammar.specs.Grammar.Around.{Signed, Parenthesized, Argument}
use Rattle.quil_grammar.specs.Statements.{address}
use Rattle.quil_grammar.specs.Written.{Written, events, events_of_atom, meaning}
use Rattle.quil_grammar.specs.Written.Written.{Alone, Joins, Within}
use Rattle.quil_grammar.specs.declared.class.Class.{Class}
use Rattle.quil_grammar.specs.declared.class.Class.TheVariants as class
use Rattle.quil_round_trip.proofs.Inversion.{rest_of}
use Rattle.quil_round_trip.proofs.Words.{AreFit, fit_rest}
use Rattle.quil_round_trip.proofs.Values.{IsIndex, IsAtom, IsExpression, Allowed, IsSound, AreSound, sound_append, sound_split, one_sound}

-- a rule without memory references, or references are taken
abbrev takes_refs : Name → Bool
takes_refs (Sum refs) = refs
takes_refs (Product refs) = refs
takes_refs (Unary refs) = refs
takes_refs (Power refs) = refs
takes_refs (Primary refs) = refs
takes_refs OperandSum = false
takes_refs OperandProduct = false
takes_refs OperandUnary = false
takes_refs OperandPower = false
takes_refs OperandPrimary = false

abbrev pub Implied : Bool → Bool → Type 0
Implied refs b = b ≡ true → refs ≡ true

-- a shape of expressions
abbrev OfExpression : Bool → Context → Shape Class Event Name → Type 0
OfExpression refs c (One k) = Allowed refs k
OfExpression refs c (Emit o) = IsSound refs c o
OfExpression refs c Empty = Unit {0}
OfExpression refs c (Seq a b) = OfExpression refs c a × OfExpression refs c b
OfExpression refs c (Or a b) = OfExpression refs c a × OfExpression refs c b
OfExpression refs c (Many a) = OfExpression refs c a
OfExpression refs c (Rule r) = Implied refs (takes_refs r)

region_allowed : (refs b : Bool) → Implied refs b → Allowed refs (class.Region b)
region_allowed refs true h = Allowed.region (h refl)
region_allowed refs false h = Allowed.without_region

no_refs : (refs : Bool) → Implied refs false
no_refs refs e = absurd (cc)

zero_index : (c : Context) → IsIndex c class.Index (whole_of (48 ∷ []))
zero_index c = record { read = record { text = record { token = refl; one_line = refl }; accepted = refl }; small = refl; value = refl }

terms_ok : (refs b : Bool) (c : Context) → Implied refs b → OfExpression refs c (more_terms b)
terms_ok refs b c h = (Allowed.additive, (h, tt))

factors_ok : (refs b : Bool) (c : Context) → Implied refs b → OfExpression refs c (more_factors b)
factors_ok refs b c h = (Allowed.multiplicative, (h, tt))

body_ok : (refs : Bool) (c : Context) (r : Name) → Implied refs (takes_refs r) → OfExpression refs c (body_of r)
body_ok refs c (Sum b) h = (h, terms_ok refs b c h)
body_ok refs c (Product b) h = (h, factors_ok refs b c h)
body_ok refs c (Unary b) h = ((Allowed.sign, (h, tt)), h)
body_ok refs c (Power b) h = (h, ((Allowed.caret, (h, tt)), tt))
body_ok refs c (Primary b) h = (Allowed.number, (Allowed.imaginary, (Allowed.pi, (Allowed.i, (Allowed.parameter, ((region_allowed refs b h, ((Allowed.index_begins, (Allowed.index, Allowed.index_ends)), zero_index c)), ((Allowed.function, (Allowed.argument_begins, (h, (Allowed.parenthesis_ends, tt)))), (Allowed.parenthesis, (h, (Allowed.parenthesis_ends, tt))))))))))
body_ok refs c OperandSum h = (h, terms_ok refs false c h)
body_ok refs c OperandProduct h = (h, factors_ok refs false c h)
body_ok refs c OperandUnary h = ((Allowed.operand_sign, (h, tt)), h)
body_ok refs c OperandPower h = (h, ((Allowed.caret, (h, tt)), tt))
body_ok refs c OperandPrimary h = (Allowed.operand_number, (Allowed.imaginary, (Allowed.pi, (Allowed.i, (Allowed.parameter, ((Allowed.function, (Allowed.argument_begins, (h, (Allowed.parenthesis_ends, tt)))), (Allowed.parenthesis, (h, (Allowed.parenthesis_ends, tt)))))))))

-- what was made
abbrev Soundly : Bool → Context → Outcome Event Token → Type 0
Soundly refs c (Made os us) = AreSound refs c os
Soundly refs c (Stuck us) = Unit {0}
Soundly refs c (Large us) = Unit {0}

soundly_after : (refs : Bool) (c : Context) (os : List Event) (out : Outcome Event Token) → AreSound refs c os → Soundly refs c out → Soundly refs c (after os out)
soundly_after refs c os (Made ps us) h k = sound_append refs c os ps h k
soundly_after refs c os (Stuck us) h k = tt
soundly_after refs c os (Large us) h k = tt

pub fits_left : {s : Shape Class Event Name} {ts us : List Token} {os : List Event} (c : Context) → Reads quil tables s ts (Made os us) → AreFit c ts → AreFit c us
fits_left {ts = ts} {us = us} c r f = let e = rest_of quil tables r in fit_rest c ts us e.before e.splits f

soundly : (refs : Bool) (c : Context) {s : Shape Class Event Name} {ts : List Token} {out : Outcome Event Token} → Reads quil tables s ts out → OfExpression refs c s → AreFit c ts → Soundly refs c out
unfolding quil tables
soundly refs c (Reads.one {c = k} {t = t} {ts = us} h l) ok f = one_sound refs c k t us ok f.0 h l
soundly refs c (Reads.one_large h l) ok f = tt
soundly refs c Reads.emit ok f = (ok, tt)
soundly refs c Reads.empty ok f = tt
soundly refs c (Reads.seq {os = os} {out = out} r q) ok f = soundly_after refs c os out (soundly refs c r ok.0 f) (soundly refs c q ok.1 (fits_left c r f))
soundly refs c (Reads.seq_stuck r) ok f = tt
soundly refs c (Reads.seq_large r) ok f = tt
soundly refs c (Reads.left h r) ok f = soundly refs c r ok.0 f
soundly refs c (Reads.right h r) ok f = soundly refs c r ok.1 f
soundly refs c (Reads.none h) ok f = tt
soundly refs c (Reads.more {os = os} {out = out} h r q) ok f = soundly_after refs c os out (soundly refs c r ok f) (soundly refs c q ok (fits_left c r f))
soundly refs c (Reads.more_stuck h r) ok f = tt
soundly refs c (Reads.more_large h r) ok f = tt
soundly refs c (Reads.rule {r = n} r) ok f = soundly refs c r (body_ok refs c n ok) f
soundly refs c (Reads.barred h) ok f = tt

-- a written expression of sound events
atom_sound : (refs : Bool) (c : Context) (p : Place) (a : Atom) → AreSound refs c (events_of_atom p a) → IsAtom refs c a
atom_sound refs c p (atom.Number x) h = h.0
atom_sound refs c p (atom.Imaginary x) h = h.0
atom_sound refs c p atom.Pi h = h.0
atom_sound refs c p atom.I h = h.0
atom_sound refs c p (atom.Parameter n) h = h.0
atom_sound refs c p (atom.Cell a) h = record { taken = h.0.0; region = h.0.1; index = h.1.0 }

pub written_sound : (refs : Bool) (c : Context) (w : Written) → AreSound refs c (events w) → IsExpression refs c (meaning w)
written_sound refs c (Alone p a) h = atom_sound refs c p a h
written_sound refs c (Joins o a b) h =
    let p = sound_split refs c (events a) (Between o ∷ (events b ++ Joined ∷ [])) h in
    let q = sound_split refs c (events b) (Joined ∷ []) p.1.1 in
    (written_sound refs c a p.0, written_sound refs c b q.0)
written_sound refs c (Within (Signed p s) a) h = written_sound refs c a (sound_split refs c (events a) (Closes ∷ []) h.1).0
written_sound refs c (Within (Parenthesized p) a) h = written_sound refs c a (sound_split refs c (events a) (Closes ∷ []) h.1).0
written_sound refs c (Within (Argument p f) a) h = written_sound refs c a (sound_split refs c (events a) (Closes ∷ []) h.1).0

-- what is read as a sum
pub sum_sound : (refs : Bool) (c : Context) (ts us : List Token) (w : Written) → Reads quil tables (Rule (Sum refs)) ts (Made (events w) us) → AreFit c ts → IsExpression refs c (meaning w)
sum_sound refs c ts us w r f = written_sound refs c w (soundly refs c r (λ e. e) f)

pub operand_sum_sound : (c : Context) (ts us : List Token) (w : Written) → Reads quil tables (Rule OperandSum) ts (Made (events w) us) → AreFit c ts → IsExpression false c (meaning w)
operand_sum_sound c ts us w r f = written_sound false c w (soundly false c r (λ e. e) f)

-- what is read as a memory reference
pub address_sound : (c : Context) (ts us : List Token) (os : List Event) → Reads quil tables address ts (Made os us) → AreFit c ts → AreSound true c os
address_sound c ts us os r f = soundly true c r (Allowed.region refl, ((Allowed.index_begins, (Allowed.index, Allowed.index_ends)), zero_index c)) f
