-- Every statement that was read is printed and read again.
use Rattle.std.proofs.Common.{◌≡◌, inl, inr, true, false, List, [], ◌∷◌, sym, ◌∙◌, ap, subst}
use Rattle.quil_shape.specs.Shape.{Shape}
use Rattle.quil_shape.specs.Shape.Shape.{One, Or}
use Rattle.quil_shape.specs.Outcome.Outcome.{Made}
use Rattle.quil_shape.specs.Reads.{Reads}
use Rattle.quil_grammar.specs.declared.class.Class.{Class}
use Rattle.quil_grammar.specs.declared.class.Class.TheVariants as class
use Rattle.quil_grammar.specs.Token.{Token, Context}
use Rattle.quil_grammar.specs.Grammar.{quil, accepts, value_of, Name, Event}
use Rattle.quil_grammar.specs.Tables.{tables}
use Rattle.quil_grammar.specs.Statements.{statement, classical, control}
use Rattle.quil_round_trip.proofs.Inversion.{one, choice}
use Rattle.quil_round_trip.proofs.Words.{Fits, AreFit}
use Rattle.quil_round_trip.proofs.Reread.{outer, Sense, Reread, reread_left, reread_right}
use Rattle.quil_round_trip.proofs.Again.{IsReread, is_reread, LineFits}
use Rattle.quil_round_trip.proofs.Lines.{lines, measure_again, reset_again, bare_again, label_again, jump_again, unary_again, pair_again, binary_again, load_again, store_again, compare_again}
use Rattle.quil_round_trip.proofs.Gates.{gate_again}
use Rattle.quil_round_trip.proofs.Pragmas.{pragma_again}

-- whichever of two was read, it is read again
pub either_again : {A : Type 0} (sense : Sense A) (c : Context) (a b : Shape Class Event Name) (t : Token) (ts : List Token) (os : List Event) → (Reads quil tables a (t ∷ ts) (Made os []) → Reread sense c a t os) → (Reads quil tables b (t ∷ ts) (Made os []) → Reread sense c b t os)
    → Reads quil tables (Or a b) (t ∷ ts) (Made os []) → Reread sense c (Or a b) t os
either_again sense c a b t ts os f g r = elim (choice quil tables r) [ inl p ↦ reread_left sense c a b t ts os p.0 (f p.1) | inr p ↦ reread_right sense c a b t ts os p.0 (g p.1) ]

-- a word that is left out is always too large
left_out : {ts us : List Token} {os : List Event} → Reads quil tables (One class.LeftOut) ts (Made os us) → ⊥
unfolding quil tables
left_out r = let i = one quil tables r in large i.small
  where
    large : true ≡ false → ⊥
    large e = absurd (cc)

alone_again : (c : Context) (t : Token) (ts : List Token) (os : List Event) → Reads quil tables (One class.Bare) (t ∷ ts) (Made os []) → Reread lines c (One class.Bare) t os
unfolding quil tables
alone_again c t ts os r =
    let i = one quil tables r in
    let same : t ≡ i.token = cc in
    bare_again c t os (subst (λ u. accepts class.Bare u.sort ≡ true) (sym same) i.accepted) (i.makes ∙ ap (λ u. value_of class.Bare u) (sym same))

control_again : (c : Context) (t : Token) (ts : List Token) (os : List Event) → AreFit c ts → Reads quil tables control (t ∷ ts) (Made os []) → Reread lines c control t os
control_again c t ts os f r =
    either_again lines c _ _ t ts os (alone_again c t ts os)
    (either_again lines c _ _ t ts os (pragma_again c t ts os f)
    (either_again lines c _ _ t ts os (label_again c t ts os f) (jump_again c t ts os f))) r

classical_again : (c : Context) (t : Token) (ts : List Token) (os : List Event) → AreFit c ts → Reads quil tables classical (t ∷ ts) (Made os []) → Reread lines c classical t os
classical_again c t ts os f r =
    either_again lines c _ _ t ts os (unary_again c t ts os f)
    (either_again lines c _ _ t ts os (pair_again c t ts os f)
    (either_again lines c _ _ t ts os (binary_again c t ts os f)
    (either_again lines c _ _ t ts os (load_again c t ts os f)
    (either_again lines c _ _ t ts os (store_again c t ts os f) (compare_again c t ts os f))))) r

-- by its first token
pub statement_reread : (c : Context) (t : Token) (ts : List Token) (os : List Event) → Fits (outer c) t → AreFit c ts → Reads quil tables statement (t ∷ ts) (Made os []) → Reread lines c statement t os
statement_reread c t ts os fit f r =
    either_again lines c _ _ t ts os (gate_again c t ts os fit f)
    (either_again lines c _ _ t ts os (measure_again c t ts os f)
    (either_again lines c _ _ t ts os (reset_again c t ts os f)
    (either_again lines c _ _ t ts os (λ i. absurd (left_out i))
    (either_again lines c _ _ t ts os (classical_again c t ts os f) (control_again c t ts os f))))) r

pub statement_again : (c : Context) (ts : List Token) (os : List Event) → LineFits c ts → Reads quil tables statement ts (Made os []) → IsReread lines c statement os
statement_again c [] os f r = absurd f
statement_again c (t ∷ ts) os f r = is_reread (statement_reread c t ts os f.0 f.1 r)
