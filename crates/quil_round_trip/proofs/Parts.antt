-- Memory references, operands and expressions that were read in a line.
use Rattle.std.proofs.Common.{◌≡◌, ℕ, inl, inr, Bool, true, false, List, [], ◌∷◌, ◌++◌, Option, Some, None, refl, ◌∙◌, ap₂, subst, arith}
use Rattle.std.specs.List.{list_all}
use Rattle.std.specs.Prelude.{◌==◌, if◌then◌else◌}
use Rattle.std.proofs.lemmas.Bool.{and_parts}
use Rattle.std.proofs.lemmas.Bool.Decides.{nat_tests}
use Rattle.quil_lex.specs.declared.token.Kind.TheVariants as kind
use Rattle.quil_lex.specs.Token.{is_digits, is_fraction, is_exponent, is_exponent_mark, is_signed_digits, IsOptional}
use Rattle.quil_shape.specs.Shape.Shape.{Rule}
use Rattle.quil_shape.specs.Outcome.Outcome.{Made}
use Rattle.quil_shape.specs.Reads.{Reads}
use Rattle.quil_shape.proofs.Sound.{HasWhole, stands}
use Rattle.quil_shape.proofs.Tests.{AreTrue, tables_are_true}
use Rattle.quil_shape.specs.Condition.{is_clear, is_clear_rule}
use Rattle.quil_tree.specs.declared.place.Place.{Place}
use Rattle.quil_tree.specs.declared.expr.Sign.{Sign}
use Rattle.quil_tree.specs.declared.expr.Atom.TheVariants as atom
use Rattle.quil_tree.specs.declared.statement.Reference.{Reference}
use Rattle.quil_tree.specs.declared.statement.Operand.TheVariants as operand
use Rattle.quil_grammar.specs.declared.class.Class.TheVariants as class
use Rattle.quil_grammar.specs.Token.{Token, Context}
use Rattle.quil_grammar.specs.Grammar.{quil, index, is_digit, whole_of, Sum, OperandSum, Event}
use Rattle.quil_grammar.specs.Tables.{tables}
use Rattle.quil_grammar.specs.Grammar.Event.{Region, Index}
use Rattle.quil_grammar.specs.Grammar.Around.{Signed, Parenthesized, Argument}
use Rattle.quil_grammar.specs.Statements.{address, operand as operand_shape}
use Rattle.quil_grammar.specs.Written.{Written, events, cell_events, meaning, formula_of, operand_of, number_or}
use Rattle.quil_grammar.specs.Written.Written.{Alone, Joins, Within}
use Rattle.quil_grammar.proofs.Wholes.{sum_is}
use Rattle.quil_grammar.proofs.Verdicts.{decided}
use Rattle.quil_grammar.proofs.Literals.{operand_is_written, IsSmall, IsBelow}
use Rattle.quil_round_trip.proofs.Inversion.{emit}
use Rattle.quil_round_trip.proofs.Words.{AreFit}
use Rattle.quil_round_trip.proofs.Values.{IsRead, IsIndex, IsCell, IsAtom, IsExpression, AreSound, IsSoundOperand}
use Rattle.quil_round_trip.proofs.Soundness.{address_sound, sum_sound, operand_sum_sound}
use Rattle.quil_round_trip.proofs.Chunks.{first, both, either}

-- a memory reference was read
pub record ReadAddress (c : Context) (os : List Event) : Type 0 where
  pub reference : Reference
  pub makes : os ≡ cell_events reference
  pub sound : IsCell true c reference.address

with_index : (c : Context) (ts us : List Token) (os : List Event) → Reads quil tables index ts (Made os us) → AreFit c ts → (w : _) × (os ≡ Index w ∷ [])
with_index c ts us os r f =
    elim (either r) [
      | inl i ↦
          let a = both c i f in
          let b = first c a.one f in
          let d = both c a.two a.fits in
          let e = first c d.one a.fits in
          let g = first c d.two d.fits in
          (whole_of e.token.text, a.makes ∙ ap₂ (λ x y. x ++ y) b.makes (d.makes ∙ ap₂ (λ x y. x ++ y) e.makes g.makes))
      | inr i ↦ (whole_of (48 ∷ []), (emit quil tables i).0)
    ]

cell_of_sound : (c : Context) (p : Place) (x : List ℕ) (w : _) → AreSound true c (Region p x ∷ Index w ∷ []) → IsCell true c (record { region = x; index = w })
cell_of_sound c p x w h = record { taken = refl; region = h.0.1; index = h.1.0 }

pub read_address : (c : Context) (ts us : List Token) (os : List Event) → Reads quil tables address ts (Made os us) → AreFit c ts → ReadAddress c os
read_address c ts us os r f =
    let a = both c r f in
    let t = first c a.one f in
    let i = with_index c a.middle us a.second_os a.two a.fits in
    let same : os ≡ Region t.token.place t.token.text ∷ Index i.0 ∷ [] = a.makes ∙ ap₂ (λ x y. x ++ y) t.makes i.1 in
    record {
      reference = record { place = t.token.place; address = record { region = t.token.text; index = i.0 } };
      makes = same;
      sound = cell_of_sound c t.token.place t.token.text i.0 (subst (λ xs. AreSound true c xs) same (address_sound c ts us os r f));
    }

-- ---- expressions

true_tables : (refs : Bool) → AreTrue quil tables
true_tables refs = tables_are_true quil tables (and_parts (is_clear quil tables (λ k. false) (Rule (Sum refs))) (list_all (is_clear_rule quil tables) tables.rules.items) (decided refs)).1

pub record ReadValue (refs : Bool) (c : Context) (os : List Event) : Type 0 where
  pub written : Written
  pub makes : os ≡ events written
  pub sound : IsExpression refs c (meaning written)

pub read_value : (refs : Bool) (c : Context) (ts us : List Token) (os : List Event) → Reads quil tables (Rule (Sum refs)) ts (Made os us) → AreFit c ts → ReadValue refs c os
read_value refs c ts us os r f =
    let whole : HasWhole quil (Rule (Sum refs)) ts us os = stands quil tables (true_tables refs) r in
    let w = sum_is whole.whole in
    record { written = w.written; makes = w.same; sound = sum_sound refs c ts us w.written (subst (λ xs. Reads quil tables (Rule (Sum refs)) ts (Made xs us)) w.same r) f }

-- ---- operands

digits_behind : (x y : List ℕ) → list_all is_digit (x ++ y) ≡ true → list_all is_digit y ≡ true
digits_behind [] y h = h
digits_behind (b ∷ x) y h = digits_behind x y (and_parts (is_digit b) (list_all is_digit (x ++ y)) h).1

mark_no_digit : (b : ℕ) → is_exponent_mark b ≡ true → is_digit b ≡ true → ⊥
mark_no_digit b h d = grind (arith, nat_tests)

point_no_digit : (b : ℕ) → (b == 46) ≡ true → is_digit b ≡ true → ⊥
point_no_digit b h d = grind (arith, nat_tests)

tail_no_digits : (f e : List ℕ) → IsOptional is_fraction f → IsOptional is_exponent e → (f ++ e ≡ [] → ⊥) → list_all is_digit (f ++ e) ≡ true → ⊥
tail_no_digits [] [] p q some h = some refl
tail_no_digits [] (b ∷ e) p (inl q) some h = absurd (cc)
tail_no_digits [] (b ∷ e) p (inr q) some h = mark_no_digit b (and_parts (is_exponent_mark b) (is_signed_digits e) q).0 (and_parts (is_digit b) (list_all is_digit e) h).0
tail_no_digits (b ∷ f) e (inl p) q some h = absurd (cc)
tail_no_digits (b ∷ f) e (inr p) q some h = point_no_digit b (and_parts (b == 46) (is_digits f) p).0 (and_parts (is_digit b) (list_all is_digit (f ++ e)) h).0

-- a number that is written by digits alone is a whole one
whole_number : (c : Context) (x : List ℕ) → IsAtom false c (atom.Number x) → list_all is_digit x ≡ true → IsRead c class.Number kind.Whole x
whole_number c x (inl r) h = r
whole_number c x (inr r) h =
    let d = r.text.token in
    absurd (tail_no_digits d.fraction d.exponent d.point d.power d.some (digits_behind d.whole (d.fraction ++ d.exponent) (subst (λ y. list_all is_digit y ≡ true) d.split h)))

number_index : (c : Context) (x : List ℕ) → IsAtom false c (atom.Number x) → list_all is_digit x ≡ true → IsBelow x → IsIndex c class.Number (whole_of x)
number_index c x a h small = record { read = whole_number c x a h; small = small h; value = refl }

-- a number alone or with a sign is a literal, or an expression as any other
number_operand : (c : Context) (p : Place) (s : Option Sign) (x : List ℕ) (w : Written) → IsAtom false c (atom.Number x) → IsBelow x → IsExpression false c (meaning w) → IsSoundOperand c (number_or p s x (operand.Formula (formula_of w)))
number_operand c p s x w a small e = by (list_all is_digit x) refl
  where
    by : (b : Bool) → list_all is_digit x ≡ b → IsSoundOperand c (if b then operand.Literal p s (whole_of x) else operand.Formula (formula_of w))
    by true h = number_index c x a h small
    by false h = (meaning w, refl, e)

operand_sound : (c : Context) (w : Written) → IsSmall w → IsExpression false c (meaning w) → IsSoundOperand c (operand_of w)
operand_sound c (Alone p (atom.Number x)) s e = number_operand c p None x (Alone p (atom.Number x)) e s e
operand_sound c (Alone p (atom.Imaginary x)) s e = (meaning (Alone p (atom.Imaginary x)), refl, e)
operand_sound c (Alone p atom.Pi) s e = (meaning (Alone p atom.Pi), refl, e)
operand_sound c (Alone p atom.I) s e = (meaning (Alone p atom.I), refl, e)
operand_sound c (Alone p (atom.Parameter n)) s e = (meaning (Alone p (atom.Parameter n)), refl, e)
operand_sound c (Alone p (atom.Cell a)) s e = absurd (no_cell e.taken) where
  no_cell : false ≡ true → ⊥
  no_cell f = absurd (cc)
operand_sound c (Joins o a b) s e = (meaning (Joins o a b), refl, e)
operand_sound c (Within (Parenthesized p) w) s e = (meaning w, refl, e)
operand_sound c (Within (Argument p f) w) s e = (meaning (Within (Argument p f) w), refl, e)
operand_sound c (Within (Signed p g) (Alone q (atom.Number x))) s e = number_operand c p (Some g) x (Within (Signed p g) (Alone q (atom.Number x))) e s e
operand_sound c (Within (Signed p g) (Alone q (atom.Imaginary x))) s e = (meaning (Within (Signed p g) (Alone q (atom.Imaginary x))), refl, e)
operand_sound c (Within (Signed p g) (Alone q atom.Pi)) s e = (meaning (Within (Signed p g) (Alone q atom.Pi)), refl, e)
operand_sound c (Within (Signed p g) (Alone q atom.I)) s e = (meaning (Within (Signed p g) (Alone q atom.I)), refl, e)
operand_sound c (Within (Signed p g) (Alone q (atom.Parameter n))) s e = (meaning (Within (Signed p g) (Alone q (atom.Parameter n))), refl, e)
operand_sound c (Within (Signed p g) (Alone q (atom.Cell a))) s e = (meaning (Within (Signed p g) (Alone q (atom.Cell a))), refl, e)
operand_sound c (Within (Signed p g) (Joins o a b)) s e = (meaning (Within (Signed p g) (Joins o a b)), refl, e)
operand_sound c (Within (Signed p g) (Within m w)) s e = (meaning (Within (Signed p g) (Within m w)), refl, e)

pub record ReadOperand (c : Context) (os : List Event) : Type 0 where
  pub written : Written
  pub makes : os ≡ events written
  pub sound : IsSoundOperand c (operand_of written)

pub read_operand : (c : Context) (ts : List Token) (os : List Event) → Reads quil tables operand_shape ts (Made os []) → AreFit c ts → ReadOperand c os
read_operand c ts os r f =
    elim (either r) [
      | inl i ↦ let a = read_address c ts [] os i f in record { written = Alone a.reference.place (atom.Cell a.reference.address); makes = a.makes; sound = a.sound }
      | inr i ↦
          let h = operand_is_written ts os i in
          record { written = h.0; makes = h.1; sound = operand_sound c h.0 h.2 (operand_sum_sound c ts [] h.0 (subst (λ xs. Reads quil tables (Rule OperandSum) ts (Made xs [])) h.1 i) f) }
    ]
