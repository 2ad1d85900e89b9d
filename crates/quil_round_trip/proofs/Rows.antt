-- Rows of matrices and of permutations that were read are printed and read again.
use Rattle.std.proofs.Common.{◌≡◌, ℕ, Bool, false, List, [], ◌∷◌, map, Option, Some, refl, sym, ap, ap₂, subst, append-nil}
use Rattle.quil_shape.specs.Shape.{Shape}
use Rattle.quil_shape.specs.Shape.Shape.{One, Rule}
use Rattle.quil_shape.specs.Outcome.Outcome.{Made}
use Rattle.quil_shape.specs.Reads.{Reads}
use Rattle.quil_tree.specs.declared.statement.Formula.{Formula}
use Rattle.quil_tree.specs.Printed.{with_commas, expression_text, formula_texts}
use Rattle.quil_grammar.specs.declared.class.Class.{Class}
use Rattle.quil_grammar.specs.declared.class.Class.TheVariants as class
use Rattle.quil_grammar.specs.Token.{Token, Context}
use Rattle.quil_grammar.specs.Grammar.{quil, Name, Sum, Event}
use Rattle.quil_grammar.specs.Tables.{tables}
use Rattle.quil_grammar.specs.Grammar.Piece.{Says, Names, Takes, Acts, Counts, Keeps}
use Rattle.quil_grammar.specs.Written.{Written, meaning, formula_of}
use Rattle.quil_grammar.specs.Parts.{Part, part_events, parts_events}
use Rattle.quil_grammar.specs.Parts.Part.{Made as Maker, Value}
use Rattle.quil_grammar.specs.Statements.{matrix_row, permutation_row}
use Rattle.quil_round_trip.specs.Unplaced.{bare_formula, bare_row}
use Rattle.quil_statement.specs.Meaning.{row_of, numbers_of}
use Rattle.quil_round_trip.proofs.Words.{tok, Fits, AreFit, toks}
use Rattle.quil_round_trip.proofs.Values.{IsExpression}
use Rattle.quil_round_trip.proofs.Pieces.{Piece, Anything, NoOperator}
use Rattle.quil_round_trip.proofs.Parts.{read_value}
use Rattle.quil_round_trip.proofs.Expressions.{canon, expression_piece}
use Rattle.quil_round_trip.proofs.Operands.{text_of_steps, formula_bare}
use Rattle.quil_round_trip.proofs.Bare.{bare_part, formula_of_bare}
use Rattle.quil_round_trip.proofs.Openings.{copy_piece}
use Rattle.quil_round_trip.proofs.Commas.{Copied, read_copied, Member, read_members, members_piece, NoComma}
use Rattle.quil_round_trip.proofs.Reread.{outer, Sense, Said}
use Rattle.quil_round_trip.proofs.Again.{LineFits, IsReread}

-- ---- expressions between commas

pub record Valued (refs : Bool) (c : Context) : Type 0 where
  pub written : Written
  pub sound : IsExpression refs c (meaning written)

pub read_valued : (refs : Bool) (c : Context) (ts us : List Token) (os : List Event) → Reads quil tables (Rule (Sum refs)) ts (Made os us) → AreFit c ts → (a : Valued refs c) × (os ≡ part_events (Value a.written))
read_valued refs c ts us os r f = let v = read_value refs c ts us os r f in (record { written = v.written; sound = v.sound }, v.makes)

abbrev pub values : (refs : Bool) (c : Context) → Member c (Rule (Sum refs)) NoOperator (Valued refs c)
values refs c =
    record {
      part = λ a. Value a.written;
      again = λ a. Value (canon false (meaning a.written));
      text = λ a. expression_text c.parameters false (meaning a.written);
      read = λ ts us os r f. read_valued refs c ts us os r f;
      piece = λ a. expression_piece refs c (meaning a.written) a.sound;
      before_comma = λ us. refl;
    }

abbrev pub values_parts : {refs : Bool} {c : Context} → List (Valued refs c) → List Part
values_parts xs = map (λ a. Value a.written) xs

abbrev pub values_again : {refs : Bool} {c : Context} → List (Valued refs c) → List Part
values_again xs = map (λ a. Value (canon false (meaning a.written))) xs

pub values_texts : {refs : Bool} {c : Context} (xs : List (Valued refs c)) → map (λ a. expression_text c.parameters false (meaning a.written)) xs ≡ formula_texts c.parameters (row_of (values_parts xs))
values_texts [] = refl
values_texts {c = c} (x ∷ xs) = ap₂ (λ y ys. y ∷ ys) (sym (text_of_steps c.parameters (formula_of x.written) (meaning x.written) refl)) (values_texts xs)

pub values_bare : {refs : Bool} {c : Context} (xs : List (Valued refs c)) → row_of (values_again xs) ≡ map bare_formula (row_of (values_parts xs))
values_bare [] = refl
values_bare (x ∷ xs) = ap₂ (λ y ys. y ∷ ys) (formula_bare (formula_of x.written) (meaning x.written) refl) (values_bare xs)

-- ---- rows

same_outer : (c : Context) → c.qubits ≡ [] → outer c ≡ c
same_outer c e = ap (λ qs. record { parameters = c.parameters; qubits = qs }) (sym e)

-- a piece alone in its line
pub said_alone : {A : Type 0} (c : Context) (s : Shape Class Event Name) (B : List Token → Type 0) (meaning : List Part → Option A) (x : List ℕ) (a : A) (qs : List Part) → c.qubits ≡ [] → B [] → Piece c s B x (parts_events qs) → meaning qs ≡ Some a → Said c s meaning x a
said_alone c s B meaning x a qs e b p m =
    record {
      kind = p.kind;
      front = p.front;
      rest = p.rest;
      apart = p.apart;
      text = p.text;
      parts = qs;
      reads =
          subst (λ d. Reads quil tables s (tok d p.kind p.front ∷ toks c p.rest) (Made (parts_events qs) [])) (sym (same_outer c e))
          (subst (λ us. Reads quil tables s (tok c p.kind p.front ∷ us) (Made (parts_events qs) [])) (append-nil (toks c p.rest)) (p.reads [] b));
      means = m;
    }

-- a row of a matrix was read, is printed and read again
pub record MatrixRow (c : Context) (os : List Event) : Type 0 where
  pub parts : List Part
  pub makes : os ≡ parts_events parts
  pub again : Said c matrix_row (λ ps. Some (row_of ps)) (with_commas (formula_texts c.parameters (row_of parts))) (map bare_formula (row_of parts))

pub matrix_row_again : (c : Context) (ts : List Token) (os : List Event) → c.qubits ≡ [] → AreFit c ts → Reads quil tables matrix_row ts (Made os []) → MatrixRow c os
matrix_row_again c ts os e f r =
    let m = read_members (values false c) ts [] os r f in
    let all = m.front ∷ m.rest in
    record {
      parts = values_parts all;
      makes = m.makes;
      again =
          subst (λ xs. Said c matrix_row (λ ps. Some (row_of ps)) (with_commas xs) (map bare_formula (row_of (values_parts all)))) (values_texts all)
          (said_alone c matrix_row (NoComma NoOperator) (λ ps. Some (row_of ps)) _ _ (values_again all) e (refl, refl) (members_piece (values false c) m.front m.rest) (ap Some (values_bare all)));
    }

-- the numbers of a permutation
abbrev entries : (c : Context) → Member c (One class.Entry) Anything (Copied c class.Entry)
entries c =
    record {
      part = λ a. Maker (Keeps a.token.text);
      again = λ a. Maker (Keeps a.token.text);
      text = λ a. a.token.text;
      read = λ ts us os r f. read_copied c class.Entry ts us os r f;
      piece = λ a. copy_piece c class.Entry a.token a.fits a.accepted (λ us. refl);
      before_comma = λ us. tt;
    }

entry_texts : {c : Context} (xs : List (Copied c class.Entry)) → map (λ a. a.token.text) xs ≡ numbers_of (map (λ a. Maker (Keeps a.token.text)) xs)
entry_texts [] = refl
entry_texts (x ∷ xs) = ap (λ ys. x.token.text ∷ ys) (entry_texts xs)

-- the row of a permutation was read, is printed and read again
pub record PermutationRow (c : Context) (os : List Event) : Type 0 where
  pub parts : List Part
  pub makes : os ≡ parts_events parts
  pub again : Said c permutation_row (λ ps. Some (numbers_of ps)) (with_commas (numbers_of parts)) (numbers_of parts)

pub permutation_row_again : (c : Context) (ts : List Token) (os : List Event) → c.qubits ≡ [] → AreFit c ts → Reads quil tables permutation_row ts (Made os []) → PermutationRow c os
permutation_row_again c ts os e f r =
    let m = read_members (entries c) ts [] os r f in
    let all : List (Copied c class.Entry) = m.front ∷ m.rest in
    let parts : List Part = map (λ a. Maker (Keeps a.token.text)) all in
    record {
      parts = parts;
      makes = m.makes;
      again =
          subst (λ xs. Said c permutation_row (λ ps. Some (numbers_of ps)) (with_commas xs) (numbers_of parts)) (entry_texts all)
          (said_alone c permutation_row (NoComma Anything) (λ ps. Some (numbers_of ps)) _ _ parts e (tt, refl) (members_piece (entries c) m.front m.rest) refl);
    }

-- ---- rows as they mean

-- rows of matrices
abbrev pub rows : Sense (List Formula)
rows = record { meaning = λ ps. Some (row_of ps); bare = bare_row; text = λ names row. with_commas (formula_texts names row) }

-- rows of permutations
abbrev pub number_rows : Sense (List (List ℕ))
number_rows = record { meaning = λ ps. Some (numbers_of ps); bare = λ xs. xs; text = λ names xs. with_commas xs }

-- without the places
pub row_bare : (ps : List Part) → row_of (map bare_part ps) ≡ bare_row (row_of ps)
row_bare [] = refl
row_bare (Maker p ∷ ps) = row_bare ps
row_bare (Value w ∷ ps) = ap₂ (λ y ys. y ∷ ys) (formula_of_bare w) (row_bare ps)

pub numbers_bare : (ps : List Part) → numbers_of (map bare_part ps) ≡ numbers_of ps
numbers_bare [] = refl
numbers_bare (Maker (Says p c s) ∷ ps) = numbers_bare ps
numbers_bare (Maker (Names n) ∷ ps) = numbers_bare ps
numbers_bare (Maker (Takes n) ∷ ps) = numbers_bare ps
numbers_bare (Maker (Acts q) ∷ ps) = numbers_bare ps
numbers_bare (Maker (Counts w) ∷ ps) = numbers_bare ps
numbers_bare (Maker (Keeps x) ∷ ps) = ap (λ ys. x ∷ ys) (numbers_bare ps)
numbers_bare (Value w ∷ ps) = numbers_bare ps

-- a row begins with no qubit, and has none behind
fits_all : (c : Context) → c.qubits ≡ [] → (ts : List Token) → LineFits c ts → AreFit c ts
fits_all c e [] f = tt
fits_all c e (t ∷ ts) f = (subst (λ d. Fits d t) (same_outer c e) f.0, f.1)

pub row_again : (c : Context) → c.qubits ≡ [] → (ts : List Token) (os : List Event) → LineFits c ts → Reads quil tables matrix_row ts (Made os []) → IsReread rows c matrix_row os
row_again c e ts os f r =
    let m = matrix_row_again c ts os e (fits_all c e ts f) r in
    record { thing = row_of m.parts; parts = m.parts; makes = m.makes; means = refl; means_bare = ap Some (row_bare m.parts); again = m.again }

pub numbers_again : (c : Context) → c.qubits ≡ [] → (ts : List Token) (os : List Event) → LineFits c ts → Reads quil tables permutation_row ts (Made os []) → IsReread number_rows c permutation_row os
numbers_again c e ts os f r =
    let m = permutation_row_again c ts os e (fits_all c e ts f) r in
    record { thing = numbers_of m.parts; parts = m.parts; makes = m.makes; means = refl; means_bare = ap Some (numbers_bare m.parts); again = m.again }
