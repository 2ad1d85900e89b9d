-- What was made, without its places.
use Rattle.std.proofs.Common.{◌≡◌, ℕ, Bool, true, false, List, [], ◌∷◌, ◌++◌, map, Option, Some, None, refl, ◌∙◌, ap, ap₂, if◌then◌else◌}
use Rattle.std.specs.List.{list_all}
use Rattle.std.proofs.lemmas.List.{map-append}
use Rattle.quil_tree.specs.declared.place.Place.{Place}
use Rattle.quil_tree.specs.declared.expr.Sign.{Sign}
use Rattle.quil_tree.specs.declared.expr.Atom.{Atom}
use Rattle.quil_tree.specs.declared.expr.Atom.TheVariants as atom
use Rattle.quil_tree.specs.declared.statement.Operand.{Operand}
use Rattle.quil_tree.specs.declared.statement.Operand.TheVariants as operand
use Rattle.quil_tree.specs.Expression.{postfix}
use Rattle.quil_tree.specs.Expression.Expression.{Signed as SignedTree, Called}
use Rattle.quil_grammar.specs.Grammar.{Event, Piece, Around, is_digit, whole_of}
use Rattle.quil_grammar.specs.Grammar.Event.{Stands, Region, Index, Between, Joined, Opens, Closes, Makes}
use Rattle.quil_grammar.specs.Grammar.Piece.{Says, Names, Takes, Acts, Counts, Keeps}
use Rattle.quil_grammar.specs.Grammar.Around.{Signed, Parenthesized, Argument}
use Rattle.quil_grammar.specs.Parts.{Part, parts_events, part_events}
use Rattle.quil_grammar.specs.Parts.Part.{Made, Value}
use Rattle.quil_grammar.specs.Written.{Written, events, events_of_atom, meaning, start, formula_of, operand_of, number_or}
use Rattle.quil_grammar.specs.Written.Written.{Alone, Joins, Within}
use Rattle.quil_round_trip.specs.Unplaced.{origin, bare_step, bare_name, bare_qubit, bare_formula, bare_operand}
use Rattle.quil_round_trip.proofs.Expressions.{bare_expression, bare_postfix}

abbrev pub bare_piece : Piece → Piece
bare_piece (Says p c s) = Says origin c s
bare_piece (Names n) = Names (bare_name n)
bare_piece (Takes n) = Takes (bare_name n)
bare_piece (Acts q) = Acts (bare_qubit q)
bare_piece (Counts w) = Counts w
bare_piece (Keeps x) = Keeps x

abbrev pub bare_around : Around → Around
bare_around (Signed p s) = Signed origin s
bare_around (Parenthesized p) = Parenthesized origin
bare_around (Argument p f) = Argument origin f

abbrev pub bare_event : Event → Event
bare_event (Stands p a) = Stands origin a
bare_event (Region p x) = Region origin x
bare_event (Index w) = Index w
bare_event (Between o) = Between o
bare_event Joined = Joined
bare_event (Opens m) = Opens (bare_around m)
bare_event Closes = Closes
bare_event (Makes p) = Makes (bare_piece p)

abbrev pub bare_written : Written → Written
bare_written (Alone p a) = Alone origin a
bare_written (Joins o a b) = Joins o (bare_written a) (bare_written b)
bare_written (Within m a) = Within (bare_around m) (bare_written a)

abbrev pub bare_part : Part → Part
bare_part (Made p) = Made (bare_piece p)
bare_part (Value w) = Value (bare_written w)

-- ---- what is made of it

atom_events : (p : Place) (a : Atom) → map bare_event (events_of_atom p a) ≡ events_of_atom origin a
atom_events p (atom.Number x) = refl
atom_events p (atom.Imaginary x) = refl
atom_events p atom.Pi = refl
atom_events p atom.I = refl
atom_events p (atom.Parameter n) = refl
atom_events p (atom.Cell a) = refl

written_events : (w : Written) → map bare_event (events w) ≡ events (bare_written w)
written_events (Alone p a) = atom_events p a
written_events (Joins o a b) =
    map-append bare_event (events a) (Between o ∷ (events b ++ Joined ∷ []))
    ∙ ap₂ (λ x y. x ++ (Between o ∷ y)) (written_events a) (map-append bare_event (events b) (Joined ∷ []) ∙ ap (λ x. x ++ Joined ∷ []) (written_events b))
written_events (Within m a) = ap (λ x. Opens (bare_around m) ∷ x) (map-append bare_event (events a) (Closes ∷ []) ∙ ap (λ x. x ++ Closes ∷ []) (written_events a))

part_bare : (p : Part) → map bare_event (part_events p) ≡ part_events (bare_part p)
part_bare (Made p) = refl
part_bare (Value w) = written_events w

pub parts_bare : (ps : List Part) → map bare_event (parts_events ps) ≡ parts_events (map bare_part ps)
parts_bare [] = refl
parts_bare (p ∷ ps) = map-append bare_event (part_events p) (parts_events ps) ∙ ap₂ (λ x y. x ++ y) (part_bare p) (parts_bare ps)

-- ---- what it means

start_bare : (w : Written) → start (bare_written w) ≡ origin
start_bare (Alone p a) = refl
start_bare (Joins o a b) = start_bare a
start_bare (Within (Signed p s) a) = refl
start_bare (Within (Parenthesized p) a) = refl
start_bare (Within (Argument p f) a) = refl

meaning_bare : (w : Written) → meaning (bare_written w) ≡ bare_expression (meaning w)
meaning_bare (Alone p a) = refl
meaning_bare (Joins o a b) = rw (start_bare a, meaning_bare a, meaning_bare b) refl
meaning_bare (Within (Signed p s) a) = ap (λ e. SignedTree origin s e) (meaning_bare a)
meaning_bare (Within (Parenthesized p) a) = meaning_bare a
meaning_bare (Within (Argument p f) a) = ap (λ e. Called origin f e) (meaning_bare a)

pub formula_of_bare : (w : Written) → formula_of (bare_written w) ≡ bare_formula (formula_of w)
formula_of_bare w = let e : postfix (meaning (bare_written w)) ≡ map bare_step (postfix (meaning w)) = ap postfix (meaning_bare w) ∙ bare_postfix (meaning w) in rw (start_bare w, e) refl

number_bare : (p : Place) (s : Option Sign) (x : List ℕ) (w : Written) → number_or origin s x (operand.Formula (formula_of (bare_written w))) ≡ bare_operand (number_or p s x (operand.Formula (formula_of w)))
number_bare p s x w = by (list_all is_digit x)
  where
    by : (b : Bool) → (if b then operand.Literal origin s (whole_of x) else operand.Formula (formula_of (bare_written w))) ≡ bare_operand (if b then operand.Literal p s (whole_of x) else operand.Formula (formula_of w))
    by true = refl
    by false = ap operand.Formula (formula_of_bare w)

formula_operand : (w : Written) → ◌≡◌ {A = Operand} (operand.Formula (formula_of (bare_written w))) (bare_operand (operand.Formula (formula_of w)))
formula_operand w = ap operand.Formula (formula_of_bare w)

pub operand_of_bare : (w : Written) → operand_of (bare_written w) ≡ bare_operand (operand_of w)
operand_of_bare (Alone p (atom.Number x)) = number_bare p None x (Alone p (atom.Number x))
operand_of_bare (Alone p (atom.Imaginary x)) = formula_operand (Alone p (atom.Imaginary x))
operand_of_bare (Alone p atom.Pi) = formula_operand (Alone p atom.Pi)
operand_of_bare (Alone p atom.I) = formula_operand (Alone p atom.I)
operand_of_bare (Alone p (atom.Parameter n)) = formula_operand (Alone p (atom.Parameter n))
operand_of_bare (Alone p (atom.Cell a)) = refl
operand_of_bare (Joins o a b) = formula_operand (Joins o a b)
operand_of_bare (Within (Parenthesized p) a) = formula_operand (Within (Parenthesized p) a)
operand_of_bare (Within (Argument p f) a) = formula_operand (Within (Argument p f) a)
operand_of_bare (Within (Signed p s) (Alone q (atom.Number x))) = number_bare p (Some s) x (Within (Signed p s) (Alone q (atom.Number x)))
operand_of_bare (Within (Signed p s) (Alone q (atom.Imaginary x))) = formula_operand (Within (Signed p s) (Alone q (atom.Imaginary x)))
operand_of_bare (Within (Signed p s) (Alone q atom.Pi)) = formula_operand (Within (Signed p s) (Alone q atom.Pi))
operand_of_bare (Within (Signed p s) (Alone q atom.I)) = formula_operand (Within (Signed p s) (Alone q atom.I))
operand_of_bare (Within (Signed p s) (Alone q (atom.Parameter n))) = formula_operand (Within (Signed p s) (Alone q (atom.Parameter n)))
operand_of_bare (Within (Signed p s) (Alone q (atom.Cell a))) = formula_operand (Within (Signed p s) (Alone q (atom.Cell a)))
operand_of_bare (Within (Signed p s) (Joins o a b)) = formula_operand (Within (Signed p s) (Joins o a b))
operand_of_bare (Within (Signed p s) (Within m a)) = formula_operand (Within (Signed p s) (Within m a))
