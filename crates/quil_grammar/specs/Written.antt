-- An expression as it is written, with its parentheses, and what it means.
use Rattle.std.specs.Prelude.{ℕ, List, [], ◌∷◌, ◌++◌, Option, Some, None, if◌then◌else◌}
use Rattle.std.specs.List.{list_all}
use Rattle.quil_tree.specs.declared.statement.Formula.{Formula}
use Rattle.quil_tree.specs.declared.statement.Reference.{Reference}
use Rattle.quil_tree.specs.declared.statement.Operand.{Operand}
use Rattle.quil_tree.specs.declared.statement.Operand.TheVariants as operand
use Rattle.quil_tree.specs.declared.expr.Address.{Address}
use Rattle.quil_tree.specs.declared.expr.Sign.{Sign}
use Rattle.quil_tree.specs.declared.place.Place.{Place}
use Rattle.quil_tree.specs.declared.expr.Atom.{Atom}
use Rattle.quil_tree.specs.declared.expr.Atom.TheVariants as atom
use Rattle.quil_tree.specs.declared.expr.Operator.{Operator}
use Rattle.quil_tree.specs.Expression.{Expression, postfix}
use Rattle.quil_tree.specs.Expression.Expression.{Leaf, Signed as SignedTree, Applied, Called}
use Rattle.quil_grammar.specs.Grammar.{Around, Event, is_digit, whole_of}
use Rattle.quil_grammar.specs.Grammar.Around.{Signed, Parenthesized, Argument}
use Rattle.quil_grammar.specs.Grammar.Event.{Stands, Region, Index, Between, Joined, Opens, Closes}

-- an atom, two expressions and an operator between them, or an expression and what stands round it
pub data Written : Type 0 where
  Alone : Place → Atom → Written
  Joins : Operator → Written → Written → Written
  Within : Around → Written → Written

-- what reading an atom makes
abbrev pub events_of_atom : Place → Atom → List Event
events_of_atom p (atom.Cell address) = Region p address.region ∷ Index address.index ∷ []
events_of_atom p (atom.Number text) = Stands p (atom.Number text) ∷ []
events_of_atom p (atom.Imaginary text) = Stands p (atom.Imaginary text) ∷ []
events_of_atom p atom.Pi = Stands p atom.Pi ∷ []
events_of_atom p atom.I = Stands p atom.I ∷ []
events_of_atom p (atom.Parameter number) = Stands p (atom.Parameter number) ∷ []

-- what reading it makes
abbrev pub events : Written → List Event
events (Alone p a) = events_of_atom p a
events (Joins o a b) = events a ++ (Between o ∷ (events b ++ Joined ∷ []))
events (Within m a) = Opens m ∷ (events a ++ Closes ∷ [])

abbrev pub place_of : Around → Place
place_of (Signed p s) = p
place_of (Parenthesized p) = p
place_of (Argument p f) = p

-- the place of its first byte
abbrev pub start : Written → Place
start (Alone p a) = p
start (Joins o a b) = start a
start (Within m a) = place_of m

-- parentheses mean nothing more; an operation has the place of its first byte, and so with the parentheses of its first operand
abbrev pub within : Around → Expression → Expression
within (Signed p s) e = SignedTree p s e
within (Parenthesized p) e = e
within (Argument p f) e = Called p f e

abbrev pub meaning : Written → Expression
meaning (Alone p a) = Leaf p a
meaning (Joins o a b) = Applied (start a) o (meaning a) (meaning b)
meaning (Within m a) = within m (meaning a)

-- a written expression where it stands
abbrev pub formula_of : Written → Formula
formula_of w = record { place = start w; expr = postfix (meaning w) }

-- a cell of memory where it stands
abbrev pub reference_at : Place → Address → Reference
reference_at p a = record { place = p; address = a }

-- a whole number alone or with its sign is a literal; parentheses make it an expression (one of 2^64 or more is refused at its
-- first token, by the grammar)
abbrev pub number_or : Place → Option Sign → List ℕ → Operand → Operand
number_or p sign digits other = if list_all is_digit digits then operand.Literal p sign (whole_of digits) else other

abbrev pub atom_operand : Place → Atom → Operand
atom_operand p (atom.Cell a) = operand.Reference (reference_at p a)
atom_operand p (atom.Number x) = number_or p None x (operand.Formula (formula_of (Alone p (atom.Number x))))
atom_operand p (atom.Imaginary x) = operand.Formula (formula_of (Alone p (atom.Imaginary x)))
atom_operand p atom.Pi = operand.Formula (formula_of (Alone p atom.Pi))
atom_operand p atom.I = operand.Formula (formula_of (Alone p atom.I))
atom_operand p (atom.Parameter n) = operand.Formula (formula_of (Alone p (atom.Parameter n)))

abbrev pub signed_operand : Place → Sign → Written → Operand
signed_operand p s (Alone q (atom.Number x)) = number_or p (Some s) x (operand.Formula (formula_of (Within (Signed p s) (Alone q (atom.Number x)))))
signed_operand p s w = operand.Formula (formula_of (Within (Signed p s) w))

-- what a written expression is as an operand
abbrev pub operand_of : Written → Operand
operand_of (Alone p a) = atom_operand p a
operand_of (Joins o a b) = operand.Formula (formula_of (Joins o a b))
operand_of (Within (Signed p s) w) = signed_operand p s w
operand_of (Within (Parenthesized p) w) = operand.Formula (formula_of (Within (Parenthesized p) w))
operand_of (Within (Argument p f) w) = operand.Formula (formula_of (Within (Argument p f) w))

-- what reading a memory reference makes
abbrev pub cell_events : Reference → List Event
cell_events a = Region a.place a.address.region ∷ Index a.address.index ∷ []
