-- What an expression is worked out to: a value, or with memory references a rational sum of cells; or its first fault from left
-- to right, operands before their operation.
use Rattle.std.specs.Prelude.{◌≡◌, ℕ, ℤ, pos, List, [], ◌∷◌, Option, Some, None, Result, Ok, Err, ok_or, unwrap_or, position, bytes_eq, slice_get, if◌then◌else◌}
use Rattle.std.specs.Ordering.{int_eq}
use Rattle.qvm_ring.specs.Ring.{is_zero}
use Rattle.quil_number.specs.declared.fraction.Fraction.{Fraction}
use Rattle.quil_tree.specs.declared.place.Place.{Place}
use Rattle.quil_tree.specs.declared.expr.Address.{Address}
use Rattle.quil_tree.specs.declared.expr.Atom.{Atom}
use Rattle.quil_tree.specs.declared.expr.Atom.TheVariants as atom
use Rattle.quil_tree.specs.declared.expr.Sign.{Sign}
use Rattle.quil_tree.specs.declared.expr.Sign.TheVariants as sign
use Rattle.quil_tree.specs.declared.expr.Operator.{Operator}
use Rattle.quil_tree.specs.declared.expr.Operator.TheVariants as operator
use Rattle.quil_tree.specs.declared.expr.Function.{Function}
use Rattle.quil_tree.specs.Expression.{Expression}
use Rattle.quil_tree.specs.Expression.Expression.{Leaf, Signed, Applied, Called}
use Rattle.quil_memory.specs.Layout.{Regions, no_regions}
use Rattle.quil_value.specs.declared.lack.Lack.{Lack}
use Rattle.quil_value.specs.declared.lack.Lack.TheVariants.{NotExact, ZeroDivisor}
use Rattle.quil_value.specs.declared.stop.Stop.{Stop}
use Rattle.quil_value.specs.declared.stop.Stop.TheVariants.{At, Whole}
use Rattle.quil_value.specs.declared.sum_fault.SumFault.{SumFault}
use Rattle.quil_value.specs.declared.sum_fault.SumFault.TheVariants as sum_fault
use Rattle.quil_value.specs.declared.work_fault.WorkFault.{WorkFault}
use Rattle.quil_value.specs.declared.work_fault.WorkFault.TheVariants as fault
use Rattle.quil_value.specs.declared.worked.Worked.{Worked}
use Rattle.quil_value.specs.declared.worked.Worked.TheVariants.{Plain, Summed}
use Rattle.quil_value.specs.Results.{and_then}
use Rattle.quil_value.specs.Exact.{Exact, Ring, Rational, Pi, ImagPi}
use Rattle.quil_value.specs.Literals.{number_literal, imaginary_literal, half_turn, imaginary_unit}
use Rattle.quil_value.specs.Table.{ratio_of, signed, applied, called}
use Rattle.quil_value.specs.Sums.{Sum, cell_sum, zero_ratio, inverse, sum_of_sums, scaled_sum, opposite_sum}

abbrev pub Answer : Type 0
Answer = Result Worked Stop

-- a value of the table, or its fault at a place
abbrev pub at_place : Place → Result Exact Lack → Answer
at_place p (Ok x) = Ok (Plain x)
at_place p (Err e) = Err (At p e)

-- a sum, or its fault, which stands at the place of the whole parameter
abbrev pub at_whole : Result Sum Lack → Answer
at_whole (Ok x) = Ok (Summed x)
at_whole (Err e) = Err (Whole e)

-- ---- with memory references

-- what is added to a sum: a sum, a rational multiple of π, or 0
abbrev pub as_sum : Worked → Result Sum Lack
as_sum (Summed s) = Ok s
as_sum (Plain (Pi x)) = Ok (record { terms = []; own = x })
as_sum (Plain (Ring z m)) = if is_zero z then Ok (record { terms = []; own = zero_ratio }) else Err NotExact
as_sum (Plain (Rational x)) = Err NotExact
as_sum (Plain (ImagPi x)) = Err NotExact

-- what a sum is multiplied with: a rational
abbrev pub as_factor : Worked → Result Fraction Lack
as_factor (Plain x) = ok_or (ratio_of x) NotExact
as_factor (Summed s) = Err NotExact

-- what a sum is divided by: a rational other than 0
abbrev pub as_divisor : Worked → Result Fraction Lack
as_divisor y = and_then (as_factor y) (λ c. if int_eq c.p (pos 0) then Err ZeroDivisor else Ok c)

abbrev pub product_with_sum : Worked → Worked → Result Sum Lack
product_with_sum (Summed s) y = and_then (as_factor y) (scaled_sum s)
product_with_sum (Plain x) y = and_then (as_factor (Plain x)) (λ c. and_then (as_sum y) (λ s. scaled_sum s c))

abbrev pub quotient_of_sum : Worked → Worked → Result Sum Lack
quotient_of_sum (Summed s) y = and_then (as_divisor y) (λ c. scaled_sum s (inverse c))
quotient_of_sum (Plain x) y = Err NotExact

-- an operation on two parts, of which one has references
abbrev pub applied_to_sums : Operator → Worked → Worked → Result Sum Lack
applied_to_sums operator.Add x y = and_then (as_sum x) (λ s. and_then (as_sum y) (sum_of_sums s))
applied_to_sums operator.Subtract x y = and_then (as_sum x) (λ s. and_then (as_sum y) (λ t. sum_of_sums s (opposite_sum t)))
applied_to_sums operator.Multiply x y = product_with_sum x y
applied_to_sums operator.Divide x y = quotient_of_sum x y
applied_to_sums operator.Power x y = Err NotExact

-- ---- each step

abbrev pub worked_sign : Sign → Worked → Answer
worked_sign s (Plain x) = Ok (Plain (signed s x))
worked_sign sign.Plus (Summed x) = Ok (Summed x)
worked_sign sign.Minus (Summed x) = Ok (Summed (opposite_sum x))

abbrev pub worked_operator : Place → Operator → Worked → Worked → Answer
worked_operator p o (Plain x) (Plain y) = at_place p (applied o x y)
worked_operator p o (Plain x) (Summed t) = at_whole (applied_to_sums o (Plain x) (Summed t))
worked_operator p o (Summed s) y = at_whole (applied_to_sums o (Summed s) y)

abbrev pub worked_function : Place → Function → Worked → Answer
worked_function p f (Plain x) = at_place p (called f x)
worked_function p f (Summed s) = Err (Whole NotExact)

-- a cell of the layout
abbrev pub worked_cell : Regions → Address → Answer
worked_cell l a = elim (position (λ r. bytes_eq a.region r.name) l.regions) [
  | Some n ↦ Ok (Summed (cell_sum (record { region = n; index = a.index.value })))
  | None ↦ Err (Whole NotExact)
]

-- a parameter is what its argument was worked out to
abbrev pub worked_argument : List Answer → ℕ → Answer
worked_argument args n = unwrap_or (slice_get args n) (Err (Whole NotExact))

abbrev pub worked_atom : Regions → List Answer → Place → Atom → Answer
worked_atom l args p (atom.Number t) = at_place p (number_literal t)
worked_atom l args p (atom.Imaginary t) = at_place p (imaginary_literal t)
worked_atom l args p atom.Pi = Ok (Plain half_turn)
worked_atom l args p atom.I = Ok (Plain imaginary_unit)
worked_atom l args p (atom.Parameter n) = worked_argument args n
worked_atom l args p (atom.Cell a) = worked_cell l a

-- ---- the whole expression

unfoldable pub worked : Regions → List Answer → Expression → Answer
worked l args (Leaf p a) = worked_atom l args p a
worked l args (Signed p s a) = and_then (worked l args a) (worked_sign s)
worked l args (Applied p o a b) = and_then (worked l args a) (λ x. and_then (worked l args b) (worked_operator p o x))
worked l args (Called p f a) = and_then (worked l args a) (worked_function p f)

-- the value of an expression with no memory: a parameter that is a sum has none
abbrev pub plain : Worked → Result Exact Stop
plain (Plain x) = Ok x
plain (Summed s) = Err (Whole NotExact)

abbrev pub value : List Answer → Expression → Result Exact Stop
value args e = and_then (worked no_regions args e) plain

-- ---- answers

-- the fault is this result's, or memory ran out
abbrev pub IsLackOf : {A : Type 0} → SumFault → Result A Lack → Type 0
IsLackOf (sum_fault.Lack e) r = r ≡ Err e
IsLackOf sum_fault.OutOfMemory r = Unit {0}

abbrev pub IsFaultOf : {A : Type 0} → WorkFault → Result A Stop → Type 0
IsFaultOf (fault.Stop s) r = r ≡ Err s
IsFaultOf fault.OutOfMemory r = Unit {0}
