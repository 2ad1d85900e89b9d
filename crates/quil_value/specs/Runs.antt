-- How the code goes over the steps of an expression, and its parts. Nobody has to believe these: `worked` says what is answered.
use Rattle.std.specs.Prelude.{ℕ, ◌<◌, nat_abs, List, [], ◌∷◌, Option, Some, None, Result, Ok, Err, map, if◌then◌else◌}
use Rattle.std.specs.List.{list_all}
use Rattle.quil_number.specs.declared.fraction.Fraction.{Fraction}
use Rattle.quil_tree.specs.declared.place.Place.{Place}
use Rattle.quil_tree.specs.declared.expr.Action.{Action}
use Rattle.quil_tree.specs.declared.expr.Action.TheVariants as action
use Rattle.quil_tree.specs.declared.expr.Step.{Step}
use Rattle.quil_memory.specs.Layout.{Regions}
use Rattle.quil_value.specs.declared.lack.Lack.{Lack}
use Rattle.quil_value.specs.declared.lack.Lack.TheVariants.{NotExact, NumberTooWide}
use Rattle.quil_value.specs.declared.sums.Term.{Term}
use Rattle.quil_value.specs.declared.angle_sum.Count.{Count}
use Rattle.quil_value.specs.AngleSums.{counted_over, is_small}
use Rattle.quil_value.specs.declared.stop.Stop.{Stop}
use Rattle.quil_value.specs.declared.stop.Stop.TheVariants.{Whole}
use Rattle.quil_value.specs.declared.worked.Worked.{Worked}
use Rattle.quil_value.specs.Results.{and_then}
use Rattle.quil_value.specs.SumForms.{IsRatio}
use Rattle.quil_value.specs.Sums.{Sum, sum_of_sums, opposite_sum}
use Rattle.quil_value.specs.Worked.{Answer, as_sum, worked_atom, worked_sign, worked_operator, worked_function}

-- ---- sums

pub record IsDivisor (x : Fraction) : Type 0 where
  pub form : IsRatio x
  pub some : 0 < nat_abs x.p

abbrev pub sum_of_parts : Worked → Worked → Result Sum Lack
sum_of_parts x y = and_then (as_sum x) (λ s. and_then (as_sum y) (sum_of_sums s))

abbrev pub difference_of_parts : Worked → Worked → Result Sum Lack
difference_of_parts x y = and_then (as_sum x) (λ s. and_then (as_sum y) (λ t. sum_of_sums s (opposite_sum t)))

-- the terms counted over a denominator, where each count is small
abbrev pub narrow_counts : ℕ → List Term → Result (List Count) Lack
narrow_counts n ts =
    let counts = map (λ t. record { cell = t.cell; count = counted_over n t.factor }) ts in
    if list_all (λ c. is_small c.count) counts then Ok counts else Err NumberTooWide

-- ---- steps

-- the stack with what was worked out on top
abbrev pub put : List Worked → Answer → Result (List Worked) Stop
put vs r = and_then r (λ x. Ok (x ∷ vs))

-- the steps of a tree always find what they take
abbrev pub too_few : Result (List Worked) Stop
too_few = Err (Whole NotExact)

-- the stack behind a step
abbrev pub stepped : Regions → List Answer → Place → Action → List Worked → Result (List Worked) Stop
stepped l args p (action.Push a) vs = put vs (worked_atom l args p a)
stepped l args p (action.Sign s) [] = too_few
stepped l args p (action.Sign s) (x ∷ vs) = put vs (worked_sign s x)
stepped l args p (action.Apply o) [] = too_few
stepped l args p (action.Apply o) (y ∷ []) = too_few
stepped l args p (action.Apply o) (y ∷ x ∷ vs) = put vs (worked_operator p o x y)
stepped l args p (action.Call f) [] = too_few
stepped l args p (action.Call f) (x ∷ vs) = put vs (worked_function p f x)

abbrev pub top : List Worked → Answer
top [] = Err (Whole NotExact)
top (x ∷ vs) = Ok x

-- what the steps come to from a stack
abbrev pub ran : Regions → List Answer → List Step → List Worked → Answer
ran l args [] vs = top vs
ran l args (s ∷ ss) vs = and_then (stepped l args s.place s.action vs) (ran l args ss)

abbrev pub with_part : Option Worked → List Worked → List Worked
with_part None vs = []
with_part (Some x) vs = x ∷ vs
