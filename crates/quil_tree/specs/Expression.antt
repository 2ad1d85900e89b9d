-- Expressions as trees, and the steps of a tree in reverse Polish order.
use Rattle.std.specs.Prelude.{◌≡◌, List, [], ◌∷◌, ◌++◌}
use Rattle.quil_tree.specs.declared.place.Place.{Place}
use Rattle.quil_tree.specs.declared.expr.Atom.{Atom}
use Rattle.quil_tree.specs.declared.expr.Sign.{Sign}
use Rattle.quil_tree.specs.declared.expr.Operator.{Operator}
use Rattle.quil_tree.specs.declared.expr.Function.{Function}
use Rattle.quil_tree.specs.declared.expr.Action.{Action}
use Rattle.quil_tree.specs.declared.expr.Action.TheVariants as action
use Rattle.quil_tree.specs.declared.expr.Step.{Step}

-- each expression with its place
pub data Expression : Type 0 where
  Leaf : Place → Atom → Expression
  Signed : Place → Sign → Expression → Expression
  Applied : Place → Operator → Expression → Expression → Expression
  Called : Place → Function → Expression → Expression

-- operands before their operation, from left to right
abbrev pub postfix : Expression → List Step
postfix (Leaf p a) = record { place = p; action = action.Push a } ∷ []
postfix (Signed p s a) = postfix a ++ record { place = p; action = action.Sign s } ∷ []
postfix (Applied p o a b) = postfix a ++ (postfix b ++ record { place = p; action = action.Apply o } ∷ [])
postfix (Called p f a) = postfix a ++ record { place = p; action = action.Call f } ∷ []

-- these are the steps of a tree
pub record IsPostfix (steps : List Step) : Type 0 where
  pub tree : Expression
  pub steps_of_tree : steps ≡ postfix tree

-- what an action does with the trees on a stack, the last one first
abbrev pub acted : Place → Action → List Expression → List Expression
acted p (action.Push a) es = Leaf p a ∷ es
acted p (action.Sign s) [] = []
acted p (action.Sign s) (a ∷ es) = Signed p s a ∷ es
acted p (action.Apply o) [] = []
acted p (action.Apply o) (b ∷ []) = []
acted p (action.Apply o) (b ∷ a ∷ es) = Applied p o a b ∷ es
acted p (action.Call f) [] = []
acted p (action.Call f) (a ∷ es) = Called p f a ∷ es

-- the trees on the stack when the steps were taken
abbrev pub trees : List Step → List Expression → List Expression
trees [] es = es
trees (s ∷ ss) es = trees ss (acted s.place s.action es)
