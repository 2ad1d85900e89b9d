-- Steps that find the values that they take, and leave one value, are those of a tree.
use Rattle.std.proofs.Common.{◌≡◌, ℕ, ◌+◌, ◌-◌, ◌≤◌, List, [], ◌∷◌, ◌++◌, length, refl, sym, subst, ◌∙◌, append_assoc, append-nil, arith}
use Rattle.quil_tree.specs.Expression.{Expression, IsPostfix, postfix}
use Rattle.quil_tree.specs.Expression.Expression.{Leaf, Signed, Applied, Called}
use Rattle.quil_tree.specs.Values.{values_taken}
use Rattle.quil_tree.specs.declared.place.Place.{Place}
use Rattle.quil_tree.specs.declared.expr.Action.{Action}
use Rattle.quil_tree.specs.declared.expr.Action.TheVariants as action
use Rattle.quil_tree.specs.declared.expr.Step.{Step}
use Rattle.quil_tree.proofs.Plans.{steps_of}

-- so many values are on the stack, and these steps are left of all
pub record IsRead (depth : ℕ) (left all : List Step) : Type 0 where
  pub values : List Expression
  pub counted : length values ≡ depth
  pub same : steps_of values ++ left ≡ all
  pub bound : depth + length left ≤ length all

pub read_nothing : (all : List Step) → IsRead 0 all all
read_nothing all = record { values = []; counted = refl; same = refl; bound = omega arith }

read_step : (depth after : ℕ) (p : Place) (a : Action) (left all : List Step) → IsRead depth (record { place = p; action = a } ∷ left) all → values_taken a ≤ depth → after ≡ depth - values_taken a + 1 → IsRead after left all
read_step depth after p a left all h enough is = by a h.values h.counted h.same h.bound enough is
  where
    by : (b : Action) (es : List Expression) → length es ≡ depth → steps_of es ++ record { place = p; action = b } ∷ left ≡ all → depth + length {A = Step} (record { place = p; action = b } ∷ left) ≤ length all → values_taken b ≤ depth → after ≡ depth - values_taken b + 1 → IsRead after left all
    by (action.Push x) es counted same bound enough is =
        record { values = Leaf p x ∷ es; counted = omega arith; same = append_assoc (steps_of es) (postfix (Leaf p x)) left ∙ same; bound = omega arith }
    by (action.Sign s) [] counted same bound enough is = absurd (omega arith)
    by (action.Sign s) (e ∷ es) counted same bound enough is =
        record { values = Signed p s e ∷ es; counted = omega arith; same = simp append_assoc (simp append_assoc at same); bound = omega arith }
    by (action.Apply o) [] counted same bound enough is = absurd (omega arith)
    by (action.Apply o) (e ∷ []) counted same bound enough is = absurd (omega arith)
    by (action.Apply o) (e ∷ f ∷ es) counted same bound enough is =
        record { values = Applied p o f e ∷ es; counted = omega arith; same = simp append_assoc (simp append_assoc at same); bound = omega arith }
    by (action.Call f) [] counted same bound enough is = absurd (omega arith)
    by (action.Call f) (e ∷ es) counted same bound enough is =
        record { values = Called p f e ∷ es; counted = omega arith; same = simp append_assoc (simp append_assoc at same); bound = omega arith }

pub read_next : (depth : ℕ) (s : Step) (now left all : List Step) → IsRead depth now all → now ≡ s ∷ left → values_taken s.action ≤ depth → IsRead (depth - values_taken s.action + 1) left all
read_next depth s now left all h is enough = read_step depth _ s.place s.action left all (subst (λ ss. IsRead depth ss all) is h) enough refl

pub read_all : (depth : ℕ) (left all : List Step) → IsRead depth left all → length left ≡ 0 → depth ≡ 1 → IsPostfix all
read_all depth (s ∷ left) all h none one = absurd (omega arith)
read_all depth [] all h none one = by h.values (h.counted ∙ one) h.same
  where
    by : (es : List Expression) → length es ≡ 1 → steps_of es ++ [] ≡ all → IsPostfix all
    by [] counted same = absurd (omega arith)
    by (e ∷ []) counted same = record { tree = e; steps_of_tree = sym same ∙ append-nil (postfix e) }
    by (e ∷ f ∷ es) counted same = absurd (omega arith)
