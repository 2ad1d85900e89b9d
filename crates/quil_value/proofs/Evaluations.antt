-- Running the steps of a tree puts on top what it is worked out to.
use Rattle.std.proofs.Common.{◌≡◌, List, [], ◌∷◌, ◌++◌, Result, Ok, Err, refl, sym, ◌∙◌, ap, append_assoc, append-nil}
use Rattle.quil_tree.specs.declared.place.Place.{Place}
use Rattle.quil_tree.specs.declared.expr.Step.{Step}
use Rattle.quil_tree.specs.declared.expr.Action.TheVariants.{Push, Sign, Apply, Call}
use Rattle.quil_tree.specs.Expression.{Expression, postfix}
use Rattle.quil_tree.specs.Expression.Expression.{Leaf, Signed, Applied, Called}
use Rattle.quil_memory.specs.Layout.{Regions}
use Rattle.quil_value.specs.declared.worked.Worked.{Worked}
use Rattle.quil_value.specs.Results.{and_then}
use Rattle.quil_value.specs.Worked.{Answer, worked, worked_sign, worked_operator, worked_function}
use Rattle.quil_value.specs.Runs.{ran, stepped, put, top}

module _ (l : Regions) (args : List Answer) where
  -- what the steps behind go on with
  abbrev goes_on : List Step → List Worked → Answer → Answer
  goes_on ss vs r = and_then r (λ x. ran l args ss (x ∷ vs))

  put_then : (ss : List Step) (vs : List Worked) (r : Answer) → and_then (put vs r) (ran l args ss) ≡ goes_on ss vs r
  put_then ss vs (Ok x) = refl
  put_then ss vs (Err e) = refl

  then_one : (ss : List Step) (vs : List Worked) (f : Worked → Answer) (r : Answer)
      → and_then r (λ x. and_then (put vs (f x)) (ran l args ss)) ≡ goes_on ss vs (and_then r f)
  then_one ss vs f (Ok x) = put_then ss vs (f x)
  then_one ss vs f (Err e) = refl

  then_two : (ss : List Step) (vs : List Worked) (f : Worked → Worked → Answer) (r s : Answer)
      → and_then r (λ x. and_then s (λ y. and_then (put vs (f x y)) (ran l args ss))) ≡ goes_on ss vs (and_then r (λ x. and_then s (f x)))
  then_two ss vs f (Ok x) s = then_one ss vs (f x) s
  then_two ss vs f (Err e) s = refl

  under : (r : Answer) (f g : Worked → Answer) → ((x : Worked) → f x ≡ g x) → and_then r f ≡ and_then r g
  under (Ok x) f g e = e x
  under (Err e) f g h = refl

  ran_then : (t : Expression) (ss : List Step) (vs : List Worked) → ran l args (postfix t ++ ss) vs ≡ goes_on ss vs (worked l args t)
  unfolding worked
  ran_then (Leaf p a) ss vs = put_then ss vs _
  ran_then (Signed p s a) ss vs =
      let last : Step = record { place = p; action = Sign s } in
      ap (λ xs. ran l args xs vs) (append_assoc (postfix a) (last ∷ []) ss)
      ∙ ran_then a (last ∷ ss) vs
      ∙ then_one ss vs (worked_sign s) (worked l args a)
  ran_then (Applied p o a b) ss vs =
      let last : Step = record { place = p; action = Apply o } in
      ap (λ xs. ran l args xs vs) (append_assoc (postfix a) (postfix b ++ last ∷ []) ss)
      ∙ ran_then a ((postfix b ++ last ∷ []) ++ ss) vs
      ∙ under (worked l args a) _ _ (λ x. ap (λ xs. ran l args xs (x ∷ vs)) (append_assoc (postfix b) (last ∷ []) ss) ∙ ran_then b (last ∷ ss) (x ∷ vs))
      ∙ then_two ss vs (worked_operator p o) (worked l args a) (worked l args b)
  ran_then (Called p f a) ss vs =
      let last : Step = record { place = p; action = Call f } in
      ap (λ xs. ran l args xs vs) (append_assoc (postfix a) (last ∷ []) ss)
      ∙ ran_then a (last ∷ ss) vs
      ∙ then_one ss vs (worked_function p f) (worked l args a)

  alone : (r : Answer) → goes_on [] [] r ≡ r
  alone (Ok x) = refl
  alone (Err e) = refl

  pub ran_of_tree : (t : Expression) (ss : List Step) → ss ≡ postfix t → ran l args ss [] ≡ worked l args t
  ran_of_tree t ss e =
      ap (λ xs. ran l args xs []) (e ∙ sym (append-nil (postfix t))) ∙ ran_then t [] [] ∙ alone (worked l args t)
