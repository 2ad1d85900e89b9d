-- Steps, taken on a stack of trees, give the tree back, so it is the only one.
use Rattle.std.proofs.Common.{◌≡◌, List, [], ◌∷◌, ◌++◌, refl, sym, ◌∙◌, ap, append_assoc, append-nil}
use Rattle.quil_tree.specs.Expression.{Expression, postfix, acted, trees}
use Rattle.quil_tree.specs.Expression.Expression.{Leaf, Signed, Applied, Called}
use Rattle.quil_tree.specs.declared.expr.Step.{Step}
use Rattle.quil_tree.specs.declared.expr.Action.TheVariants.{Sign, Apply, Call}

trees_of_postfix_then : (t : Expression) (ss : List Step) (es : List Expression) → trees (postfix t ++ ss) es ≡ trees ss (t ∷ es)
unfolding trees acted
trees_of_postfix_then (Leaf p a) ss es = refl
trees_of_postfix_then (Signed p s a) ss es =
    ap (λ xs. trees xs es) (append_assoc (postfix a) (record { place = p; action = Sign s } ∷ []) ss) ∙ trees_of_postfix_then a (record { place = p; action = Sign s } ∷ ss) es
trees_of_postfix_then (Applied p o a b) ss es =
    let last : Step = record { place = p; action = Apply o } in
    ap (λ xs. trees xs es) (append_assoc (postfix a) (postfix b ++ last ∷ []) ss)
    ∙ trees_of_postfix_then a ((postfix b ++ last ∷ []) ++ ss) es
    ∙ ap (λ xs. trees xs (a ∷ es)) (append_assoc (postfix b) (last ∷ []) ss)
    ∙ trees_of_postfix_then b (last ∷ ss) (a ∷ es)
trees_of_postfix_then (Called p f a) ss es =
    ap (λ xs. trees xs es) (append_assoc (postfix a) (record { place = p; action = Call f } ∷ []) ss) ∙ trees_of_postfix_then a (record { place = p; action = Call f } ∷ ss) es

pub trees_of_postfix : (t : Expression) → trees (postfix t) [] ≡ t ∷ []
unfolding trees
trees_of_postfix t = ap (λ xs. trees xs []) (sym (append-nil (postfix t))) ∙ trees_of_postfix_then t [] []

pub same_tree : (t u : Expression) → postfix t ≡ postfix u → t ≡ u
same_tree t u e =
    let same : t ∷ [] ≡ u ∷ [] = sym (trees_of_postfix t) ∙ ap (λ ss. trees ss []) e ∙ trees_of_postfix u in
    cc
