use Rattle.std.proofs.Common.{◌≡◌, ◌∙◌, ap, List, [], ◌∷◌, ◌++◌}
use Rattle.quil_tree.specs.Expression.Expression.{Leaf}
use Rattle.quil_tree.specs.declared.expr.Action.TheVariants.{Push}
use Rattle.quil_tree.specs.declared.expr.Step.{Step}
use Rattle.quil_gate.proofs.tests.leaf.Goals as goal

pub new-requires : goal.new-requires
new-requires c = record {
  tree = Leaf c.args.place c.args.atom;
  steps_of_tree = c.in_ok-push.ensures.items ∙ ap (λ (ss : List Step). ss ++ record { place = c.args.place; action = Push c.args.atom } ∷ []) c.new-steps.ensures.items;
}
