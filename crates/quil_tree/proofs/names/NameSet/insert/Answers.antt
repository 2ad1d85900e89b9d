use Rattle.std.proofs.Common.{List, ℕ, ap, ◌∙◌}
use Rattle.quil_tree.specs.Names.{with_name}
use Rattle.quil_tree.proofs.NameSets.{with_key}
use Rattle.quil_tree.proofs.names.NameSet.insert.Goals as goal

pub returns : goal.returns
returns c =
    with_key (λ v. v.items) c.in_ok-key.key c.self.inside.names.keys c.insert.new.self.keys c.in_ok-insert.ensures.keys
    ∙ ap (λ (all : List (List ℕ)). with_name all c.in_ok-key.key.items) c.self.view_is ∙ ap (with_name c.args.self.now) c.in_ok-key.ensures.items
