use Rattle.std.proofs.Common.{ap, ◌∙◌, bytes_eq}
use Rattle.std.specs.List.{list_any}
use Rattle.quil_tree.proofs.NameSets.{list_any-map}
use Rattle.quil_tree.proofs.names.NameSet.contains.Goals as goal

pub returns : goal.returns
returns c = c.contains.ensures ∙ list_any-map (λ v. v.items) (bytes_eq c.args.text.now) c.self.inside.names.keys ∙ ap (list_any (bytes_eq c.args.text.now)) c.self.view_is
