use Rattle.std.proofs.Common.{sym, ap, ◌∙◌, bytes_eq}
use Rattle.std.specs.List.{position_or_len}
use Rattle.quil_tree.proofs.NameSets.{number_found, number_missing}
use Rattle.quil_tree.proofs.names.NameSet.number_of.Goals as goal

pub returns-in-Some : goal.returns-in-Some
returns-in-Some c =
    number_found (λ v. v.items) c.args.text.now c.self.inside.names.keys c.in-Some.index c.in-Some.ensures.index ∙ ap (position_or_len (bytes_eq c.args.text.now)) c.self.view_is

pub returns-in-None : goal.returns-in-None
returns-in-None c =
    c.len.ensures.len ∙ number_missing (λ v. v.items) c.args.text.now c.self.inside.names.keys (sym c.in-None.is ∙ c.get_index_of.ensures.index)
    ∙ ap (position_or_len (bytes_eq c.args.text.now)) c.self.view_is
