use Rattle.std.proofs.Common.{ap, ◌∙◌, position}
use Rattle.std.specs.Str.{bytes_eq}
use Rattle.quil_memory.specs.Layout.{Regions}
use Rattle.quil_memory.specs.declared.region.Region.{Region}
use Rattle.quil_memory.proofs.Names.{position_same}
use Rattle.quil_memory.proofs.regions.Layout.find.Goals as goal

pub returns-in_err-index : goal.returns-in_err-index
returns-in_err-index c =
    c.from_residual.ensures ∙ c.in_err-index.ensures.index ∙ position_same (λ n. n.items) c.args.name.now c.self.inside.names.keys c.self.inside.regions.items c.self.invariant.0
    ∙ ap (λ (l : Regions). position (λ (r : Region). bytes_eq c.args.name.now r.name) l.regions) c.self.view_is

pub returns : goal.returns
returns c =
    c.in_ok-index.ensures.index ∙ position_same (λ n. n.items) c.args.name.now c.self.inside.names.keys c.self.inside.regions.items c.self.invariant.0
    ∙ ap (λ (l : Regions). position (λ (r : Region). bytes_eq c.args.name.now r.name) l.regions) c.self.view_is
