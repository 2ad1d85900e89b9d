use Rattle.std.proofs.Common.{ap, ◌∙◌, position}
use Rattle.std.specs.Str.{bytes_eq}
use Rattle.quil_memory.specs.declared.region.Region.{Region}
use Rattle.quil_memory.proofs.Names.{known_same, region_is, none_is}
use Rattle.quil_memory.proofs.regions.Layout.number_of.Goals as goal

pub returns-clause-known : goal.returns-clause-known
returns-clause-known c =
    known_same c.args.name.now c.args.self.now.regions c.find.result (c.find.ensures ∙ ap (λ n. position (λ (r : Region). bytes_eq n r.name) c.args.self.now.regions) c.as_bytes.ensures)

pub returns-clause-region : goal.returns-clause-region
returns-clause-region c =
    region_is c.args.name.now c.args.self.now.regions c.find.result (c.find.ensures ∙ ap (λ n. position (λ (r : Region). bytes_eq n r.name) c.args.self.now.regions) c.as_bytes.ensures)

pub returns-clause-none : goal.returns-clause-none
returns-clause-none c =
    none_is c.args.name.now c.args.self.now.regions c.find.result (c.find.ensures ∙ ap (λ n. position (λ (r : Region). bytes_eq n r.name) c.args.self.now.regions) c.as_bytes.ensures)
