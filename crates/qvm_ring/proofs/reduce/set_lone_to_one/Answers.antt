use Rattle.std.proofs.Common.{◌∙◌, ap, map, arith}
use Rattle.std.proofs.lemmas.List.{map-set, length-map}
use Rattle.qvm_ring.specs.Views.{map_of}
use Rattle.qvm_ring.proofs.Lone.{lone_set}
use Rattle.qvm_ring.proofs.reduce.set_lone_to_one.Goals as goal

pub returns-in-Some-clause-value : goal.returns-in-Some-clause-value
returns-in-Some-clause-value g c =
    ap map_of (map-set g.Z.Number.element c.args.list.now c.in-Some.place c.one.result)
    ∙ lone_set (map g.Z.Number.element c.args.list.now) c.in-Some.place (g.Z.Number.element c.one.result)
    (omega (arith, c.in-Some.ensures.bound, length-map c.args.list.now g.Z.Number.element)) c.in-Some.ensures.one c.one.ensures
