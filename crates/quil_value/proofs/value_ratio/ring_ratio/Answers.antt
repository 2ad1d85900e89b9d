use Rattle.std.proofs.Common.{◌≡◌, sym, ◌∙◌, arith, rules, FitsSigned}
use Rattle.std.specs.Int.{w128}
use Rattle.std.proofs.lemmas.Int.{ints, to_z-of_z}
use Rattle.qvm_ring.specs.Views.{wide_element}
use Rattle.quil_value.proofs.RationalValues.{near_ring, half_power, ring_ratio}
use Rattle.quil_value.proofs.value_ratio.ring_ratio.Goals as goal

pub returns-then-x-eq0-clause-form : goal.returns-then-x-eq0-clause-form
returns-then-x-eq0-clause-form c =
    let z = wide_element c.args.x.num in
    let near = near_ring z c.args.x.m c.requires.within in
    let power = half_power c.args.x.m near.power in
    let fits : FitsSigned w128 c.args.x.num.a = search rules in
    ring_ratio z c.args.x.m _ _ c.requires (sym c.is_rational.ensures ∙ c.if-is_rational.true) (to_z-of_z w128 c.args.x.num.a fits) (omega (arith, power.1))
