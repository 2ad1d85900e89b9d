use Rattle.std.proofs.Common.{rules, ◌≡◌, ◌∙◌, ap, ◌*◌, ℤ, ◌+ℤ◌, to_z, of_z}
use Rattle.std.specs.Int.{w32}
use Rattle.qvm_ring.specs.Ring.{Element, times}
use Rattle.qvm_ring.specs.Views.{wide_element}
use Rattle.quil_value.specs.Exact.{settled, bounded}
use Rattle.quil_value.proofs.parts.lone_product.Goals as goal

pub returns : goal.returns
returns c =
    let n = c.args.x.den * c.args.y.den in
    let found = to_z w32 (of_z w32 (to_z w32 (of_z w32 c.args.x.power) +ℤ to_z w32 (of_z w32 c.args.y.power))) in
    let power : found ≡ c.args.x.power +ℤ c.args.y.power = search rules in
    c.settled.ensures
    ∙ ap (λ (t : Element). bounded (settled t n found)) c.lone_times-num.ensures.value
    ∙ ap (λ (k : ℤ). bounded (settled (times (wide_element c.args.x.num) (wide_element c.args.y.num)) n k)) power
