use Rattle.std.proofs.Common.{rules, ◌≡◌, ◌∙◌, ap, ap₂, ◌*◌, ℤ, pos, to_z, of_z}
use Rattle.std.specs.Int.{w32, w128}
use Rattle.qvm_ring.specs.Ring.{Element, plus, times}
use Rattle.qvm_ring.specs.Views.{wide_element}
use Rattle.quil_value.specs.Exact.{scaled_by, settled, bounded}
use Rattle.quil_value.specs.RealNumbers.{real_number}
use Rattle.quil_value.proofs.value_sum.parts_sum.Goals as goal

pub returns : goal.returns
returns c =
    let z = wide_element c.args.x.num in
    let w = wide_element c.args.y.num in
    let n = c.args.x.den in
    let m = c.args.y.den in
    let top = plus (scaled_by m z) (scaled_by n w) in
    let left : to_z w128 m ≡ pos m = search rules in
    let right : to_z w128 n ≡ pos n = search rules in
    let power : to_z w32 (of_z w32 c.args.x.power) ≡ c.args.x.power = search rules in
    let sum : wide_element c.plus.result ≡ top =
    c.plus.ensures.value ∙ ap₂ plus (c.scaled-left.ensures.value ∙ ap (λ (p : ℤ). times (real_number p) z) left) (c.scaled-right.ensures.value ∙ ap (λ (p : ℤ). times (real_number p) w) right) in
    c.settled.ensures
    ∙ ap (λ (t : Element). bounded (settled t (n * m) (to_z w32 (of_z w32 c.args.x.power)))) sum
    ∙ ap (λ (k : ℤ). bounded (settled top (n * m) k)) power
