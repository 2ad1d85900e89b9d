use Rattle.std.proofs.Common.{rules, ◌≡◌, ◌∙◌, true, false}
use Rattle.qvm_ring.specs.Ring.{is_zero}
use Rattle.qvm_ring.specs.Views.{wide_element}
use Rattle.quil_value.specs.Views.{is_lone}
use Rattle.quil_value.proofs.SmallParts.{quotient_zero, quotient_by}
use Rattle.quil_value.proofs.Lones.{quotient_none}
use Rattle.quil_value.proofs.value_quotient.parts_quotient.Goals as goal

pub returns-then-is_zero : goal.returns-then-is_zero
returns-then-is_zero c = λ v w h i r.
    let y = c.args.y in
    let none : is_zero (wide_element y.num) ≡ true = search rules in
    quotient_zero v w (wide_element y.num) y.den y.power i none

pub returns-then-is_lone : goal.returns-then-is_lone
returns-then-is_lone c = λ v w h i r.
    let x = c.args.x in
    let y = c.args.y in
    let u = c.inverse.result in
    let some : is_zero (wide_element y.num) ≡ false = search rules in
    c.lone_product.ensures
    ∙ quotient_by v w (wide_element x.num) (wide_element y.num) (wide_element u.num) x.den y.den u.den x.power y.power u.power h i some c.inverse.ensures.product c.inverse.ensures.positive c.inverse.ensures.power

pub returns-else-is_lone : goal.returns-else-is_lone
returns-else-is_lone c = λ v w h i r.
    let x = c.args.x in
    let y = c.args.y in
    let some : is_zero (wide_element y.num) ≡ false = search rules in
    let odd : is_lone (wide_element y.num) ≡ false = search rules in
    quotient_none v w (wide_element x.num) (wide_element y.num) x.den y.den x.power y.power h i some odd r
