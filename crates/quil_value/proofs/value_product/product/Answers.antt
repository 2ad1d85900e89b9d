use Rattle.std.proofs.Common.{◌∙◌}
use Rattle.qvm_ring.specs.Views.{wide_element}
use Rattle.quil_value.proofs.SmallParts.{product_left, product_right}
use Rattle.quil_value.proofs.value_product.product.Goals as goal

pub returns-in-Ring-default : goal.returns-in-Ring-default
returns-in-Ring-default c =
    let left = c.parts_of-in-Ring-default.result in
    let right = c.parts_of.result in
    c.lone_product.ensures
    ∙ product_right c.args.x.now c.args.y.now (wide_element left.num) (wide_element right.num) left.den right.den left.power right.power c.parts_of-in-Ring-default.ensures.parts c.parts_of.ensures.parts

pub returns-in_default : goal.returns-in_default
returns-in_default c =
    let left = c.parts_of-in_default.result in
    let right = c.parts_of-in_default-2.result in
    c.lone_product-in_default.ensures
    ∙ product_left c.args.x.now c.args.y.now (wide_element left.num) (wide_element right.num) left.den right.den left.power right.power c.parts_of-in_default.ensures.parts c.parts_of-in_default-2.ensures.parts
