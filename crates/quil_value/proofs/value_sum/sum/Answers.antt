use Rattle.std.proofs.Common.{rules, ◌≡◌, ◌∙◌, true, false}
use Rattle.std.specs.Ordering.{int_eq}
use Rattle.qvm_ring.specs.Ring.{is_zero}
use Rattle.qvm_ring.specs.Views.{wide_element}
use Rattle.quil_value.proofs.SmallParts.{sum_left, sum_right, sum_apart, sum_both}
use Rattle.quil_value.proofs.value_sum.sum.Goals as goal

pub returns-then-is_zero : goal.returns-then-is_zero
returns-then-is_zero c =
    let left = c.parts_of-left.result in
    let none : is_zero (wide_element left.num) ≡ true = search rules in
    sum_left c.args.x.now c.args.y.now (wide_element left.num) left.den left.power c.parts_of-left.ensures.parts c.parts_of-right.ensures.parts.value none

pub returns-then-is_zero-2 : goal.returns-then-is_zero-2
returns-then-is_zero-2 c =
    let left = c.parts_of-left.result in
    let right = c.parts_of-right.result in
    let some : is_zero (wide_element left.num) ≡ false = search rules in
    let none : is_zero (wide_element right.num) ≡ true = search rules in
    sum_right c.args.x.now c.args.y.now (wide_element left.num) (wide_element right.num) left.den right.den left.power right.power c.parts_of-left.ensures.parts c.parts_of-right.ensures.parts some none

pub returns-then-left-right : goal.returns-then-left-right
returns-then-left-right c =
    let left = c.parts_of-left.result in
    let right = c.parts_of-right.result in
    let some : is_zero (wide_element left.num) ≡ false = search rules in
    let other : is_zero (wide_element right.num) ≡ false = search rules in
    let same : int_eq left.power right.power ≡ true = search rules in
    c.parts_sum.ensures
    ∙ sum_both c.args.x.now c.args.y.now (wide_element left.num) (wide_element right.num) left.den right.den left.power right.power c.parts_of-left.ensures.parts c.parts_of-right.ensures.parts some other same

pub returns-else-left-right : goal.returns-else-left-right
returns-else-left-right c =
    let left = c.parts_of-left.result in
    let right = c.parts_of-right.result in
    let some : is_zero (wide_element left.num) ≡ false = search rules in
    let other : is_zero (wide_element right.num) ≡ false = search rules in
    let apart : int_eq left.power right.power ≡ false = search rules in
    sum_apart c.args.x.now c.args.y.now (wide_element left.num) (wide_element right.num) left.den right.den left.power right.power c.parts_of-left.ensures.parts c.parts_of-right.ensures.parts some other apart
