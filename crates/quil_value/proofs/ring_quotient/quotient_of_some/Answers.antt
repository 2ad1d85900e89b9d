use Rattle.std.proofs.Common.{◌∙◌, sym, ap, ◌^◌, arith}
use Rattle.qvm_ring.specs.Ring.{is_zero}
use Rattle.qvm_ring.specs.Views.{wide_element}
use Rattle.qvm_ring.proofs.ProductBounds.{within_more}
use Rattle.quil_value.specs.Views.{digits_of}
use Rattle.quil_value.proofs.OddMultiples.{multiple_some, none_left, quotient_least}
use Rattle.quil_value.proofs.QuotientBounds.{within_power, exact_answer, far_answer}
use Rattle.quil_value.proofs.ring_quotient.quotient_of_some.Goals as goal

pub stripped-power-requires-clause-some : goal.stripped-power-requires-clause-some
stripped-power-requires-clause-some c =
    ap is_zero c.multiplied-multiple.ensures.value
    ∙ multiple_some (wide_element c.args.x.num) (wide_element c.args.y.num) (digits_of c.odd_multiple-divisor.result.first) (digits_of c.odd_multiple-divisor.result.second)
    (wide_element c.odd_multiple-divisor.result.half) c.odd_multiple-divisor.result.power c.odd_multiple-divisor.ensures.value c.requires.left_some

pub divided-requires-clause-left : goal.divided-requires-clause-left
divided-requires-clause-left c =
    within_more (2 ^ 66) (2 ^ 68) (wide_element c.stripped-power.result.0) (omega arith) (c.stripped-power.ensures.bound (2 ^ 66) c.multiplied-multiple.ensures.bound)

pub overflow_add-power : goal.overflow_add-power
overflow_add-power c =
    let m = within_power (wide_element c.args.y.num) c.args.y.m c.requires.right.within in
    record { fits = omega (arith, m, c.stripped-power.ensures.power) }

pub overflow_add-divisor : goal.overflow_add-divisor
overflow_add-divisor c =
    let m = within_power (wide_element c.args.x.num) c.args.x.m c.requires.left.within in
    record { fits = omega (arith, m, c.odd_multiple-divisor.ensures.power) }

pub placed-requires-clause-least : goal.placed-requires-clause-least
placed-requires-clause-least c =
    quotient_least (wide_element c.stripped-power.result.0) (wide_element c.odd_multiple-divisor.result.half) (wide_element c.in-Exact.z) c.stripped-power.ensures.least c.in-Exact.ensures.0

pub rational_quotient-requires-clause-none : goal.rational_quotient-requires-clause-none
rational_quotient-requires-clause-none c =
    none_left (wide_element c.args.x.num) c.args.x.m (wide_element c.args.y.num) c.args.y.m (digits_of c.odd_multiple-divisor.result.first) (digits_of c.odd_multiple-divisor.result.second)
    (wide_element c.odd_multiple-divisor.result.half) (wide_element c.stripped-power.result.0) c.odd_multiple-divisor.result.power c.stripped-power.result.1
    c.odd_multiple-divisor.ensures.value (sym c.multiplied-multiple.ensures.value ∙ c.stripped-power.ensures.value) c.in-Nothing.ensures

pub returns-in-Exact : goal.returns-in-Exact
returns-in-Exact c =
    c.placed.ensures
    ∙ sym (exact_answer (wide_element c.args.x.num) c.args.x.m (wide_element c.args.y.num) c.args.y.m (digits_of c.odd_multiple-divisor.result.first) (digits_of c.odd_multiple-divisor.result.second)
    (wide_element c.odd_multiple-divisor.result.half) (wide_element c.stripped-power.result.0) (wide_element c.in-Exact.z) c.odd_multiple-divisor.result.power c.stripped-power.result.1
    c.requires.right_some c.odd_multiple-divisor.ensures.value (sym c.multiplied-multiple.ensures.value ∙ c.stripped-power.ensures.value) c.in-Exact.ensures.0)

pub returns-in-TooWide : goal.returns-in-TooWide
returns-in-TooWide c =
    sym (far_answer (wide_element c.args.x.num) c.args.x.m (wide_element c.args.y.num) c.args.y.m (digits_of c.odd_multiple-divisor.result.first) (digits_of c.odd_multiple-divisor.result.second)
    (wide_element c.odd_multiple-divisor.result.half) (wide_element c.stripped-power.result.0) c.odd_multiple-divisor.result.power c.stripped-power.result.1
    c.requires.right_some c.odd_multiple-divisor.ensures.value (sym c.multiplied-multiple.ensures.value ∙ c.stripped-power.ensures.value) c.stripped-power.ensures.least c.in-TooWide.ensures)
