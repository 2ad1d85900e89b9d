use Rattle.std.proofs.Common.{rules, ◌≡◌, sym, length, arith, false}
use Rattle.std.proofs.lemmas.List.{length-map}
use Rattle.qvm_ring.specs.Views.{at, wide_element, wide_elements_of}
use Rattle.qvm_ring.proofs.Lists.{at_map}
use Rattle.qvm_ring.proofs.Settling.{heavy_one, heavy_sum, total_next}
use Rattle.qvm_ring.proofs.settle.is_light.Goals as goal

pub returns-then-not-is_small-clause-heavy : goal.returns-then-not-is_small-clause-heavy
returns-then-not-is_small-clause-heavy c =
    let big : c.is_small.result ≡ false = search rules in
    λ _. heavy_one (length (wide_elements_of c.args.list.now)) (at (wide_elements_of c.args.list.now)) c.loop-z.z-index _
    (omega (arith, c.loop-z-test.true, length-map c.args.list.now wide_element)) (sym (at_map wide_element c.args.list.now c.loop-z.z-index _ c.loop-z-test.true)) (c.is_small.ensures.heavy big)

pub returns-then-total-gt-WEIGHT_LIMIT-clause-heavy : goal.returns-then-total-gt-WEIGHT_LIMIT-clause-heavy
returns-then-total-gt-WEIGHT_LIMIT-clause-heavy c = λ _.
    heavy_sum (length (wide_elements_of c.args.list.now)) (at (wide_elements_of c.args.list.now)) c.loop-z.z-index _ c.loop-z.total c.weight-total.result
    (omega (arith, c.loop-z-test.true, length-map c.args.list.now wide_element)) (sym (at_map wide_element c.args.list.now c.loop-z.z-index _ c.loop-z-test.true))
    c.loop-z.invariant.0 c.weight-total.ensures.value c.if-total-gt-WEIGHT_LIMIT.true

pub loop-z-preserved : goal.loop-z-preserved
loop-z-preserved c = (
  total_next (at (wide_elements_of c.args.list.now)) c.loop-z.z-index _ c.loop-z.total c.weight-total.result
      (sym (at_map wide_element c.args.list.now c.loop-z.z-index _ c.loop-z-test.true)) c.loop-z.invariant.0 c.weight-total.ensures.value,
  c.if-total-gt-WEIGHT_LIMIT.false,
)
