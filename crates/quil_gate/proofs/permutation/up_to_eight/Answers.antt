use Rattle.std.proofs.Common.{ap, ◌∙◌, arith, min, ◌+◌, ◌*◌}
use Rattle.quil_number.proofs.Numerals.{number_step}
use Rattle.quil_gate.proofs.permutation.up_to_eight.Goals as goal

pub loop-digit-preserved : goal.loop-digit-preserved
loop-digit-preserved c = record {
  told = number_step 8 c.loop-digit.number _ c.loop-digit.digit-index _ _ c.loop-digit-test.true (c.min-number.ensures ∙ ap (λ d. min (c.loop-digit.number * 10 + d) 8) (c.from.ensures ∙ c.saturating_sub.ensures)) c.loop-digit.invariant.told;
  bound = omega (arith, c.min-number.ensures);
}
