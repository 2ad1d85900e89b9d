use Rattle.std.proofs.Common.{◌≡◌, sym, ◌∙◌, ap, List, ℕ, ◌+◌, ◌++◌, [], ◌∷◌, length, arith}
use Rattle.quil_gate.proofs.Forks.{range_from_0}
use Rattle.quil_gate.proofs.acts.numbers_below.Goals as goal

pub loop-number-preserved : goal.loop-number-preserved
loop-number-preserved c = (
  c.push.ensures.items ∙ ap (λ (ks : List ℕ). ks ++ c.loop-number.number ∷ []) c.loop-number.invariant.0 ∙ sym (range_from_0 c.loop-number.number),
  omega (arith, c.push.ensures.len, c.loop-number.invariant.1),
)
