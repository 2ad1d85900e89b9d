use Rattle.std.proofs.Common.{◌≡◌, ◌<◌, drop}
use Rattle.std.specs.Prelude.{fold}
use Rattle.quil_value.specs.AngleSums.{common_multiple}
use Rattle.quil_value.proofs.angle_sum.common_denominator.Given as goal

abbrev pub invariant-loop-term : goal.invariant-loop-term
invariant-loop-term l = (fold (λ q t. common_multiple q t.factor.q) l.common (drop l.term-index l.terms) ≡ fold (λ q t. common_multiple q t.factor.q) l.start l.terms) × (0 < l.common)
