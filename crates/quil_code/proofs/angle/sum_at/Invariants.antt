use Rattle.std.proofs.Common.{◌≡◌, ◌*◌, ◌^◌, ◌≤◌, take}
use Rattle.std.specs.Prelude.{nat_abs}
use Rattle.quil_code.specs.Angles.{sum_at}
use Rattle.quil_code.proofs.angle.sum_at.Given as goal

-- the sum so far
abbrev pub invariant-loop-term : goal.invariant-loop-term
invariant-loop-term l = (l.sum ≡ sum_at l.memory (take l.term-index l.terms)) × (nat_abs l.sum ≤ l.term-index * 2 ^ 94)
