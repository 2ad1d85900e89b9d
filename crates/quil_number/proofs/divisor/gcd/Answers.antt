use Rattle.std.proofs.Common.{sym, arith}
use Rattle.std.proofs.lemmas.Nat.Gcd.{IsGcd-from_zero, IsGcd-from_mod}
use Rattle.quil_number.proofs.Divisors.{common_divisor_from}
use Rattle.quil_number.proofs.divisor.gcd.Goals as goal

pub loop-y-preserved : goal.loop-y-preserved
loop-y-preserved c g h = c.loop-y.invariant g (IsGcd-from_mod _ _ g h)

pub returns-clause-value : goal.returns-clause-value
returns-clause-value c = sym (common_divisor_from _ _ _ (c.loop-y.invariant _ (IsGcd-from_zero _ _ (omega arith))))

pub returns-clause-greatest : goal.returns-clause-greatest
returns-clause-greatest c = c.loop-y.invariant _ (IsGcd-from_zero _ _ (omega arith))
