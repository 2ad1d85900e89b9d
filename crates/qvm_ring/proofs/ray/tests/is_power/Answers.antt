use Rattle.std.proofs.Common.{arith}
use Rattle.std.proofs.lemmas.Bool.{eqb-true}
use Rattle.qvm_ring.proofs.ray.tests.is_power.Goals as goal

pub returns-then-count-eq1 : goal.returns-then-count-eq1
returns-then-count-eq1 c = λ _. (0, omega arith, omega arith)

pub returns-then-count-eq2 : goal.returns-then-count-eq2
returns-then-count-eq2 c = λ _. (1, omega arith, omega arith)

pub returns : goal.returns
returns c = λ e. (2, omega arith, omega (arith, eqb-true c.args.count 4 e))
