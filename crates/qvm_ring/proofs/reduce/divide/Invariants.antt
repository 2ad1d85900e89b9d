use Rattle.std.proofs.Common.{map}
use Rattle.qvm_ring.specs.Ring.{quotient}
use Rattle.qvm_ring.proofs.Lists.{Changes}
use Rattle.qvm_ring.proofs.reduce.divide.Given as goal

abbrev pub invariant-loop-z : goal.invariant-loop-z
invariant-loop-z g l = Changes (λ x z. quotient z) (map g.Z.Number.element l.fn.list) (map g.Z.Number.element l.list) l.z-index
