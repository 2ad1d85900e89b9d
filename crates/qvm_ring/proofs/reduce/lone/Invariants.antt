use Rattle.std.proofs.Common.{map}
use Rattle.qvm_ring.specs.Views.{at}
use Rattle.qvm_ring.proofs.Lone.{Lone}
use Rattle.qvm_ring.proofs.reduce.lone.Given as goal

abbrev pub invariant-loop-place : goal.invariant-loop-place
invariant-loop-place g l = Lone (at (map g.Z.Number.element l.list)) l.place l.lone
