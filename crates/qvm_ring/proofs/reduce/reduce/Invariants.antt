use Rattle.std.proofs.Common.{map}
use Rattle.qvm_ring.specs.Ray.{weight}
use Rattle.qvm_ring.specs.Views.{map_of}
use Rattle.qvm_ring.proofs.Halving.{Reduces}
use Rattle.qvm_ring.proofs.reduce.reduce.Given as goal

abbrev pub invariant-loop-list : goal.invariant-loop-list
invariant-loop-list g l = Reduces g.Z.Number.limit (map g.Z.Number.element l.fn.list) (map g.Z.Number.element l.list)

abbrev pub decreases-loop-list : goal.decreases-loop-list
decreases-loop-list g l = weight (map_of (map g.Z.Number.element l.list))
