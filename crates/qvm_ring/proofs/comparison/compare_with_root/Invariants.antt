use Rattle.qvm_ring.proofs.Descent.{Descends}
use Rattle.qvm_ring.proofs.comparison.compare_with_root.Given as goal

abbrev pub invariant-loop-right : goal.invariant-loop-right
invariant-loop-right l = Descends l.fn.x l.fn.y l.left l.right l.is_reversed

abbrev pub decreases-loop-right : goal.decreases-loop-right
decreases-loop-right l = l.right
