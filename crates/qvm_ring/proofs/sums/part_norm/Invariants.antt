use Rattle.qvm_ring.specs.Views.{at, elements_of}
use Rattle.qvm_ring.proofs.Vectors.{kept_at}
use Rattle.qvm_ring.proofs.NormLoops.{Adds}
use Rattle.qvm_ring.proofs.sums.part_norm.Given as goal

abbrev pub invariant-loop-basis : goal.invariant-loop-basis
invariant-loop-basis l = Adds (kept_at l.qubit l.bit (at (elements_of l.list))) l.basis l.sum
