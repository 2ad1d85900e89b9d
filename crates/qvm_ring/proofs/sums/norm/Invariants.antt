use Rattle.qvm_ring.specs.Views.{at, elements_of}
use Rattle.qvm_ring.proofs.NormLoops.{Adds}
use Rattle.qvm_ring.proofs.sums.norm.Given as goal

abbrev pub invariant-loop-amplitude : goal.invariant-loop-amplitude
invariant-loop-amplitude l = Adds (at (elements_of l.list)) l.amplitude-index l.sum
