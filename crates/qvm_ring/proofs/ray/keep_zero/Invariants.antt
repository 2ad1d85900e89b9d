use Rattle.qvm_ring.specs.Ring.{nought}
use Rattle.qvm_ring.specs.Views.{elements_of}
use Rattle.qvm_ring.proofs.Lists.{Changes}
use Rattle.qvm_ring.proofs.ray.keep_zero.Given as goal

abbrev pub invariant-loop-amplitude : goal.invariant-loop-amplitude
invariant-loop-amplitude l = Changes (λ x z. nought) (elements_of l.fn.list) (elements_of l.list) l.amplitude-index
