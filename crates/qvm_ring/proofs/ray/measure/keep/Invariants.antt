use Rattle.std.proofs.Common.{◌≡◌, ◌==◌, length}
use Rattle.std.specs.Prelude.{if◌then◌else◌}
use Rattle.qvm_ring.specs.Ring.{nought}
use Rattle.qvm_ring.specs.Gate.{bit_of}
use Rattle.qvm_ring.specs.Views.{elements_of}
use Rattle.qvm_ring.proofs.Lists.{Changes}
use Rattle.qvm_ring.proofs.ray.measure.keep.Given as goal

abbrev pub invariant-loop-basis : goal.invariant-loop-basis
invariant-loop-basis l = (l.basis-end ≡ length l.list) × Changes (λ x z. if bit_of x l.qubit == l.bit then z else nought) (elements_of l.fn.list) (elements_of l.list) l.basis
