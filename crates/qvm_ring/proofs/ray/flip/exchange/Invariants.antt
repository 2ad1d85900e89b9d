use Rattle.std.proofs.Common.{◌≡◌, length}
use Rattle.qvm_ring.specs.Views.{elements_of}
use Rattle.qvm_ring.proofs.Flips.{Exchanges}
use Rattle.qvm_ring.proofs.ray.flip.exchange.Given as goal

abbrev pub invariant-loop-basis : goal.invariant-loop-basis
invariant-loop-basis l = (l.basis-end ≡ length l.list) × Exchanges l.qubit (elements_of l.fn.list) (elements_of l.list) l.basis
