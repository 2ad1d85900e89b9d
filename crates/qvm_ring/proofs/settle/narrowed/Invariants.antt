use Rattle.std.proofs.Common.{◌≡◌, take}
use Rattle.qvm_ring.specs.Views.{elements_of, wide_elements_of}
use Rattle.qvm_ring.proofs.settle.narrowed.Given as goal

abbrev pub invariant-loop-z : goal.invariant-loop-z
invariant-loop-z l = elements_of l.amplitudes.items ≡ wide_elements_of (take l.z-index l.list)
