use Rattle.std.proofs.Common.{◌≡◌, ◌^◌}
use Rattle.qvm_ring.specs.Views.{wide_element}
use Rattle.qvm_ring.specs.Multiply.{IsWithin}
use Rattle.quil_value.specs.Exact.{least}
use Rattle.quil_value.proofs.ring_number.lowered.Given as goal

abbrev pub invariant-loop-left : goal.invariant-loop-left
invariant-loop-left l = (least (wide_element l.number) l.left ≡ least (wide_element l.fn.z) l.fn.m) × IsWithin (2 ^ 126) (wide_element l.number)

abbrev pub decreases-loop-left : goal.decreases-loop-left
decreases-loop-left l = l.left
