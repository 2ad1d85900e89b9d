use Rattle.std.proofs.Common.{◌≡◌, ◌≤◌}
use Rattle.qvm_ring.specs.Ray.{ray_of, weight, weight_limit}
use Rattle.qvm_ring.specs.Views.{at, wide_elements_of}
use Rattle.qvm_ring.proofs.settle.is_light.Given as goal

-- the weight so far
abbrev pub invariant-loop-z : goal.invariant-loop-z
invariant-loop-z l = (l.total ≡ weight (ray_of l.z-index (at (wide_elements_of l.list)))) × (l.total ≤ weight_limit)
