use Rattle.std.proofs.Common.{◌≡◌, drop, map}
use Rattle.std.specs.List.{list_all}
use Rattle.qvm_ring.specs.Ring.{is_divisible}
use Rattle.qvm_ring.proofs.reduce.is_divisible.Given as goal

-- what the numbers to come say, all say
abbrev pub invariant-loop-z : goal.invariant-loop-z
invariant-loop-z g l = list_all is_divisible (map g.Z.Number.element (drop l.z-index l.list)) ≡ list_all is_divisible (map g.Z.Number.element l.list)
