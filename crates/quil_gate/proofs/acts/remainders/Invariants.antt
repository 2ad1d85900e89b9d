use Rattle.std.proofs.Common.{◌≡◌, take, map}
use Rattle.quil_code.specs.GateCodes.{by_16}
use Rattle.quil_gate.proofs.acts.remainders.Given as goal

abbrev pub invariant-loop-angle : goal.invariant-loop-angle
invariant-loop-angle l = l.numbers.items ≡ map by_16 (take l.angle-index l.angles)
