use Rattle.std.proofs.Common.{◌≡◌, map, take}
use Rattle.quil_gate.specs.Reading.{up_to_eight}
use Rattle.quil_gate.proofs.permutation.numbers_of.Given as goal

abbrev pub invariant-loop-text : goal.invariant-loop-text
invariant-loop-text l = l.numbers.items ≡ map up_to_eight (take l.text-index l.texts)
