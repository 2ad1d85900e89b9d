use Rattle.std.proofs.Common.{◌≡◌, map, take}
use Rattle.quil_link.specs.Layout.{offset_of}
use Rattle.quil_link.proofs.layout.offsets_of.Given as goal

abbrev pub invariant-loop-part : goal.invariant-loop-part
invariant-loop-part l = l.offsets ≡ map offset_of (take l.part-index l.parts)
