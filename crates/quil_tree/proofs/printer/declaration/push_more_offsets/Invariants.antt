use Rattle.std.proofs.Common.{◌≡◌, ◌++◌, length}
use Rattle.std.specs.List.{flat_map}
use Rattle.quil_tree.specs.Printed.{offset_text}
use Rattle.quil_tree.proofs.printer.declaration.push_more_offsets.Given as goal

abbrev pub invariant-loop-offsets : goal.invariant-loop-offsets
invariant-loop-offsets l = l.text.items ++ flat_map offset_text l.offsets ≡ l.initial.text.items ++ flat_map offset_text l.initial.offsets

abbrev pub decreases-loop-offsets : goal.decreases-loop-offsets
decreases-loop-offsets l = length l.offsets
