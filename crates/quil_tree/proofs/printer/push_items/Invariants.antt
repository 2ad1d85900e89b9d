use Rattle.std.proofs.Common.{◌≡◌, ◌++◌, length}
use Rattle.std.specs.List.{flat_map}
use Rattle.quil_tree.specs.Printed.{item_text}
use Rattle.quil_tree.proofs.printer.push_items.Given as goal

abbrev pub invariant-loop-items : goal.invariant-loop-items
invariant-loop-items l = l.text.items ++ flat_map item_text l.items ≡ l.initial.text.items ++ flat_map item_text l.initial.items

abbrev pub decreases-loop-items : goal.decreases-loop-items
decreases-loop-items l = length l.items
