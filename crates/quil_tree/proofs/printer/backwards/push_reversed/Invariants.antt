use Rattle.std.proofs.Common.{◌≡◌, ◌++◌, length, reverse}
use Rattle.quil_tree.proofs.printer.backwards.push_reversed.Given as goal

abbrev pub invariant-loop-text : goal.invariant-loop-text
invariant-loop-text l = l.text ++ reverse l.bytes.items ≡ l.initial.text ++ reverse l.initial.bytes.items

abbrev pub decreases-loop-text : goal.decreases-loop-text
decreases-loop-text l = length l.text
