use Rattle.std.proofs.Common.{◌≡◌, ◌++◌, length, codes}
use Rattle.std.specs.List.{flat_map}
use Rattle.quil_tree.specs.Printed.{modification_text}
use Rattle.quil_tree.proofs.printer.gate.push_modifiers.Given as goal

abbrev pub invariant-loop-modifiers : goal.invariant-loop-modifiers
invariant-loop-modifiers l = l.text.items ++ flat_map (λ m. modification_text m.kind ++ codes " ") l.modifiers ≡ l.initial.text.items ++ flat_map (λ m. modification_text m.kind ++ codes " ") l.initial.modifiers

abbrev pub decreases-loop-modifiers : goal.decreases-loop-modifiers
decreases-loop-modifiers l = length l.modifiers
