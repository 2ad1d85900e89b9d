use Rattle.std.proofs.Common.{◌≡◌, ◌++◌, length, codes}
use Rattle.std.specs.List.{flat_map}
use Rattle.quil_tree.specs.Names.{texts_of}
use Rattle.quil_tree.proofs.printer.lists.push_more_names.Given as goal

abbrev pub invariant-loop-names : goal.invariant-loop-names
invariant-loop-names l = l.text.items ++ flat_map (λ name. codes ", " ++ name) (texts_of l.names) ≡ l.initial.text.items ++ flat_map (λ name. codes ", " ++ name) (texts_of l.initial.names)

abbrev pub decreases-loop-names : goal.decreases-loop-names
decreases-loop-names l = length l.names
