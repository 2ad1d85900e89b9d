use Rattle.std.proofs.Common.{◌≡◌, ◌++◌, length, codes}
use Rattle.std.specs.List.{flat_map}
use Rattle.quil_tree.proofs.printer.lists.push_more_texts.Given as goal

abbrev pub invariant-loop-texts : goal.invariant-loop-texts
invariant-loop-texts l = l.text.items ++ flat_map (λ one. codes ", " ++ one) l.texts ≡ l.initial.text.items ++ flat_map (λ one. codes ", " ++ one) l.initial.texts

abbrev pub decreases-loop-texts : goal.decreases-loop-texts
decreases-loop-texts l = length l.texts
