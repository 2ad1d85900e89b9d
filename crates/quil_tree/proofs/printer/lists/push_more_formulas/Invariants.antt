use Rattle.std.proofs.Common.{◌≡◌, ◌++◌, length, codes}
use Rattle.std.specs.List.{flat_map}
use Rattle.quil_tree.specs.Printed.{formula_texts}
use Rattle.quil_tree.proofs.printer.lists.push_more_formulas.Given as goal

abbrev pub invariant-loop-formulas : goal.invariant-loop-formulas
invariant-loop-formulas l = l.text.items ++ flat_map (λ one. codes ", " ++ one) (formula_texts l.names l.formulas) ≡ l.initial.text.items ++ flat_map (λ one. codes ", " ++ one) (formula_texts l.names l.initial.formulas)

abbrev pub decreases-loop-formulas : goal.decreases-loop-formulas
decreases-loop-formulas l = length l.formulas
