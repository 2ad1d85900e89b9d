use Rattle.std.proofs.Common.{◌≡◌, ◌++◌, length}
use Rattle.std.specs.List.{flat_map}
use Rattle.quil_tree.specs.Printed.{body_line, formula_texts, with_commas}
use Rattle.quil_tree.proofs.printer.definition.push_matrix.Given as goal

abbrev pub invariant-loop-rows : goal.invariant-loop-rows
invariant-loop-rows l = l.text.items ++ flat_map (λ row. body_line (with_commas (formula_texts l.names row))) l.rows ≡ l.initial.text.items ++ flat_map (λ row. body_line (with_commas (formula_texts l.names row))) l.initial.rows

abbrev pub decreases-loop-rows : goal.decreases-loop-rows
decreases-loop-rows l = length l.rows
