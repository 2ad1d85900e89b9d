use Rattle.std.proofs.Common.{◌≡◌, ◌++◌, length}
use Rattle.std.specs.List.{flat_map}
use Rattle.quil_tree.specs.Printed.{body_line, statement_text}
use Rattle.quil_tree.proofs.printer.definition.push_body.Given as goal

abbrev pub invariant-loop-lines : goal.invariant-loop-lines
invariant-loop-lines l = l.text.items ++ flat_map (λ x. body_line (statement_text l.names x.statement)) l.lines ≡ l.initial.text.items ++ flat_map (λ x. body_line (statement_text l.names x.statement)) l.initial.lines

abbrev pub decreases-loop-lines : goal.decreases-loop-lines
decreases-loop-lines l = length l.lines
