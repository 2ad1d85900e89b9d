use Rattle.std.proofs.Common.{◌≡◌, ◌++◌, length}
use Rattle.quil_tree.specs.Printed.{pragma_text}
use Rattle.quil_tree.proofs.printer.pragma.push_tokens.Given as goal

abbrev pub invariant-loop-tokens : goal.invariant-loop-tokens
invariant-loop-tokens l = l.text.items ++ pragma_text l.before l.tokens ≡ l.initial.text.items ++ pragma_text l.initial.before l.initial.tokens

abbrev pub decreases-loop-tokens : goal.decreases-loop-tokens
decreases-loop-tokens l = length l.tokens
