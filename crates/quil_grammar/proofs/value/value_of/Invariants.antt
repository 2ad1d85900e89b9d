use Rattle.std.proofs.Common.{◌≡◌, length}
use Rattle.quil_grammar.specs.Grammar.{value_behind}
use Rattle.quil_grammar.proofs.value.value_of.Given as goal

abbrev pub invariant-loop-digits : goal.invariant-loop-digits
invariant-loop-digits l = value_behind l.value l.digits ≡ value_behind 0 l.initial.digits

abbrev pub decreases-loop-digits : goal.decreases-loop-digits
decreases-loop-digits l = length l.digits
