use Rattle.std.proofs.Common.{◌≡◌, drop, take, map, ◌++◌}
use Rattle.quil_value.specs.Sums.{opposite_term}
use Rattle.quil_value.specs.SumForms.{AreTerms}
use Rattle.quil_value.proofs.terms.negate_terms.Given as goal

abbrev pub invariant-loop-term : goal.invariant-loop-term
invariant-loop-term l = (l.terms ≡ map opposite_term (take l.term-index l.initial.terms) ++ drop l.term-index l.initial.terms) × AreTerms l.terms
