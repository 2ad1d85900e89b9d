use Rattle.std.proofs.Common.{◌≡◌, drop}
use Rattle.quil_value.specs.Sums.{with_terms}
use Rattle.quil_value.specs.SumForms.{AreTerms}
use Rattle.quil_value.proofs.terms.add_terms.Given as goal

abbrev pub invariant-loop-term : goal.invariant-loop-term
invariant-loop-term l = (with_terms l.terms.items (drop l.term-index l.others) ≡ with_terms l.initial.terms.items l.others) × AreTerms l.terms.items
