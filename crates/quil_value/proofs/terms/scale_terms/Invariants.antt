use Rattle.quil_value.proofs.CellTerms.{Scaled}
use Rattle.quil_value.specs.SumForms.{AreTerms}
use Rattle.quil_value.proofs.terms.scale_terms.Given as goal

abbrev pub invariant-loop-term : goal.invariant-loop-term
invariant-loop-term l = Scaled l.terms l.term-index l.initial.terms l.factor × AreTerms l.terms
