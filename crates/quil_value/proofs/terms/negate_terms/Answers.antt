use Rattle.std.proofs.Common.{rules, pos}
use Rattle.std.proofs.lemmas.List.{get_or_default}
use Rattle.quil_value.specs.declared.sums.Term.{Term}
use Rattle.quil_value.proofs.CellTerms.{negated_next, set_form}
use Rattle.quil_value.proofs.terms.negate_terms.Goals as goal

pub loop-term-preserved : goal.loop-term-preserved
loop-term-preserved c =
    let d : Term = record { cell = record { region = 0; index = 0 }; factor = record { p = pos 0; q = 0 } } in (
      negated_next c.args.terms.now c.loop-term.terms c.loop-term.term-index d c.opposite-term.result (search rules) (search rules) c.loop-term.invariant.0 c.opposite-term.ensures.value,
      set_form c.loop-term.terms c.loop-term.term-index _ c.opposite-term.result (search rules) (get_or_default c.loop-term.terms c.loop-term.term-index d _ (search rules)) c.loop-term.invariant.1 c.opposite-term.ensures.form,
    )
