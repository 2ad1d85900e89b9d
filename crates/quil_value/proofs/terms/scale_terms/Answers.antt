use Rattle.std.proofs.Common.{rules, sym, pos}
use Rattle.std.proofs.lemmas.List.{get_or_default}
use Rattle.quil_value.specs.declared.sums.Term.{Term}
use Rattle.quil_value.proofs.CellTerms.{scaled_next, set_form}
use Rattle.quil_value.proofs.terms.scale_terms.Goals as goal

pub loop-term-preserved : goal.loop-term-preserved
loop-term-preserved c =
    let d : Term = record { cell = record { region = 0; index = 0 }; factor = record { p = pos 0; q = 0 } } in (
      scaled_next c.loop-term.terms c.args.terms.now c.loop-term.term-index d c.args.factor c.in_ok-term.field-0 (search rules) (sym c.in_ok-term.ensures.value) c.loop-term.invariant.0,
      set_form c.loop-term.terms c.loop-term.term-index _ c.in_ok-term.field-0 (search rules) (get_or_default c.loop-term.terms c.loop-term.term-index d _ (search rules)) c.loop-term.invariant.1 c.in_ok-term.ensures.form,
    )
