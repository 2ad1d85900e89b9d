use Rattle.std.proofs.Common.{◌≡◌, get_or, sym, ◌∙◌, false, pos}
use Rattle.quil_value.specs.declared.sums.Term.{Term}
use Rattle.quil_value.specs.AngleSums.{counted_over, is_small}
use Rattle.quil_value.proofs.Denominators.{wide_count, not_chosen}
use Rattle.quil_value.proofs.angle_sum.counts_over.Goals as goal

pub returns-in_default-clause-err : goal.returns-in_default-clause-err
returns-in_default-clause-err c =
    let d : Term = record { cell = record { region = 0; index = 0 }; factor = record { p = pos 0; q = 0 } } in
    let wide : is_small (counted_over c.args.n (get_or c.args.terms.now c.loop-term.term-index d).factor) ≡ false = not_chosen _ _ (sym c.in_default.is ∙ c.counted_over.ensures.value) in
    wide_count c.args.n c.args.terms.now c.loop-term.term-index d c.loop-term-test.true wide
