use Rattle.std.proofs.Common.{◌∙◌}
use Rattle.std.proofs.lemmas.Result.{err_from_is_err_and}
use Rattle.quil_gate.specs.Definitions.{entry_at}
use Rattle.quil_gate.specs.Reading.{entries_of}
use Rattle.quil_gate.proofs.Entries.{row_told, row_failed, failed_or_memory}
use Rattle.quil_gate.proofs.entry.entries_of_rows.Goals as goal

pub returns-in_err-entries-clause-err : goal.returns-in_err-entries-clause-err
returns-in_err-entries-clause-err c =
    let p = err_from_is_err_and c.from_residual.result c.from_residual.ensures.1 in
    rw (p.1, p.2)
    (failed_or_memory c.in_err-entries.ensures.err (λ failed.
    row_failed (entry_at c.args.values.now) c.args.rows.now c.loop-row.row-index c.as_slice.result.now c.row-item.result (entries_of c.loop-row.entries.items) _ _
    c.loop-row-test.true (c.as_slice.ensures ∙ c.row-item.is) failed c.loop-row.invariant))

pub loop-row-preserved : goal.loop-row-preserved
loop-row-preserved c =
    row_told (entry_at c.args.values.now) c.args.rows.now c.loop-row.row-index c.as_slice.result.now c.row-item.result (entries_of c.loop-row.entries.items) (entries_of c.in_ok-entries.entries.items) _
    c.loop-row-test.true (c.as_slice.ensures ∙ c.row-item.is) c.in_ok-entries.ensures.ok c.loop-row.invariant
