use Rattle.quil_value.proofs.CellSums.{cell_form}
use Rattle.quil_value.proofs.sums.CellSum.of_cell.Goals as goal

pub invariant_of-result : goal.invariant_of-result
invariant_of-result c = rw (c.in_ok-push.ensures.items, c.in_ok-terms.ensures.items) (cell_form c.args.cell)
