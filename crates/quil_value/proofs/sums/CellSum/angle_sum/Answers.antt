use Rattle.std.proofs.Common.{rules}
use Rattle.quil_value.proofs.Denominators.{angle_form}
use Rattle.quil_value.proofs.sums.CellSum.angle_sum.Goals as goal

pub invariant_of-result : goal.invariant_of-result
invariant_of-result c =
    angle_form c.terms-2.result.now c.in-Some.common _ c.in-Some-counted_over.own c.in_ok-counts.counts.items (search rules) c.in-Some.ensures.some c.in-Some.ensures.bound
    (rw c.terms-2.ensures.terms c.terms-2.ensures.form.terms) c.in-Some-counted_over.ensures.small c.in_ok-counts.ensures.ok
