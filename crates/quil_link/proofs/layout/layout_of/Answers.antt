use Rattle.std.proofs.lemmas.Result.{err_from_is_err_and}
use Rattle.quil_memory.specs.Layout.{with_claims}
use Rattle.quil_link.specs.Layout.{as_load, claims_of, layout_of}
use Rattle.quil_link.proofs.Layouts.{loads_fault, loads_as}
use Rattle.quil_link.proofs.layout.layout_of.Goals as goal

pub returns-in_err-layout : goal.returns-in_err-layout
returns-in_err-layout c =
    let exit = err_from_is_err_and c.from_residual.result c.from_residual.ensures.1 in
    let items = c.loop-items.items.now in
    loads_as c.from_residual.result (as_load (with_claims c.loop-items.layout (claims_of items))) (layout_of c.args.items.now) c.in_err-layout.field-0.0
    (cc (exit.1, exit.2)) c.loop-items.invariant
    (loads_fault c.loop-items.layout c.item-item.result items c.in_err-layout.field-0.0 c.in-len1-up.len_at_least c.item-item.is c.in_err-layout.ensures)
