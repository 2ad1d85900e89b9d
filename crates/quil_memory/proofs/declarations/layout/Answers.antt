use Rattle.quil_memory.proofs.Layouts.{first_fault}
use Rattle.quil_memory.proofs.declarations.layout.Goals as goal

pub returns-in_err-layout : goal.returns-in_err-layout
returns-in_err-layout c =
    first_fault c.loop-claims.layout c.claim-item.result c.loop-claims.claims.now c.in_err-layout.field-0.0 c.from_residual.result _ c.in-len1-up.len_at_least c.claim-item.is c.in_err-layout.ensures c.from_residual.ensures.1 c.loop-claims.invariant
