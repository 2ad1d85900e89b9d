use Rattle.std.proofs.Common.{◌<◌, ◌^◌, length, drop, ap, ◌∙◌, arith}
use Rattle.qvm_io.proofs.Drops.{drop-next}
use Rattle.qvm_io.proofs.mem_source.MemSourceSource.read.Goals as goal

pub returns-clause-pieces : goal.returns-clause-pieces
returns-clause-pieces c =
    let short : length c.self.inside.pieces.items < 2 ^ 64 = omega (arith, c.self.inside.pieces.ok.0, c.self.inside.pieces.small) in
    drop-next _ _ c.self.inside.pieces.items c.saturating_add-self-inside-2.ensures short ∙ ap (λ s. drop 1 s.pieces) c.self.view_is
