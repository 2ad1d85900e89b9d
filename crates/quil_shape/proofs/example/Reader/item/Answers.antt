use Rattle.std.proofs.Common.{sym}
use Rattle.quil_shape.proofs.NestedReads.{item_number}
use Rattle.quil_shape.proofs.example.Reader.item.Goals as goal

pub returns-in-Some-clause-reads : goal.returns-in-Some-clause-reads
returns-in-Some-clause-reads c = item_number _ _ _ _ _ _ _ _ _ (sym c.in-Some.ensures) c.number.ensures.reads c.number.ensures.behind_item c.number.ensures.depth
