use Rattle.std.proofs.Common.{◌^◌}
use Rattle.qvm_ring.proofs.Products.{entry_of_list}
use Rattle.qvm_ring.proofs.product.entry.Goals as goal

pub returns-clause-value : goal.returns-clause-value
returns-clause-value c = entry_of_list c.args.table.now.entries.now c.args.row c.args.column c.size.result (2 ^ c.args.table.now.arity) _ c.size.ensures c.requires.row c.requires.column c.requires.table.full
