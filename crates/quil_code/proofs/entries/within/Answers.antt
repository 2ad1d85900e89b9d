-- The bound is the table's, which is computed.
use Rattle.quil_code.proofs.Small.{entries_within}
use Rattle.quil_code.proofs.entries.within.Goals as goal

pub returns : goal.returns
returns c = entries_within c.args.gate c.args.k c.args.row c.args.column c.requires.angle c.requires.row c.requires.column
