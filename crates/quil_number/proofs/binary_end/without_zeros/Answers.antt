use Rattle.std.proofs.Common.{sym, ◌∙◌, arith}
use Rattle.quil_number.proofs.BinaryEnds.{zero_last}
use Rattle.quil_number.proofs.binary_end.without_zeros.Goals as goal

pub loop-i-preserved : goal.loop-i-preserved
loop-i-preserved c = sym (zero_last c.args.digits.now c.loop-i.i (omega arith) (omega arith) (omega arith)) ∙ c.loop-i.invariant
