use Rattle.std.proofs.Common.{arith}
use Rattle.quil_number.proofs.BinaryEnds.{end_in_whole, end_in_places}
use Rattle.quil_number.proofs.binary_end.has_binary_end.Goals as goal

pub returns-in-empty : goal.returns-in-empty
returns-in-empty c =
    end_in_whole c.args.text.now c.digits.result.0.now c.digits.result.1.now c.fraction_digits.result.0.now c.without_zeros-in-empty.result.now c.without_zeros.result.now c.has_fives.result c.digits.ensures.front c.digits.ensures.behind c.fraction_digits.ensures.front c.without_zeros.ensures (omega arith) c.without_zeros-in-empty.ensures c.has_fives.ensures

pub returns-in_default : goal.returns-in_default
returns-in_default c =
    end_in_places c.args.text.now c.digits.result.0.now c.digits.result.1.now c.fraction_digits.result.0.now c.without_zeros.result.now c.has_fives-in_default.result c.digits.ensures.front c.digits.ensures.behind c.fraction_digits.ensures.front c.without_zeros.ensures (omega arith) c.has_fives-in_default.ensures
