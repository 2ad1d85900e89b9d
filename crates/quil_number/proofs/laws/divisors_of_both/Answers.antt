use Rattle.quil_number.proofs.Divisors.{common_divisor_is}
use Rattle.quil_number.proofs.laws.divisors_of_both.Goals as goal

pub returns : goal.returns
returns c = common_divisor_is
