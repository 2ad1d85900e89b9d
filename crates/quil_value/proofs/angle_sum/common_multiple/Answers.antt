use Rattle.quil_number.proofs.Divisors.{divisor_bounds}
use Rattle.quil_value.proofs.Denominators.{quotient_some, times_more}
use Rattle.quil_value.proofs.angle_sum.common_multiple.Goals as goal

pub nonzero_div-result : goal.nonzero_div-result
nonzero_div-result c = (divisor_bounds c.args.a c.args.b c.gcd.result c.gcd.ensures.greatest c.requires.right).0

pub returns-clause-more : goal.returns-clause-more
returns-clause-more c = times_more c.args.a _ (quotient_some c.args.a c.args.b c.gcd.result c.gcd.ensures.greatest c.requires.right)
