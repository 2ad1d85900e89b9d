use Rattle.std.proofs.Common.{rules}
use Rattle.quil_value.proofs.Ratios.{ratio_form}
use Rattle.quil_value.proofs.ratio_arithmetic.ratio.Goals as goal

pub returns-then-x-le-BOUND-clause-form : goal.returns-then-x-le-BOUND-clause-form
returns-then-x-le-BOUND-clause-form c = ratio_form _ _ c.lowest-x.result c.lowest-x.ensures c.requires.some (search rules)
