use Rattle.std.proofs.Common.{rules}
use Rattle.std.specs.Prelude.{neg_ℤ}
use Rattle.quil_value.proofs.Ratios.{opposite_form, same_form}
use Rattle.quil_value.proofs.ratio_arithmetic.opposite.Goals as goal

pub returns-clause-form : goal.returns-clause-form
returns-clause-form c = same_form _ (record { p = neg_ℤ c.args.x.p; q = c.args.x.q }) (search rules) (opposite_form c.args.x c.requires)
