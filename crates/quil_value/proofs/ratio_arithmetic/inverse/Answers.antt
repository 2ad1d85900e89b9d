use Rattle.std.proofs.Common.{rules}
use Rattle.quil_value.specs.Sums.{inverse}
use Rattle.quil_value.proofs.Ratios.{inverse_form, same_form}
use Rattle.quil_value.proofs.ratio_arithmetic.inverse.Goals as goal

pub returns-then-x-lt0-clause-form : goal.returns-then-x-lt0-clause-form
returns-then-x-lt0-clause-form c = same_form _ (inverse c.args.x) (search rules) (inverse_form c.args.x c.requires.form c.requires.some)

pub returns-else-x-lt0-clause-form : goal.returns-else-x-lt0-clause-form
returns-else-x-lt0-clause-form c = same_form _ (inverse c.args.x) (search rules) (inverse_form c.args.x c.requires.form c.requires.some)
