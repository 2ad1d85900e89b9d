use Rattle.std.proofs.Common.{ap, ◌∙◌}
use Rattle.quil_value.specs.Division.{minus}
use Rattle.qvm_ring.specs.Views.{wide_element}
use Rattle.quil_value.specs.Views.{digits_of}
use Rattle.quil_value.proofs.Turns.{turn_is}
use Rattle.quil_value.proofs.low_end.turned.Goals as goal

pub returns-clause-value : goal.returns-clause-value
returns-clause-value c =
    turn_is (wide_element c.args.x) (digits_of c.split_all.result.0) (wide_element c.split_all.result.1) (wide_element c.args.w) (wide_element c.less-rest.result)
    c.split_all.ensures.value (c.less-rest.ensures.value ∙ ap (minus (wide_element c.split_all.result.1)) c.digit_product-product.ensures.value)
