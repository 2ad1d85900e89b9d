use Rattle.qvm_ring.specs.Views.{wide_element}
use Rattle.quil_value.proofs.Spans.{divided_answer}
use Rattle.quil_value.proofs.low_end.divided.Goals as goal

pub returns : goal.returns
returns c = divided_answer (wide_element c.args.x) (wide_element c.args.w) c.quotient.result c.requires.left c.requires.right c.quotient.ensures
