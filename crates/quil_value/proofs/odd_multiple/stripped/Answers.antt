use Rattle.qvm_ring.specs.Views.{wide_element}
use Rattle.quil_value.proofs.Stripped.{least_at_most, stripped_value, stripped_least, stripped_bound}
use Rattle.quil_value.proofs.odd_multiple.stripped.Goals as goal

pub overflow_sub-result : goal.overflow_sub-result
overflow_sub-result c = least_at_most (wide_element c.args.z) 134 (wide_element c.lowered-left.result.0) c.lowered-left.result.1 c.lowered-left.ensures

pub returns-clause-value : goal.returns-clause-value
returns-clause-value c = stripped_value (wide_element c.args.z) 134 (wide_element c.lowered-left.result.0) c.lowered-left.result.1 c.lowered-left.ensures

pub returns-clause-least : goal.returns-clause-least
returns-clause-least c = stripped_least (wide_element c.args.z) (wide_element c.lowered-left.result.0) c.lowered-left.result.1 c.lowered-left.ensures c.requires.some c.requires.bound

pub returns-clause-bound : goal.returns-clause-bound
returns-clause-bound c = λ n. stripped_bound (wide_element c.args.z) (wide_element c.lowered-left.result.0) c.lowered-left.result.1 n c.lowered-left.ensures
