use Rattle.std.proofs.Common.{◌^◌}
use Rattle.qvm_ring.specs.Views.{wide_element}
use Rattle.quil_value.specs.Views.{digits_of}
use Rattle.quil_value.proofs.Stripped.{multiple_value}
use Rattle.quil_value.proofs.odd_multiple.odd_multiple.Goals as goal

pub leveled-level-requires-clause-bound : goal.leveled-level-requires-clause-bound
leveled-level-requires-clause-bound c = c.stripped-stripped.ensures.bound (2 ^ 62) c.requires.bound

pub returns-clause-value : goal.returns-clause-value
returns-clause-value c =
    multiple_value (wide_element c.args.y) (wide_element c.stripped-stripped.result.0) (digits_of c.leveled-level.result.factor) (wide_element c.leveled-level.result.odd)
    (digits_of c.inverted.result.0) (wide_element c.inverted.result.1) c.stripped-stripped.result.1 c.leveled-level.result.power
    c.stripped-stripped.ensures.value c.leveled-level.ensures.value c.inverted.ensures.value
