use Rattle.std.proofs.Common.{◌∙◌, ◌+◌, ◌*◌, ◌++◌, reverse, refl, arith}
use Rattle.quil_number.specs.Decimal.{number}
use Rattle.quil_number.proofs.BinaryEnds.{walk_goes_on, walk_stops}
use Rattle.quil_number.proofs.binary_end.has_fives.Goals as goal

pub returns-then-sum-ne0 : goal.returns-then-sum-ne0
returns-then-sum-ne0 c =
    let ds = c.args.whole.now ++ c.args.places.now in
    walk_stops (number ds) (reverse ds) c.loop-place.place c.loop-place.power c.loop-place.rest c.from-digit.result (c.from-digit.result * c.loop-place.power + c.loop-place.rest) c.loop-place.invariant (c.from-digit.ensures ∙ c.digit_from_end.ensures) refl (omega arith) (omega arith)

pub loop-place-preserved : goal.loop-place-preserved
loop-place-preserved c =
    let ds = c.args.whole.now ++ c.args.places.now in
    walk_goes_on (number ds) (reverse ds) c.loop-place.place c.loop-place.power c.loop-place.rest c.from-digit.result (c.from-digit.result * c.loop-place.power + c.loop-place.rest) c.loop-place.invariant (c.from-digit.ensures ∙ c.digit_from_end.ensures) (omega arith) refl (omega arith)
