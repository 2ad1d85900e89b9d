use Rattle.std.proofs.Common.{◌<◌, sym, subst}
use Rattle.quil_number.specs.declared.fraction.Fraction.{Fraction}
use Rattle.quil_number.specs.Decimal.{decimal_value}
use Rattle.quil_value.proofs.WideLiterals.{decimal_lowest, found_within, numerator_above, lack_is}
use Rattle.quil_value.proofs.literal.imaginary.Goals as goal

pub settled-requires-clause-some : goal.settled-requires-clause-some
settled-requires-clause-some c =
    let x = decimal_value c.args.text.now in
    subst (λ (y : Fraction). 0 < y.q) (sym (found_within c.in-Ok.x x c.in-Ok.ensures).same) (decimal_lowest c.args.text.now).some

pub exponent_of_two-requires : goal.exponent_of_two-requires
exponent_of_two-requires c =
    let x = decimal_value c.args.text.now in
    let n = numerator_above c.in-Err-Numerator.q x (rw c.in-Err-Numerator.field-0-is at c.in-Err-Numerator.ensures) in
    subst (λ k. 0 < k) (sym n.same) (decimal_lowest c.args.text.now).some

pub returns-in-Err-Numerator : goal.returns-in-Err-Numerator
returns-in-Err-Numerator c =
    let n = numerator_above c.in-Err-Numerator.q (decimal_value c.args.text.now) (rw c.in-Err-Numerator.field-0-is at c.in-Err-Numerator.ensures) in
    lack_is c.args.text.now c.in-Err-Numerator.q c.exponent_of_two.result c.is_some.result c.lack.result n c.exponent_of_two.ensures.value c.is_some.ensures c.lack.ensures
