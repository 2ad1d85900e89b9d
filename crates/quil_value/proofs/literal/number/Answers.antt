use Rattle.std.proofs.Common.{◌<◌, sym, subst}
use Rattle.quil_number.specs.declared.fraction.Fraction.{Fraction}
use Rattle.quil_number.specs.Decimal.{decimal_value}
use Rattle.quil_value.proofs.WideLiterals.{decimal_lowest, found_within, wide_from, wide_real}
use Rattle.quil_value.proofs.literal.number.Goals as goal

pub settled-requires-clause-some : goal.settled-requires-clause-some
settled-requires-clause-some c =
    let x = decimal_value c.args.text.now in
    subst (λ (y : Fraction). 0 < y.q) (sym (found_within c.in-Ok.x x c.in-Ok.ensures).same) (decimal_lowest c.args.text.now).some

pub returns-in-Err : goal.returns-in-Err
returns-in-Err c =
    let x = decimal_value c.args.text.now in
    sym (wide_real x (decimal_lowest c.args.text.now) (wide_from c.in-Err.field-0 x c.in-Err.ensures))
