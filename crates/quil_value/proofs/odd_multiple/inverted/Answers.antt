use Rattle.std.proofs.Common.{sym, subst, ◌^◌}
use Rattle.qvm_ring.specs.Views.{wide_element}
use Rattle.qvm_ring.specs.Multiply.{IsWithin}
use Rattle.quil_value.proofs.Stripped.{digits_within, inverse_value, half_bound}
use Rattle.quil_value.proofs.odd_multiple.inverted.Goals as goal

pub returns-clause-value : goal.returns-clause-value
returns-clause-value c =
    inverse_value (wide_element c.args.y) (wide_element c.digit_product.result) (wide_element c.split_all.result.1) (wide_element c.split_all-2.result.1) c.split_all.result.0 c.split_all-2.result.0
    c.requires.odd c.split_all.ensures.value c.digit_product.ensures.value c.split_all-2.ensures.value

pub returns-clause-bound : goal.returns-clause-bound
returns-clause-bound c =
    let digits = c.split_all.result.0 in
    half_bound c.split_all-2.result.0 (wide_element c.digit_product.result) (wide_element c.split_all-2.result.1) c.split_all-2.ensures.value
    (subst (IsWithin (2 ^ 66)) (sym c.digit_product.ensures.value) (digits_within (2 ^ 64) (record { a = digits.a; b = digits.d; c = digits.c; d = digits.b }) (wide_element c.args.y) c.requires.bound))
