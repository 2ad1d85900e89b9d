use Rattle.std.proofs.Common.{sym, subst, ◌^◌, arith}
use Rattle.qvm_ring.specs.Views.{wide_element}
use Rattle.qvm_ring.specs.Multiply.{IsWithin}
use Rattle.qvm_ring.proofs.ProductBounds.{within_more}
use Rattle.quil_value.proofs.Stripped.{digits_within}
use Rattle.quil_value.proofs.odd_multiple.multiplied.Goals as goal

pub digit_product-requires-2 : goal.digit_product-requires-2
digit_product-requires-2 c =
    subst (IsWithin (2 ^ 65)) (sym c.digit_product.ensures.value)
    (within_more (2 ^ 64) (2 ^ 65) _ (omega arith) (digits_within (2 ^ 62) c.args.first (wide_element c.args.z) c.requires))

pub returns-clause-bound : goal.returns-clause-bound
returns-clause-bound c =
    subst (IsWithin (2 ^ 66)) (sym c.digit_product-2.ensures.value)
    (digits_within (2 ^ 64) c.args.second (wide_element c.digit_product.result)
    (subst (IsWithin (2 ^ 64)) (sym c.digit_product.ensures.value) (digits_within (2 ^ 62) c.args.first (wide_element c.args.z) c.requires)))
