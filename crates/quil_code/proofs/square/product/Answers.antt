-- 4 · 2^21 · 2^21
use Rattle.std.proofs.Common.{◌^◌, subst, sym}
use Rattle.qvm_ring.specs.Ring.{Element}
use Rattle.qvm_ring.specs.Multiply.{IsWithin}
use Rattle.qvm_ring.specs.Views.{element_of}
use Rattle.qvm_ring.proofs.ProductBounds.{times_within}
use Rattle.quil_code.proofs.Matrices.{below_of_within}
use Rattle.quil_code.proofs.square.product.Goals as goal

pub returns-clause-bound : goal.returns-clause-bound
returns-clause-bound c = subst (λ (z : Element). IsWithin (2 ^ 44) z) (sym c.mul.ensures)
    (times_within (2 ^ 21) (2 ^ 21) (element_of c.args.x) (element_of c.conjugate.result)
    (below_of_within (element_of c.args.x) c.requires.left) (below_of_within (element_of c.conjugate.result) c.conjugate.ensures.bound))
