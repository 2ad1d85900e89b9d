-- 4 · 2^21 · 2^48
use Rattle.std.proofs.Common.{◌^◌, subst, sym}
use Rattle.qvm_ring.specs.Ring.{Element}
use Rattle.qvm_ring.specs.Multiply.{IsWithin}
use Rattle.qvm_ring.specs.Views.{element_of}
use Rattle.qvm_ring.proofs.ProductBounds.{times_within}
use Rattle.quil_code.proofs.Matrices.{below_of_within}
use Rattle.qvm_kernel.proofs.product.term.Goals as goal

pub returns-clause-bound : goal.returns-clause-bound
returns-clause-bound c = subst (λ (z : Element). IsWithin (2 ^ 71) z) (sym c.mul.ensures)
    (times_within (2 ^ 21) (2 ^ 48) (element_of c.args.entry) (element_of c.args.amplitude) (below_of_within (element_of c.args.entry) c.requires.entry) c.requires.amplitude)
