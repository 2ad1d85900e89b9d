use Rattle.std.proofs.Common.{ap}
use Rattle.qvm_ring.specs.Ring.{Element}
use Rattle.quil_value.proofs.Words.{cross_again}
use Rattle.quil_value.proofs.rational_quotient.pivot.Goals as goal

pub returns-then-y-ne0-clause-only : goal.returns-then-y-ne0-clause-only
returns-then-y-ne0-clause-only c = λ r s e.
    c.ratio.ensures.value r s (cross_again c.args.x.a c.args.y.a r s c.requires.left.a c.requires.right.a (ap (λ (t : Element). t.a) e))

pub returns-then-y-ne0-2-clause-only : goal.returns-then-y-ne0-2-clause-only
returns-then-y-ne0-2-clause-only c = λ r s e.
    c.ratio-then-y-ne0-2.ensures.value r s (cross_again c.args.x.b c.args.y.b r s c.requires.left.b c.requires.right.b (ap (λ (t : Element). t.b) e))

pub returns-then-y-ne0-3-clause-only : goal.returns-then-y-ne0-3-clause-only
returns-then-y-ne0-3-clause-only c = λ r s e.
    c.ratio-then-y-ne0-3.ensures.value r s (cross_again c.args.x.c c.args.y.c r s c.requires.left.c c.requires.right.c (ap (λ (t : Element). t.c) e))

pub returns-else-y-ne0-3-clause-only : goal.returns-else-y-ne0-3-clause-only
returns-else-y-ne0-3-clause-only c = λ r s e.
    c.ratio-else-y-ne0-3.ensures.value r s (cross_again c.args.x.d c.args.y.d r s c.requires.left.d c.requires.right.d (ap (λ (t : Element). t.d) e))
