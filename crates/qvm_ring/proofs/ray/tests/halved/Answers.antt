use Rattle.std.proofs.Common.{sym, subst, ◌^◌, List, arith}
use Rattle.std.specs.Prelude.{All}
use Rattle.qvm_ring.specs.declared.wide.Wide.{Wide}
use Rattle.qvm_ring.specs.Ring.{Element}
use Rattle.qvm_ring.specs.Views.{wide_elements_of, IsBelow}
use Rattle.qvm_ring.proofs.States.{light_below}
use Rattle.qvm_ring.proofs.ray.tests.halved.Goals as goal

wider : (zs : List Element) → All (IsBelow (2 ^ 62)) zs → All (IsBelow (2 ^ 125)) zs
wider zs h = λ k d l. let m = h k d l in record { a = omega (arith, m.a); b = omega (arith, m.b); c = omega (arith, m.c); d = omega (arith, m.d) }

pub halve-all-requires : goal.halve-all-requires
halve-all-requires c =
    subst (λ (l : List Wide). All (IsBelow (2 ^ 125)) (wide_elements_of l)) (sym c.deref_mut.ensures.value)
    (wider (wide_elements_of c.args.list.items) (light_below (wide_elements_of c.args.list.items) c.requires))
