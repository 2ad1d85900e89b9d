use Rattle.std.proofs.Common.{rules, ◌≡◌, sym, ◌∙◌, subst, ◌^◌, List, true}
use Rattle.std.specs.Prelude.{All}
use Rattle.qvm_ring.specs.declared.wide.Wide.{Wide}
use Rattle.qvm_ring.specs.Views.{wide_elements_of, IsBelow}
use Rattle.qvm_ring.proofs.States.{light_below}
use Rattle.qvm_ring.proofs.settle.settled.Goals as goal

pub narrowed-requires : goal.narrowed-requires
narrowed-requires c =
    let light : c.is_light.result ≡ true = search rules in
    subst (λ (l : List Wide). All (IsBelow (2 ^ 62)) (wide_elements_of l)) (c.deref.ensures.value ∙ sym c.deref-2.ensures.value)
    (light_below (wide_elements_of c.deref.result.now) (c.is_light.ensures.light light))
