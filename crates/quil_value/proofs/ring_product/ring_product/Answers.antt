use Rattle.std.proofs.Common.{◌∙◌, ap, ◌+◌, Ok}
use Rattle.qvm_ring.specs.Ring.{Element, times}
use Rattle.qvm_ring.specs.Views.{wide_element}
use Rattle.quil_value.specs.Exact.{Exact, least, bounded}
use Rattle.quil_value.proofs.RingProducts.{least_form, product_least}
use Rattle.quil_value.proofs.ring_product.ring_product.Goals as goal

pub bounded-requires : goal.bounded-requires
bounded-requires c = least_form (wide_element c.lowered-m.result.0) c.lowered-m.result.1 (wide_element c.times.result) _ c.lowered-m.ensures

pub returns : goal.returns
returns c =
    c.bounded.ensures
    ∙ ap (λ (t : Exact). bounded (Ok t)) (c.lowered-m.ensures ∙ ap (λ (t : Element). least t (c.args.x.m + c.args.y.m)) c.times.ensures.value)
    ∙ product_least (wide_element c.args.x.num) c.args.x.m (wide_element c.args.y.num) c.args.y.m
