use Rattle.std.proofs.Common.{sym, ◌∙◌, ap, ◌^◌}
use Rattle.std.proofs.lemmas.List.{length-map}
use Rattle.qvm_ring.specs.Ray.{State}
use Rattle.qvm_ring.specs.Views.{element_of, elements_of}
use Rattle.qvm_ring.proofs.Applied.{IsVector-applied}
use Rattle.qvm_ring.proofs.ray.Ray.settle.Goals as goal

pub invariant_of-self : goal.invariant_of-self
invariant_of-self c =
    let settled = c.in_ok-self-inside in
    IsVector-applied c.self.inside.qubits (elements_of c.self.inside.amplitudes.items) (elements_of settled.field-0.items) c.args.product.items c.self.invariant
    (c.requires.count ∙ sym (ap (λ (s : State). 2 ^ s.qubits) c.self.view_is)) (length-map settled.field-0.items element_of ∙ settled.ensures.length)
    c.requires.some settled.ensures.ok settled.ensures.light
