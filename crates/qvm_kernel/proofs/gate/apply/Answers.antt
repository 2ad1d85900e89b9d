use Rattle.std.proofs.Common.{◌≡◌, ◌<◌, ◌≤◌, subst, OnOk}
use Rattle.qvm_ring.specs.Ray.{Ray, weight, weight_limit}
use Rattle.qvm_ring.proofs.Applied.{reduced_product}
use Rattle.qvm_kernel.proofs.gate.apply.Goals as goal

pub returns-clause-ok : goal.returns-clause-ok
returns-clause-ok c =
    subst (λ (r : Ray). OnOk c.settle.result (c.settle.new.self ≡ record c.args.ray.now { amplitudes = r })) (reduced_product _ _ _ _ _ c.in_ok-product.ensures.value) c.settle.ensures.ok

pub returns-clause-light : goal.returns-clause-light
returns-clause-light c = subst (λ (r : Ray). OnOk c.settle.result (weight r ≤ weight_limit)) (reduced_product _ _ _ _ _ c.in_ok-product.ensures.value) c.settle.ensures.light

pub returns-clause-heavy : goal.returns-clause-heavy
returns-clause-heavy c = λ h. subst (λ (r : Ray). weight_limit < weight r) (reduced_product _ _ _ _ _ c.in_ok-product.ensures.value) (c.settle.ensures.heavy h)
