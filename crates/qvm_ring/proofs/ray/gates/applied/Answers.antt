use Rattle.std.proofs.Common.{◌∙◌, ◌<◌, ◌≤◌, sym, ap, subst, Err}
use Rattle.std.proofs.lemmas.List.{length-map}
use Rattle.qvm_ring.specs.Ray.{Ray, weight, weight_limit}
use Rattle.qvm_ring.specs.Views.{element_of, elements_of}
use Rattle.qvm_ring.proofs.Applied.{reduced_product, IsVector-applied}
use Rattle.qvm_ring.proofs.ray.gates.applied.Goals as goal

pub returns-in_err-amplitudes-clause-heavy : goal.returns-in_err-amplitudes-clause-heavy
returns-in_err-amplitudes-clause-heavy c = λ h. subst (λ (r : Ray). weight_limit < weight r) (reduced_product _ _ _ _ _ c.in_ok-sums.ensures.value)
    (c.in_err-amplitudes.ensures.heavy (let e = rw h at (c.from_residual-in_err-amplitudes.ensures.1) in ap Err (sym e)))

pub returns-clause-value : goal.returns-clause-value
returns-clause-value c = c.in_ok-amplitudes.ensures.ok ∙ reduced_product _ _ _ _ _ c.in_ok-sums.ensures.value

pub returns-clause-vector : goal.returns-clause-vector
returns-clause-vector c = IsVector-applied c.args.width (elements_of c.args.amplitudes.now) (elements_of c.in_ok-amplitudes.amplitudes.items) c.in_ok-sums.sums.items
    c.requires.vector c.in_ok-sums.ensures.length (length-map c.in_ok-amplitudes.amplitudes.items element_of ∙ c.in_ok-amplitudes.ensures.length)
    c.in_ok-sums.ensures.some c.in_ok-amplitudes.ensures.ok c.in_ok-amplitudes.ensures.light

pub returns-clause-light : goal.returns-clause-light
returns-clause-light c = subst (λ (r : Ray). weight r ≤ weight_limit) (reduced_product _ _ _ _ _ c.in_ok-sums.ensures.value) c.in_ok-amplitudes.ensures.light
