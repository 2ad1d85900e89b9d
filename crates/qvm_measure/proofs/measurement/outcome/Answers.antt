use Rattle.std.proofs.Common.{◌≡◌, ◌∙◌, ◌^◌, ◌<◌, arith, ap}
use Rattle.qvm_ring.specs.Measure.{exceeds, outcome, norm_of, kept, Norm}
use Rattle.qvm_ring.specs.NormViews.{norm_seen}
use Rattle.qvm_measure.proofs.Outcomes.{outcome_keeps}
use Rattle.qvm_measure.proofs.measurement.outcome.Goals as goal

pub returns-clause-some : goal.returns-clause-some
returns-clause-some c =
    let w : c.args.word < 2 ^ 32 = omega arith in
    let e : c.exceeds.result ≡ outcome c.args.ray.now.amplitudes c.args.qubit c.args.word =
    c.exceeds.ensures
    ∙ ap (λ (n : Norm). exceeds n (norm_seen c.norm-all.result) c.args.word) c.norm_where-one.ensures.value
    ∙ ap (λ (n : Norm). exceeds (norm_of (kept c.args.ray.now.amplitudes c.args.qubit 1)) n c.args.word) c.norm-all.ensures.value in
    outcome_keeps _ _ _ _ _ c.norm-all.ensures.kept.map c.norm-all.ensures.kept.some w e c.outcomes_keep_some.ensures.one c.outcomes_keep_some.ensures.zero
