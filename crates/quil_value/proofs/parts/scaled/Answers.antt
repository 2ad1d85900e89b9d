use Rattle.std.proofs.Common.{rules, sym, ◌∙◌}
use Rattle.qvm_ring.specs.Views.{wide_element}
use Rattle.qvm_ring.proofs.RingLemmas.{same_element}
use Rattle.quil_value.proofs.LoneProducts.{real_times}
use Rattle.quil_value.proofs.parts.scaled.Goals as goal

pub returns-clause-value : goal.returns-clause-value
returns-clause-value c = same_element _ _ (search rules) (search rules) (search rules) (search rules) ∙ sym (real_times c.args.n (wide_element c.args.z))
