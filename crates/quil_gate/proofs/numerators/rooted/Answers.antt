use Rattle.std.proofs.Common.{rules, sym, ◌∙◌}
use Rattle.qvm_ring.specs.Views.{wide_element}
use Rattle.qvm_ring.proofs.RingLemmas.{same_element}
use Rattle.quil_value.proofs.RootTwos.{times_root_two}
use Rattle.quil_gate.proofs.numerators.rooted.Goals as goal

pub returns : goal.returns
returns c = same_element _ _ (search rules) (search rules) (search rules) (search rules) ∙ sym (times_root_two (wide_element c.args.z))
