use Rattle.std.proofs.Common.{rules}
use Rattle.qvm_ring.proofs.RingLemmas.{same_element}
use Rattle.qvm_ring.proofs.wide.plus.Goals as goal

pub returns-clause-value : goal.returns-clause-value
returns-clause-value c = same_element _ _ (search rules) (search rules) (search rules) (search rules)
