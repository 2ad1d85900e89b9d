use Rattle.std.proofs.Common.{rules}
use Rattle.qvm_ring.proofs.RingLemmas.{same_element}
use Rattle.quil_value.proofs.rational_quotient.stretched.Goals as goal

pub returns : goal.returns
returns c = same_element _ _ (search rules) (search rules) (search rules) (search rules)
