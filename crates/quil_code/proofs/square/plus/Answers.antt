use Rattle.std.proofs.Common.{rules}
use Rattle.qvm_ring.proofs.RingLemmas.{same_element}
use Rattle.quil_code.proofs.square.plus.Goals as goal

pub returns : goal.returns
returns c = same_element _ _ (search rules) (search rules) (search rules) (search rules)
