use Rattle.qvm_io.proofs.Fronts.{GainsFront-after}
use Rattle.qvm_io.proofs.laws.fronts_join.Goals as goal

pub returns : goal.returns
returns c = GainsFront-after
