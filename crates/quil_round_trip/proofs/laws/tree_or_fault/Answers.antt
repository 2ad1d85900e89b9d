use Rattle.quil_round_trip.proofs.Totality.{tree_or_fault}
use Rattle.quil_round_trip.proofs.laws.tree_or_fault.Goals as goal

pub returns : goal.returns
returns c = tree_or_fault
