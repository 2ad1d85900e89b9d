use Rattle.std.proofs.Common.{length}
use Rattle.quil_gate.proofs.acts.+add_pieces.Given as goal

abbrev pub decreases-add_pieces : goal.decreases-add_pieces
decreases-add_pieces l = length l.controls.now
