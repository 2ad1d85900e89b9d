use Rattle.std.proofs.Common.{◌≡◌, length}
use Rattle.qvm_ring.specs.Views.{elements_of}
use Rattle.quil_code.specs.Controls.{daggered}
use Rattle.quil_code.specs.Matrices.{matrix_gate}
use Rattle.quil_code.specs.Entries.{HasEntries}
use Rattle.quil_code.proofs.matrix.daggered_entries.Given as goal

abbrev pub invariant-loop-place : goal.invariant-loop-place
invariant-loop-place l = (length l.entries ≡ 64) × HasEntries (daggered (matrix_gate l.matrix)).entry l.size l.place (elements_of l.entries)
