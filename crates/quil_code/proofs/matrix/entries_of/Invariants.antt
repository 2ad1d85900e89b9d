use Rattle.std.proofs.Common.{◌≡◌, length}
use Rattle.qvm_ring.specs.Views.{elements_of}
use Rattle.quil_code.specs.StandardGates.{entry_of}
use Rattle.quil_code.specs.Entries.{HasEntries}
use Rattle.quil_code.proofs.matrix.entries_of.Given as goal

abbrev pub invariant-loop-place : goal.invariant-loop-place
invariant-loop-place l = (length l.entries ≡ 64) × HasEntries (entry_of l.gate l.eighths) l.size l.place (elements_of l.entries)
