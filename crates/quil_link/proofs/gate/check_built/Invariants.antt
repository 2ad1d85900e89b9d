use Rattle.std.proofs.Common.{◌≡◌, length}
use Rattle.quil_link.specs.Passes.{first_of}
use Rattle.quil_link.specs.Built.{not_built}
use Rattle.quil_link.proofs.gate.check_built.Given as goal

-- what is left has the first fault of all
abbrev pub invariant-loop-items : goal.invariant-loop-items
invariant-loop-items l = first_of not_built l.items ≡ first_of not_built l.initial.items

abbrev pub decreases-loop-items : goal.decreases-loop-items
decreases-loop-items l = length l.items
