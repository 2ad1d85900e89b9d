use Rattle.std.proofs.Common.{◌≡◌, length}
use Rattle.quil_memory.specs.Layout.{with_claims}
use Rattle.quil_link.specs.Layout.{claims_of, layout_of}
use Rattle.quil_link.specs.Layout.{as_load}
use Rattle.quil_link.proofs.layout.layout_of.Given as goal

-- with the claims that are left it is the layout of all
abbrev pub invariant-loop-items : goal.invariant-loop-items
invariant-loop-items l = as_load (with_claims l.layout (claims_of l.items)) ≡ layout_of l.initial.items

abbrev pub decreases-loop-items : goal.decreases-loop-items
decreases-loop-items l = length l.items
