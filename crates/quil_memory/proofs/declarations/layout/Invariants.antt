use Rattle.std.proofs.Common.{◌≡◌, Ok, length, fold}
use Rattle.quil_memory.specs.Layout.{with_next, no_regions}
use Rattle.quil_memory.proofs.declarations.layout.Given as goal

abbrev pub invariant-loop-claims : goal.invariant-loop-claims
invariant-loop-claims l = fold with_next (Ok l.layout) l.claims ≡ fold with_next (Ok no_regions) l.initial.claims

abbrev pub decreases-loop-claims : goal.decreases-loop-claims
decreases-loop-claims l = length l.claims
