use Rattle.std.proofs.Common.{◌≡◌, ◌<◌, ◌^◌, ◌++◌, length, Ok}
use Rattle.quil_value.specs.Results.{and_then, each}
use Rattle.quil_link.specs.Linked.{linked}
use Rattle.quil_link.specs.Steps.{AreLinked}
use Rattle.quil_link.proofs.line.linked_items.Given as goal

-- the lines so far with those that are left are those of all
abbrev pub invariant-loop-items : goal.invariant-loop-items
invariant-loop-items l = record {
  told : and_then (each (linked l.layout) l.items) (λ ls. Ok (l.lines.items ++ ls)) ≡ each (linked l.layout) l.initial.items;
  fit : AreLinked l.lines.items l.layout.bits;
  few : length l.lines.items < 2 ^ 32;
}

abbrev pub decreases-loop-items : goal.decreases-loop-items
decreases-loop-items l = length l.items
