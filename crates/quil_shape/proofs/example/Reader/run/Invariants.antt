use Rattle.std.proofs.Common.{◌+◌, ◌≤◌, ◌<◌, ◌^◌, [], ◌∷◌, length}
use Rattle.quil_shape.specs.Reads.{GoesOn}
use Rattle.quil_shape.specs.Nested.{nested, tables, list, pending}
use Rattle.quil_shape.proofs.example.Reader.run.Given as goal

abbrev pub invariant-loop-self : goal.invariant-loop-self
invariant-loop-self l = record {
  reads : GoesOn nested tables (list ∷ []) l.fn.self.rest.now [] (pending l.self.behind_item l.self.depth) l.self.rest.now l.self.steps.items;
  room : l.self.depth + length l.self.rest.now < 2 ^ 64;
  within : length l.self.rest.now ≤ length l.fn.self.rest.now;
}

abbrev pub decreases-loop-self : goal.decreases-loop-self
decreases-loop-self l = length l.self.rest.now
