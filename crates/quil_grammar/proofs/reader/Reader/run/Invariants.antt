use Rattle.std.proofs.Common.{◌≡◌, ◌+◌, ◌*◌, length}
use Rattle.quil_grammar.specs.Frames.{Stands}
use Rattle.quil_grammar.proofs.reader.Reader.run.Given as goal

abbrev pub invariant-loop-wants : goal.invariant-loop-wants
invariant-loop-wants l = record {
  stands : Stands l.wants l.fn.self.rest.now l.self;
  references : l.self.references ≡ l.fn.self.references;
}

abbrev pub decreases-loop-wants : goal.decreases-loop-wants
decreases-loop-wants l = length l.self.todo.items + 8 * length l.self.rest.now
