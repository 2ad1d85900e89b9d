use Rattle.std.proofs.Common.{length}
use Rattle.quil_statement.specs.Loops.{ModifiersSoFar}
use Rattle.quil_statement.proofs.parser.Parser.modifiers.Given as goal

abbrev pub invariant-more : goal.invariant-more
invariant-more l = ModifiersSoFar l.fn.self.tokens.rest.now l.self.tokens.rest.now l.fn.before l.all

abbrev pub decreases-more : goal.decreases-more
decreases-more l = length l.self.tokens.rest.now
