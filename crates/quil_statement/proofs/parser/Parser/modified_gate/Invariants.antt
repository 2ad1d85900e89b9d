use Rattle.quil_statement.specs.Loops.{ModifiedSoFar}
use Rattle.quil_statement.proofs.parser.Parser.modified_gate.Given as goal

abbrev pub invariant-more : goal.invariant-more
invariant-more l = ModifiedSoFar l.forks l.fn.self.tokens.rest.now l.self.tokens.rest.now l.place l.all

abbrev pub decreases-more : goal.decreases-more
decreases-more l = l.forks
