use Rattle.std.proofs.Common.{◌≡◌, length}
use Rattle.quil_statement.specs.Loops.{FormulasSoFar}
use Rattle.quil_statement.proofs.parser.Parser.formulas.Given as goal

abbrev pub invariant-more : goal.invariant-more
invariant-more l = (l.references ≡ l.fn.references) × FormulasSoFar l.fn.references l.fn.self.tokens.rest.now l.self.tokens.rest.now l.all

abbrev pub decreases-more : goal.decreases-more
decreases-more l = length l.self.tokens.rest.now
