use Rattle.std.proofs.Common.{length}
use Rattle.quil_shape.specs.Shape.Shape.{One}
use Rattle.quil_grammar.specs.declared.class.Class.TheVariants as class
use Rattle.quil_statement.specs.Loops.{keeping, Repeats}
use Rattle.quil_statement.proofs.parser.Parser.texts.Given as goal

abbrev pub invariant-more : goal.invariant-more
invariant-more l = Repeats (One class.Any) l.fn.self.tokens.rest.now l.self.tokens.rest.now (keeping l.all)

abbrev pub decreases-more : goal.decreases-more
decreases-more l = length l.self.tokens.rest.now
