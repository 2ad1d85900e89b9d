use Rattle.std.proofs.Common.{length}
use Rattle.quil_shape.specs.Shape.Shape.{One}
use Rattle.quil_grammar.specs.declared.class.Class.TheVariants as class
use Rattle.quil_statement.specs.Loops.{acting, Repeats}
use Rattle.quil_statement.proofs.parser.Parser.qubits.Given as goal

abbrev pub invariant-more : goal.invariant-more
invariant-more l = Repeats (One class.Qubit) l.fn.self.tokens.rest.now l.self.tokens.rest.now (acting l.all)

abbrev pub decreases-more : goal.decreases-more
decreases-more l = length l.self.tokens.rest.now
