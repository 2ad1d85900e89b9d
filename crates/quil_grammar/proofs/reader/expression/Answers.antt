use Rattle.std.proofs.Common.{◌≡◌}
use Rattle.quil_grammar.specs.declared.stop.Stop.TheVariants as stop
use Rattle.quil_grammar.proofs.Verdicts.{stop_stands}
use Rattle.quil_grammar.proofs.reader.expression.Goals as goal

pub returns-clause-large : goal.returns-clause-large
returns-clause-large c = λ e.
    let large : c.in-Err.stop ≡ stop.TooLarge = cc in
    let stops = rw c.new-reader.ensures at c.in-Err.ensures.err in
    stop_stands c.args.references c.args.tokens.now c.formula.new.self.rest.now c.in-Err.stop stops large
