use Rattle.std.proofs.Common.{drop, refl, ap, ◌∙◌, rules}
use Rattle.quil_grammar.specs.Grammar.{value_behind}
use Rattle.quil_statement.proofs.Tokens.{wide_qubit_exceeds, large_qubit_exceeds}
use Rattle.quil_statement.proofs.parser.Parser.qubit.Goals as goal

pub returns-in_default-value_of-clause-err : goal.returns-in_default-value_of-clause-err
returns-in_default-value_of-clause-err c =
    let next = c.in-Some.ensures.some in
    let large = rw c.text-2.ensures at c.in_default-value_of.ensures.large in
    wide_qubit_exceeds c.args.self.now.tokens.rest.now (drop 1 c.args.self.now.tokens.rest.now) c.args.self.now.tokens.rest.now c.in-Some.token.now next.0 next.1 (search rules) large refl

pub returns-then-value-gt65535-clause-err : goal.returns-then-value-gt65535-clause-err
returns-then-value-gt65535-clause-err c =
    let next = c.in-Some.ensures.some in
    let value = c.in-Some-value_of.ensures.found ∙ ap (value_behind 0) c.text-2.ensures in
    large_qubit_exceeds c.args.self.now.tokens.rest.now (drop 1 c.args.self.now.tokens.rest.now) c.args.self.now.tokens.rest.now c.in-Some.token.now c.in-Some-value_of.value next.0 next.1 (search rules) value (search rules) refl
