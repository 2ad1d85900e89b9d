use Rattle.std.proofs.Common.{drop, refl, rules}
use Rattle.quil_statement.proofs.Tokens.{count_exceeds}
use Rattle.quil_statement.proofs.parser.Parser.count.Goals as goal

pub returns-in_default-value_of-clause-err : goal.returns-in_default-value_of-clause-err
returns-in_default-value_of-clause-err c =
    let next = c.in-Some.ensures.some in
    let large = rw c.text.ensures at c.in_default-value_of.ensures.large in
    count_exceeds c.args.class c.args.self.now.tokens.rest.now (drop 1 c.args.self.now.tokens.rest.now) c.args.self.now.tokens.rest.now c.in-Some.token.now (search rules) next.0 next.1 large refl
