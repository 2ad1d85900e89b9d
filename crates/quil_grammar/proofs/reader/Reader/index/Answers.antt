use Rattle.std.proofs.Common.{drop, ap, ◌∙◌, rules}
use Rattle.quil_grammar.specs.Grammar.{value_behind}
use Rattle.quil_grammar.proofs.Atoms.{index_read, number_too_large, no_end}
use Rattle.quil_grammar.proofs.reader.Reader.index.Goals as goal

pub returns-in_default-value_of-clause-err : goal.returns-in_default-value_of-clause-err
returns-in_default-value_of-clause-err c =
    let opening = c.in-Some.ensures.some in
    let number = c.in-Some-next.ensures.some in
    let large = rw c.text.ensures at c.in_default-value_of.ensures.large in
    number_too_large c.args.self.now.rest.now c.take.new.self.rest.now (drop 1 c.take.new.self.rest.now) c.in-Some.field-0.now c.in-Some-next.token.now opening.0 opening.1 number.0 number.1 large

pub returns-in_default-take-clause-err : goal.returns-in_default-take-clause-err
returns-in_default-take-clause-err c =
    let opening = c.in-Some.ensures.some in
    let number = c.in-Some-next.ensures.some in
    let ended = c.in_default-take.ensures.none in
    let value = c.in-Some-value_of.ensures.found ∙ ap (value_behind 0) c.text.ensures in
    no_end c.args.self.now.rest.now c.take.new.self.rest.now c.take-2.new.self.rest.now c.in-Some.field-0.now c.in-Some-next.token.now c.in-Some-value_of.value opening.0 opening.1 (search rules) number.1 value (search rules) (search rules)

pub returns-clause-ok : goal.returns-clause-ok
returns-clause-ok c =
    let opening = c.in-Some.ensures.some in
    let number = c.in-Some-next.ensures.some in
    let ended = c.in-Some-take.ensures.some in
    let value = c.in-Some-value_of.ensures.found ∙ ap (value_behind 0) c.text.ensures in
    index_read c.args.self.now.rest.now c.take.new.self.rest.now c.skip.new.self.rest.now c.take-2.new.self.rest.now c.in-Some.field-0.now c.in-Some-next.token.now c.in-Some-take.field-0.now c.in_ok-digits-2.digits c.in-Some-value_of.value opening.0 opening.1 (search rules) number.1 ended.0 ended.1 value (search rules) (c.in_ok-digits-2.ensures ∙ c.text-2.ensures)
