use Rattle.std.proofs.Common.{drop, ap, ◌∙◌}
use Rattle.quil_grammar.specs.Grammar.{sign_of}
use Rattle.quil_grammar.proofs.Literals.{plain_read, signed_read}
use Rattle.quil_grammar.proofs.reader.Reader.value_operand.Goals as goal

pub returns-in-Some-clause-ok : goal.returns-in-Some-clause-ok
returns-in-Some-clause-ok c =
    let found = c.in-Some.ensures.some in
    let made = c.in_ok-operand.ensures.ok in
    let rest = c.skip.ensures.rest ∙ ap (drop 1) found.0 in
    rw rest (plain_read c.args.self.now.rest.now c.in-Some.field-0-1.now c.in-Some.number.now c.place.result c.text.result.now c.in_ok-operand.operand found.0 found.1 c.place.ensures c.text.ensures made.0 made.1)

pub returns-in-Some-signed_number-clause-ok : goal.returns-in-Some-signed_number-clause-ok
returns-in-Some-signed_number-clause-ok c =
    let found = c.in-Some-signed_number.ensures.some in
    let made = c.in_ok-operand-2.ensures.ok in
    let rest = c.skip-in-Some-signed_number-2.ensures.rest ∙ ap (drop 1) c.skip-in-Some-signed_number.ensures.rest ∙ ap (λ ts. drop 1 (drop 1 ts)) found.0 in
    rw rest (signed_read c.args.self.now.rest.now c.in-Some-signed_number.field-0-2.now c.in-Some-signed_number.first.now c.in-Some-signed_number.number.now c.place-in-Some-signed_number.result c.sign_of.result c.text-in-Some-signed_number.result.now c.in_ok-operand-2.operand found.0 found.1 c.place-in-Some-signed_number.ensures (c.sign_of.ensures ∙ ap sign_of c.sort.ensures) c.text-in-Some-signed_number.ensures made.0 made.1)
