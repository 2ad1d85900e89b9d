use Rattle.std.proofs.Common.{rules, sym, ◌∙◌}
use Rattle.quil_grammar.proofs.Operands.{wants_argument, stops_at_argument, stops_at_atom, holds_atom, err_stands}
use Rattle.quil_grammar.proofs.reader.Reader.operand.Goals as goal

pub returns-in_default-take-3-clause-stands : goal.returns-in_default-take-3-clause-stands
returns-in_default-take-3-clause-stands c = λ ts h.
    let no_sign = c.in_default.ensures.none in
    let no_parenthesis = c.in_default-take.ensures.none in
    let name = c.in-Some-take-2.ensures.some in
    let none = c.in_default-take-3.ensures.none in
    stops_at_argument c.args.self.now.references _ ts c.args.self.now.rest.now c.take-3.new.self.rest.now c.take-in-Some-take-2.new.self.rest.now c.in-Some-take-2.token.now c.args.self.now.todo.items c.args.self.now.steps.items
    h no_sign.0 (sym no_sign.1 ∙ sym no_parenthesis.1 ∙ name.0) name.1 none.0 none.1 (search rules)

pub returns-in-Some-take-2-clause-stands : goal.returns-in-Some-take-2-clause-stands
returns-in-Some-take-2-clause-stands c = λ ts h.
    let no_sign = c.in_default.ensures.none in
    let no_parenthesis = c.in_default-take.ensures.none in
    let name = c.in-Some-take-2.ensures.some in
    let opening = c.in-Some-take-3.ensures.some in
    wants_argument c.args.self.now.references _ ts c.args.self.now.rest.now c.take-3.new.self.rest.now _ c.in-Some-take-2.token.now c.in-Some-take-3.field-0.now c.args.self.now.todo.items _ c.args.self.now.steps.items _ c.place-in-Some-take-2.result c.function_of-function.result
    h no_sign.0 (sym no_sign.1 ∙ sym no_parenthesis.1 ∙ name.0) name.1 (search rules) opening.1 (search rules) (search rules) (search rules) (search rules) (search rules)

pub returns-in_err-place-clause-stands : goal.returns-in_err-place-clause-stands
returns-in_err-place-clause-stands c = λ ts h.
    let no_sign = c.in_default.ensures.none in
    err_stands ts c.in_err-place.field-0.0 _ c.atom.new.self c.from_residual-in_err-place.ensures.1
    (stops_at_atom c.args.self.now.references _ _ ts c.args.self.now.rest.now _ c.atom.new.self.rest.now c.args.self.now.todo.items c.args.self.now.steps.items c.in_err-place.field-0.0 h no_sign.0 c.in_err-place.ensures.err (search rules) (search rules) (search rules))

pub returns-clause-stands : goal.returns-clause-stands
returns-clause-stands c = λ ts h.
    let no_sign = c.in_default.ensures.none in
    holds_atom c.args.self.now.references _ _ ts c.args.self.now.rest.now _ c.atom.new.self.rest.now _ c.args.self.now.todo.items _ c.args.self.now.steps.items _ c.in_ok-place.place _ c.in_ok-place.atom
    h no_sign.0 c.in_ok-place.ensures.ok (search rules) (search rules) (search rules) (search rules) (search rules) (search rules) (search rules)
