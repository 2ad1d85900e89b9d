use Rattle.std.proofs.Common.{rules}
use Rattle.quil_grammar.proofs.Behind.{terms_go_on, factors_go_on, exponent_goes_on, joins, signs, parenthesis_ends, argument_ends, no_parenthesis, no_argument_end}
use Rattle.quil_grammar.proofs.reader.Reader.behind.Goals as goal

pub returns-in_default-take-3-clause-stands : goal.returns-in_default-take-3-clause-stands
returns-in_default-take-3-clause-stands c = λ ts h.
    no_parenthesis c.args.self.now.references _ ts c.args.self.now.rest.now _ c.args.self.now.todo.items c.args.self.now.steps.items c.args.self.now.start c.in-Parenthesized.place (rw c.in-Parenthesized.is at h) c.in_default-take-3.ensures.none.0 (search rules) (search rules)

pub returns-in_default-take-4-clause-stands : goal.returns-in_default-take-4-clause-stands
returns-in_default-take-4-clause-stands c = λ ts h.
    no_argument_end c.args.self.now.references _ ts c.args.self.now.rest.now _ c.args.self.now.todo.items c.args.self.now.steps.items c.args.self.now.start c.in-Argument.place c.in-Argument.function (rw c.in-Argument.is at h) c.in_default-take-4.ensures.none.0 (search rules) (search rules)

pub returns-in_ok-push-in-Terms-3-clause-stands : goal.returns-in_ok-push-in-Terms-3-clause-stands
returns-in_ok-push-in-Terms-3-clause-stands c = λ ts h.
    terms_go_on c.args.self.now.references _ ts c.args.self.now.rest.now _ c.in-Some.token.now c.args.self.now.todo.items _ c.args.self.now.steps.items _ c.args.self.now.start c.take.new.self.start c.operator_of-operator.result (rw c.in-Terms.is at h) c.in-Some.ensures.some.0 c.in-Some.ensures.some.1 (search rules) (search rules) (search rules) (search rules) (search rules)

pub returns-in_ok-push-in-Factors-2-clause-stands : goal.returns-in_ok-push-in-Factors-2-clause-stands
returns-in_ok-push-in-Factors-2-clause-stands c = λ ts h.
    factors_go_on c.args.self.now.references _ ts c.args.self.now.rest.now _ c.in-Some-take.token.now c.args.self.now.todo.items _ c.args.self.now.steps.items _ c.args.self.now.start c.take-in-Factors.new.self.start c.operator_of-operator-in-Factors.result (rw c.in-Factors.is at h) c.in-Some-take.ensures.some.0 c.in-Some-take.ensures.some.1 (search rules) (search rules) (search rules) (search rules) (search rules)

pub returns-in_ok-push-in-Exponent-clause-stands : goal.returns-in_ok-push-in-Exponent-clause-stands
returns-in_ok-push-in-Exponent-clause-stands c = λ ts h.
    exponent_goes_on c.args.self.now.references _ ts c.args.self.now.rest.now _ c.in-Some-take-2.token.now c.args.self.now.todo.items _ c.args.self.now.steps.items _ c.args.self.now.start c.take-in-Exponent.new.self.start c.operator_of-operator-in-Exponent.result (rw c.in-Exponent.is at h) c.in-Some-take-2.ensures.some.0 c.in-Some-take-2.ensures.some.1 (search rules) (search rules) (search rules) (search rules) (search rules)

pub returns-in_ok-hold-in-Operand-clause-stands : goal.returns-in_ok-hold-in-Operand-clause-stands
returns-in_ok-hold-in-Operand-clause-stands c = λ ts h.
    joins c.args.self.now.references _ ts c.args.self.now.rest.now _ c.args.self.now.todo.items _ c.args.self.now.steps.items _ c.args.self.now.start c.in-Operand.start _ c.in-Operand.operator (rw c.in-Operand.is at h) (search rules) (search rules) (search rules) (search rules) (search rules)

pub returns-in_ok-hold-in-Signed-clause-stands : goal.returns-in_ok-hold-in-Signed-clause-stands
returns-in_ok-hold-in-Signed-clause-stands c = λ ts h.
    signs c.args.self.now.references _ ts c.args.self.now.rest.now _ c.args.self.now.todo.items _ c.args.self.now.steps.items _ c.args.self.now.start c.in-Signed.place _ c.in-Signed.sign (rw c.in-Signed.is at h) (search rules) (search rules) (search rules) (search rules) (search rules)

pub returns-in-Some-take-3-clause-stands : goal.returns-in-Some-take-3-clause-stands
returns-in-Some-take-3-clause-stands c = λ ts h.
    parenthesis_ends c.args.self.now.references _ ts c.args.self.now.rest.now _ c.in-Some-take-3.field-0.now c.args.self.now.todo.items _ c.args.self.now.steps.items _ c.args.self.now.start c.in-Parenthesized.place _ (rw c.in-Parenthesized.is at h) c.in-Some-take-3.ensures.some.0 c.in-Some-take-3.ensures.some.1 (search rules) (search rules) (search rules) (search rules)

pub returns-in_ok-hold-in-Argument-clause-stands : goal.returns-in_ok-hold-in-Argument-clause-stands
returns-in_ok-hold-in-Argument-clause-stands c = λ ts h.
    argument_ends c.args.self.now.references _ ts c.args.self.now.rest.now _ c.in-Some-take-4.field-0.now c.args.self.now.todo.items _ c.args.self.now.steps.items _ c.args.self.now.start c.in-Argument.place _ c.in-Argument.function (rw c.in-Argument.is at h) (search rules) c.in-Some-take-4.ensures.some.1 (search rules) (search rules) (search rules) (search rules)
