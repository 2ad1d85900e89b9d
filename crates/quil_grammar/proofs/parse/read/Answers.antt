use Rattle.std.proofs.Common.{rules}
use Rattle.quil_lex.specs.Reading.{spans_of}
use Rattle.quil_grammar.proofs.Verdicts.{tells_found, tells_left, tells_unexpected, tells_large}
use Rattle.quil_grammar.proofs.parse.read.Goals as goal

pub returns-then-is_empty : goal.returns-then-is_empty
returns-then-is_empty c =
    let read = rw c.in-Ok.is at c.expression-found.ensures.ok in
    tells_found c.args.text.now (spans_of c.in_ok-lexemes.lexemes) c.deref.result.now c.expression-found.result.1.now c.end_of-end.result c.in_ok-lexemes.ensures.found c.in_ok-lexemes.ensures.only (search rules) c.end_of-end.ensures c.in-Ok.expr read (search rules)

pub returns-in-Ok : goal.returns-in-Ok
returns-in-Ok c =
    let read = rw c.in-Ok.is at c.expression-found.ensures.ok in
    tells_left c.args.text.now (spans_of c.in_ok-lexemes.lexemes) c.deref.result.now c.expression-found.result.1.now c.end_of-end.result c.in_ok-lexemes.ensures.found c.in_ok-lexemes.ensures.only (search rules) c.end_of-end.ensures c.in-Ok.expr c.refusal.result read (search rules) (search rules)

pub returns-in-Err-Unexpected : goal.returns-in-Err-Unexpected
returns-in-Err-Unexpected c =
    let stops = rw c.in-Err-Unexpected.is at c.expression-found.ensures.err in
    tells_unexpected c.args.text.now (spans_of c.in_ok-lexemes.lexemes) c.deref.result.now c.expression-found.result.1.now c.end_of-end.result c.in_ok-lexemes.ensures.found c.in_ok-lexemes.ensures.only (search rules) c.end_of-end.ensures c.refusal-in-Err-Unexpected.result c.in-Err-Unexpected.field-0 (search rules) stops (search rules)

pub returns-in-Err-TooLarge : goal.returns-in-Err-TooLarge
returns-in-Err-TooLarge c =
    let stops = rw c.in-Err-TooLarge.is at c.expression-found.ensures.err in
    tells_large c.args.text.now (spans_of c.in_ok-lexemes.lexemes) c.deref.result.now c.expression-found.result.1.now c.end_of-end.result c.in_ok-lexemes.ensures.found c.in_ok-lexemes.ensures.only (search rules) c.end_of-end.ensures c.too_wide.result c.in-Err-TooLarge.field-0 (search rules) stops (search rules)
