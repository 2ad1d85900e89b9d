use Rattle.std.proofs.Common.{true}
use Rattle.quil_parse.specs.Steps.{so_far}
use Rattle.quil_parse.proofs.Lines.{body_ok, body_err, misplaced_at, stands_nowhere}
use Rattle.quil_parse.proofs.items.push_body.Goals as goal

pub returns-in-Some-clause-ok : goal.returns-in-Some-clause-ok
returns-in-Some-clause-ok c = body_ok c.push_body_line.result c.in-Some.item c.push_body_line.new.item c.args.items.now.last c.args.items.now.before c.args.tokens.now c.in-Some.is c.push_body_line.ensures.ok

pub returns-in-Some-clause-err : goal.returns-in-Some-clause-err
returns-in-Some-clause-err c = body_err c.push_body_line.result c.in-Some.item c.args.items.now.last c.args.items.now.before c.args.tokens.now c.args.end c.in-Some.is c.push_body_line.ensures.err

pub returns-in-None-clause-err : goal.returns-in-None-clause-err
returns-in-None-clause-err c = misplaced_at (so_far c.args.items.now) true c.args.tokens.now c.args.end c.misplaced.result c.fault_at.result (stands_nowhere c.args.items.now.last c.args.items.now.before c.in-None.is) c.misplaced.ensures c.fault_at.ensures
