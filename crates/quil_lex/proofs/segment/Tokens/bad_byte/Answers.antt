use Rattle.std.proofs.Common.{◌-◌, length, ap, sym, ◌∙◌, arith}
use Rattle.quil_lex.specs.Reading.{bad_byte}
use Rattle.quil_lex.proofs.Readings.{last_bad, no_bad}
use Rattle.quil_lex.proofs.segment.Tokens.bad_byte.Goals as goal

pub returns-in-BadToken : goal.returns-in-BadToken
returns-in-BadToken c =
    let item = rw c.deref.ensures.value at c.in_ok-last.ensures.item in
    let n = length c.args.self.now.segments.items in
    sym (ap (bad_byte c.in_ok-last.last.now.line) c.in-BadToken.is) ∙ last_bad c.args.self.now.segments.items (n - 1) c.in_ok-last.last.now (omega (arith, item.3.0)) item.1

pub returns-in_default : goal.returns-in_default
returns-in_default c =
    let item = rw c.deref.ensures.value at c.in_ok-last.ensures.item in
    let n = length c.args.self.now.segments.items in
    no_bad c.in_ok-last.last.now.line c.in_ok-last.last.now.end c.in_default.not-BadToken ∙ last_bad c.args.self.now.segments.items (n - 1) c.in_ok-last.last.now (omega (arith, item.3.0)) item.1
