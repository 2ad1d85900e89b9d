use Rattle.std.proofs.Common.{◌-◌, length, arith}
use Rattle.quil_grammar.proofs.Ends.{last_end}
use Rattle.quil_grammar.proofs.tokens.end_of.Goals as goal

pub returns-in-Some : goal.returns-in-Some
returns-in-Some c =
    let item = rw c.deref.ensures.value at c.in-Some.ensures.item in
    let n = length c.args.text.now.segments.items in
    last_end c.args.text.now.segments.items (n - 1) c.in-Some.segment.now (omega (arith, item.3.0)) item.1
