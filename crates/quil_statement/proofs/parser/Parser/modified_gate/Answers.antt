use Rattle.quil_statement.proofs.Gates.{modified_said}
use Rattle.quil_statement.proofs.parser.Parser.modified_gate.Goals as goal

pub returns-then-is_named-clause-ok : goal.returns-then-is_named-clause-ok
returns-then-is_named-clause-ok c =
    modified_said c.more.forks c.args.self.now.tokens.rest.now c.more.self.tokens.rest.now c.more_modifiers.new.self.tokens.rest.now c.named.new.self.tokens.rest.now c.in_ok-place.place c.more.all c.in_ok-next.next c.in_ok-next.is_named c.in_ok-gate.gate c.more.invariant c.if-is_named.true c.in_ok-next.ensures.ok c.in_ok-gate.ensures.ok
