use Rattle.std.proofs.Common.{false, sym, ◌∙◌}
use Rattle.std.proofs.lemmas.Result.{IfOk-at_ok}
use Rattle.quil_parse.specs.Steps.{so_far}
use Rattle.quil_parse.proofs.Lines.{from_err, misplaced_at, lacks_line, item_refused, item_added}
use Rattle.quil_parse.proofs.items.push_item.Goals as goal

pub returns-then-wants_body-clause-err : goal.returns-then-wants_body-clause-err
returns-then-wants_body-clause-err c =
    misplaced_at (so_far c.args.items.now) false c.args.tokens.now c.args.end c.misplaced.result c.fault_at.result (lacks_line (so_far c.args.items.now) (sym c.wants_body.ensures ∙ c.if-wants_body.true)) c.misplaced.ensures c.fault_at.ensures

pub returns-in_err-item-clause-err : goal.returns-in_err-item-clause-err
returns-in_err-item-clause-err c =
    from_err _ _ _ c.from_residual.ensures.1
    (item_refused (so_far c.args.items.now) c.args.tokens.now c.read_item-found.result.1.now c.args.end c.read_item-found.result.0 c.in_err-item.field-0.0 (sym c.wants_body.ensures ∙ c.if-wants_body.false) c.read_item-found.ensures.ok c.read_item-found.ensures.err c.in_err-item.ensures.err)

pub returns-clause-ok : goal.returns-clause-ok
returns-clause-ok c =
    let ok = c.in_ok-item.ensures.ok in
    item_added (so_far c.args.items.now) (so_far c.push.new.self) c.args.tokens.now c.read_item-found.result.1.now c.in_ok-item.item (sym c.wants_body.ensures ∙ c.if-wants_body.false) (IfOk-at_ok _ ok.0 c.read_item-found.ensures.ok) ok.1 c.in_ok-push.ensures
