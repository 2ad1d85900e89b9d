use Rattle.std.proofs.Common.{rules, ◌≡◌, sym, ◌∙◌, suc, ◌≤◌, Err}
use Rattle.quil_value.specs.Exact.{product_of}
use Rattle.quil_value.proofs.Repeated.{next_power, power_ends}
use Rattle.quil_value.proofs.whole_power.repeated.Goals as goal

pub returns-in_err-power : goal.returns-in_err-power
returns-in_err-power c =
    let lack = c.in_err-power.field-0.0 in
    let p : product_of c.loop-turn.power c.args.x.now ≡ Err lack = sym c.product.ensures ∙ c.in_err-power.was in
    let r : c.from_residual.result ≡ Err lack = search rules in
    let l : suc c.loop-turn._turn ≤ c.args.n = search rules in
    r ∙ sym (power_ends c.args.x.now c.loop-turn.power c.loop-turn._turn c.args.n lack l c.loop-turn.invariant p)

pub loop-turn-preserved : goal.loop-turn-preserved
loop-turn-preserved c =
    next_power c.args.x.now c.loop-turn.power c.loop-turn._turn c.loop-turn.invariant ∙ sym c.product.ensures ∙ c.in_ok-power.was
