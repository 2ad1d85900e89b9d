use Rattle.std.proofs.Common.{rules, ◌≡◌, ◌∙◌, ap, ℕ, arith}
use Rattle.std.specs.Prelude.{pos, ◌<ℤ◌, nat_abs}
use Rattle.std.proofs.lemmas.Int.{ints}
use Rattle.quil_value.specs.Exact.{quotient_of}
use Rattle.quil_value.specs.Table.{one, inverse_power}
use Rattle.quil_value.proofs.Repeated.{negative_power}
use Rattle.quil_value.proofs.whole_power.raised_to.Goals as goal

pub returns-else-n-ge0 : goal.returns-else-n-ge0
returns-else-n-ge0 c =
    let below : c.args.n <ℤ pos 0 = omega (arith, ints, c.if-n-ge0.false) in
    let e : c.unsigned_abs-else-n-ge0.result ≡ nat_abs c.args.n = search rules in
    c.inverse_power.ensures ∙ ap (λ (k : ℕ). inverse_power c.args.x.now k (quotient_of one c.args.x.now)) e ∙ negative_power c.args.x.now c.args.n below
