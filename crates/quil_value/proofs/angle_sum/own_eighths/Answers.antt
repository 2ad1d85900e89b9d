use Rattle.std.proofs.Common.{◌≡◌, ◌<◌, le_trans, rules}
use Rattle.quil_number.specs.Fraction.{lowest}
use Rattle.quil_value.proofs.Denominators.{lowest_some, lowest_smaller}
use Rattle.quil_value.proofs.angle_sum.own_eighths.Goals as goal

pub returns-clause-some : goal.returns-clause-some
returns-clause-some c =
    let some : 0 < c.own-own.result.q = rw c.own-own.ensures.own c.own-own.ensures.form.own.form.some in
    rw c.lowest.ensures (lowest_some _ c.own-own.result.q some)

pub returns-clause-bound : goal.returns-clause-bound
returns-clause-bound c =
    let e : c.lowest.result ≡ lowest c.fourfold.result c.own-own.result.q = search rules in
    rw e (le_trans (lowest_smaller c.fourfold.result c.own-own.result.q) c.fourfold.ensures.bound)
