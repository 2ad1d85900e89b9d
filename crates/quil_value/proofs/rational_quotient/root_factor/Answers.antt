use Rattle.std.proofs.Common.{◌∙◌, sym, ap, ℕ, ◌-◌, ◌/◌, ◌≤◌, arith}
use Rattle.qvm_ring.specs.Ring.{times, whole_number}
use Rattle.quil_value.specs.Exact.{root_power}
use Rattle.quil_value.proofs.RationalQuotients.{power_up, power_down, shifted, shifted_bound}
use Rattle.quil_value.proofs.rational_quotient.root_factor.Goals as goal

pub returns-then-n-m-clause-value : goal.returns-then-n-m-clause-value
returns-then-n-m-clause-value c =
    let bound : (c.args.n - c.args.m) / 2 ≤ 62 = omega (arith, c.requires.numerator) in
    let less : c.args.m ≤ c.args.n = c.if-n-m.true in
    power_up c.args.n c.args.m less c.requires.parity
    ∙ ap (λ (k : ℕ). times (whole_number k) (root_power c.args.m)) (sym (shifted ((c.args.n - c.args.m) / 2) bound))

pub returns-then-n-m-clause-up : goal.returns-then-n-m-clause-up
returns-then-n-m-clause-up c = shifted_bound ((c.args.n - c.args.m) / 2) (omega (arith, c.requires.numerator))

pub returns-else-n-m-clause-value : goal.returns-else-n-m-clause-value
returns-else-n-m-clause-value c =
    let bound : (c.args.m - c.args.n) / 2 ≤ 62 = omega (arith, c.requires.denominator) in
    let less : c.args.n ≤ c.args.m = omega (arith, c.if-n-m.false) in
    ap (λ (k : ℕ). times (whole_number k) (root_power c.args.n)) (shifted ((c.args.m - c.args.n) / 2) bound)
    ∙ power_down c.args.n c.args.m less c.requires.parity

pub returns-else-n-m-clause-down : goal.returns-else-n-m-clause-down
returns-else-n-m-clause-down c = shifted_bound ((c.args.m - c.args.n) / 2) (omega (arith, c.requires.denominator))
