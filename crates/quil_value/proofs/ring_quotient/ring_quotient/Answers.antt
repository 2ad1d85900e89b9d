use Rattle.std.proofs.Common.{◌∙◌, sym, ap, Result, Ok}
use Rattle.qvm_ring.specs.Views.{wide_element}
use Rattle.quil_value.specs.declared.lack.Lack.{Lack}
use Rattle.quil_value.specs.Exact.{Exact}
use Rattle.quil_value.proofs.QuotientBounds.{within_number, zero_divisor, zero_dividend}
use Rattle.quil_value.proofs.ring_quotient.ring_quotient.Goals as goal

pub returns-then-is_zero : goal.returns-then-is_zero
returns-then-is_zero c =
    sym (zero_divisor (wide_element c.args.x.num) c.args.x.m (wide_element c.args.y.num) c.args.y.m (sym c.is_zero.ensures ∙ c.if-is_zero.true))

pub returns-then-is_zero-2 : goal.returns-then-is_zero-2
returns-then-is_zero-2 c =
    ap (λ (w : Exact). (let r : Result Exact Lack = Ok w in r)) c.new.ensures
    ∙ sym (zero_dividend (wide_element c.args.x.num) c.args.x.m (wide_element c.args.y.num) c.args.y.m (sym c.is_zero-2.ensures ∙ c.if-is_zero-2.true) (sym c.is_zero.ensures ∙ c.if-is_zero.false)
    (within_number (wide_element c.args.x.num) c.args.x.m c.requires.left.within))
