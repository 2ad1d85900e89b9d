use Rattle.std.proofs.Common.{◌∙◌, sym, ap, ◌^◌, arith}
use Rattle.qvm_ring.specs.Views.{wide_element}
use Rattle.qvm_ring.proofs.ProductBounds.{within_more}
use Rattle.quil_value.specs.Exact.{bounded}
use Rattle.quil_value.proofs.QuotientBounds.{within_number, within_power}
use Rattle.quil_value.proofs.RationalQuotients.{fraction_found, fraction_none, powers_of}
use Rattle.quil_value.proofs.Words.{same_again, other_again}
use Rattle.quil_value.proofs.Steps.{same_if, other_if}
use Rattle.quil_value.proofs.rational_quotient.rational_quotient.Goals as goal

pub leveled-dividend-requires-clause-number : goal.leveled-dividend-requires-clause-number
leveled-dividend-requires-clause-number c = within_number (wide_element c.args.x.num) c.args.x.m c.requires.left.within

pub pivot-factor-requires-clause-right : goal.pivot-factor-requires-clause-right
pivot-factor-requires-clause-right c = within_number (wide_element c.args.y.num) c.args.y.m c.requires.right.within

pub stretched-right-requires-clause-number : goal.stretched-right-requires-clause-number
stretched-right-requires-clause-number c =
    within_more (2 ^ 62) (2 ^ 63) (wide_element c.args.y.num) (omega arith) (within_number (wide_element c.args.y.num) c.args.y.m c.requires.right.within)

pub root_factor-requires-clause-numerator : goal.root_factor-requires-clause-numerator
root_factor-requires-clause-numerator c = within_power (wide_element c.args.y.num) c.args.y.m c.requires.right.within

pub judged-requires : goal.judged-requires
judged-requires c =
    (fraction_found (wide_element c.args.x.num) c.args.x.m (wide_element c.args.y.num) c.args.y.m (wide_element c.leveled-dividend.result.num) c.leveled-dividend.result.m
    c.pivot-factor.result.p c.pivot-factor.result.q c.root_factor.result.up c.root_factor.result.down c.scaled.result
    c.requires.right_some c.requires.none c.leveled-dividend.ensures.value c.root_factor.ensures.value c.root_factor.ensures.down_some c.pivot-factor.ensures.some
    (same_again (wide_element c.leveled-dividend.result.num) (wide_element c.args.y.num) (wide_element c.stretched-left.result) (wide_element c.stretched-right.result)
    c.pivot-factor.result.p c.pivot-factor.result.q c.stretched-left.ensures c.stretched-right.ensures c.pivot-factor.ensures.numerator c.pivot-factor.ensures.denominator
    (same_if (wide_element c.stretched-left.result) (wide_element c.stretched-right.result) c.if-eq.ensures))
    c.scaled.ensures).form

pub returns-then-eq : goal.returns-then-eq
returns-then-eq c =
    c.judged.ensures ∙ ap bounded (sym (fraction_found (wide_element c.args.x.num) c.args.x.m (wide_element c.args.y.num) c.args.y.m (wide_element c.leveled-dividend.result.num) c.leveled-dividend.result.m
    c.pivot-factor.result.p c.pivot-factor.result.q c.root_factor.result.up c.root_factor.result.down c.scaled.result
    c.requires.right_some c.requires.none c.leveled-dividend.ensures.value c.root_factor.ensures.value c.root_factor.ensures.down_some c.pivot-factor.ensures.some
    (same_again (wide_element c.leveled-dividend.result.num) (wide_element c.args.y.num) (wide_element c.stretched-left.result) (wide_element c.stretched-right.result)
    c.pivot-factor.result.p c.pivot-factor.result.q c.stretched-left.ensures c.stretched-right.ensures c.pivot-factor.ensures.numerator c.pivot-factor.ensures.denominator
    (same_if (wide_element c.stretched-left.result) (wide_element c.stretched-right.result) c.if-eq.ensures))
    c.scaled.ensures).found)

pub returns-else-eq : goal.returns-else-eq
returns-else-eq c =
    let powers = powers_of c.args.y.m c.leveled-dividend.result.m c.leveled-dividend.ensures.parity in
    ap bounded (sym (fraction_none (wide_element c.args.x.num) c.args.x.m (wide_element c.args.y.num) c.args.y.m (wide_element c.leveled-dividend.result.num) c.leveled-dividend.result.m
    c.pivot-factor.result.p c.pivot-factor.result.q powers.up powers.down
    c.requires.left_some c.requires.right_some c.requires.none c.leveled-dividend.ensures.value powers.equal powers.down_some powers.up_some c.pivot-factor.ensures.only
    (other_again (wide_element c.leveled-dividend.result.num) (wide_element c.args.y.num) (wide_element c.stretched-left.result) (wide_element c.stretched-right.result)
    c.pivot-factor.result.p c.pivot-factor.result.q c.stretched-left.ensures c.stretched-right.ensures c.pivot-factor.ensures.numerator c.pivot-factor.ensures.denominator
    (other_if (wide_element c.stretched-left.result) (wide_element c.stretched-right.result) c.if-eq.ensures))))
