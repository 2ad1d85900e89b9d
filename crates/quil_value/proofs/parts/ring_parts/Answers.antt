use Rattle.std.proofs.Common.{◌≡◌, ◌∙◌, ◌+◌, ◌*◌, ◌/◌, ◌^◌, sym, ap, subst, ℕ, suc, arith, pos}
use Rattle.qvm_ring.specs.Views.{wide_element}
use Rattle.quil_value.specs.Exact.{Ring}
use Rattle.quil_value.specs.Views.{AreParts}
use Rattle.quil_value.proofs.SmallParts.{even_parts, odd_parts}
use Rattle.quil_value.proofs.parts.ring_parts.Goals as goal

pub returns-then-x-eq0-clause-parts : goal.returns-then-x-eq0-clause-parts
returns-then-x-eq0-clause-parts c =
    let m = c.args.x.m in
    let half : m ≡ 2 * (m / 2) = omega (arith, c.if-x-eq0.true) in
    subst (λ (n : ℕ). AreParts (Ring (wide_element c.args.x.num) m) (wide_element c.args.x.num) n (pos 0)) (sym c.power_of_two.ensures.value)
    (even_parts (wide_element c.args.x.num) m (m / 2) c.requires half)

pub returns-else-x-eq0-clause-parts : goal.returns-else-x-eq0-clause-parts
returns-else-x-eq0-clause-parts c =
    let m = c.args.x.m in
    let half : m ≡ suc (2 * (m / 2)) = omega (arith, c.if-x-eq0.false) in
    let next : m / 2 + 1 ≡ suc (m / 2) = omega arith in
    subst (λ (n : ℕ). AreParts (Ring (wide_element c.args.x.num) m) (wide_element c.rooted.result) n (pos 0)) (sym (c.power_of_two-else-x-eq0.ensures.value ∙ ap (λ (i : ℕ). 2 ^ i) next))
    (odd_parts (wide_element c.args.x.num) (wide_element c.rooted.result) m (m / 2) c.requires half c.rooted.ensures.value)
