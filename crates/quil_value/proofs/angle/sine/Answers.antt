use Rattle.std.proofs.Common.{rules, ◌≡◌, sym, ◌∙◌, ap, ℕ, arith}
use Rattle.std.specs.Prelude.{pos}
use Rattle.qvm_ring.specs.Ring.{Element, plus, negated, times, conjugate}
use Rattle.quil_value.specs.Exact.{least}
use Rattle.quil_value.specs.Angles.{turn, minus_i}
use Rattle.quil_value.proofs.angle.sine.Goals as goal

pub returns-in_default : goal.returns-in_default
returns-in_default c =
    let last : c.eighth.result ≡ 6 = grind (arith, c.in_default, c.eighth.ensures.bound) in
    let value : turn c.args.k ≡ turn (pos c.eighth.result) = search rules in
    c.whole-in_default.ensures ∙ sym (ap (λ (t : Element). least (times minus_i (plus t (negated (conjugate t)))) 2) (value ∙ ap (λ (n : ℕ). turn (pos n)) last))
