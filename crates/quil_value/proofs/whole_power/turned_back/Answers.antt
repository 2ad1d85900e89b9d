use Rattle.std.proofs.Common.{rules, ◌≡◌, sym, ◌∙◌, ap, ℕ, arith}
use Rattle.qvm_ring.specs.Ring.{times, conjugate}
use Rattle.qvm_ring.specs.Views.{wide_element}
use Rattle.qvm_ring.proofs.RingLemmas.{same_element}
use Rattle.quil_value.specs.Angles.{power_of_omega}
use Rattle.quil_value.proofs.Directions.{back_0, back_1, back_2, back_3}
use Rattle.quil_value.proofs.whole_power.turned_back.Goals as goal

pub returns-in-0 : goal.returns-in-0
returns-in-0 c =
    let e : 0 ≡ c.args.k = search rules in
    sym (back_0 (wide_element c.args.z)) ∙ ap (λ (k : ℕ). times (wide_element c.args.z) (conjugate (power_of_omega k))) e

pub returns-in-1 : goal.returns-in-1
returns-in-1 c =
    let e : 1 ≡ c.args.k = search rules in
    same_element _ _ (search rules) (search rules) (search rules) (search rules) ∙ sym (back_1 (wide_element c.args.z)) ∙ ap (λ (k : ℕ). times (wide_element c.args.z) (conjugate (power_of_omega k))) e

pub returns-in-2 : goal.returns-in-2
returns-in-2 c =
    let e : 2 ≡ c.args.k = search rules in
    same_element _ _ (search rules) (search rules) (search rules) (search rules) ∙ sym (back_2 (wide_element c.args.z)) ∙ ap (λ (k : ℕ). times (wide_element c.args.z) (conjugate (power_of_omega k))) e

pub returns-in_default : goal.returns-in_default
returns-in_default c =
    let e : 3 ≡ c.args.k = search rules in
    same_element _ _ (search rules) (search rules) (search rules) (search rules) ∙ sym (back_3 (wide_element c.args.z)) ∙ ap (λ (k : ℕ). times (wide_element c.args.z) (conjugate (power_of_omega k))) e
