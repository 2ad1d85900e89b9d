use Rattle.std.proofs.Common.{rules, ◌∙◌, ap, ℤ, arith}
use Rattle.std.specs.Int.{w128}
use Rattle.std.proofs.lemmas.Int.{to_z-of_z}
use Rattle.qvm_ring.specs.Ring.{times}
use Rattle.qvm_ring.specs.Views.{wide_element}
use Rattle.qvm_ring.proofs.RingLemmas.{same_element}
use Rattle.quil_value.specs.RealNumbers.{real_number}
use Rattle.quil_value.proofs.LoneProducts.{turned_is}
use Rattle.quil_value.proofs.parts.turned.Goals as goal

pub returns-clause-value : goal.returns-clause-value
returns-clause-value c =
    same_element _ _ (search rules) (search rules) (search rules) (search rules)
    ∙ turned_is c.args.n (wide_element c.args.z) (wide_element c.scaled-w.result)
    (c.scaled-w.ensures.value ∙ ap (λ (p : ℤ). times (real_number p) (wide_element c.args.z)) (to_z-of_z w128 c.args.n c.ranges.n))
