use Rattle.std.proofs.Common.{rules, sym, subst, ◌^◌}
use Rattle.qvm_ring.specs.Ring.{Element}
use Rattle.qvm_ring.specs.Views.{wide_element}
use Rattle.qvm_ring.specs.Multiply.{IsWithin}
use Rattle.quil_value.proofs.Directions.{rooted_within, value_within}
use Rattle.quil_value.proofs.whole_power.direction.Goals as goal

pub returns-in-Ring-2-clause-bound : goal.returns-in-Ring-2-clause-bound
returns-in-Ring-2-clause-bound c =
    let z = wide_element c.in-Ring.x.num in
    subst (IsWithin (2 ^ 63)) (sym c.rooted.ensures.value) (rooted_within z (value_within z c.in-Ring.x.m (search rules)))
