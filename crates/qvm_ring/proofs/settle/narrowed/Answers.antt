use Rattle.std.proofs.Common.{subst, ◌^◌, arith}
use Rattle.std.proofs.lemmas.List.{length-map}
use Rattle.qvm_ring.specs.Views.{wide_element, wide_elements_of, IsBelow}
use Rattle.qvm_ring.proofs.Lists.{at_map, All_at}
use Rattle.qvm_ring.proofs.settle.narrowed.Goals as goal

pub narrow-requires : goal.narrow-requires
narrow-requires c =
    subst (IsBelow (2 ^ 62)) (at_map wide_element c.args.list.now c.loop-z.z-index _ c.loop-z-test.true)
    (All_at (IsBelow (2 ^ 62)) (wide_elements_of c.args.list.now) c.loop-z.z-index c.requires (omega (arith, c.loop-z-test.true, length-map c.args.list.now wide_element)))
