use Rattle.std.proofs.Common.{refl, ◌∙◌, ap, arith}
use Rattle.std.proofs.lemmas.List.{map-set, length-map}
use Rattle.qvm_ring.specs.Ring.{nought, unit}
use Rattle.qvm_ring.specs.Views.{map_of, element_of, elements_of}
use Rattle.qvm_ring.proofs.Lists.{Changes-next}
use Rattle.qvm_ring.proofs.States.{zero_listed}
use Rattle.qvm_ring.proofs.ray.keep_zero.Goals as goal

pub loop-amplitude-preserved : goal.loop-amplitude-preserved
loop-amplitude-preserved c =
    Changes-next element_of (λ x z. nought) (elements_of c.args.list.now) c.loop-amplitude.list _ c.loop-amplitude.amplitude-index _ refl (omega arith) refl c.loop-amplitude.invariant

pub returns-clause-value : goal.returns-clause-value
returns-clause-value c =
    ap map_of (map-set element_of c.loop-amplitude.list 0 _)
    ∙ zero_listed (elements_of c.loop-amplitude.list) unit (omega (arith, length-map c.loop-amplitude.list element_of)) refl
    (λ x l. c.loop-amplitude.invariant.done x (omega (arith, l, length-map c.loop-amplitude.list element_of)))
