use Rattle.std.proofs.Common.{sym, length, arith}
use Rattle.std.proofs.lemmas.List.{length-map}
use Rattle.qvm_ring.specs.Views.{at, element_of, elements_of}
use Rattle.qvm_ring.proofs.Lists.{at_map}
use Rattle.qvm_ring.proofs.NormLoops.{Adds-room, Adds-next}
use Rattle.qvm_ring.proofs.sums.norm.Goals as goal

pub add-requires-clause-room : goal.add-requires-clause-room
add-requires-clause-room c =
    Adds-room (length (elements_of c.args.list.now)) (at (elements_of c.args.list.now)) c.loop-amplitude.amplitude-index _ c.loop-amplitude.sum
    (omega (arith, c.loop-amplitude-test.true, length-map c.args.list.now element_of))
    (sym (at_map element_of c.args.list.now c.loop-amplitude.amplitude-index _ c.loop-amplitude-test.true)) c.requires c.loop-amplitude.invariant

pub loop-amplitude-preserved : goal.loop-amplitude-preserved
loop-amplitude-preserved c =
    Adds-next (at (elements_of c.args.list.now)) c.loop-amplitude.amplitude-index _ c.loop-amplitude.sum c.add.new.self
    (sym (at_map element_of c.args.list.now c.loop-amplitude.amplitude-index _ c.loop-amplitude-test.true)) c.add.ensures.value c.add.ensures.bounds c.loop-amplitude.invariant
