use Rattle.std.proofs.Common.{sym, ◌∙◌, subst, ◌+◌, ◌==◌, List, length, arith}
use Rattle.std.specs.Prelude.{if◌then◌else◌}
use Rattle.std.proofs.lemmas.List.{length-map}
use Rattle.qvm_ring.specs.declared.amp.Amp.{Amp}
use Rattle.qvm_ring.specs.Ring.{nought}
use Rattle.qvm_ring.specs.Gate.{bit_of}
use Rattle.qvm_ring.specs.Views.{at, element_of, elements_of}
use Rattle.qvm_ring.proofs.Vectors.{kept_ray_of}
use Rattle.qvm_ring.proofs.Lists.{Changes, Changes-next, Changes-skip, Changes-end}
use Rattle.qvm_ring.proofs.NormLoops.{kept_at_here, kept_at_other}
use Rattle.qvm_ring.proofs.ray.measure.keep.Goals as goal
use Rattle.qvm_ring.proofs.ray.measure.keep.Goals.{then-bit_of-bit, else-bit_of-bit}

pub loop-basis-preserved : goal.loop-basis-preserved
loop-basis-preserved c = elim c.if-bit_of-bit.branch [
  | then-bit_of-bit w ↦ (
    omega (arith, c.if-bit_of-bit.auto.list, c.loop-basis.invariant.0),
    Changes-next element_of (λ x z. if bit_of x c.args.qubit == c.args.bit then z else nought) (elements_of c.args.list.now) c.loop-basis.list _ c.loop-basis.basis _ w.list-is
        (omega (arith, c.loop-basis-test.true, c.loop-basis.invariant.0))
        (sym (kept_at_other c.args.qubit c.args.bit c.bit_of.result c.loop-basis.basis (at (elements_of c.args.list.now)) c.bit_of.ensures w.if-bit_of-bit.true)) c.loop-basis.invariant.1,
  )
  | else-bit_of-bit w ↦ (
    omega (arith, c.if-bit_of-bit.auto.list, c.loop-basis.invariant.0),
    subst (λ (l : List Amp). Changes (λ x z. if bit_of x c.args.qubit == c.args.bit then z else nought) (elements_of c.args.list.now) (elements_of l) (c.loop-basis.basis + 1)) (sym w.list-is)
        (Changes-skip (λ x z. if bit_of x c.args.qubit == c.args.bit then z else nought) (elements_of c.args.list.now) (elements_of c.loop-basis.list) c.loop-basis.basis
        (kept_at_here c.args.qubit c.args.bit c.bit_of.result c.loop-basis.basis (at (elements_of c.args.list.now)) c.bit_of.ensures w.if-bit_of-bit.false) c.loop-basis.invariant.1),
  )
]

pub returns-clause-value : goal.returns-clause-value
returns-clause-value c =
    Changes-end (λ x z. if bit_of x c.args.qubit == c.args.bit then z else nought) (elements_of c.args.list.now) (elements_of c.loop-basis.list) c.loop-basis.basis
    (omega (arith, c.loop-basis-test.false, c.loop-basis.invariant.0, length-map c.loop-basis.list element_of)) c.loop-basis.invariant.1
    ∙ sym (kept_ray_of (length (elements_of c.args.list.now)) c.args.qubit c.args.bit (at (elements_of c.args.list.now)))
