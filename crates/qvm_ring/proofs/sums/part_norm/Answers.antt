use Rattle.std.proofs.Common.{◌≡◌, sym, ◌∙◌, ap, subst, ℕ, ◌+◌, length, arith}
use Rattle.std.proofs.lemmas.List.{length-map}
use Rattle.qvm_ring.specs.Ray.{ray_of}
use Rattle.qvm_ring.specs.Measure.{norm_of}
use Rattle.qvm_ring.specs.Views.{at, element_of, elements_of}
use Rattle.qvm_ring.proofs.Vectors.{kept_at, kept_ray_of}
use Rattle.qvm_ring.proofs.Lists.{at_map}
use Rattle.qvm_ring.proofs.NormLoops.{Adds, Adds-room, Adds-next, Adds-skip, kept_light, kept_at_here, kept_at_other}
use Rattle.qvm_ring.proofs.sums.part_norm.Goals as goal
use Rattle.qvm_ring.proofs.sums.part_norm.Goals.{then-bit_of-bit, else-bit_of-bit}

pub add-requires-clause-room : goal.add-requires-clause-room
add-requires-clause-room c =
    let f = at (elements_of c.args.list.now) in
    Adds-room (length (elements_of c.args.list.now)) (kept_at c.args.qubit c.args.bit f) c.loop-basis.basis _ c.loop-basis.sum
    (omega (arith, c.loop-basis-test.true, length-map c.args.list.now element_of))
    (sym (at_map element_of c.args.list.now c.loop-basis.basis _ c.loop-basis-test.true) ∙ sym (kept_at_here c.args.qubit c.args.bit c.bit_of.result c.loop-basis.basis f c.bit_of.ensures c.if-bit_of-bit.true))
    (kept_light (length (elements_of c.args.list.now)) c.args.qubit c.args.bit f c.requires.bound) c.loop-basis.invariant

pub loop-basis-preserved : goal.loop-basis-preserved
loop-basis-preserved c = elim c.if-bit_of-bit.branch [
  | then-bit_of-bit w ↦
      let f = at (elements_of c.args.list.now) in
      subst (Adds (kept_at c.args.qubit c.args.bit f) (c.loop-basis.basis + 1)) (sym w.sum-is)
      (Adds-next (kept_at c.args.qubit c.args.bit f) c.loop-basis.basis _ c.loop-basis.sum w.add.new.self
      (sym (at_map element_of c.args.list.now c.loop-basis.basis _ c.loop-basis-test.true) ∙ sym (kept_at_here c.args.qubit c.args.bit c.bit_of.result c.loop-basis.basis f c.bit_of.ensures w.if-bit_of-bit.true))
      w.add.ensures.value w.add.ensures.bounds c.loop-basis.invariant)
  | else-bit_of-bit w ↦
      let f = at (elements_of c.args.list.now) in
      Adds-skip (kept_at c.args.qubit c.args.bit f) c.loop-basis.basis c.loop-basis.sum _
      (kept_at_other c.args.qubit c.args.bit c.bit_of.result c.loop-basis.basis f c.bit_of.ensures w.if-bit_of-bit.false) w.sum-is c.loop-basis.invariant
]

pub returns-clause-value : goal.returns-clause-value
returns-clause-value c =
    let f = at (elements_of c.args.list.now) in
    let n = length (elements_of c.args.list.now) in
    let e : c.loop-basis.basis ≡ n = omega (arith, c.loop-basis-test.false, c.loop-basis.auto.basis-end, length-map c.args.list.now element_of) in
    c.loop-basis.invariant.seen ∙ ap norm_of (ap (λ (k : ℕ). ray_of k (kept_at c.args.qubit c.args.bit f)) e ∙ sym (kept_ray_of n c.args.qubit c.args.bit f))
