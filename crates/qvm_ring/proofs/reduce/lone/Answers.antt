use Rattle.std.proofs.Common.{rules, ◌≡◌, sym, ◌∙◌, ap, subst, ◌+◌, length, map, true, false, arith}
use Rattle.std.specs.Prelude.{is_some}
use Rattle.std.proofs.lemmas.List.{length-map}
use Rattle.qvm_ring.specs.Ring.{is_zero}
use Rattle.qvm_ring.specs.Views.{at}
use Rattle.qvm_ring.proofs.Lists.{at_map}
use Rattle.qvm_ring.proofs.Lone.{Lone, Lone-skip, Lone-first, Lone-second, Lone-one}
use Rattle.qvm_ring.proofs.reduce.lone.Goals as goal
use Rattle.qvm_ring.proofs.reduce.lone.Goals.{then-not-is_zero+else-is_some, else-not-is_zero}

pub returns-then-is_some-clause-other : goal.returns-then-is_some-clause-other
returns-then-is_some-clause-other g c =
    let zs = map g.Z.Number.element c.args.list.now in
    let z : c.is_zero.result ≡ false = search rules in
    let s : is_some c.loop-place.lone ≡ true = search rules in
    λ _. Lone-second (at zs) (length zs) c.loop-place.place c.loop-place.lone (omega (arith, c.loop-place-test.true, length-map c.args.list.now g.Z.Number.element))
    (ap is_zero (at_map g.Z.Number.element c.args.list.now c.loop-place.place c.index-list-place.result (omega arith)) ∙ (search rules)) s c.loop-place.invariant

pub loop-place-preserved : goal.loop-place-preserved
loop-place-preserved g c = elim c.if-not-is_zero.branch [
  | then-not-is_zero+else-is_some w ↦ subst (Lone (at (map g.Z.Number.element c.args.list.now)) (c.loop-place.place + 1)) (sym w.lone-is)
      (Lone-first (at (map g.Z.Number.element c.args.list.now)) c.loop-place.place c.loop-place.lone
      (ap is_zero (at_map g.Z.Number.element c.args.list.now c.loop-place.place c.index-list-place.result (omega arith)) ∙ (search rules)) (search rules) c.loop-place.invariant)
  | else-not-is_zero w ↦ subst (Lone (at (map g.Z.Number.element c.args.list.now)) (c.loop-place.place + 1)) (sym w.lone-is)
      (Lone-skip (at (map g.Z.Number.element c.args.list.now)) c.loop-place.place c.loop-place.lone
      (ap is_zero (at_map g.Z.Number.element c.args.list.now c.loop-place.place c.index-list-place.result (omega arith)) ∙ (search rules)) c.loop-place.invariant)
]

pub returns-clause-one : goal.returns-clause-one
returns-clause-one g c =
    Lone-one (map g.Z.Number.element c.args.list.now) c.loop-place.place c.loop-place.lone
    (omega (arith, c.loop-place-test.false, c.loop-place.auto.place-end, length-map c.args.list.now g.Z.Number.element)) c.loop-place.invariant
