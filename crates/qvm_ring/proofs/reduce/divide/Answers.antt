use Rattle.std.proofs.Common.{refl, sym, ◌∙◌, ap, subst, map, arith}
use Rattle.std.proofs.lemmas.List.{length-map}
use Rattle.qvm_ring.specs.Ring.{quotient}
use Rattle.qvm_ring.specs.Views.{IsBelow}
use Rattle.qvm_ring.proofs.Lists.{All_at, Changes-here, Changes-next}
use Rattle.qvm_ring.proofs.Halving.{divided_end}
use Rattle.qvm_ring.proofs.reduce.divide.Goals as goal

pub quotient-requires : goal.quotient-requires
quotient-requires g c =
    let m = c.loop-z.invariant in
    let here = Changes-here g.Z.Number.element (λ x z. quotient z) (map g.Z.Number.element c.args.list.now) c.loop-z.list c.loop-z.z-index c.z-item.result (omega arith) m in
    subst (IsBelow g.Z.Number.limit) (sym here)
    (All_at (IsBelow g.Z.Number.limit) (map g.Z.Number.element c.args.list.now) c.loop-z.z-index c.requires
    (omega (arith, m.same_length, length-map c.loop-z.list g.Z.Number.element)))

pub loop-z-preserved : goal.loop-z-preserved
loop-z-preserved g c =
    let m = c.loop-z.invariant in
    let here = Changes-here g.Z.Number.element (λ x z. quotient z) (map g.Z.Number.element c.args.list.now) c.loop-z.list c.loop-z.z-index c.z-item.result (omega arith) m in
    Changes-next g.Z.Number.element (λ x z. quotient z) (map g.Z.Number.element c.args.list.now) c.loop-z.list _ c.loop-z.z-index c.quotient.result refl (omega arith)
    (c.quotient.ensures ∙ ap quotient here) m

pub returns : goal.returns
returns g c =
    divided_end (map g.Z.Number.element c.args.list.now) (map g.Z.Number.element c.loop-z.list) c.loop-z.z-index
    (omega (arith, length-map c.loop-z.list g.Z.Number.element)) c.loop-z.invariant
