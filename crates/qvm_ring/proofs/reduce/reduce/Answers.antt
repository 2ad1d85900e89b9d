use Rattle.std.proofs.Common.{sym, ◌∙◌}
use Rattle.qvm_ring.proofs.Halving.{Reduces-step, Reduces-end, lighter}
use Rattle.qvm_ring.proofs.reduce.reduce.Goals as goal

pub loop-list-smaller : goal.loop-list-smaller
loop-list-smaller g c = lighter _ _ c.divide.ensures (sym c.is_divisible.ensures ∙ c.loop-list-test.true) c.loop-list.invariant.some

pub loop-list-preserved : goal.loop-list-preserved
loop-list-preserved g c = Reduces-step g.Z.Number.limit _ _ _ c.divide.ensures (sym c.is_divisible.ensures ∙ c.loop-list-test.true) c.loop-list.invariant

pub returns-clause-value : goal.returns-clause-value
returns-clause-value g c =
    c.set_lone_to_one.ensures.value ∙ Reduces-end g.Z.Number.limit _ _ (sym c.is_divisible.ensures ∙ c.loop-list-test.false) c.loop-list.invariant
