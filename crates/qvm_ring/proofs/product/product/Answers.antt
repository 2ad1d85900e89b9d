use Rattle.std.proofs.Common.{List, ◌+◌, ◌^◌, subst, sym, arith}
use Rattle.qvm_ring.specs.declared.wide.Wide.{Wide}
use Rattle.qvm_ring.specs.Gate.{product_at}
use Rattle.qvm_ring.specs.Views.{elements_of, map_of}
use Rattle.qvm_ring.specs.Table.{table_gate}
use Rattle.qvm_ring.proofs.WideLists.{HasValues, values_push, values_end}
use Rattle.qvm_ring.proofs.product.product.Goals as goal

pub loop-basis-preserved : goal.loop-basis-preserved
loop-basis-preserved c =
    let f = product_at (table_gate c.args.table.now) c.args.qubits.now (map_of (elements_of c.args.amplitudes.now)) in
    subst (λ (ws : List Wide). HasValues f ws (c.loop-basis.basis + 1)) (sym {A = List Wide} c.in_ok-push.ensures.items)
    (values_push f c.loop-basis.sums.items c.loop-basis.basis c.row_sum.result c.loop-basis.invariant c.row_sum.ensures.value c.row_sum.ensures.bound)

pub returns-clause-value : goal.returns-clause-value
returns-clause-value c = values_end (product_at (table_gate c.args.table.now) c.args.qubits.now (map_of (elements_of c.args.amplitudes.now))) c.loop-basis.sums.items c.loop-basis.basis (2 ^ c.args.width)
    c.loop-basis.invariant (omega (arith, c.loop-basis-test.false, c.loop-basis.auto.basis-end, c.requires.count))
