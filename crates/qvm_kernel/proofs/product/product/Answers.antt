use Rattle.std.proofs.Common.{◌∙◌, ap, ℕ, List, ◌+◌, ◌^◌, subst, sym, arith}
use Rattle.qvm_ring.specs.declared.wide.Wide.{Wide}
use Rattle.qvm_ring.specs.Gate.{product_at}
use Rattle.qvm_ring.proofs.WideLists.{HasValues, values_push, values_end}
use Rattle.quil_code.specs.Acts.{act_gate, qubits_of}
use Rattle.qvm_kernel.proofs.Pieces.{act_some}
use Rattle.qvm_kernel.proofs.product.product.Goals as goal

pub loop-basis-preserved : goal.loop-basis-preserved
loop-basis-preserved c =
    let f = product_at (act_gate c.args.act.now) (qubits_of c.args.act.now) c.args.ray.now.amplitudes in
    subst (λ (ws : List Wide). HasValues f ws (c.loop-basis.basis + 1)) (sym {A = List Wide} c.in_ok-push.ensures.items)
    (values_push f c.loop-basis.sums.items c.loop-basis.basis c.sum_at.result c.loop-basis.invariant c.sum_at.ensures.value c.sum_at.ensures.bound)

pub returns-clause-value : goal.returns-clause-value
returns-clause-value c =
    values_end (product_at (act_gate c.args.act.now) (qubits_of c.args.act.now) c.args.ray.now.amplitudes) c.loop-basis.sums.items c.loop-basis.basis (2 ^ c.args.ray.now.qubits) c.loop-basis.invariant
    (omega (arith, c.loop-basis-test.false, c.loop-basis.auto.basis-end, c.count-size.ensures, ap (λ (n : ℕ). 2 ^ n) c.qubits.ensures.value))

pub returns-clause-some : goal.returns-clause-some
returns-clause-some c = λ e. act_some c.args.ray.now c.args.act.now c.qubits.ensures.kept c.controls-controls.ensures.form c.requires (sym (returns-clause-value c) ∙ e)
