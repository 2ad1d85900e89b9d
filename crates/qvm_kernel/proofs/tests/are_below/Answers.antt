use Rattle.std.proofs.Common.{sym, subst, ◌<◌, List, All, take, arith}
use Rattle.std.proofs.lemmas.List.{take_all, take_more}
use Rattle.std.proofs.lemmas.List.Elements.{All-push}
use Rattle.qvm_kernel.proofs.tests.are_below.Goals as goal

pub loop-qubit-preserved : goal.loop-qubit-preserved
loop-qubit-preserved c =
    let i = c.loop-qubit.qubit-index in
    subst (λ (qs : List _). All (λ q. q < c.args.count) qs) (sym (take_more c.args.qubits.now i _ c.loop-qubit-test.true))
    (All-push (λ q. q < c.args.count) (take i c.args.qubits.now) _ c.loop-qubit.invariant c.if-qubit-count.false)

pub returns : goal.returns
returns c = λ _. subst (λ (qs : List _). All (λ q. q < c.args.count) qs) (take_all c.loop-qubit.qubit-index c.args.qubits.now (omega (arith, c.loop-qubit-test.false, c.loop-qubit.auto.qubit-index-end))) c.loop-qubit.invariant
