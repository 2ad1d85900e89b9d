use Rattle.std.proofs.Common.{sym, ◌∙◌, subst, ◌^◌, List, arith}
use Rattle.std.specs.Prelude.{All}
use Rattle.qvm_ring.specs.declared.amp.Amp.{Amp}
use Rattle.qvm_ring.specs.Views.{elements_of, IsBelow}
use Rattle.qvm_ring.proofs.States.{light_below, IsVector-written, IsVector-copied}
use Rattle.qvm_ring.proofs.ray.Ray.of.Goals as goal

pub reduce-requires-clause-small : goal.reduce-requires-clause-small
reduce-requires-clause-small c =
    subst (λ (l : List Amp). All (IsBelow (2 ^ 62)) (elements_of l)) (sym (c.deref_mut.ensures.value ∙ c.in_ok-amplitudes.ensures.items))
    (light_below (elements_of c.args.amplitudes.now) c.requires.light)

pub invariant_of-result : goal.invariant_of-result
invariant_of-result c =
    IsVector-written c.qubits_of-qubits.result c.in_ok-amplitudes.amplitudes.len c.reduce.new.list _ (omega (arith, c.reduce.ensures.length, c.deref_mut.ensures.len))
    (IsVector-copied c.qubits_of-qubits.result c.args.amplitudes.now c.deref_mut.result.now c.reduce.new.list c.qubits_of-qubits.ensures.few c.qubits_of-qubits.ensures.exact
    (c.deref_mut.ensures.value ∙ c.in_ok-amplitudes.ensures.items) c.reduce.ensures.length c.requires.some c.requires.light c.reduce.ensures.value)
