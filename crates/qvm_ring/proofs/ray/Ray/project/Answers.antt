use Rattle.std.proofs.Common.{sym, subst, List, arith}
use Rattle.qvm_ring.specs.declared.amp.Amp.{Amp}
use Rattle.qvm_ring.specs.Views.{elements_of}
use Rattle.qvm_ring.specs.Vector.{IsVector}
use Rattle.qvm_ring.proofs.States.{few_of, IsVector-written}
use Rattle.qvm_ring.proofs.ray.Ray.project.Goals as goal

pub project-requires-clause-few : goal.project-requires-clause-few
project-requires-clause-few c = few_of c.self.inside.qubits c.self.inside.amplitudes.items _ c.deref_mut.ensures.value c.self.invariant

pub invariant_of-self : goal.invariant_of-self
invariant_of-self c =
    IsVector-written c.self.inside.qubits c.self.inside.amplitudes.len c.project.new.list _ (omega (arith, c.project.auto.list, c.deref_mut.ensures.len))
    (c.project.ensures.vector c.self.inside.qubits (subst (λ (l : List Amp). IsVector c.self.inside.qubits (elements_of l)) (sym c.deref_mut.ensures.value) c.self.invariant))
