use Rattle.std.proofs.Common.{sym, subst, ◌^◌, ◌≤◌, List}
use Rattle.qvm_ring.specs.declared.amp.Amp.{Amp}
use Rattle.qvm_ring.specs.Ray.{weight, weight_limit}
use Rattle.qvm_ring.specs.Views.{elements_of, map_of, IsBelow}
use Rattle.qvm_ring.proofs.Applied.{light_amplitude}
use Rattle.qvm_ring.proofs.States.{room_for}
use Rattle.qvm_ring.proofs.ray.Ray.amp.Goals as goal

pub amp_of-requires : goal.amp_of-requires
amp_of-requires c = room_for c.self.inside.qubits c.args.basis c.args.self.now c.self.inside.amplitudes.items _ c.self.view_is c.deref.ensures.value c.self.invariant c.requires

pub returns-clause-bound : goal.returns-clause-bound
returns-clause-bound c =
    subst (IsBelow (2 ^ 48)) (sym c.amp_of.ensures)
    (light_amplitude (map_of (elements_of c.deref.result.now)) c.args.basis
    (subst (λ (l : List Amp). weight (map_of (elements_of l)) ≤ weight_limit) (sym c.deref.ensures.value) c.self.invariant.state.light))
