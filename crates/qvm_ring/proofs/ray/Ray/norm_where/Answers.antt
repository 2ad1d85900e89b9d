use Rattle.qvm_ring.proofs.States.{few_of}
use Rattle.qvm_ring.proofs.ray.Ray.norm_where.Goals as goal

pub part_norm-requires-clause-few : goal.part_norm-requires-clause-few
part_norm-requires-clause-few c = few_of c.self.inside.qubits c.self.inside.amplitudes.items _ c.deref.ensures.value c.self.invariant
