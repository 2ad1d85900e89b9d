use Rattle.qvm_ring.proofs.States.{amp_at}
use Rattle.qvm_ring.proofs.ray.amplitudes.amp_of.Goals as goal

pub returns : goal.returns
returns c = amp_at c.args.list.now c.args.basis _ c.requires
