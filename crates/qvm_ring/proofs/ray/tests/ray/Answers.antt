use Rattle.qvm_ring.specs.Views.{wide_elements_of}
use Rattle.qvm_ring.proofs.States.{light_below}
use Rattle.qvm_ring.proofs.ray.tests.ray.Goals as goal

pub narrowed-requires : goal.narrowed-requires
narrowed-requires c = light_below (wide_elements_of c.args.wides.now) c.requires
