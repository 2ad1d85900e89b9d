use Rattle.std.proofs.Common.{refl, arith}
use Rattle.std.proofs.lemmas.Int.{ints}
use Rattle.qvm_ring.specs.Views.{element_of}
use Rattle.qvm_ring.proofs.NormLoops.{IsAdded-made, IsAdded-value, IsAdded-bounds}
use Rattle.qvm_ring.proofs.signed_norm.Norm.add.Goals as goal

pub returns-clause-value : goal.returns-clause-value
returns-clause-value c =
    IsAdded-value c.args.self.now _ c.weight.result c.root.result (element_of c.args.amplitude) c.requires.so_far c.weight.ensures c.root.ensures.value
    (IsAdded-made c.args.self.now _ c.weight.result c.root.result (element_of c.args.amplitude) c.requires.so_far c.weight.ensures c.root.ensures.bound c.requires.room refl refl)

pub returns-clause-bounds : goal.returns-clause-bounds
returns-clause-bounds c =
    IsAdded-bounds c.args.self.now _ c.weight.result c.root.result (element_of c.args.amplitude) c.requires.so_far c.weight.ensures c.root.ensures.bound c.requires.room
    (IsAdded-made c.args.self.now _ c.weight.result c.root.result (element_of c.args.amplitude) c.requires.so_far c.weight.ensures c.root.ensures.bound c.requires.room refl refl)

pub overflow_add-self-2 : goal.overflow_add-self-2
overflow_add-self-2 c = omega (arith, ints, c.requires.so_far.root, c.root.ensures.bound, c.requires.room)
