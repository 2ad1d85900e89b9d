use Rattle.std.proofs.Common.{◌∙◌, ap, arith}
use Rattle.std.proofs.lemmas.List.{length-map}
use Rattle.qvm_ring.specs.Ray.{weight, reduced}
use Rattle.qvm_ring.specs.Measure.{projected}
use Rattle.qvm_ring.specs.Views.{map_of, element_of, elements_of}
use Rattle.qvm_ring.proofs.NormLoops.{weight_kept}
use Rattle.qvm_ring.proofs.States.{light_below, IsVector-projected}
use Rattle.qvm_ring.proofs.ray.measure.project.Goals as goal

pub reduce-requires-clause-small : goal.reduce-requires-clause-small
reduce-requires-clause-small c =
    light_below (elements_of c.keep.new.list)
    (omega (arith, ap weight c.keep.ensures.value, weight_kept c.args.qubit c.args.bit (map_of (elements_of c.args.list.now)), c.requires.light))

pub returns-clause-value : goal.returns-clause-value
unfolding projected
returns-clause-value c = c.reduce.ensures.value ∙ ap reduced c.keep.ensures.value

pub returns-clause-vector : goal.returns-clause-vector
returns-clause-vector c = λ n v.
    IsVector-projected n c.args.qubit c.args.bit (elements_of c.args.list.now) (elements_of c.reduce.new.list) v c.requires.some
    (omega (arith, length-map c.reduce.new.list element_of, c.reduce.ensures.length, c.keep.ensures.length, length-map c.args.list.now element_of)) (returns-clause-value c)
