use Rattle.std.proofs.Common.{◌≡◌, sym, ◌∙◌, ap, subst, ℕ, ◌+◌, ◌*◌, ◌<◌, ◌≤◌, length, slice_set, arith}
use Rattle.std.proofs.lemmas.List.{length-set}
use Rattle.qvm_ring.specs.Ring.{conjugate}
use Rattle.qvm_ring.specs.Views.{elements_of}
use Rattle.quil_code.specs.Controls.{daggered}
use Rattle.quil_code.specs.Entries.{HasEntries}
use Rattle.quil_code.specs.Matrices.{matrix_gate}
use Rattle.quil_code.proofs.Matrices.{one_more_entry, few_places}
use Rattle.quil_code.proofs.matrix.daggered_entries.Goals as goal

pub overflow_mul-place-end : goal.overflow_mul-place-end
overflow_mul-place-end c =
    let few : c.args.size * c.args.size ≤ 64 = few_places (daggered (matrix_gate c.args.matrix.now)) c.args.size c.requires.few c.requires.size in
    omega (arith, few)

pub bounds-entries-from : goal.bounds-entries-from
bounds-entries-from c = omega (arith, c.from.ensures, c.loop-place-test.true, few_places (daggered (matrix_gate c.args.matrix.now)) c.args.size c.requires.few c.requires.size)

pub loop-place-preserved : goal.loop-place-preserved
loop-place-preserved c =
    let zs = c.loop-place.entries in
    let p = c.loop-place.place in
    let z = c.conjugate.result in
    let entry = (daggered (matrix_gate c.args.matrix.now)).entry in
    let room : p < length zs =
    omega (arith, c.loop-place-test.true, few_places (daggered (matrix_gate c.args.matrix.now)) c.args.size c.requires.few c.requires.size, c.loop-place.invariant.0)
    in
    subst (λ (i : ℕ). (length (slice_set zs i z) ≡ 64) × HasEntries entry c.args.size (p + 1) (elements_of (slice_set zs i z))) (sym c.from.ensures)
    (length-set zs p z ∙ c.loop-place.invariant.0, one_more_entry entry c.args.size p zs z room c.loop-place.invariant.1 (c.conjugate.ensures.value ∙ ap conjugate c.entry.ensures.value))
