use Rattle.std.proofs.Common.{◌≡◌, refl, sym, ◌∙◌, subst, ℕ, ◌+◌, ◌<◌, length, slice_set, arith}
use Rattle.std.proofs.lemmas.List.{length-set}
use Rattle.qvm_ring.specs.Views.{elements_of}
use Rattle.quil_code.specs.StandardGates.{entry_of, standard}
use Rattle.quil_code.specs.Entries.{HasEntries}
use Rattle.quil_code.proofs.Matrices.{one_more_entry, few_places, fine_standard}
use Rattle.quil_code.proofs.matrix.entries_of.Goals as goal

-- no place is filled yet
pub loop-place-init : goal.loop-place-init
loop-place-init c = (refl, λ i h. absurd (omega (arith, h)))

pub loop-place-preserved : goal.loop-place-preserved
loop-place-preserved c =
    let zs = c.loop-place.entries in
    let p = c.loop-place.place in
    let z = c.entry.result in
    let room : p < length zs = omega (arith, c.loop-place-test.true, few_places (standard c.args.gate c.args.eighths) c.args.size (fine_standard c.args.gate c.args.eighths c.requires.angle).few c.requires.size, c.loop-place.invariant.0) in
    subst (λ (i : ℕ). (length (slice_set zs i z) ≡ 64) × HasEntries (entry_of c.args.gate c.args.eighths) c.args.size (p + 1) (elements_of (slice_set zs i z))) (sym c.from.ensures)
    (length-set zs p z ∙ c.loop-place.invariant.0, one_more_entry (entry_of c.args.gate c.args.eighths) c.args.size p zs z room c.loop-place.invariant.1 c.entry.ensures.value)

pub returns : goal.returns
returns c = λ i l. c.loop-place.invariant.1 i (omega (arith, l, c.loop-place-test.false))
