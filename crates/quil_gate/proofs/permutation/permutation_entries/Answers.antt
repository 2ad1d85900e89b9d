use Rattle.std.proofs.Common.{◌≡◌, ℕ, ◌+◌, ◌^◌, subst, sym, slice_set, arith}
use Rattle.std.proofs.lemmas.List.Elements.{All-set}
use Rattle.qvm_ring.specs.Views.{element_of, elements_of}
use Rattle.qvm_ring.specs.Multiply.{IsWithin}
use Rattle.quil_gate.specs.Definitions.{padded}
use Rattle.quil_gate.proofs.Permutations.{entries_push, entries_below, few_places}
use Rattle.quil_gate.proofs.permutation.permutation_entries.Goals as goal

pub loop-place-preserved : goal.loop-place-preserved
loop-place-preserved c =
    let p = c.loop-place.place in
    let z = c.permutation_entry.result in
    record {
      told = subst (λ (i : ℕ). elements_of (slice_set c.loop-place.all i z) ≡ padded (entries_below c.args.numbers.now c.args.size (p + 1))) (sym c.from.ensures)
          (entries_push c.args.numbers.now c.args.size p c.loop-place.all z (omega (arith, c.loop-place-test.true, few_places c.args.size c.requires.few)) c.permutation_entry.ensures.value c.loop-place.invariant.told);
      small = All-set (λ w. IsWithin (2 ^ 20) (element_of w)) c.loop-place.all c.from.result z c.permutation_entry.ensures.small c.loop-place.invariant.small;
    }
