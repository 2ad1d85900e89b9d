use Rattle.std.proofs.Common.{◌≡◌, ◌^◌}
use Rattle.std.specs.Prelude.{All}
use Rattle.qvm_ring.specs.Views.{element_of, elements_of}
use Rattle.qvm_ring.specs.Multiply.{IsWithin}
use Rattle.quil_gate.specs.Definitions.{padded}
use Rattle.quil_gate.proofs.Permutations.{entries_below}
use Rattle.quil_gate.proofs.permutation.permutation_entries.Given as goal

-- the entries so far, and zeros behind them
abbrev pub invariant-loop-place : goal.invariant-loop-place
invariant-loop-place l = record {
  told : elements_of l.all ≡ padded (entries_below l.numbers l.size l.place);
  small : All (λ z. IsWithin (2 ^ 20) (element_of z)) l.all;
}
