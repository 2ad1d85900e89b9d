use Rattle.std.proofs.Common.{◌≡◌, ◌^◌, take}
use Rattle.std.specs.Prelude.{All}
use Rattle.qvm_ring.specs.Views.{element_of, elements_of}
use Rattle.qvm_ring.specs.Multiply.{IsWithin}
use Rattle.quil_gate.specs.Definitions.{numerators, padded}
use Rattle.quil_gate.specs.Reading.{entries_of}
use Rattle.quil_gate.proofs.numerators.numerators.Given as goal

-- the numerators so far, and zeros behind them
abbrev pub invariant-loop-place : goal.invariant-loop-place
invariant-loop-place l = record {
  told : elements_of l.all ≡ padded (numerators l.m (entries_of (take l.place l.entries)));
  small : All (λ z. IsWithin (2 ^ 20) (element_of z)) l.all;
}
