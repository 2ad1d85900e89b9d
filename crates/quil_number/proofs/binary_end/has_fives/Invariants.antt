use Rattle.std.proofs.Common.{◌++◌, reverse}
use Rattle.quil_number.specs.Decimal.{number}
use Rattle.quil_number.proofs.BinaryEnds.{IsWalked}
use Rattle.quil_number.proofs.binary_end.has_fives.Given as goal

abbrev pub invariant-loop-place : goal.invariant-loop-place
invariant-loop-place l = IsWalked (number (l.whole ++ l.places)) (reverse (l.whole ++ l.places)) l.place l.power l.rest
