use Rattle.std.proofs.Common.{◌≡◌, take}
use Rattle.quil_number.specs.Decimal.{without_zeros}
use Rattle.quil_number.proofs.binary_end.without_zeros.Given as goal

-- only zeros stand from here on
abbrev pub invariant-loop-i : goal.invariant-loop-i
invariant-loop-i l = without_zeros (take l.i l.digits) ≡ without_zeros l.digits
