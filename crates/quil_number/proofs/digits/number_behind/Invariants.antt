use Rattle.std.proofs.Common.{◌≡◌, ◌≤◌, ◌^◌, min, drop}
use Rattle.quil_number.specs.Decimal.{number_behind}
use Rattle.quil_number.proofs.digits.number_behind.Given as goal

abbrev pub invariant-loop-digit : goal.invariant-loop-digit
invariant-loop-digit l = record {
  value : min (number_behind l.number (drop l.digit-index l.digits)) (2 ^ 65) ≡ min (number_behind l.fn.start l.digits) (2 ^ 65);
  bound : l.number ≤ 2 ^ 65;
}
