use Rattle.std.proofs.Common.{◌≡◌, ◌≤◌, min, drop}
use Rattle.quil_number.specs.Decimal.{number, number_behind}
use Rattle.quil_gate.proofs.permutation.up_to_eight.Given as goal

-- what the digits so far and those that are left write
abbrev pub invariant-loop-digit : goal.invariant-loop-digit
invariant-loop-digit l = record {
  told : min (number_behind l.number (drop l.digit-index l.text)) 8 ≡ min (number l.text) 8;
  bound : l.number ≤ 8;
}
