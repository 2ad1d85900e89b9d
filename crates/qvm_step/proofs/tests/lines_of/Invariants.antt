use Rattle.std.proofs.Common.{◌≡◌, ◌≤◌, ◌+◌, length}
use Rattle.std.specs.List.{AllByRecursion}
use Rattle.quil_code.specs.Program.{Fits}
use Rattle.qvm_step.proofs.tests.lines_of.Given as goal

-- the lines fit, and their number is told by that of the next
abbrev pub invariant-loop-part : goal.invariant-loop-part
invariant-loop-part l = record {
  fit : AllByRecursion (λ k. Fits k.instruction 2 10) l.lines.items;
  counted : l.number ≡ length l.lines.items + 11;
  few : length l.lines.items ≤ 100;
}
