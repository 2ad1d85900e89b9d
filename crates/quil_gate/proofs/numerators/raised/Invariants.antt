use Rattle.std.proofs.Common.{◌≡◌, ◌-◌}
use Rattle.qvm_ring.specs.Ring.{times}
use Rattle.qvm_ring.specs.Views.{wide_element}
use Rattle.quil_code.specs.Controls.{root_two_to}
use Rattle.quil_gate.proofs.numerators.raised.Given as goal

-- what is left of the power
abbrev pub invariant-loop-turn : goal.invariant-loop-turn
invariant-loop-turn l =
    times (wide_element l.number) (root_two_to ((l.fn.m - l.fn.entry.m) - l._turn)) ≡ times (wide_element l.fn.entry.num) (root_two_to (l.fn.m - l.fn.entry.m))
