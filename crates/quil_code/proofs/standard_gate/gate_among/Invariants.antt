use Rattle.std.proofs.Common.{◌≡◌, length, map}
use Rattle.quil_code.specs.StandardGates.{gate_among}
use Rattle.quil_code.proofs.standard_gate.gate_among.Given as goal

abbrev pub invariant-loop-table : goal.invariant-loop-table
invariant-loop-table l = gate_among (map (λ e. (e.0.now, e.1)) l.table) l.word ≡ gate_among (map (λ e. (e.0.now, e.1)) l.initial.table) l.word

abbrev pub decreases-loop-table : goal.decreases-loop-table
decreases-loop-table l = length l.table
