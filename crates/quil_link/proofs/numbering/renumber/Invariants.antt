use Rattle.std.proofs.Common.{◌≡◌, ◌++◌, map, take, drop}
use Rattle.quil_link.specs.Numbered.{numbered_line}
use Rattle.quil_link.proofs.numbering.renumber.Given as goal

abbrev pub invariant-loop-line : goal.invariant-loop-line
invariant-loop-line l = l.lines ≡ map (numbered_line l.qubits) (take l.line-index l.fn.lines) ++ drop l.line-index l.fn.lines
