use Rattle.std.proofs.Common.{◌≡◌, ◌≤◌, ◌-◌, ◌++◌, length, take, drop}
use Rattle.quil_lex.specs.Line.{first_line, other_lines}
use Rattle.quil_lex.proofs.read.line_len.Given as goal

-- no line ends in the bytes so far
abbrev pub invariant-loop-len : goal.invariant-loop-len
invariant-loop-len l = record {
  within : l.len ≤ length l.bytes;
  line : take l.len l.bytes ++ first_line (drop l.len l.bytes) ≡ first_line l.bytes;
  others : other_lines (drop l.len l.bytes) ≡ other_lines l.bytes;
}

abbrev pub decreases-loop-len : goal.decreases-loop-len
decreases-loop-len l = length l.bytes - l.len
