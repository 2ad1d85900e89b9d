use Rattle.std.proofs.Common.{◌≡◌, ◌≤◌, ◌+◌, drop, cond}
use Rattle.std.specs.Prelude.{nat_lt}
use Rattle.quil_lex.specs.Scan.{name_tail_len}
use Rattle.quil_lex.proofs.scan.name_tail_len.Given as goal

-- a tail that goes on in the rest goes so far, and any other stops where the longest so far does
abbrev pub invariant-loop-i : goal.invariant-loop-i
invariant-loop-i l = record {
  within : l.longest ≤ l.i;
  tail : name_tail_len l.bytes ≡ cond (nat_lt 0 (name_tail_len (drop l.i l.bytes))) (l.i + name_tail_len (drop l.i l.bytes)) l.longest;
}
