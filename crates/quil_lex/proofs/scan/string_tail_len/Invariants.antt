use Rattle.std.proofs.Common.{◌≡◌, ◌+◌, drop, cond}
use Rattle.std.specs.Prelude.{nat_lt}
use Rattle.quil_lex.specs.Scan.{string_tail_len}
use Rattle.quil_lex.proofs.scan.string_tail_len.Given as goal

-- a `"` of the rest is the first of all
abbrev pub invariant-loop-i : goal.invariant-loop-i
invariant-loop-i l = string_tail_len l.bytes ≡ cond (nat_lt 0 (string_tail_len (drop l.i l.bytes))) (l.i + string_tail_len (drop l.i l.bytes)) 0
