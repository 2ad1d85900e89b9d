use Rattle.std.proofs.Common.{◌≡◌, ◌+◌, drop}
use Rattle.quil_lex.specs.Scan.{digits_len}
use Rattle.quil_lex.proofs.scan.digits_len.Given as goal

-- the digits so far, and those of the rest, are those of all
abbrev pub invariant-loop-i : goal.invariant-loop-i
invariant-loop-i l = l.i + digits_len (drop l.i l.bytes) ≡ digits_len l.bytes
