use Rattle.std.proofs.Common.{◌≡◌, ℕ, ◌<◌, length, slice_index}
use Rattle.qvm.specs.Command.{byte_of_digits}
use Rattle.qvm.proofs.command.seed_bytes.Given as goal

-- the bytes so far
abbrev pub invariant-loop-i : goal.invariant-loop-i
invariant-loop-i l = (length l.seed ≡ 32) × ((k : ℕ) → k < l.i → slice_index l.seed k ≡ byte_of_digits l.digits k)
