use Rattle.std.proofs.Common.{ℕ, ◌+◌, ◌*◌, ◌∙◌, ap₂, length-set, arith}
use Rattle.qvm.specs.Command.{byte_of_digits}
use Rattle.qvm.proofs.Values.{byte_more, all_bytes}
use Rattle.qvm.proofs.command.seed_bytes.Goals as goal

pub loop-i-preserved : goal.loop-i-preserved
loop-i-preserved c = (
  length-set _ _ _ ∙ c.loop-i.invariant.0,
  byte_more c.loop-i.seed (byte_of_digits c.args.digits.now) c.loop-i.i _ (omega (arith, c.loop-i-test.true, c.loop-i.invariant.0))
      (ap₂ (λ (upper lower : ℕ). upper * 16 + lower) c.hex_digit.ensures c.hex_digit-in-loop-i.ensures) c.loop-i.invariant.1,
)

pub returns : goal.returns
returns c = all_bytes c.loop-i.seed (byte_of_digits c.args.digits.now) c.loop-i.i c.loop-i.invariant.0 c.loop-i-test.false c.loop-i.invariant.1
