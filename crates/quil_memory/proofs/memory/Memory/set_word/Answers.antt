use Rattle.std.proofs.Common.{◌∙◌, ◌+◌, ◌%◌, ◌==◌, arith}
use Rattle.quil_memory.proofs.Runs.{length_written, with_bits_next}
use Rattle.quil_memory.proofs.memory.Memory.set_word.Goals as goal

pub loop-place-preserved : goal.loop-place-preserved
loop-place-preserved c =
    let inv = c.loop-place.invariant in (
      omega (arith, c.loop-place-test.true),
      omega (arith, inv.1, length_written (c.loop-place.rest % 2 == 1) c.loop-place.place c.loop-place.self c.set_bit.new.self (omega (arith, c.loop-place-test.true, inv.1)) c.set_bit.ensures),
      with_bits_next c.loop-place.place (c.args.first + c.size.result) c.loop-place.rest c.loop-place.self c.set_bit.new.self c.loop-place-test.true inv.1 c.set_bit.ensures ∙ inv.2,
    )
