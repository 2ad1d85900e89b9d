use Rattle.std.proofs.Common.{ap, ◌∙◌, drop, ◌+◌, ◌*◌, arith}
use Rattle.quil_memory.proofs.Runs.{number_before, word_small, bit_number, bit_small}
use Rattle.quil_memory.proofs.Written.{size_le}
use Rattle.quil_memory.proofs.memory.Memory.word.Goals as goal

pub overflow_mul-word : goal.overflow_mul-word
overflow_mul-word c = omega (arith, word_small _ c.loop-left.left c.loop-left.word (drop (c.args.first + c.loop-left.left) c.args.self.now) (size_le c.args.kind) c.loop-left-test.true c.loop-left.invariant.0 c.loop-left.invariant.1)

pub overflow_add-word : goal.overflow_add-word
overflow_add-word c =
    omega (arith, word_small _ c.loop-left.left c.loop-left.word (drop (c.args.first + c.loop-left.left) c.args.self.now) (size_le c.args.kind) c.loop-left-test.true c.loop-left.invariant.0 c.loop-left.invariant.1, c.from.ensures, bit_small c.bit.result)

pub loop-left-preserved : goal.loop-left-preserved
loop-left-preserved c = (
  omega (arith, c.loop-left.invariant.0),
  ap (λ n. c.loop-left.word * 2 + n) (c.from.ensures ∙ bit_number c.bit.result) ∙ number_before _ c.loop-left.left c.args.first c.loop-left.word c.bit.result c.args.self.now c.loop-left-test.true c.loop-left.invariant.0 c.bit.ensures c.loop-left.invariant.1,
)
