use Rattle.std.proofs.Common.{ap, ◌∙◌}
use Rattle.quil_memory.specs.Cells.{with_word}
use Rattle.quil_memory.proofs.Written.{word_is}
use Rattle.quil_memory.proofs.memory.Memory.set_value.Goals as goal

pub returns : goal.returns
returns c = c.set_word.ensures ∙ ap (λ n. with_word c.args.kind c.args.first n c.args.self.now) (c.cast_unsigned.ensures ∙ word_is c.args.value c.ranges.value.sfits)
