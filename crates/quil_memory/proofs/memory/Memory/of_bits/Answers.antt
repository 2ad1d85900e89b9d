use Rattle.std.proofs.Common.{ap, ◌∙◌}
use Rattle.quil_memory.specs.Packed.{unpacked}
use Rattle.quil_memory.proofs.Packing.{unpacked_zeros}
use Rattle.quil_memory.proofs.memory.Memory.of_bits.Goals as goal

pub returns : goal.returns
returns c = ap (unpacked c.args.bits) (c.in_ok-bytes.ensures.items_if_clones_equal (λ y e. e)) ∙ unpacked_zeros c.args.bits c.div_ceil.result
