use Rattle.std.proofs.Common.{ap, ◌∙◌, sym, length, slice_get, Bool, ◌==◌, ◌/◌, ◌%◌, Some, arith}
use Rattle.std.specs.Int.{bit_at}
use Rattle.std.proofs.lemmas.Grind.{get_or_default_zero}
use Rattle.quil_memory.proofs.Packing.{length-unpacked, unpacked_at}
use Rattle.quil_memory.proofs.memory.Memory.bit.Goals as goal

pub index-byte-requires : goal.index-byte-requires
index-byte-requires c = omega (arith, c.requires, ap (length {A = Bool}) c.self.view_is, length-unpacked c.self.inside.count c.self.inside.bytes.items, c.self.invariant)

pub returns : goal.returns
returns c =
    ap (λ xs. slice_get xs c.args.place) (sym c.self.view_is)
    ∙ unpacked_at c.self.inside.count c.args.place c.self.inside.bytes.items (omega (arith, c.requires, ap (length {A = Bool}) c.self.view_is, length-unpacked c.self.inside.count c.self.inside.bytes.items))
    ∙ ap (λ n. Some (bit_at n (c.args.place % 8) == 1)) (sym (c.index-byte.ensures ∙ get_or_default_zero c.self.inside.bytes.items (c.args.place / 8) c.index-byte.result.now (omega (arith, c.requires, ap (length {A = Bool}) c.self.view_is, length-unpacked c.self.inside.count c.self.inside.bytes.items, c.self.invariant))))
