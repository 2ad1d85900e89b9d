use Rattle.std.proofs.Common.{◌≡◌, ◌≢◌, ap, ◌∙◌, ℕ, ◌+◌, ◌<◌, ◌/◌, ◌%◌, ◌++◌, ◌∷◌, length, take, drop, get_or, List, Bool, arith}
use Rattle.std.specs.Int.{bit_at}
use Rattle.std.proofs.lemmas.Grind.{get_or_default_zero}
use Rattle.quil_memory.proofs.Packing.{length-unpacked, unpacked_with}
use Rattle.quil_memory.proofs.memory.Memory.set_bit.Goals as goal

pub index-requires : goal.index-requires
index-requires c = omega (arith, c.requires, ap (length {A = Bool}) c.self.view_is, length-unpacked c.self.inside.count c.self.inside.bytes.items, c.self.invariant)

pub index_mut-requires : goal.index_mut-requires
index_mut-requires c = omega (arith, c.requires, ap (length {A = Bool}) c.self.view_is, length-unpacked c.self.inside.count c.self.inside.bytes.items, c.self.invariant)

pub returns : goal.returns
returns c =
    let now = get_or_default_zero c.self.inside.bytes.items (c.args.place / 8) c.index.result.now (omega (arith, c.requires, ap (length {A = Bool}) c.self.view_is, length-unpacked c.self.inside.count c.self.inside.bytes.items, c.self.invariant)) in
    let others : (other : ℕ) → other < 8 → other ≢ c.args.place % 8 → bit_at c.with_bit.result other ≡ bit_at (get_or c.self.inside.bytes.items (c.args.place / 8) 0) other
    = λ other h e. c.with_bit.ensures.others other h e ∙ ap (λ n. bit_at n other) (c.index.ensures ∙ now) in
    unpacked_with c.self.inside.count c.args.place c.with_bit.result c.args.bit c.self.inside.bytes.items c.self.invariant
    (omega (arith, c.requires, ap (length {A = Bool}) c.self.view_is, length-unpacked c.self.inside.count c.self.inside.bytes.items)) c.with_bit.ensures.same others
    ∙ ap (λ (xs : List Bool). take c.args.place xs ++ c.args.bit ∷ drop (c.args.place + 1) xs) c.self.view_is
