use Rattle.std.proofs.Common.{refl, ◌∙◌, ℕ, arith}
use Rattle.qvm_ring.specs.Views.{element_of, wide_element}
use Rattle.quil_code.specs.Squares.{square_gate}
use Rattle.quil_code.proofs.KeptUnitary.{products}
use Rattle.quil_code.proofs.Squares.{row_part, part_more, bound_more, room_for_more, part_last}
use Rattle.quil_code.proofs.square.row_product.Goals as goal

-- no part is added yet
pub loop-place-init : goal.loop-place-init
loop-place-init c = (refl, record { a = omega arith; b = omega arith; c = omega arith; d = omega arith })

pub plus-so_far-requires-clause-left : goal.plus-so_far-requires-clause-left
plus-so_far-requires-clause-left c =
    room_for_more c.loop-place.place c.args.square.now.arity c.size_of_arity-place-end.result (wide_element c.loop-place.so_far) c.requires.square.few c.size_of_arity-place-end.ensures
    c.loop-place-test.true c.loop-place.invariant.1

pub loop-place-preserved : goal.loop-place-preserved
loop-place-preserved c =
    let s = wide_element c.loop-place.so_far in
    let t = wide_element c.product-term.result in
    let u = wide_element c.plus-so_far.result in
    let part : ℕ → _ = row_part (square_gate c.args.square.now) c.args.row c.args.column in (
      part_more part c.loop-place.place s t u c.plus-so_far.ensures c.loop-place.invariant.0 (c.product-term.ensures.value ∙ products (element_of c.entry_at.result) (element_of c.entry_at-in-loop-place.result) _ _ c.entry_at.ensures.value c.entry_at-in-loop-place.ensures.value),
      bound_more c.loop-place.place s t u c.plus-so_far.ensures c.loop-place.invariant.1 c.product-term.ensures.bound,
    )

pub returns : goal.returns
returns c =
    part_last (row_part (square_gate c.args.square.now) c.args.row c.args.column) c.loop-place.place c.args.square.now.arity c.size_of_arity-place-end.result (wide_element c.loop-place.so_far)
    c.size_of_arity-place-end.ensures c.loop-place-test.false c.loop-place.auto.place-end c.loop-place.invariant.0
