use Rattle.std.proofs.Common.{arith}
use Rattle.quil_code.specs.Squares.{square_gate}
use Rattle.quil_code.proofs.Squares.{one_more_row, unitary_by_products}
use Rattle.quil_code.proofs.square.is_unitary.Goals as goal

pub loop-row-init : goal.loop-row-init
loop-row-init c = λ k h. absurd (omega (arith, h))

pub loop-row-preserved : goal.loop-row-preserved
loop-row-preserved c =
    one_more_row (square_gate c.args.square.now) c.loop-row.row c.loop-row.invariant
    (c.are_row_products.ensures.yes c.if-not-are_row_products.false)

pub returns-clause-yes : goal.returns-clause-yes
returns-clause-yes c = λ e. unitary_by_products (square_gate c.args.square.now) (λ k h. c.loop-row.invariant k (omega (arith, h, c.loop-row-test.false, c.size_of_arity-row-end.ensures)))
