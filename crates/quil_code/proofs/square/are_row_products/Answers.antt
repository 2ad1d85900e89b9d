use Rattle.std.proofs.Common.{arith}
use Rattle.quil_code.specs.Squares.{square_gate}
use Rattle.quil_code.proofs.Squares.{one_more_column}
use Rattle.quil_code.proofs.square.are_row_products.Goals as goal

pub loop-column-init : goal.loop-column-init
loop-column-init c = λ k h. absurd (omega (arith, h))

pub loop-column-preserved : goal.loop-column-preserved
loop-column-preserved c =
    one_more_column (square_gate c.args.square.now) c.args.row c.loop-column.column c.loop-column.invariant
    (c.are_products.ensures.yes c.if-not-are_products.false)

pub returns-clause-yes : goal.returns-clause-yes
returns-clause-yes c = λ e. record { all = λ k h. c.loop-column.invariant k (omega (arith, h, c.loop-column-test.false, c.size_of_arity-column-end.ensures)) }
