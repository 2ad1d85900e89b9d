use Rattle.std.proofs.Common.{to_z-of_z}
use Rattle.qvm_classic.proofs.apply.put_product_or_quotient.Goals as goal

pub returns-in-Mul : goal.returns-in-Mul
returns-in-Mul c = rw c.in-Mul.is (rw (to_z-of_z c.ranges.x, to_z-of_z c.ranges.y) at c.put_product.ensures)

pub returns-in-Div : goal.returns-in-Div
returns-in-Div c = rw c.in-Div.is (rw (to_z-of_z c.ranges.x, to_z-of_z c.ranges.y) at c.put_quotient.ensures)
