use Rattle.std.proofs.Common.{◌≤◌, ◌*◌, ◌^◌, sym, subst, nat_abs, ℤ}
use Rattle.quil_value.proofs.LoneProducts.{product_value, product_bound}
use Rattle.quil_value.proofs.parts.product.Goals as goal

pub returns-clause-value : goal.returns-clause-value
returns-clause-value c = product_value c.args.x c.args.y c.ranges.x c.ranges.y c.requires.left c.requires.right

pub returns-clause-bound : goal.returns-clause-bound
returns-clause-bound c =
    subst (λ (t : ℤ). nat_abs t ≤ 2 ^ 63 * nat_abs c.args.x) (sym (product_value c.args.x c.args.y c.ranges.x c.ranges.y c.requires.left c.requires.right)) (product_bound c.args.x c.args.y c.requires.right)
