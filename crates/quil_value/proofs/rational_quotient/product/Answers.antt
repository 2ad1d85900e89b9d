use Rattle.quil_value.proofs.Words.{product_again}
use Rattle.quil_value.proofs.rational_quotient.product.Goals as goal

pub returns : goal.returns
returns c = product_again c.args.x c.args.y c.requires.left c.requires.right
