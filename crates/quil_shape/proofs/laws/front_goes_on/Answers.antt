use Rattle.quil_shape.proofs.Expected.{expected_next, goes_on}
use Rattle.quil_shape.proofs.laws.front_goes_on.Goals as goal

pub returns : goal.returns
returns types c = λ g s before t. (expected_next g s before t, λ p. goes_on g p.1 t p.2)
