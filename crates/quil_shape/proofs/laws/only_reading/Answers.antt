use Rattle.quil_shape.proofs.Verdicts.{whole_once}
use Rattle.quil_shape.proofs.laws.only_reading.Goals as goal

pub returns : goal.returns
returns types c = λ g tables s decided ts os ps w v. whole_once g tables s decided ts os ps w v
