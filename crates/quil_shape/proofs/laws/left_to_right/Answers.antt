use Rattle.quil_shape.proofs.Verdicts.{some_outcome, verdict_only}
use Rattle.quil_shape.proofs.laws.left_to_right.Goals as goal

pub returns-clause-ends : goal.returns-clause-ends
returns-clause-ends types c = λ g tables s decided ts. some_outcome g tables s decided ts

pub returns-clause-decides : goal.returns-clause-decides
returns-clause-decides types c = λ g tables s decided ts out r. verdict_only g tables s decided ts out r
