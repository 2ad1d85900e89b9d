use Rattle.std.proofs.lemmas.Bool.{false_from_ne_true}
use Rattle.quil_shape.proofs.Verdicts.{whole_once}
use Rattle.quil_shape.proofs.laws.ambiguous_fails.Goals as goal

pub returns : goal.returns
returns types c = λ g tables s ts os ps w v other. false_from_ne_true _ (λ decided. other (whole_once g tables s decided ts os ps w v))
