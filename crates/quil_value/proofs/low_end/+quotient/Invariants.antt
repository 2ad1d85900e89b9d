use Rattle.quil_value.proofs.low_end.+quotient.Given as goal

abbrev pub decreases-quotient : goal.decreases-quotient
decreases-quotient l = l.turns
