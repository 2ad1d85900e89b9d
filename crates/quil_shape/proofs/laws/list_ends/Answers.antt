use Rattle.quil_shape.proofs.Reading.{goes_to_end, goes_to_stop, goes_to_large, stops_behind, stops_here, exceeds_behind, exceeds_here}
use Rattle.quil_shape.proofs.laws.list_ends.Goals as goal

pub returns-clause-advances : goal.returns-clause-advances
returns-clause-advances types c = λ g tables s ts us os p. goes_to_end p

pub returns-clause-halts : goal.returns-clause-halts
returns-clause-halts types c = λ g tables s a todo ts us vs os p r. goes_to_stop (stops_behind p (stops_here r))

pub returns-clause-exceeds : goal.returns-clause-exceeds
returns-clause-exceeds types c = λ g tables s a todo ts us vs os p r. goes_to_large (exceeds_behind p (exceeds_here r))
