use Rattle.std.proofs.lemmas.Bool.{or_left, or_right}
use Rattle.quil_shape.proofs.Reading.{goes_next, goes_past, goes_seq, goes_first, goes_second, goes_more, goes_rule, many_ends}
use Rattle.quil_shape.proofs.laws.list_goes_on.Goals as goal

pub returns-clause-next : goal.returns-clause-next
returns-clause-next types c = λ g tables a todo us vs os ps r. goes_next r

pub returns-clause-sequence : goal.returns-clause-sequence
returns-clause-sequence types c = λ g tables a b todo us os. goes_seq

pub returns-clause-first : goal.returns-clause-first
returns-clause-first types c = λ g tables a b todo us os h. goes_first (or_left _ _ h)

pub returns-clause-not_first : goal.returns-clause-not_first
returns-clause-not_first types c = λ g tables a b todo us os h. goes_second (or_right _ _ h)

pub returns-clause-repeats : goal.returns-clause-repeats
returns-clause-repeats types c = λ g tables a todo us os h. goes_more h

pub returns-clause-ends : goal.returns-clause-ends
returns-clause-ends types c = λ g tables a todo us os h. goes_past (many_ends h)

pub returns-clause-rule : goal.returns-clause-rule
returns-clause-rule types c = λ g tables r todo us os. goes_rule
