use Rattle.std.proofs.Common.{◌≡◌, take, map, true}
use Rattle.std.specs.List.{list_all}
use Rattle.quil_value.specs.AngleSums.{counted_over, is_small}
use Rattle.quil_value.proofs.angle_sum.counts_over.Given as goal

abbrev pub invariant-loop-term : goal.invariant-loop-term
invariant-loop-term l = (l.counts.items ≡ map (λ t. record { cell = t.cell; count = counted_over l.n t.factor }) (take l.term-index l.terms)) × (list_all (λ c. is_small c.count) l.counts.items ≡ true)
