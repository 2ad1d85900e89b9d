use Rattle.std.specs.Prelude.{◌≡◌, Ok}
use Rattle.quil_value.specs.Table.{power}
use Rattle.quil_value.proofs.whole_power.repeated.Given as goal

abbrev pub invariant-loop-turn : goal.invariant-loop-turn
invariant-loop-turn l = power l.fn.x l._turn ≡ Ok l.power
