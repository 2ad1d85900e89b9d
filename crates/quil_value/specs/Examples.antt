-- Values that the worked examples speak of.
use Rattle.std.specs.Prelude.{ℕ, pos}
use Rattle.qvm_ring.specs.Ring.{Element, whole_number}
use Rattle.quil_value.specs.Exact.{Exact, Ring, Rational, Pi}

abbrev pub whole : ℕ → Exact
whole n = Ring (whole_number n) 0

abbrev pub third : Exact
third = Rational (record { p = pos 1; q = 3 })

-- π and π/2
abbrev pub half_turn : Exact
half_turn = Pi (record { p = pos 1; q = 1 })

abbrev pub quarter_turn : Exact
quarter_turn = Pi (record { p = pos 1; q = 2 })

-- i
abbrev pub imaginary : Element
imaginary = record { a = pos 0; b = pos 0; c = pos 1; d = pos 0 }
