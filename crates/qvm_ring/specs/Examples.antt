-- States that the worked examples speak of.
use Rattle.std.specs.Prelude.{[], ◌∷◌, ℤ, pos, negsuc}
use Rattle.qvm_ring.specs.Ring.{Element, unit}
use Rattle.qvm_ring.specs.Ray.{Ray}

abbrev pub element : ℤ → ℤ → ℤ → ℤ → Element
element a b c d = record { a = a; b = b; c = c; d = d }

-- |0> + |1>
abbrev pub h_of_zero : Ray
h_of_zero = (0, unit) ∷ (1, unit) ∷ []

-- |00> + |11>
abbrev pub bell_pair : Ray
bell_pair = (0, unit) ∷ (3, unit) ∷ []

-- (1 + ω)|0> + (1 - ω)|1>
abbrev pub h_t_h_of_zero : Ray
h_t_h_of_zero = (0, element (pos 1) (pos 1) (pos 0) (pos 0)) ∷ (1, element (pos 1) (negsuc 0) (pos 0) (pos 0)) ∷ []
