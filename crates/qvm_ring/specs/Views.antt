-- What contracts see of the program's amplitudes and of lists of them.
use Rattle.std.specs.Prelude.{ℕ, zero, suc, ◌<◌, List, [], ◌∷◌, length, map, nat_abs}
use Rattle.qvm_ring.specs.declared.amp.Amp.{Amp}
use Rattle.qvm_ring.specs.declared.wide.Wide.{Wide}
use Rattle.qvm_ring.specs.Ring.{Element, nought}
use Rattle.qvm_ring.specs.Ray.{Ray, ray_of}

-- the ring element that an amplitude means
abbrev pub element_of : Amp → Element
element_of z = record { a = z.a; b = z.b; c = z.c; d = z.d }

-- that of a number with coefficients of 128 bits
abbrev pub wide_element : Wide → Element
wide_element z = record { a = z.a; b = z.b; c = z.c; d = z.d }

-- every coefficient is below the bound in absolute value
pub record IsBelow (bound : ℕ) (z : Element) : Type 0 where
  pub a : nat_abs z.a < bound
  pub b : nat_abs z.b < bound
  pub c : nat_abs z.c < bound
  pub d : nat_abs z.d < bound

abbrev pub elements_of : List Amp → List Element
elements_of zs = map element_of zs

abbrev pub wide_elements_of : List Wide → List Element
wide_elements_of zs = map wide_element zs

-- the element at a place of a list, and 0 behind its end
abbrev pub at : List Element → ℕ → Element
at [] x = nought
at (z ∷ zs) zero = z
at (z ∷ zs) (suc x) = at zs x

-- the map of a list: element x is the amplitude of basis state x
abbrev pub map_of : List Element → Ray
map_of zs = ray_of (length zs) (at zs)
