-- What contracts see of a value of the program.
use Rattle.std.specs.Prelude.{◌≡◌, true}
use Rattle.qvm_ring.specs.Views.{wide_element}
use Rattle.quil_value.specs.declared.value.Kind.{Kind}
use Rattle.quil_value.specs.declared.value.Kind.TheVariants as kind
use Rattle.quil_value.specs.Exact.{Exact, Ring, Rational, Pi, ImagPi, is_within}
use Rattle.quil_value.specs.Forms.{IsForm}

abbrev pub exact_of : Kind → Exact
exact_of (kind.Ring x) = Ring (wide_element x.num) x.m
exact_of (kind.Rational x) = Rational x
exact_of (kind.Pi x) = Pi x
exact_of (kind.ImagPi x) = ImagPi x

-- in its one form, and within the bounds
pub record IsValue (x : Exact) : Type 0 where
  pub form : IsForm x
  pub within : is_within x ≡ true
