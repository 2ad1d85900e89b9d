-- The one form of each value. Each value of the program has it.
use Rattle.std.specs.Prelude.{◌≡◌, ℕ, ◌<◌, nat_abs, false, None}
use Rattle.std.specs.Int.{IsGcd}
use Rattle.qvm_ring.specs.Ring.{Element, is_divisible}
use Rattle.quil_number.specs.declared.fraction.Fraction.{Fraction}
use Rattle.quil_value.specs.Exact.{Exact, Ring, Rational, Pi, ImagPi, exponent_of_two}

-- z/√2^m with no smaller m
abbrev pub IsLeast : Element → ℕ → Type 0
IsLeast z m = 0 < m → is_divisible z ≡ false

pub record IsInLowestTerms (x : Fraction) : Type 0 where
  pub lowest : IsGcd (nat_abs x.p) x.q 1
  pub some : 0 < x.q

pub record IsRational (x : Fraction) : Type 0 where
  pub form : IsInLowestTerms x
  pub other : exponent_of_two x.q ≡ None

pub record IsAngle (x : Fraction) : Type 0 where
  pub form : IsInLowestTerms x
  pub some : 0 < nat_abs x.p

abbrev pub IsForm : Exact → Type 0
IsForm (Ring z m) = IsLeast z m
IsForm (Rational x) = IsRational x
IsForm (Pi x) = IsAngle x
IsForm (ImagPi x) = IsAngle x
