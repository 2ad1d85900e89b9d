-- Fractions, in lowest terms and within the bounds of a value. Nothing here has a width.
use Rattle.std.specs.Prelude.{◌≡◌, ℕ, ◌<◌, ◌*ℤ◌, ◌/◌, ◌^◌, nat_le, ℤ, pos, nat_abs, int_div, Result, Ok, Err, if◌then◌else◌}
use Rattle.std.specs.Int.{IsGcd}
use Rattle.quil_number.specs.declared.fraction.Fraction.{Fraction}
use Rattle.quil_number.specs.declared.fraction.TooWide.{TooWide}
use Rattle.quil_number.specs.declared.fraction.TooWide.TheVariants.{Numerator, Denominator}
use Rattle.quil_number.specs.Divisor.{common_divisor}

-- p/q in lowest terms
unfoldable pub lowest : ℤ → ℕ → Fraction
lowest p q = let d = common_divisor (nat_abs p) q in record { p = int_div p (pos d); q = q / d }

-- x is p/q, and no number above 1 divides both its numbers
pub record IsLowest (p : ℤ) (q : ℕ) (x : Fraction) : Type 0 where
  pub equal : x.p *ℤ pos q ≡ p *ℤ pos x.q
  pub lowest : IsGcd (nat_abs x.p) x.q 1
  pub some : 0 < x.q

-- a fraction in lowest terms, where neither number is above 2^62; else which of them is, q first
abbrev pub within : Fraction → Result Fraction TooWide
within x =
    if nat_le x.q (2 ^ 62) then (if nat_le (nat_abs x.p) (2 ^ 62) then Ok x else Err (Numerator x.q))
    else Err Denominator
