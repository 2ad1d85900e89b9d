-- Whole numbers, and angles in eighths of a turn. Nothing here has a width.
use Rattle.std.specs.Prelude.{ℕ, zero, suc, Result, Ok, Err, ◌%◌, ◌==◌, ◌^◌, nat_lt, ℤ, pos, negsuc, ◌*ℤ◌, nat_abs, int_div, Option, Some, None, option_and_then, ◌&&◌, if◌then◌else◌}
use Rattle.qvm_ring.specs.Ring.{Element, unit, plus, negated, times, conjugate, is_zero}
use Rattle.quil_number.specs.declared.fraction.Fraction.{Fraction}
use Rattle.quil_value.specs.Exact.{Exact, Ring, Rational, Pi, ImagPi, least, is_rational}
use Rattle.quil_value.specs.declared.lack.Lack.{Lack}
use Rattle.quil_value.specs.declared.lack.Lack.TheVariants.{NotExact}

-- 4p/q, if it is whole
abbrev pub whole_fourfold : Fraction → Option ℤ
whole_fourfold x = if nat_abs (x.p *ℤ pos 4) % x.q == 0 then Some (int_div (x.p *ℤ pos 4) (pos x.q)) else None

-- the k whose k·π/4 is the value, if there is one
abbrev pub eighths_of : Exact → Option ℤ
eighths_of (Ring z m) = if is_zero z then Some (pos 0) else None
eighths_of (Rational x) = None
eighths_of (Pi x) = whole_fourfold x
eighths_of (ImagPi x) = None

-- a number, if it has 64 bits
abbrev pub in_64_bits : ℤ → Option ℤ
in_64_bits (pos n) = if nat_lt n (2 ^ 63) then Some (pos n) else None
in_64_bits (negsuc n) = if nat_lt n (2 ^ 63) then Some (negsuc n) else None

abbrev pub eighths_in_64_bits : Exact → Option ℤ
eighths_in_64_bits x = option_and_then in_64_bits (eighths_of x)

-- the k whose k·iπ/4 is the value, if there is one
abbrev pub imaginary_eighths_of : Exact → Option ℤ
imaginary_eighths_of (Ring z m) = if is_zero z then Some (pos 0) else None
imaginary_eighths_of (Rational x) = None
imaginary_eighths_of (Pi x) = None
imaginary_eighths_of (ImagPi x) = whole_fourfold x

-- ---- e^{ix} at the eighths of a turn

abbrev pub omega : Element
omega = record { a = pos 0; b = pos 1; c = pos 0; d = pos 0 }

abbrev pub power_of_omega : ℕ → Element
power_of_omega zero = unit
power_of_omega (suc k) = times omega (power_of_omega k)

-- ω^k; that of -k is the conjugate of that of k
abbrev pub turn : ℤ → Element
turn (pos k) = power_of_omega k
turn (negsuc k) = conjugate (power_of_omega (suc k))

-- 1/i
abbrev pub minus_i : Element
minus_i = record { a = pos 0; b = pos 0; c = negsuc 0; d = pos 0 }

-- (ω^k + ω^-k)/2, where 2 is √2²
abbrev pub cosine : ℤ → Exact
cosine k = least (plus (turn k) (conjugate (turn k))) 2

-- (ω^k - ω^-k)/(2i)
abbrev pub sine : ℤ → Exact
sine k = least (times minus_i (plus (turn k) (negated (conjugate (turn k))))) 2

abbrev pub cis : ℤ → Exact
cis k = Ring (turn k) 0

-- only a whole number of eighths has a value
abbrev pub at_eighths : (ℤ → Exact) → Option ℤ → Result Exact Lack
at_eighths f None = Err NotExact
at_eighths f (Some k) = Ok (f k)

-- the whole number that a value is, if it is one
abbrev pub whole_of : Exact → Option ℤ
whole_of (Ring z m) = if m == 0 && is_rational z then Some z.a else None
whole_of (Rational x) = None
whole_of (Pi x) = None
whole_of (ImagPi x) = None
