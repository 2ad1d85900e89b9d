-- The table of values behind sums, products and quotients: signs, powers, square roots and functions, each result within the
-- bounds of a value. Nothing here has a width.
use Rattle.std.specs.Prelude.{ℕ, zero, suc, ◌*◌, ◌/◌, ◌%◌, ◌^◌, ◌==◌, nat_le, ℤ, pos, negsuc, nat_abs, Bool, ◌&&◌, ◌||◌, List, Option, Some, None, Result, Ok, Err, if◌then◌else◌}
use Rattle.std.specs.Ordering.{int_eq}
use Rattle.qvm_ring.specs.Ring.{Element, unit, times, conjugate, root_two}
use Rattle.quil_number.specs.declared.fraction.Fraction.{Fraction}
use Rattle.quil_number.specs.Fraction.{lowest}
use Rattle.quil_number.specs.Root.{fraction_root}
use Rattle.quil_tree.specs.declared.expr.Sign.{Sign}
use Rattle.quil_tree.specs.declared.expr.Sign.TheVariants as sign
use Rattle.quil_tree.specs.declared.expr.Operator.{Operator}
use Rattle.quil_tree.specs.declared.expr.Operator.TheVariants as operator
use Rattle.quil_tree.specs.declared.expr.Function.{Function}
use Rattle.quil_tree.specs.declared.expr.Function.TheVariants as function
use Rattle.quil_value.specs.Results.{and_then}
use Rattle.quil_value.specs.Exact.{Exact, Ring, Rational, Pi, ImagPi, is_rational, settled, bounded, numerator, power_of_pi, opposite_of, sum_of, difference_of, product_of, quotient_of}
use Rattle.quil_value.specs.Angles.{eighths_of, imaginary_eighths_of, cosine, sine, cis, at_eighths, power_of_omega}
use Rattle.quil_value.specs.RealNumbers.{real_number}
use Rattle.quil_value.specs.declared.lack.Lack.{Lack}
use Rattle.quil_value.specs.declared.lack.Lack.TheVariants.{NotExact, ZeroDivisor, NumberTooWide}

-- ---- powers: the base a ring number or a rational, the exponent a whole number from -64 to 64

abbrev pub one : Exact
one = Ring unit 0

-- x^n: each power is the one before it, times x
abbrev pub power : Exact → ℕ → Result Exact Lack
power x zero = Ok one
power x (suc n) = and_then (power x n) (λ y. product_of y x)

-- a ring number times a power of 2, or the numerator of a rational
abbrev pub direction : Exact → Element
direction (Ring z m) = if m % 2 == 0 then z else times root_two z
direction (Rational x) = real_number x.p
direction (Pi x) = real_number x.p
direction (ImagPi x) = real_number x.p

-- a whole number times ω^k
abbrev pub is_turned : ℕ → Element → Bool
is_turned k z = is_rational (times z (conjugate (power_of_omega k)))

-- z^n is a rational, for z a whole number times ω^k, or √2 times one
abbrev pub is_rational_turned : Element → ℕ → ℕ → Bool
is_rational_turned z n k = n * k % 4 == 0 && (is_turned k z || (n % 2 == 0 && is_turned k (times root_two z)))

-- z^n is a rational: no other z has a power that is one, and ω^4 is -1
abbrev pub has_rational_power : Element → ℕ → Bool
has_rational_power z n = is_rational_turned z n 0 || is_rational_turned z n 1 || is_rational_turned z n 2 || is_rational_turned z n 3

-- 1/x^n. Where x^n is too wide, 1/x^n is so only if it is a rational.
abbrev pub over_power : Exact → ℕ → Result Exact Lack → Result Exact Lack
over_power x n (Ok y) = quotient_of one y
over_power x n (Err e) = if has_rational_power (direction x) n then Err NumberTooWide else Err NotExact

-- x^-n by 1/x, and where that has no value, by x^n
abbrev pub inverse_power : Exact → ℕ → Result Exact Lack → Result Exact Lack
inverse_power x n (Ok y) = power y n
inverse_power x n (Err NotExact) = over_power x n (power x n)
inverse_power x n (Err ZeroDivisor) = Err ZeroDivisor
inverse_power x n (Err NumberTooWide) = Err NumberTooWide

abbrev pub whole_power : Exact → ℤ → Result Exact Lack
whole_power x (pos n) = power x n
whole_power x (negsuc n) = inverse_power x (suc n) (quotient_of one x)

abbrev pub exponent_of : Exact → Option ℤ
exponent_of (Ring z m) = if m == 0 && is_rational z && nat_le (nat_abs z.a) 64 then Some z.a else None
exponent_of (Rational x) = None
exponent_of (Pi x) = None
exponent_of (ImagPi x) = None

abbrev pub with_exponent : Exact → Option ℤ → Result Exact Lack
with_exponent x None = Err NotExact
with_exponent x (Some n) = if int_eq (power_of_pi x) (pos 0) then whole_power x n else Err NotExact

abbrev pub power_of : Exact → Exact → Result Exact Lack
power_of x y = with_exponent x (exponent_of y)

-- ---- square roots

-- p/q, if the value is that
abbrev pub ratio_of : Exact → Option Fraction
ratio_of (Ring z m) = if is_rational z && m % 2 == 0 then Some (record { p = z.a; q = 2 ^ (m / 2) }) else None
ratio_of (Rational x) = Some x
ratio_of (Pi x) = None
ratio_of (ImagPi x) = None

-- r√2, where r² is half of the number, if that is in the ring
abbrev pub root_of_half : Option Fraction → Result Exact Lack
root_of_half None = Err NotExact
root_of_half (Some r) = bounded (settled (times root_two (real_number r.p)) r.q (pos 0))

-- the root from 0 on of p/q: a rational r, or else r√2
abbrev pub root_or_half : Fraction → Option Fraction → Result Exact Lack
root_or_half x (Some r) = bounded (settled (real_number r.p) r.q (pos 0))
root_or_half x None = let half = lowest x.p (2 * x.q) in root_of_half (fraction_root half.p half.q)

abbrev pub root_of_ratio : Option Fraction → Result Exact Lack
root_of_ratio None = Err NotExact
root_of_ratio (Some x) = root_or_half x (fraction_root x.p x.q)

abbrev pub square_root_of : Exact → Result Exact Lack
square_root_of x = root_of_ratio (ratio_of x)

-- ---- each sign, operation and function

abbrev pub signed : Sign → Exact → Exact
signed sign.Plus x = x
signed sign.Minus x = opposite_of x

abbrev pub applied : Operator → Exact → Exact → Result Exact Lack
applied operator.Add x y = sum_of x y
applied operator.Subtract x y = difference_of x y
applied operator.Multiply x y = product_of x y
applied operator.Divide x y = quotient_of x y
applied operator.Power x y = power_of x y

abbrev pub called : Function → Exact → Result Exact Lack
called function.Sqrt x = square_root_of x
called function.Sin x = at_eighths sine (eighths_of x)
called function.Cos x = at_eighths cosine (eighths_of x)
called function.Cis x = at_eighths cis (eighths_of x)
called function.Exp x = at_eighths cis (imaginary_eighths_of x)
