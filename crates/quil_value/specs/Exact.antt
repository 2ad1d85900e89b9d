-- Exact values of expressions: four kinds of numbers, each in one form, and their sums, differences, products and quotients.
-- Elements a + bω + cω² + dω³ with ω⁴ = -1, i = ω² and √2 = ω - ω³ are those of qvm_ring. Nothing here has a width.
use Rattle.std.specs.Prelude.{ℕ, zero, suc, ◌*◌, ◌/◌, ◌^◌, ◌==◌, nat_le, ℤ, pos, ◌+ℤ◌, ◌-ℤ◌, neg_ℤ, nat_abs, int_div, Bool, ◌&&◌, Option, Some, None, Result, Ok, Err, if◌then◌else◌}
use Rattle.std.specs.Ordering.{int_eq}
use Rattle.qvm_ring.specs.Ring.{Element, nought, unit, whole_number, plus, negated, times, conjugate, root_two, square, norm_whole, norm_root, is_zero, is_divisible, quotient}
use Rattle.quil_number.specs.declared.fraction.Fraction.{Fraction}
use Rattle.quil_number.specs.Divisor.{greatest, common_divisor}
use Rattle.quil_number.specs.Fraction.{lowest}
use Rattle.quil_value.specs.declared.lack.Lack.{Lack}
use Rattle.quil_value.specs.declared.lack.Lack.TheVariants.{NotExact, ZeroDivisor, NumberTooWide}

-- z/√2^m with the least m; p/q whose q is no power of two; p/q times π, not 0; p/q times iπ, not 0. Each p/q is in lowest terms.
pub data Exact : Type 0 where
  Ring : Element → ℕ → Exact
  Rational : Fraction → Exact
  Pi : Fraction → Exact
  ImagPi : Fraction → Exact

-- ---- the one form of z/n

-- z/√2^m, both divided by √2 as long as they can be
abbrev pub least : Element → ℕ → Exact
least z zero = Ring z 0
least z (suc m) = if is_divisible z then least (quotient z) m else Ring z (suc m)

-- the greatest number that divides n and all coordinates of z
abbrev pub content : Element → ℕ → ℕ
content z n = common_divisor (nat_abs z.a) (common_divisor (nat_abs z.b) (common_divisor (nat_abs z.c) (common_divisor (nat_abs z.d) n)))

-- z over a number that divides its coordinates
abbrev pub divided_by : ℕ → Element → Element
divided_by g z = record { a = int_div z.a (pos g); b = int_div z.b (pos g); c = int_div z.c (pos g); d = int_div z.d (pos g) }

-- the k with 2^k = n, if there is one
unfoldable pub exponent_of_two : ℕ → Option ℕ
exponent_of_two n = greatest (λ k. 2 ^ k == n) n

-- a rational times 1
abbrev pub is_rational : Element → Bool
is_rational z = nat_abs z.b == 0 && nat_abs z.c == 0 && nat_abs z.d == 0

-- a rational times i
abbrev pub is_imaginary : Element → Bool
is_imaginary z = nat_abs z.a == 0 && nat_abs z.b == 0 && nat_abs z.d == 0

-- z/n: a ring number where n in lowest terms is a power of two, else a rational or no value
abbrev pub settled_number : Element → ℕ → Result Exact Lack
settled_number z n = elim (exponent_of_two (n / content z n)) [
  | Some k ↦ Ok (least (divided_by (content z n) z) (2 * k))
  | None ↦ if is_rational z then Ok (Rational (lowest z.a n)) else Err NotExact
]

-- z/n times π
abbrev pub settled_angle : Element → ℕ → Result Exact Lack
settled_angle z n =
    if is_rational z then Ok (Pi (lowest z.a n))
    else (if is_imaginary z then Ok (ImagPi (lowest z.c n)) else Err NotExact)

-- z/n · π^k, for n above 0, in its one form, if it is of the four kinds
abbrev pub settled : Element → ℕ → ℤ → Result Exact Lack
settled z n k =
    if is_zero z then Ok (Ring nought 0)
    else (if int_eq k (pos 0) then settled_number z n
    else (if int_eq k (pos 1) then settled_angle z n else Err NotExact))

-- ---- bounds

abbrev pub is_near : ℤ → Bool
is_near z = nat_le (nat_abs z) (2 ^ 62)

abbrev pub is_within : Exact → Bool
is_within (Ring z m) = is_near z.a && is_near z.b && is_near z.c && is_near z.d && nat_le m 124
is_within (Rational x) = is_near x.p && nat_le x.q (2 ^ 62)
is_within (Pi x) = is_near x.p && nat_le x.q (2 ^ 62)
is_within (ImagPi x) = is_near x.p && nat_le x.q (2 ^ 62)

abbrev pub bounded : Result Exact Lack → Result Exact Lack
bounded (Ok x) = if is_within x then Ok x else Err NumberTooWide
bounded (Err e) = Err e

-- ---- each value as z/n · π^k

-- √2^m
abbrev pub root_power : ℕ → Element
root_power zero = unit
root_power (suc m) = times root_two (root_power m)

abbrev pub numerator : Exact → Element
numerator (Ring z m) = times z (root_power m)
numerator (Rational x) = record { a = x.p; b = pos 0; c = pos 0; d = pos 0 }
numerator (Pi x) = record { a = x.p; b = pos 0; c = pos 0; d = pos 0 }
numerator (ImagPi x) = record { a = pos 0; b = pos 0; c = x.p; d = pos 0 }

abbrev pub denominator : Exact → ℕ
denominator (Ring z m) = 2 ^ m
denominator (Rational x) = x.q
denominator (Pi x) = x.q
denominator (ImagPi x) = x.q

abbrev pub power_of_pi : Exact → ℤ
power_of_pi (Ring z m) = pos 0
power_of_pi (Rational x) = pos 0
power_of_pi (Pi x) = pos 1
power_of_pi (ImagPi x) = pos 1

-- ---- the operations

-- y · cofactor y is the whole number whole_norm y, which is not 0 where y isn't: (u + v√2)(u - v√2), where |y|² = u + v√2
abbrev pub cofactor : Element → Element
cofactor y = times (conjugate y) (record { a = pos (norm_whole y); b = neg_ℤ (norm_root y); c = pos 0; d = norm_root y })

abbrev pub whole_norm : Element → ℕ
whole_norm y = nat_abs (pos (norm_whole y * norm_whole y) -ℤ pos (2 * square (norm_root y)))

-- z · n
abbrev pub scaled_by : ℕ → Element → Element
scaled_by n z = times (whole_number n) z

abbrev pub opposite_of : Exact → Exact
opposite_of (Ring z m) = Ring (negated z) m
opposite_of (Rational x) = Rational (record { p = neg_ℤ x.p; q = x.q })
opposite_of (Pi x) = Pi (record { p = neg_ℤ x.p; q = x.q })
opposite_of (ImagPi x) = ImagPi (record { p = neg_ℤ x.p; q = x.q })

abbrev pub exact_sum : Exact → Exact → Result Exact Lack
exact_sum x y =
    if is_zero (numerator x) then Ok y
    else (if is_zero (numerator y) then Ok x
    else (if int_eq (power_of_pi x) (power_of_pi y)
    then settled (plus (scaled_by (denominator y) (numerator x)) (scaled_by (denominator x) (numerator y))) (denominator x * denominator y) (power_of_pi x)
    else Err NotExact))

abbrev pub exact_product : Exact → Exact → Result Exact Lack
exact_product x y = settled (times (numerator x) (numerator y)) (denominator x * denominator y) (power_of_pi x +ℤ power_of_pi y)

abbrev pub exact_quotient : Exact → Exact → Result Exact Lack
exact_quotient x y =
    if is_zero (numerator y) then Err ZeroDivisor
    else settled (scaled_by (denominator y) (times (numerator x) (cofactor (numerator y)))) (denominator x * whole_norm (numerator y)) (power_of_pi x -ℤ power_of_pi y)

-- the table: each result within the bounds of a value
abbrev pub sum_of : Exact → Exact → Result Exact Lack
sum_of x y = bounded (exact_sum x y)

abbrev pub difference_of : Exact → Exact → Result Exact Lack
difference_of x y = bounded (exact_sum x (opposite_of y))

abbrev pub product_of : Exact → Exact → Result Exact Lack
product_of x y = bounded (exact_product x y)

abbrev pub quotient_of : Exact → Exact → Result Exact Lack
quotient_of x y = bounded (exact_quotient x y)
