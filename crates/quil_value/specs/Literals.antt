-- Literals: numbers, imaginary numbers, `pi` and `i`. Nothing here has a width but the bounds.
use Rattle.std.specs.Prelude.{ℕ, ◌^◌, nat_le, ℤ, pos, List, Result, Ok, Err, if◌then◌else◌}
use Rattle.qvm_ring.specs.Ring.{Element}
use Rattle.quil_number.specs.Decimal.{decimal_value, has_binary_end}
use Rattle.quil_value.specs.Exact.{Exact, Ring, Pi, settled, bounded}
use Rattle.quil_value.specs.RealNumbers.{real_number, imaginary_number}
use Rattle.quil_value.specs.declared.lack.Lack.{Lack}
use Rattle.quil_value.specs.declared.lack.Lack.TheVariants.{NotExact, NumberTooWide}

abbrev pub half_turn : Exact
half_turn = Pi (record { p = pos 1; q = 1 })

abbrev pub imaginary_unit : Exact
imaginary_unit = Ring (imaginary_number (pos 1)) 0

-- the decimal, exactly
abbrev pub number_literal : List ℕ → Result Exact Lack
number_literal text =
    let x = decimal_value text in
    bounded (settled (real_number x.p) x.q (pos 0))

-- the decimal times i. One with a denominator above 2^62 has no value: it is of none of the four kinds, or too wide, and its
-- last 63 digits tell which of the two is answered.
abbrev pub imaginary_literal : List ℕ → Result Exact Lack
imaginary_literal text =
    let x = decimal_value text in
    if nat_le x.q (2 ^ 62) then bounded (settled (imaginary_number x.p) x.q (pos 0))
    else (if has_binary_end text then Err NumberTooWide else Err NotExact)
