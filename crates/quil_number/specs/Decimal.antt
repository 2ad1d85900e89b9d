-- The number that a literal writes: digits, then perhaps a point and digits, then perhaps an exponent of ten.
-- What stands behind these, as the `i` of an imaginary literal, doesn't count. Nothing here has a width.
use Rattle.std.specs.Prelude.{ℕ, suc, ◌+◌, ◌-◌, ◌*◌, ◌^◌, ◌==◌, ℤ, pos, negsuc, ◌-ℤ◌, neg_ℤ, ◌||◌, List, [], ◌∷◌, ◌++◌, length, take, drop, reverse, Bool, if◌then◌else◌}
use Rattle.std.specs.List.{prefix_len}
use Rattle.std.specs.Char.{is_ascii_digit}
use Rattle.quil_number.specs.declared.fraction.Fraction.{Fraction}
use Rattle.quil_number.specs.Divisor.{divides}
use Rattle.quil_number.specs.Fraction.{lowest}

-- the digits at the front
abbrev pub digits : List ℕ → List ℕ
digits text = take (prefix_len is_ascii_digit text) text

-- what stands behind them
abbrev pub behind_digits : List ℕ → List ℕ
behind_digits text = drop (prefix_len is_ascii_digit text) text

-- the number that digits write behind the digits of n
abbrev pub number_behind : ℕ → List ℕ → ℕ
number_behind n [] = n
number_behind n (b ∷ bs) = number_behind (n * 10 + (b - 48)) bs

abbrev pub number : List ℕ → ℕ
number bs = number_behind 0 bs

-- the digits behind a point (46), if one comes first
abbrev pub fraction_digits : List ℕ → List ℕ
fraction_digits [] = []
fraction_digits (b ∷ bs) = if b == 46 then digits bs else []

-- what stands behind the point and its digits
abbrev pub behind_fraction : List ℕ → List ℕ
behind_fraction [] = []
behind_fraction (b ∷ bs) = if b == 46 then behind_digits bs else b ∷ bs

-- `+` (43), `-` (45) or no sign, and digits
abbrev pub signed_number : List ℕ → ℤ
signed_number [] = pos 0
signed_number (b ∷ bs) =
    if b == 45 then neg_ℤ (pos (number (digits bs)))
    else (if b == 43 then pos (number (digits bs)) else pos (number (digits (b ∷ bs))))

-- the exponent behind an `e` (101) or `E` (69), if one comes first; else 0
abbrev pub exponent : List ℕ → ℤ
exponent [] = pos 0
exponent (b ∷ bs) = if b == 101 || b == 69 then signed_number bs else pos 0

-- m · 10^e
abbrev pub scaled : ℕ → ℤ → Fraction
scaled m (pos e) = lowest (pos (m * 10 ^ e)) 1
scaled m (negsuc e) = lowest (pos m) (10 ^ suc e)

-- the number of all digits, times ten to the exponent, which each digit behind the point makes less by one
unfoldable pub decimal_value : List ℕ → Fraction
decimal_value text =
    let rest = behind_digits text in
    let places = fraction_digits rest in
    scaled (number (digits text ++ places)) (exponent (behind_fraction rest) -ℤ pos (length places))

-- without the zeros at the end
abbrev pub without_zeros : List ℕ → List ℕ
without_zeros digits = reverse (drop (prefix_len (λ b. b == 48) (reverse digits)) (reverse digits))

-- whether its last 63 digits but zeros, as places behind a point, are a whole number over a power of two
abbrev pub has_binary_end : List ℕ → Bool
has_binary_end text = divides (5 ^ 63) (number (without_zeros (digits text ++ fraction_digits (behind_digits text))))
