-- A sum of cells over the least common denominator of its factors, in eighths of a turn. Nothing here has a width but the bounds.
use Rattle.std.specs.Prelude.{ℕ, ◌*◌, ◌/◌, ◌^◌, ◌&&◌, nat_le, ℤ, pos, ◌*ℤ◌, nat_abs, int_div, Bool, List, map, fold, Result, Ok, Err, if◌then◌else◌}
use Rattle.std.specs.List.{list_all}
use Rattle.quil_number.specs.declared.fraction.Fraction.{Fraction}
use Rattle.quil_number.specs.Divisor.{common_divisor}
use Rattle.quil_number.specs.Fraction.{lowest}
use Rattle.quil_value.specs.declared.sums.Term.{Term}
use Rattle.quil_value.specs.declared.angle_sum.Count.{Count}
use Rattle.quil_value.specs.declared.lack.Lack.{Lack}
use Rattle.quil_value.specs.declared.lack.Lack.TheVariants.{NumberTooWide}
use Rattle.quil_value.specs.Sums.{Sum}

-- (n1·r1 + .. + nk·rk + own) / common, where a cell r and the sum count eighths of a turn
pub record AngleSum : Type 0 where
  pub common : ℕ
  pub counts : List Count
  pub own : ℤ

abbrev pub common_multiple : ℕ → ℕ → ℕ
common_multiple a b = a * (b / common_divisor a b)

-- the factor of π in eighths of a turn
abbrev pub own_eighths : Sum → Fraction
own_eighths s = lowest (s.own.p *ℤ pos 4) s.own.q

abbrev pub common_denominator : Sum → ℕ
common_denominator s = fold (λ q t. common_multiple q t.factor.q) (own_eighths s).q s.terms

-- p/q as so many times 1/n
abbrev pub counted_over : ℕ → Fraction → ℤ
counted_over n x = x.p *ℤ pos (n / x.q)

abbrev pub over_common : Sum → ℕ → AngleSum
over_common s n = record {
  common = n;
  counts = map (λ t. record { cell = t.cell; count = counted_over n t.factor }) s.terms;
  own = counted_over n (own_eighths s);
}

abbrev pub is_small : ℤ → Bool
is_small z = nat_le (nat_abs z) (2 ^ 31)

abbrev pub is_narrow : AngleSum → Bool
is_narrow a = nat_le a.common (2 ^ 20) && is_small a.own && list_all (λ c. is_small c.count) a.counts

abbrev pub angle_sum_of : Sum → Result AngleSum Lack
angle_sum_of s = let a = over_common s (common_denominator s) in if is_narrow a then Ok a else Err NumberTooWide
