-- What private functions keep: the division from the low end, and the steps to a value. Nobody has to believe these: they tell
-- private functions apart.
use Rattle.std.specs.Prelude.{◌≡◌, ◌<◌, ◌≤◌, ◌%◌, ◌==◌, ◌^◌, ◌||◌, ℕ, ℤ, pos, ◌+ℤ◌, ◌*ℤ◌, nat_abs, Bool, true, false, Result, Ok, Err, if◌then◌else◌}
use Rattle.qvm_ring.specs.Ring.{Element, times}
use Rattle.qvm_ring.specs.Multiply.{IsWithin}
use Rattle.quil_value.specs.declared.low_end.Digits.{Digits}
use Rattle.quil_value.specs.declared.value.Kind.{Kind}
use Rattle.quil_value.specs.declared.lack.Lack.{Lack}
use Rattle.quil_value.specs.Exact.{Exact, Ring, Rational, Pi, ImagPi, is_rational, is_imaginary, numerator, denominator, power_of_pi, root_power, scaled_by}
use Rattle.quil_value.specs.Value.{exact_of, IsValue}

-- a binary digit
abbrev pub digit : Bool → ℤ
digit b = if b then pos 1 else pos 0

abbrev pub digits_of : Digits → Element
digits_of z = record { a = digit z.a; b = digit z.b; c = digit z.c; d = digit z.d }

-- whether the sum of the coordinates is odd
abbrev pub is_odd : Element → Bool
is_odd z = nat_abs (z.a +ℤ z.b +ℤ z.c +ℤ z.d) % 2 == 1

-- t/√2^k is a quotient of z/√2^m by v/√2^n
abbrev pub IsRingQuotient : Element → ℕ → Element → ℕ → Element → ℕ → Type 0
IsRingQuotient z m v n t k = times (times t v) (root_power m) ≡ times (times z (root_power n)) (root_power k)

-- no ring number is
abbrev pub HasNone : Element → ℕ → Element → ℕ → Type 0
HasNone z m v n = (t : Element) (k : ℕ) → IsRingQuotient z m v n t k → ⊥

-- z · p, coordinate by coordinate
abbrev pub stretched : Element → ℤ → Element
stretched z p = record { a = z.a *ℤ p; b = z.b *ℤ p; c = z.c *ℤ p; d = z.d *ℤ p }

-- ---- a value before its bounds are tried

abbrev pub value_of_kind : Result Kind Lack → Result Exact Lack
value_of_kind (Ok x) = Ok (exact_of x)
value_of_kind (Err e) = Err e

-- ---- a value as a fraction

-- a rational times 1 or i
abbrev pub is_lone : Element → Bool
is_lone z = is_rational z || is_imaginary z

abbrev pub is_ring : Exact → Bool
is_ring (Ring z m) = true
is_ring (Rational x) = false
is_ring (Pi x) = false
is_ring (ImagPi x) = false

-- x is z/n · π^k
pub record AreParts (x : Exact) (z : Element) (n : ℕ) (k : ℤ) : Type 0 where
  pub value : IsValue x
  pub same : scaled_by (denominator x) z ≡ scaled_by n (numerator x)
  pub some : 0 < n
  pub power : k ≡ power_of_pi x
  pub lone : is_ring x ≡ false → is_lone z ≡ true

-- numbers that are small enough to multiply
pub record AreSmall (z : Element) (n : ℕ) (k : ℤ) : Type 0 where
  pub number : IsWithin (2 ^ 63) z
  pub some : 0 < n
  pub bound : n ≤ 2 ^ 62
  pub power : nat_abs k ≤ 1
