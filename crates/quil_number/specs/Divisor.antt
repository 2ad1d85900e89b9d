-- The greatest common divisor of whole numbers. Nothing here has a width.
use Rattle.std.specs.Prelude.{ℕ, zero, suc, ◌+◌, ◌%◌, ◌==◌, Bool, ◌&&◌, Option, Some, None, if◌then◌else◌, unwrap_or}

-- the greatest number up to n that passes the test, if there is one
abbrev pub greatest : (ℕ → Bool) → ℕ → Option ℕ
greatest test zero = if test 0 then Some 0 else None
greatest test (suc n) = if test (suc n) then Some (suc n) else greatest test n

-- whether d divides n
abbrev pub divides : ℕ → ℕ → Bool
divides d n = n % d == 0

-- the greatest number that divides both; 0 for two zeros
unfoldable pub common_divisor : ℕ → ℕ → ℕ
common_divisor a b = unwrap_or (greatest (λ d. divides d a && divides d b) (a + b)) 0
