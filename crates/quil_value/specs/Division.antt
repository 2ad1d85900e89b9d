-- Quotients by a number 1 + 2w. Nothing here has a width but what a found quotient is told to be within.
use Rattle.std.specs.Prelude.{ℕ, suc, ◌^◌, ◌<◌, ◌≡◌, ◌+ℤ◌, ◌-ℤ◌, pos, nat_abs, ℤ}
use Rattle.qvm_ring.specs.Ring.{Element, plus, times}
use Rattle.qvm_ring.specs.Views.{wide_element}
use Rattle.qvm_ring.specs.Multiply.{IsWithin}
use Rattle.quil_value.specs.declared.low_end.Division.{Division}
use Rattle.quil_value.specs.declared.low_end.Division.TheVariants as answer

abbrev pub minus : Element → Element → Element
minus x y = record { a = x.a -ℤ y.a; b = x.b -ℤ y.b; c = x.c -ℤ y.c; d = x.d -ℤ y.d }

abbrev pub double : Element → Element
double x = plus x x

-- z · (1 + 2w)
abbrev pub product_with : Element → Element → Element
product_with z w = plus z (double (times z w))

-- -2^n ≤ z < 2^n
abbrev pub Spans : ℕ → ℤ → Type 0
Spans n z = nat_abs (z +ℤ z +ℤ pos 1) < 2 ^ suc n

pub record IsSpanned (n : ℕ) (z : Element) : Type 0 where
  pub a : Spans n z.a
  pub b : Spans n z.b
  pub c : Spans n z.c
  pub d : Spans n z.d

-- z is a quotient of x by 1 + 2w
abbrev pub IsQuotient : Element → Element → Element → Type 0
IsQuotient x w z = product_with z w ≡ x

pub record IsFar (x w : Element) : Type 0 where
  pub quotient : Element
  pub product : IsQuotient x w quotient
  pub far : IsWithin (2 ^ 62) quotient → ⊥

-- what the division of x by 1 + 2w has to answer after so many turns
abbrev pub IsAnswer : Element → Element → ℕ → Division → Type 0
IsAnswer x w n (answer.Exact z) = IsQuotient x w (wide_element z) × IsWithin (2 ^ 62) (wide_element z)
IsAnswer x w n answer.TooWide = ∥ IsFar x w ∥₁
IsAnswer x w n answer.Nothing = (z : Element) → IsSpanned n z → IsQuotient x w z → ⊥

abbrev pub IsAppended : Element → Division → Type 0
IsAppended x (answer.Exact z) = (wide_element z ≡ x) × IsWithin (2 ^ 62) (wide_element z)
IsAppended x answer.TooWide = IsWithin (2 ^ 62) x → ⊥
IsAppended x answer.Nothing = ⊥

-- what the division of x by 1 + 2w has to answer: Nothing only where there is no quotient at all
abbrev pub IsDivided : Element → Element → Division → Type 0
IsDivided x w (answer.Exact z) = IsQuotient x w (wide_element z) × IsWithin (2 ^ 62) (wide_element z)
IsDivided x w answer.TooWide = ∥ IsFar x w ∥₁
IsDivided x w answer.Nothing = (z : Element) → IsQuotient x w z → ⊥
