-- Results of checked arithmetic.
use Rattle.std.proofs.Common.{◌≡◌, ◌≢◌, ℕ, zero, suc, subst, ◌∙◌, ◌-◌, ◌<◌, ◌^◌, Bool, true, false, ◌&&◌, ℤ, pos, negsuc, refl, ap, arith, w64, Option, Some, None, List, if◌then◌else◌}
use Rattle.std.specs.Prelude.{FitsSigned, SomeIff, int_div, Result, Ok, Err}
use Rattle.std.specs.Int.{CanDivide, IsNonZero}
use Rattle.std.specs.Ordering.{int_eq}
use Rattle.std.specs.Bool.{Decides}
use Rattle.std.proofs.lemmas.Bool.{le-leb, lt-leb}
use Rattle.std.proofs.lemmas.Bool.Decides.{Decides-int_eq}
use Rattle.quil_memory.specs.declared.cell_type.CellType.TheVariants.{Integer, Real}
use Rattle.quil_memory.specs.declared.cell_type.CellType.{CellType}
use Rattle.quil_memory.specs.CellTypes.{in_type}
use Rattle.quil_memory.specs.Cells.{with_value}
use Rattle.quil_code.specs.declared.classic.Arithmetic.{Arithmetic}
use Rattle.quil_code.specs.declared.classic.Arithmetic.TheVariants as arithmetic
use Rattle.quil_code.specs.declared.classic.Cell.{Cell}
use Rattle.quil_code.specs.declared.fault.ClassicFault.{ClassicFault}
use Rattle.quil_code.specs.declared.fault.ClassicFault.TheVariants.{Overflow}
use Rattle.quil_code.specs.Operands.{arithmetic_type}
use Rattle.quil_code.specs.Classic.{with_result}
use Rattle.qvm_classic.specs.Places.{Does}
use Rattle.qvm_classic.specs.Checked.{if_in_type, with_checked}

fits : (z : ℤ) → FitsSigned w64 z → in_type Integer z ≡ true
fits (pos n) h = le-leb n (2 ^ 63 - 1) (omega arith)
fits (negsuc n) h = ap (λ b. b && true) (le-leb n (2 ^ 63 - 1) (omega arith))

over : (n : ℕ) → (n < 2 ^ 63 → ⊥) → 2 ^ 63 - 1 < n
over n h = omega arith

fits_not : (z : ℤ) → (FitsSigned w64 z → ⊥) → in_type Integer z ≡ false
fits_not (pos n) h = lt-leb n (2 ^ 63 - 1) (over n (λ k. h (record { sfits = k })))
fits_not (negsuc n) h = ap (λ b. b && true) (lt-leb n (2 ^ 63 - 1) (over n (λ k. h (record { sfits = k }))))

-- a checked operation gives its result where that is an INTEGER
pub checked_result : (o : Option ℤ) (z : ℤ) → SomeIff o (FitsSigned w64 z) z → o ≡ if_in_type Integer z
checked_result None z h = rw (fits_not z h)
checked_result (Some x) z h = rw (fits z h.0, h.1)

-- a divisor that isn't 0 is one for the code
nonzero : (y : ℤ) → y ≢ pos 0 → FitsSigned w64 y → IsNonZero w64 y
nonzero (pos zero) d f = absurd (d refl)
nonzero (pos (suc n)) d f = omega arith
nonzero (negsuc n) d f = omega arith

-- the same of a quotient
pub checked_quotient : (o : Option ℤ) (x y : ℤ) → SomeIff o (CanDivide w64 x y) (int_div x y) → y ≢ pos 0 → FitsSigned w64 y → o ≡ if_in_type Integer (int_div x y)
checked_quotient None x y h d f = rw (fits_not (int_div x y) (λ q. h (nonzero y d f, q)))
checked_quotient (Some q) x y h d f = rw (fits (int_div x y) h.0.1, h.1)

by_test : (b : Bool) (line : ℕ) (kind : CellType) (c : Cell) (z : ℤ) (bits : List Bool)
    → with_checked line kind c (if b then Some z else None) bits ≡ (if b then Ok (with_value kind c.first z bits) else Err (Overflow line))
by_test true line kind c z bits = refl
by_test false line kind c z bits = refl

-- a checked result in a cell of 64 bits
pub sum_checked : (line : ℕ) (k : Arithmetic) (c : Cell) (z : ℤ) (bits : List Bool) → with_checked line (arithmetic_type k) c (if_in_type Integer z) bits ≡ with_result line (arithmetic_type k) c z bits
sum_checked line arithmetic.Integer c z bits = by_test (in_type Integer z) line Integer c z bits
sum_checked line arithmetic.Real c z bits = by_test (in_type Integer z) line Real c z bits

-- where a checked result was put, the result was
pub put_result : (result : Result (Unit {0}) ClassicFault) (line : ℕ) (k : Arithmetic) (kind : CellType) (c : Cell) (o : Option ℤ) (z : ℤ) (old new : List Bool)
    → Does result (with_checked line kind c o old) old new → kind ≡ arithmetic_type k → o ≡ if_in_type Integer z
    → Does result (with_result line (arithmetic_type k) c z old) old new
put_result result line k kind c o z old new h e f =
    subst (λ r. Does result r old new) (ap (λ t. with_checked line t c o old) e ∙ (ap (λ p. with_checked line (arithmetic_type k) c p old) f ∙ sum_checked line k c z old)) h

decided : (b : Bool) (y : ℤ) → Decides b (y ≡ pos 0) → y ≢ pos 0 → b ≡ false
decided true y h d = absurd (d (h.0 refl))
decided false y h d = refl

-- the code's test of a divisor
pub not_zero : (y : ℤ) → y ≢ pos 0 → int_eq y (pos 0) ≡ false
not_zero y d = decided (int_eq y (pos 0)) y (Decides-int_eq y (pos 0)) d
