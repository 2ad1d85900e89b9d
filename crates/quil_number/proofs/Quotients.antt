-- Quotients of signed numbers of 128 bits by numbers above 0.
use Rattle.std.proofs.Common.{◌≡◌, ℕ, ◌<◌, ◌^◌, ℤ, pos, to_z, of_z, FitsSigned, arith}
use Rattle.std.specs.Int.{w128}
use Rattle.std.specs.Prelude.{int_div}
use Rattle.std.proofs.lemmas.Int.{ints, to_z-of_z, to_z_pos, quot_fits}

pub quotient_fits : (p : ℤ) (g : ℕ) → FitsSigned w128 p → 0 < g → g < 2 ^ 127 → FitsSigned w128 (int_div (to_z w128 (of_z w128 p)) (to_z w128 g))
quotient_fits p g f some small = rw (to_z-of_z w128 p f, to_z_pos w128 g small) (quot_fits w128 p (pos g) f (omega (arith, ints)))

pub quotient_is : (p : ℤ) (g : ℕ) → FitsSigned w128 p → 0 < g → g < 2 ^ 127 → to_z w128 (of_z w128 (int_div (to_z w128 (of_z w128 p)) (to_z w128 g))) ≡ int_div p (pos g)
quotient_is p g f some small = rw (to_z-of_z w128 p f, to_z_pos w128 g small) (to_z-of_z w128 (int_div p (pos g)) (quot_fits w128 p (pos g) f (omega (arith, ints))))
