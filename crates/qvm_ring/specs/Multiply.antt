-- The bound within which amplitudes are multiplied.
use Rattle.std.specs.Prelude.{ℕ, ◌≤◌, nat_abs}
use Rattle.qvm_ring.specs.Ring.{Element}

-- every coefficient is at most the bound in absolute value
pub record IsWithin (bound : ℕ) (z : Element) : Type 0 where
  pub a : nat_abs z.a ≤ bound
  pub b : nat_abs z.b ≤ bound
  pub c : nat_abs z.c ≤ bound
  pub d : nat_abs z.d ≤ bound
