-- Angles that depend on memory: (f1·r1 + .. + fn·rn + own) / common, where each REAL cell r, and the sum, is a count of
-- eighths of a turn.
use Rattle.std.specs.Prelude.{ℕ, ◌<◌, ◌≤◌, ◌^◌, ℤ, nat_abs, List, length, All}
use Rattle.quil_code.specs.declared.angle.AngleTerm.{AngleTerm}

pub record LinearAngle : Type 0 where
  pub common : ℕ
  pub terms : List AngleTerm
  pub own : ℤ

-- what each of them keeps
pub record IsLinearAngle (a : LinearAngle) : Type 0 where
  pub some : 0 < a.common
  pub common : a.common ≤ 2 ^ 20
  pub few : length a.terms ≤ 16
  pub factors : All (λ t. nat_abs t.factor ≤ 2 ^ 31) a.terms
  pub own : nat_abs a.own ≤ 2 ^ 31
