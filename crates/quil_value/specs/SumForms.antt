-- The form of each sum of the program.
use Rattle.std.specs.Prelude.{◌≡◌, ◌<◌, ◌≤◌, ℕ, ◌^◌, ◌&&◌, nat_le, true, false, List, All, AllPairs, length}
use Rattle.quil_number.specs.declared.fraction.Fraction.{Fraction}
use Rattle.quil_value.specs.declared.sums.Term.{Term}
use Rattle.quil_value.specs.Exact.{is_near}
use Rattle.quil_value.specs.Forms.{IsInLowestTerms}
use Rattle.quil_value.specs.Sums.{Sum, most_cells, is_same_cell}
use Rattle.quil_value.specs.AngleSums.{AngleSum, is_narrow}

-- in lowest terms and within the bounds
pub record IsRatio (x : Fraction) : Type 0 where
  pub form : IsInLowestTerms x
  pub within : (is_near x.p && nat_le x.q (2 ^ 62)) ≡ true

abbrev pub AreApart : Term → Term → Type 0
AreApart t u = is_same_cell t.cell u.cell ≡ false

-- each cell once
pub record AreTerms (ts : List Term) : Type 0 where
  pub factors : All (λ t. IsRatio t.factor) ts
  pub apart : AllPairs AreApart ts
  pub most : length ts ≤ most_cells

pub record IsSum (s : Sum) : Type 0 where
  pub terms : AreTerms s.terms
  pub own : IsRatio s.own

pub record IsAngleSum (a : AngleSum) : Type 0 where
  pub some : 0 < a.common
  pub narrow : is_narrow a ≡ true
  pub most : length a.counts ≤ most_cells
