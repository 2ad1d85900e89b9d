-- How the pieces of an act are made, for private contracts.
use Rattle.std.specs.Prelude.{◌≡◌, ℕ, ◌+◌, ◌-◌, ◌^◌, ◌<◌, ◌≤◌, nat_lt, ◌⊎◌, if◌then◌else◌, List, [], ◌∷◌, length, All, Option, Some, None}
use Rattle.qvm_ring.specs.Gate.{Gate}
use Rattle.quil_code.specs.declared.act.Piece.{Piece}
use Rattle.quil_code.specs.declared.gate_code.Control.{Control}
use Rattle.quil_code.specs.declared.gate_code.Control.TheVariants.{Controlled, Forked}
use Rattle.quil_code.specs.declared.gate_code.Base.{Base}
use Rattle.quil_code.specs.declared.gate_code.Base.TheVariants.{Standard, Defined}
use Rattle.quil_code.specs.Acts.{matrix_at}
use Rattle.quil_code.specs.Controls.{daggered_if, first_half, second_half, IsFamily}
use Rattle.quil_code.specs.GateCodes.{GateCode, base_gate, forks}
use Rattle.quil_code.specs.Matrices.{Matrix, matrix_gate, IsMatrix, IsGate}

-- the gate under the controls
abbrev pub leaf_gate : GateCode → List ℕ → Gate
leaf_gate g xs = daggered_if g.is_dagger (base_gate g.base xs)

-- its numbers are below this
abbrev pub number_limit : Base → ℕ
number_limit (Standard g) = 16
number_limit (Defined ms) = length ms

abbrev pub AreNumbers : Base → List ℕ → Type 0
AreNumbers base xs = All (λ x. x < number_limit base) xs

-- the numbers at a pattern of control bits; none where a CONTROLLED is 0
abbrev pub chosen : List Control → ℕ → List ℕ → Option (List ℕ)
chosen [] p xs = Some xs
chosen (Controlled ∷ cs) p xs = if nat_lt p (2 ^ length cs) then None else chosen cs (p - 2 ^ length cs) xs
chosen (Forked ∷ cs) p xs = if nat_lt p (2 ^ length cs) then chosen cs p (first_half xs) else chosen cs (p - 2 ^ length cs) (second_half xs)

-- the matrix is that of the numbers, or there is neither
abbrev pub IsMatrixOf : (List ℕ → Gate) → Option Matrix → Option (List ℕ) → Type 0
IsMatrixOf f None None = Unit {0}
IsMatrixOf f None (Some xs) = ⊥
IsMatrixOf f (Some x) None = ⊥
IsMatrixOf f (Some x) (Some xs) = IsGate (f xs) (matrix_gate x)

pub record IsPieceBelow (width n m : ℕ) (p : Piece) : Type 0 where
  pub pattern : p.pattern < width
  pub arity : p.matrix.arity ≡ n
  pub root_twos : p.matrix.root_twos ≡ m
  pub matrix : IsMatrix p.matrix

-- the patterns from one on got their matrices, and no others did
pub record AddsPieces (f : List ℕ → Gate) (cs : List Control) (pattern : ℕ) (xs : List ℕ) (old new : List Piece) : Type 0 where
  pub here : (p : ℕ) → pattern ≤ p → p < pattern + 2 ^ length cs → IsMatrixOf f (matrix_at new p) (chosen cs (p - pattern) xs)
  pub elsewhere : (p : ℕ) → (p < pattern) ⊎ (pattern + 2 ^ length cs ≤ p) → matrix_at new p ≡ matrix_at old p
  pub count : length new ≡ length old + 2 ^ forks cs
  pub forms : (width n m : ℕ) → IsFamily n m f → pattern + 2 ^ length cs ≤ width → All (IsPieceBelow width n m) old → All (IsPieceBelow width n m) new
