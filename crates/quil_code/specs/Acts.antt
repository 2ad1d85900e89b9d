-- What a gate under controls does at one step: its control qubits, its target qubits, and a matrix for some of the patterns of
-- control bits, of which the first control's is the most significant. At the other patterns nothing happens.
use Rattle.std.specs.Prelude.{ℕ, ◌≡◌, ◌≢◌, ◌+◌, ◌/◌, ◌%◌, ◌^◌, ◌<◌, ◌≤◌, ◌==◌, if◌then◌else◌, List, [], ◌∷◌, ◌++◌, length, All, AllPairs, Option, Some, None}
use Rattle.qvm_ring.specs.Ring.{Element, nought, times}
use Rattle.qvm_ring.specs.Ray.{Ray, amplitude_at}
use Rattle.qvm_ring.specs.Gate.{Gate, product_at}
use Rattle.quil_code.specs.declared.act.Piece.{Piece}
use Rattle.quil_code.specs.Controls.{root_two_to}
use Rattle.quil_code.specs.Matrices.{Matrix, matrix_gate, IsMatrix}

pub record Act : Type 0 where
  pub controls : List ℕ
  pub targets : List ℕ
  pub root_twos : ℕ
  pub pieces : List Piece

-- the matrix at a pattern, if there is one
abbrev pub matrix_at : List Piece → ℕ → Option Matrix
matrix_at [] pattern = None
matrix_at (p ∷ ps) pattern = if p.pattern == pattern then Some p.matrix else matrix_at ps pattern

-- an entry inside the block of a pattern: that of its matrix, or of the identity over √2^m
abbrev pub block_entry : ℕ → Option Matrix → ℕ → ℕ → Element
block_entry m None row column = if row == column then root_two_to m else nought
block_entry m (Some x) row column = (matrix_gate x).entry row column

abbrev pub qubits_of : Act → List ℕ
qubits_of a = a.controls ++ a.targets

-- the block diagonal gate of an act
abbrev pub act_gate : Act → Gate
act_gate a =
    let n = 2 ^ length a.targets in
    record {
      arity = length a.controls + length a.targets;
      root_twos = a.root_twos;
      entry = λ row column.
          if row / n == column / n then block_entry a.root_twos (matrix_at a.pieces (row / n)) (row % n) (column % n) else nought;
    }

-- a piece fits the act's targets, and is over the act's √2^m
pub record IsPiece (a : Act) (p : Piece) : Type 0 where
  pub pattern : p.pattern < 2 ^ length a.controls
  pub arity : p.matrix.arity ≡ length a.targets
  pub root_twos : p.matrix.root_twos ≡ a.root_twos
  pub matrix : IsMatrix p.matrix

-- what each act keeps
pub record IsAct (a : Act) : Type 0 where
  pub few : length (qubits_of a) ≤ 16
  pub different : AllPairs (λ p q. p ≢ q) (qubits_of a)
  pub light : a.root_twos ≤ 40
  pub pieces : All (IsPiece a) a.pieces

-- the amplitude of a basis state after the matrix of its pattern, over √2^m
abbrev pub piece_product : ℕ → Option Matrix → List ℕ → Ray → ℕ → Element
piece_product m None qs ray x = times (root_two_to m) (amplitude_at ray x)
piece_product m (Some y) qs ray x = product_at (matrix_gate y) qs ray x
