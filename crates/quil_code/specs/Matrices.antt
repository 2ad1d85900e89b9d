-- Matrices of gates, as programs keep them: numerators over √2^m, row by row.
use Rattle.std.specs.Prelude.{ℕ, ◌≡◌, ◌+◌, ◌*◌, ◌^◌, ◌<◌, ◌≤◌, List}
use Rattle.qvm_ring.specs.Ring.{Element}
use Rattle.qvm_ring.specs.Gate.{Gate, IsUnitary}
use Rattle.qvm_ring.specs.Views.{at}
use Rattle.qvm_ring.specs.Multiply.{IsWithin}

pub record Matrix : Type 0 where
  pub arity : ℕ
  pub root_twos : ℕ
  pub entries : List Element

abbrev pub matrix_gate : Matrix → Gate
matrix_gate m = record { arity = m.arity; root_twos = m.root_twos; entry = λ row column. at m.entries (row * 2 ^ m.arity + column) }

-- what each matrix keeps
pub record IsMatrix (m : Matrix) : Type 0 where
  pub few : m.arity ≤ 3
  pub light : m.root_twos ≤ 40
  pub small : (row column : ℕ) → row < 2 ^ m.arity → column < 2 ^ m.arity → IsWithin (2 ^ 20) ((matrix_gate m).entry row column)
  pub unitary : IsUnitary (matrix_gate m)

-- g is the wanted gate in all its rows and columns
pub record IsGate (wanted g : Gate) : Type 0 where
  pub arity : g.arity ≡ wanted.arity
  pub root_twos : g.root_twos ≡ wanted.root_twos
  pub entries : (row column : ℕ) → row < 2 ^ wanted.arity → column < 2 ^ wanted.arity → g.entry row column ≡ wanted.entry row column
