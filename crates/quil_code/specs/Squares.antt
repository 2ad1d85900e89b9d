-- Squares of entries that may be matrices, for private contracts.
use Rattle.std.specs.Prelude.{ℕ, ◌≡◌, ◌^◌, ◌<◌, ◌≤◌, All}
use Rattle.qvm_ring.specs.Gate.{Gate, gram_entry, cogram_entry, identity_entry}
use Rattle.qvm_ring.specs.Views.{element_of, elements_of}
use Rattle.qvm_ring.specs.Multiply.{IsWithin}
use Rattle.quil_code.specs.declared.square.Square.{Square}
use Rattle.quil_code.specs.Matrices.{Matrix, matrix_gate}

abbrev pub square_matrix : Square → Matrix
square_matrix s = record { arity = s.arity; root_twos = s.root_twos; entries = elements_of s.entries }

abbrev pub square_gate : Square → Gate
square_gate s = matrix_gate (square_matrix s)

pub record IsSquare (s : Square) : Type 0 where
  pub few : s.arity ≤ 3
  pub light : s.root_twos ≤ 40
  pub small : All (λ z. IsWithin (2 ^ 20) (element_of z)) s.entries

-- both products of the gate and its conjugate transpose are the identity there
pub record AreProducts (g : Gate) (row column : ℕ) : Type 0 where
  pub rows : gram_entry g row column ≡ identity_entry g row column
  pub columns : cogram_entry g row column ≡ identity_entry g row column

pub record AreRowProducts (g : Gate) (row : ℕ) : Type 0 where
  pub all : (column : ℕ) → column < 2 ^ g.arity → AreProducts g row column
