-- What contracts see of a gate's table.
use Rattle.std.specs.Prelude.{ℕ, ◌+◌, ◌*◌, ◌^◌, ◌<◌, ◌≤◌, ◌≡◌, length, All}
use Rattle.qvm_ring.specs.declared.table.Table.{Table}
use Rattle.qvm_ring.specs.declared.table.StandardGate.{StandardGate}
use Rattle.qvm_ring.specs.declared.table.StandardGate.TheVariants as standard
use Rattle.qvm_ring.specs.Gate.{Gate, x_gate, h_gate, cnot_gate}
use Rattle.qvm_ring.specs.Views.{at, elements_of, element_of, IsBelow}

-- the gate whose entries stand in the table row by row
abbrev pub table_gate : Table → Gate
table_gate t = record { arity = t.arity; root_twos = t.root_twos; entry = λ row column. at (elements_of t.entries.now) (row * 2 ^ t.arity + column) }

-- a square of small entries, for at most 2 qubits
pub record IsTable (t : Table) : Type 0 where
  pub few : t.arity ≤ 2
  pub full : length t.entries.now ≡ 2 ^ t.arity * 2 ^ t.arity
  pub small : All (λ z. IsBelow (2 ^ 21) (element_of z)) t.entries.now

-- the table has the gate's entries
pub record IsTableOf (g : Gate) (t : Table) : Type 0 where
  pub arity : t.arity ≡ g.arity
  pub root_twos : t.root_twos ≡ g.root_twos
  pub entries : (row column : ℕ) → row < 2 ^ g.arity → column < 2 ^ g.arity → (table_gate t).entry row column ≡ g.entry row column

-- the matrix of a standard gate
abbrev pub standard_gate : StandardGate → Gate
standard_gate standard.X = x_gate
standard_gate standard.H = h_gate
standard_gate standard.Cnot = cnot_gate
