-- The gates X, H and CNOT are unitary.
use Rattle.std.proofs.Common.{ℕ, ◌≡◌, ◌<◌, ◌^◌, rules}
use Rattle.qvm_ring.specs.declared.table.StandardGate.{StandardGate}
use Rattle.qvm_ring.specs.declared.table.StandardGate.TheVariants as standard
use Rattle.qvm_ring.specs.Gate.{Gate, IsUnitary, gram_entry, cogram_entry, identity_entry, x_gate, h_gate, cnot_gate}
use Rattle.qvm_ring.specs.Table.{standard_gate}

abbrev RowsOf : Gate → Type 0
RowsOf g = (row column : ℕ) → row < 2 ^ g.arity → column < 2 ^ g.arity → gram_entry g row column ≡ identity_entry g row column

abbrev ColumnsOf : Gate → Type 0
ColumnsOf g = (row column : ℕ) → row < 2 ^ g.arity → column < 2 ^ g.arity → cogram_entry g row column ≡ identity_entry g row column

x_rows : RowsOf x_gate
x_rows = search rules

x_columns : ColumnsOf x_gate
x_columns = search rules

h_rows : RowsOf h_gate
h_rows = search rules

h_columns : ColumnsOf h_gate
h_columns = search rules

cnot_rows : RowsOf cnot_gate
cnot_rows = search rules

cnot_columns : ColumnsOf cnot_gate
cnot_columns = search rules

pub unitary_x : IsUnitary x_gate
unitary_x = record { rows = x_rows; columns = x_columns }

pub unitary_h : IsUnitary h_gate
unitary_h = record { rows = h_rows; columns = h_columns }

pub unitary_cnot : IsUnitary cnot_gate
unitary_cnot = record { rows = cnot_rows; columns = cnot_columns }

pub unitary_gate : (gate : StandardGate) → IsUnitary (standard_gate gate)
unitary_gate standard.X = unitary_x
unitary_gate standard.H = unitary_h
unitary_gate standard.Cnot = unitary_cnot
