-- What of Quil is built: a program with anything else is refused, whatever else is in it.
use Rattle.std.specs.Prelude.{ℕ, nat_lt, nat_eq, Bool, true, false, ◌&&◌, List, length, Option, Some, None, is_some, codes, bytes_eq, if◌then◌else◌}
use Rattle.std.specs.List.{list_all}
use Rattle.quil_tree.specs.declared.statement.Qubit.{Qubit}
use Rattle.quil_tree.specs.declared.statement.Qubit.TheVariants as qubit
use Rattle.quil_tree.specs.declared.statement.Gate.{Gate}
use Rattle.quil_tree.specs.declared.statement.Statement.{Statement}
use Rattle.quil_tree.specs.declared.statement.Statement.TheVariants as statement
use Rattle.quil_tree.specs.declared.item.Item.{Item}
use Rattle.quil_tree.specs.declared.item.Item.TheVariants as item
use Rattle.quil_code.specs.declared.load_fault.LoadFault.{LoadFault}
use Rattle.quil_code.specs.declared.load_fault.LoadFault.TheVariants as fault
use Rattle.quil_link.specs.declared.gate.Standard.{Standard}
use Rattle.quil_link.specs.declared.gate.Standard.TheVariants as standard

-- the gate of a name
abbrev pub gate_named : List ℕ → Option Standard
gate_named name =
    if bytes_eq name (codes "X") then Some standard.X
    else if bytes_eq name (codes "H") then Some standard.H
    else if bytes_eq name (codes "CNOT") then Some standard.Cnot
    else None

-- qubits are numbers below this
abbrev pub qubit_limit : ℕ
qubit_limit = 65536

-- the number of a qubit at the top level, where no formal qubit stands
abbrev pub qubit_number : Qubit → Option ℕ
qubit_number (qubit.Index p w) = if nat_lt w.value qubit_limit then Some w.value else None
qubit_number (qubit.Formal n) = None

abbrev pub is_number : Qubit → Bool
is_number q = is_some (qubit_number q)

abbrev pub is_number_if_any : Option Qubit → Bool
is_number_if_any None = true
is_number_if_any (Some q) = is_number q

-- without modifiers and parameters
abbrev pub is_built_gate : Gate → Bool
is_built_gate g = nat_eq (length g.modifiers) 0 && (nat_eq (length g.parameters) 0 && (is_some (gate_named g.name.text) && list_all is_number g.qubits))

abbrev pub is_built : Statement → Bool
is_built (statement.Gate g) = is_built_gate g
is_built (statement.Measure q a) = is_number q
is_built (statement.Reset q) = is_number_if_any q
is_built statement.Wait = true
is_built statement.Nop = true
is_built statement.Halt = true
is_built (statement.Pragma n xs) = true
is_built (statement.Label n) = false
is_built (statement.Jump n) = false
is_built (statement.JumpWhen n a) = false
is_built (statement.JumpUnless n a) = false
is_built (statement.Not a) = true
is_built (statement.Neg a) = true
is_built (statement.Exchange a b) = true
is_built (statement.Convert a b) = true
is_built (statement.Move a x) = true
is_built (statement.Add a x) = true
is_built (statement.Sub a x) = true
is_built (statement.Mul a x) = true
is_built (statement.Div a x) = true
is_built (statement.And a x) = true
is_built (statement.Ior a x) = true
is_built (statement.Xor a x) = true
is_built (statement.Load a n b) = true
is_built (statement.Store n a x) = true
is_built (statement.Eq r a x) = true
is_built (statement.Gt r a x) = true
is_built (statement.Ge r a x) = true
is_built (statement.Lt r a x) = true
is_built (statement.Le r a x) = true

-- the refusal of an item that isn't built
abbrev pub not_built : Item → Option LoadFault
not_built (item.Declare d) = None
not_built (item.DefGate d) = Some (fault.NotBuilt d.place.line)
not_built (item.DefCircuit d) = Some (fault.NotBuilt d.place.line)
not_built (item.Plain l) = if is_built l.statement then None else Some (fault.NotBuilt l.place.line)
