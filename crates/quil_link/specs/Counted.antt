-- How many statements a program has, and how many qubits each of its gates.
use Rattle.std.specs.Prelude.{ℕ, ◌+◌, nat_eq, nat_le, Bool, true, List, [], ◌∷◌, length, Option, Some, None, if◌then◌else◌}
use Rattle.std.specs.Option.{option_or}
use Rattle.quil_tree.specs.declared.statement.Statement.{Statement}
use Rattle.quil_tree.specs.declared.statement.Statement.TheVariants as statement
use Rattle.quil_tree.specs.declared.statement.Line.{Line}
use Rattle.quil_tree.specs.declared.item.Item.{Item}
use Rattle.quil_tree.specs.declared.item.Item.TheVariants as item
use Rattle.quil_code.specs.declared.load_fault.LoadFault.{LoadFault}
use Rattle.quil_code.specs.declared.load_fault.LoadFault.TheVariants as fault
use Rattle.quil_link.specs.declared.gate.Standard.{Standard}
use Rattle.quil_link.specs.declared.gate.Standard.TheVariants as standard
use Rattle.quil_link.specs.Built.{gate_named}

-- a program has at most so many statements
abbrev pub most_statements : ℕ
most_statements = 65536

-- a gate is on so many qubits
abbrev pub arity : Standard → ℕ
arity standard.X = 1
arity standard.H = 1
arity standard.Cnot = 2

abbrev pub has_arity : ℕ → Option Standard → Bool
has_arity n None = true
has_arity n (Some g) = nat_eq n (arity g)

abbrev pub is_fitting : Statement → Bool
is_fitting (statement.Gate g) = has_arity (length g.qubits) (gate_named g.name.text)
is_fitting s = true

abbrev pub wrong_arity : Line → Option LoadFault
wrong_arity l = if is_fitting l.statement then None else Some (fault.Arity l.place.line)

-- the first fault, behind `n` statements; declarations aren't counted
abbrev pub counted : ℕ → List Item → Option LoadFault
counted n [] = None
counted n (item.Declare d ∷ items) = counted n items
counted n (item.DefGate d ∷ items) = counted n items
counted n (item.DefCircuit d ∷ items) = counted n items
counted n (item.Plain l ∷ items) =
    if nat_le most_statements n then Some (fault.TooManyInstructions (n + 1))
    else option_or (wrong_arity l) (counted (n + 1) items)
