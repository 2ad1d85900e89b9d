-- A tree without its places. Two trees are the same up to places where these are the same.
use Rattle.std.specs.Prelude.{List, map, Option, Some, None}
use Rattle.quil_tree.specs.declared.place.Place.{Place}
use Rattle.quil_tree.specs.declared.expr.Step.{Step}
use Rattle.quil_tree.specs.declared.statement.Name.{Name}
use Rattle.quil_tree.specs.declared.statement.Reference.{Reference}
use Rattle.quil_tree.specs.declared.statement.Qubit.{Qubit}
use Rattle.quil_tree.specs.declared.statement.Qubit.TheVariants as qubit
use Rattle.quil_tree.specs.declared.statement.Formula.{Formula}
use Rattle.quil_tree.specs.declared.statement.Operand.{Operand}
use Rattle.quil_tree.specs.declared.statement.Operand.TheVariants as operand
use Rattle.quil_tree.specs.declared.statement.Modifier.{Modifier}
use Rattle.quil_tree.specs.declared.statement.Gate.{Gate}
use Rattle.quil_tree.specs.declared.statement.Statement.{Statement}
use Rattle.quil_tree.specs.declared.statement.Statement.TheVariants as statement
use Rattle.quil_tree.specs.declared.statement.Line.{Line}
use Rattle.quil_tree.specs.declared.item.Sharing.{Sharing}
use Rattle.quil_tree.specs.declared.item.Declaration.{Declaration}
use Rattle.quil_tree.specs.declared.item.Form.{Form}
use Rattle.quil_tree.specs.declared.item.Form.TheVariants as form
use Rattle.quil_tree.specs.declared.item.GateDefinition.{GateDefinition}
use Rattle.quil_tree.specs.declared.item.CircuitDefinition.{CircuitDefinition}
use Rattle.quil_tree.specs.declared.item.Item.{Item}
use Rattle.quil_tree.specs.declared.item.Item.TheVariants as item

-- the place that stands in the stead of all others
abbrev pub origin : Place
origin = record { line = 0; column = 0 }

abbrev pub bare_step : Step → Step
bare_step s = record s { place = origin }

abbrev pub bare_name : Name → Name
bare_name n = record n { place = origin }

abbrev pub bare_reference : Reference → Reference
bare_reference r = record r { place = origin }

abbrev pub bare_qubit : Qubit → Qubit
bare_qubit (qubit.Index p w) = qubit.Index origin w
bare_qubit (qubit.Formal n) = qubit.Formal (bare_name n)

abbrev pub bare_formula : Formula → Formula
bare_formula f = record { place = origin; expr = map bare_step f.expr }

abbrev pub bare_operand : Operand → Operand
bare_operand (operand.Reference r) = operand.Reference (bare_reference r)
bare_operand (operand.Literal p s w) = operand.Literal origin s w
bare_operand (operand.Formula f) = operand.Formula (bare_formula f)

abbrev pub bare_modifier : Modifier → Modifier
bare_modifier m = record m { place = origin }

abbrev pub bare_gate : Gate → Gate
bare_gate g = record { modifiers = map bare_modifier g.modifiers; name = bare_name g.name; parameters = map bare_formula g.parameters; qubits = map bare_qubit g.qubits }

-- what may lack
abbrev pub maybe_bare : {A : Type 0} → (A → A) → Option A → Option A
maybe_bare f None = None
maybe_bare f (Some x) = Some (f x)

abbrev pub bare_statement : Statement → Statement
bare_statement (statement.Gate g) = statement.Gate (bare_gate g)
bare_statement (statement.Measure q a) = statement.Measure (bare_qubit q) (maybe_bare bare_reference a)
bare_statement (statement.Reset q) = statement.Reset (maybe_bare bare_qubit q)
bare_statement statement.Wait = statement.Wait
bare_statement statement.Nop = statement.Nop
bare_statement statement.Halt = statement.Halt
bare_statement (statement.Pragma n xs) = statement.Pragma (bare_name n) xs
bare_statement (statement.Label n) = statement.Label (bare_name n)
bare_statement (statement.Jump n) = statement.Jump (bare_name n)
bare_statement (statement.JumpWhen n a) = statement.JumpWhen (bare_name n) (bare_reference a)
bare_statement (statement.JumpUnless n a) = statement.JumpUnless (bare_name n) (bare_reference a)
bare_statement (statement.Not a) = statement.Not (bare_reference a)
bare_statement (statement.Neg a) = statement.Neg (bare_reference a)
bare_statement (statement.Exchange a b) = statement.Exchange (bare_reference a) (bare_reference b)
bare_statement (statement.Convert a b) = statement.Convert (bare_reference a) (bare_reference b)
bare_statement (statement.Move a x) = statement.Move (bare_reference a) (bare_operand x)
bare_statement (statement.Add a x) = statement.Add (bare_reference a) (bare_operand x)
bare_statement (statement.Sub a x) = statement.Sub (bare_reference a) (bare_operand x)
bare_statement (statement.Mul a x) = statement.Mul (bare_reference a) (bare_operand x)
bare_statement (statement.Div a x) = statement.Div (bare_reference a) (bare_operand x)
bare_statement (statement.And a x) = statement.And (bare_reference a) (bare_operand x)
bare_statement (statement.Ior a x) = statement.Ior (bare_reference a) (bare_operand x)
bare_statement (statement.Xor a x) = statement.Xor (bare_reference a) (bare_operand x)
bare_statement (statement.Load a n b) = statement.Load (bare_reference a) (bare_name n) (bare_reference b)
bare_statement (statement.Store n a x) = statement.Store (bare_name n) (bare_reference a) (bare_operand x)
bare_statement (statement.Eq r a x) = statement.Eq (bare_reference r) (bare_reference a) (bare_operand x)
bare_statement (statement.Gt r a x) = statement.Gt (bare_reference r) (bare_reference a) (bare_operand x)
bare_statement (statement.Ge r a x) = statement.Ge (bare_reference r) (bare_reference a) (bare_operand x)
bare_statement (statement.Lt r a x) = statement.Lt (bare_reference r) (bare_reference a) (bare_operand x)
bare_statement (statement.Le r a x) = statement.Le (bare_reference r) (bare_reference a) (bare_operand x)

abbrev pub bare_line : Line → Line
bare_line l = record { place = origin; statement = bare_statement l.statement }

abbrev pub bare_sharing : Sharing → Sharing
bare_sharing s = record s { base = bare_name s.base }

abbrev pub bare_declaration : Declaration → Declaration
bare_declaration d = record { place = origin; name = bare_name d.name; kind = d.kind; length = d.length; sharing = maybe_bare bare_sharing d.sharing }

abbrev pub bare_row : List Formula → List Formula
bare_row row = map bare_formula row

abbrev pub bare_form : Form → Form
bare_form (form.Matrix rows) = form.Matrix (map bare_row rows)
bare_form (form.Permutation xs) = form.Permutation xs

abbrev pub bare_gate_definition : GateDefinition → GateDefinition
bare_gate_definition d = record { place = origin; name = bare_name d.name; parameters = map bare_name d.parameters; form = bare_form d.form }

abbrev pub bare_circuit_definition : CircuitDefinition → CircuitDefinition
bare_circuit_definition d = record { place = origin; name = bare_name d.name; parameters = map bare_name d.parameters; qubits = map bare_name d.qubits; body = map bare_line d.body }

abbrev pub bare_item : Item → Item
bare_item (item.Declare d) = item.Declare (bare_declaration d)
bare_item (item.DefGate d) = item.DefGate (bare_gate_definition d)
bare_item (item.DefCircuit d) = item.DefCircuit (bare_circuit_definition d)
bare_item (item.Plain l) = item.Plain (bare_line l)

abbrev pub bare_tree : List Item → List Item
bare_tree items = map bare_item items
