-- The text of a tree: one statement a line, and one more line for each row or statement of a body.
use Rattle.std.specs.Prelude.{ℕ, Bool, true, false, ◌||◌, not, ◌&&◌, bytes_eq, List, [], ◌∷◌, ◌++◌, Option, Some, None, codes, slice_get, if◌then◌else◌}
use Rattle.std.specs.List.{flat_map, list_all}
use Rattle.std.specs.Char.{is_ascii_digit}
use Rattle.quil_tree.specs.declared.expr.Address.{Address}
use Rattle.quil_tree.specs.declared.expr.Atom.{Atom}
use Rattle.quil_tree.specs.declared.expr.Atom.TheVariants as atom
use Rattle.quil_tree.specs.declared.expr.Sign.{Sign}
use Rattle.quil_tree.specs.declared.expr.Sign.TheVariants as sign
use Rattle.quil_tree.specs.declared.expr.Operator.{Operator}
use Rattle.quil_tree.specs.declared.expr.Operator.TheVariants as operator
use Rattle.quil_tree.specs.declared.expr.Function.{Function}
use Rattle.quil_tree.specs.declared.expr.Function.TheVariants as function
use Rattle.quil_tree.specs.declared.expr.Action.TheVariants as action
use Rattle.quil_tree.specs.declared.expr.Action.{Action}
use Rattle.quil_tree.specs.declared.expr.Step.{Step}
use Rattle.quil_tree.specs.declared.statement.Reference.{Reference}
use Rattle.quil_tree.specs.declared.statement.Qubit.{Qubit}
use Rattle.quil_tree.specs.declared.statement.Qubit.TheVariants as qubit
use Rattle.quil_tree.specs.declared.statement.Formula.{Formula}
use Rattle.quil_tree.specs.declared.statement.Operand.{Operand}
use Rattle.quil_tree.specs.declared.statement.Operand.TheVariants as operand
use Rattle.quil_tree.specs.declared.statement.Modification.{Modification}
use Rattle.quil_tree.specs.declared.statement.Modification.TheVariants as modification
use Rattle.quil_tree.specs.declared.statement.Gate.{Gate}
use Rattle.quil_tree.specs.declared.statement.Statement.{Statement}
use Rattle.quil_tree.specs.declared.statement.Statement.TheVariants as statement
use Rattle.quil_tree.specs.declared.item.TypeName.{TypeName}
use Rattle.quil_tree.specs.declared.item.TypeName.TheVariants as type_name
use Rattle.quil_tree.specs.declared.item.Offset.{Offset}
use Rattle.quil_tree.specs.declared.item.Sharing.{Sharing}
use Rattle.quil_tree.specs.declared.item.Declaration.{Declaration}
use Rattle.quil_tree.specs.declared.item.Form.{Form}
use Rattle.quil_tree.specs.declared.item.Form.TheVariants as form
use Rattle.quil_tree.specs.declared.item.GateDefinition.{GateDefinition}
use Rattle.quil_tree.specs.declared.item.CircuitDefinition.{CircuitDefinition}
use Rattle.quil_tree.specs.declared.item.Item.{Item}
use Rattle.quil_tree.specs.declared.item.Item.TheVariants as item
use Rattle.quil_tree.specs.Expression.{Expression, trees}
use Rattle.quil_tree.specs.Expression.Expression.{Leaf, Signed, Applied, Called}
use Rattle.quil_tree.specs.Names.{distinct, texts_of}

-- with a comma and a blank between each two
abbrev pub with_commas : List (List ℕ) → List ℕ
with_commas [] = []
with_commas (x ∷ xs) = x ++ flat_map (λ y. codes ", " ++ y) xs

-- in parentheses, if there is anything
abbrev pub listed : List (List ℕ) → List ℕ
listed [] = []
listed (x ∷ xs) = codes "(" ++ with_commas (x ∷ xs) ++ codes ")"

-- ---- expressions

abbrev pub sign_text : Sign → List ℕ
sign_text sign.Plus = codes "+"
sign_text sign.Minus = codes "-"

abbrev pub operator_text : Operator → List ℕ
operator_text operator.Add = codes " + "
operator_text operator.Subtract = codes " - "
operator_text operator.Multiply = codes " * "
operator_text operator.Divide = codes " / "
operator_text operator.Power = codes " ^ "

abbrev pub function_text : Function → List ℕ
function_text function.Sqrt = codes "sqrt"
function_text function.Sin = codes "sin"
function_text function.Cos = codes "cos"
function_text function.Cis = codes "cis"
function_text function.Exp = codes "exp"

-- a cell, always with its index
abbrev pub address_text : Address → List ℕ
address_text a = a.region ++ codes "[" ++ a.index.digits ++ codes "]"

-- the name with this number
abbrev pub name_or_none : Option (List ℕ) → List ℕ
name_or_none None = []
name_or_none (Some name) = name

-- parameters have these names, in the order of their numbers
abbrev pub atom_text : List (List ℕ) → Atom → List ℕ
atom_text names (atom.Number x) = x
atom_text names (atom.Imaginary x) = x
atom_text names atom.Pi = codes "pi"
atom_text names atom.I = codes "i"
atom_text names (atom.Parameter n) = name_or_none (slice_get names n)
atom_text names (atom.Cell a) = address_text a

abbrev pub enclosed : Bool → List ℕ → List ℕ
enclosed true x = codes "(" ++ x ++ codes ")"
enclosed false x = x

-- Parentheses stand round each sign with its operand, and round a binary operation that is an operand of another or of a sign;
-- those of a function are enough for its argument.
abbrev pub expression_text : List (List ℕ) → Bool → Expression → List ℕ
expression_text names is_operand (Leaf p a) = atom_text names a
expression_text names is_operand (Signed p s a) = codes "(" ++ sign_text s ++ expression_text names true a ++ codes ")"
expression_text names is_operand (Applied p o a b) = enclosed is_operand (expression_text names true a ++ operator_text o ++ expression_text names true b)
expression_text names is_operand (Called p f a) = function_text f ++ codes "(" ++ expression_text names false a ++ codes ")"

abbrev pub first_text : List (List ℕ) → List Expression → List ℕ
first_text names [] = []
first_text names (e ∷ es) = expression_text names false e

-- an expression by its steps
abbrev pub steps_text : List (List ℕ) → List Step → List ℕ
steps_text names steps = first_text names (trees steps [])

abbrev pub formula_text : List (List ℕ) → Formula → List ℕ
formula_text names f = steps_text names f.expr

abbrev pub formula_texts : List (List ℕ) → List Formula → List (List ℕ)
formula_texts names [] = []
formula_texts names (f ∷ fs) = formula_text names f ∷ formula_texts names fs

-- ---- operands

abbrev pub qubit_text : Qubit → List ℕ
qubit_text (qubit.Index p w) = w.digits
qubit_text (qubit.Formal n) = n.text

abbrev pub reference_text : Reference → List ℕ
reference_text r = address_text r.address

abbrev pub maybe_sign : Option Sign → List ℕ
maybe_sign None = []
maybe_sign (Some s) = sign_text s

-- a whole number and nothing more
abbrev pub is_whole_step : Action → Bool
is_whole_step (action.Push (atom.Number x)) = list_all is_ascii_digit x
is_whole_step a = false

abbrev pub is_whole_alone : List Step → Bool
is_whole_alone [] = false
is_whole_alone (s ∷ []) = is_whole_step s.action
is_whole_alone (s ∷ t ∷ ss) = false

-- an expression that is one whole number has parentheses, since without them it would be a literal
abbrev pub operand_text : List (List ℕ) → Operand → List ℕ
operand_text names (operand.Reference r) = reference_text r
operand_text names (operand.Literal p s w) = maybe_sign s ++ w.digits
operand_text names (operand.Formula f) = enclosed (is_whole_alone f.expr) (formula_text names f)

-- ---- statements

abbrev pub modification_text : Modification → List ℕ
modification_text modification.Controlled = codes "CONTROLLED"
modification_text modification.Dagger = codes "DAGGER"
modification_text modification.Forked = codes "FORKED"

abbrev pub gate_text : List (List ℕ) → Gate → List ℕ
gate_text names g = flat_map (λ m. modification_text m.kind ++ codes " ") g.modifiers ++ g.name.text ++ listed (formula_texts names g.parameters) ++ flat_map (λ q. codes " " ++ qubit_text q) g.qubits

-- the marks before which no blank stands, and those behind which none does
abbrev pub is_mark_behind : List ℕ → Bool
is_mark_behind x = bytes_eq x (codes ",") || (bytes_eq x (codes "(") || (bytes_eq x (codes ")") || (bytes_eq x (codes "[") || (bytes_eq x (codes "]") || bytes_eq x (codes ":")))))

abbrev pub is_mark_before : List ℕ → Bool
is_mark_before x = bytes_eq x (codes "(") || bytes_eq x (codes "[")

-- no blank stands between two tokens; behind a comma there is always one
abbrev pub is_joined : List ℕ → List ℕ → Bool
is_joined before x = not (bytes_eq before (codes ",")) && (is_mark_behind x || is_mark_before before)

-- the tokens of a pragma behind another token
abbrev pub pragma_text : List ℕ → List (List ℕ) → List ℕ
pragma_text before [] = []
pragma_text before (x ∷ xs) = (if is_joined before x then [] else codes " ") ++ x ++ pragma_text x xs

abbrev pub maybe_reference : Option Reference → List ℕ
maybe_reference None = []
maybe_reference (Some r) = codes " " ++ reference_text r

abbrev pub maybe_qubit : Option Qubit → List ℕ
maybe_qubit None = []
maybe_qubit (Some q) = codes " " ++ qubit_text q

-- an instruction with two operands, and with three
abbrev pub two_references : List ℕ → Reference → Reference → List ℕ
two_references word a b = word ++ codes " " ++ reference_text a ++ codes " " ++ reference_text b

abbrev pub with_operand : List (List ℕ) → List ℕ → Reference → Operand → List ℕ
with_operand names word a x = word ++ codes " " ++ reference_text a ++ codes " " ++ operand_text names x

abbrev pub compared : List (List ℕ) → List ℕ → Reference → Reference → Operand → List ℕ
compared names word r a x = two_references word r a ++ codes " " ++ operand_text names x

abbrev pub statement_text : List (List ℕ) → Statement → List ℕ
statement_text names (statement.Gate g) = gate_text names g
statement_text names (statement.Measure q a) = codes "MEASURE " ++ qubit_text q ++ maybe_reference a
statement_text names (statement.Reset q) = codes "RESET" ++ maybe_qubit q
statement_text names statement.Wait = codes "WAIT"
statement_text names statement.Nop = codes "NOP"
statement_text names statement.Halt = codes "HALT"
statement_text names (statement.Pragma n xs) = codes "PRAGMA " ++ n.text ++ pragma_text n.text xs
statement_text names (statement.Label n) = codes "LABEL " ++ n.text
statement_text names (statement.Jump n) = codes "JUMP " ++ n.text
statement_text names (statement.JumpWhen n a) = codes "JUMP-WHEN " ++ n.text ++ codes " " ++ reference_text a
statement_text names (statement.JumpUnless n a) = codes "JUMP-UNLESS " ++ n.text ++ codes " " ++ reference_text a
statement_text names (statement.Not a) = codes "NOT " ++ reference_text a
statement_text names (statement.Neg a) = codes "NEG " ++ reference_text a
statement_text names (statement.Exchange a b) = two_references (codes "EXCHANGE") a b
statement_text names (statement.Convert a b) = two_references (codes "CONVERT") a b
statement_text names (statement.Move a x) = with_operand names (codes "MOVE") a x
statement_text names (statement.Add a x) = with_operand names (codes "ADD") a x
statement_text names (statement.Sub a x) = with_operand names (codes "SUB") a x
statement_text names (statement.Mul a x) = with_operand names (codes "MUL") a x
statement_text names (statement.Div a x) = with_operand names (codes "DIV") a x
statement_text names (statement.And a x) = with_operand names (codes "AND") a x
statement_text names (statement.Ior a x) = with_operand names (codes "IOR") a x
statement_text names (statement.Xor a x) = with_operand names (codes "XOR") a x
statement_text names (statement.Load a n b) = codes "LOAD " ++ reference_text a ++ codes " " ++ n.text ++ codes " " ++ reference_text b
statement_text names (statement.Store n a x) = codes "STORE " ++ n.text ++ codes " " ++ reference_text a ++ codes " " ++ operand_text names x
statement_text names (statement.Eq r a x) = compared names (codes "EQ") r a x
statement_text names (statement.Gt r a x) = compared names (codes "GT") r a x
statement_text names (statement.Ge r a x) = compared names (codes "GE") r a x
statement_text names (statement.Lt r a x) = compared names (codes "LT") r a x
statement_text names (statement.Le r a x) = compared names (codes "LE") r a x

-- ---- declarations and definitions

abbrev pub type_text : TypeName → List ℕ
type_text type_name.Bit = codes "BIT"
type_text type_name.Octet = codes "OCTET"
type_text type_name.Integer = codes "INTEGER"
type_text type_name.Real = codes "REAL"

abbrev pub offset_text : Offset → List ℕ
offset_text o = codes " " ++ o.count.digits ++ codes " " ++ type_text o.kind

abbrev pub offsets_text : List Offset → List ℕ
offsets_text [] = []
offsets_text (o ∷ os) = codes " OFFSET" ++ flat_map offset_text (o ∷ os)

abbrev pub sharing_text : Option Sharing → List ℕ
sharing_text None = []
sharing_text (Some s) = codes " SHARING " ++ s.base.text ++ offsets_text s.offsets

-- always with the length
abbrev pub declaration_text : Declaration → List ℕ
declaration_text d = codes "DECLARE " ++ d.name.text ++ codes " " ++ type_text d.kind ++ codes "[" ++ d.length.digits ++ codes "]" ++ sharing_text d.sharing

-- a line of a body
abbrev pub body_line : List ℕ → List ℕ
body_line x = codes "    " ++ x ++ codes "\n"

-- what a header says of the form, and the body
abbrev pub form_text : Form → List ℕ
form_text (form.Matrix rows) = []
form_text (form.Permutation xs) = codes " AS PERMUTATION"

abbrev pub rows_text : List (List ℕ) → Form → List ℕ
rows_text names (form.Matrix rows) = flat_map (λ row. body_line (with_commas (formula_texts names row))) rows
rows_text names (form.Permutation xs) = body_line (with_commas xs)

abbrev pub gate_definition_text : GateDefinition → List ℕ
gate_definition_text d = codes "DEFGATE " ++ d.name.text ++ listed (texts_of d.parameters) ++ form_text d.form ++ codes ":\n" ++ rows_text (distinct (texts_of d.parameters)) d.form

abbrev pub circuit_definition_text : CircuitDefinition → List ℕ
circuit_definition_text d =
    codes "DEFCIRCUIT " ++ d.name.text ++ listed (texts_of d.parameters) ++ flat_map (λ q. codes " " ++ q.text) d.qubits ++ codes ":\n"
    ++ flat_map (λ l. body_line (statement_text (distinct (texts_of d.parameters)) l.statement)) d.body

-- the lines of an item, each with its line feed; a statement of the top level has no parameters
abbrev pub item_text : Item → List ℕ
item_text (item.Declare d) = declaration_text d ++ codes "\n"
item_text (item.DefGate d) = gate_definition_text d
item_text (item.DefCircuit d) = circuit_definition_text d
item_text (item.Plain l) = statement_text [] l.statement ++ codes "\n"

-- the text of a tree
abbrev pub printed : List Item → List ℕ
printed items = flat_map item_text items
