-- What the parts of a statement, a declaration, a header or a row mean.
use Rattle.std.specs.Prelude.{ℕ, List, [], ◌∷◌, Option, Some, None, filter_map, if◌then◌else◌}
use Rattle.quil_tree.specs.declared.place.Place.{Place}
use Rattle.quil_tree.specs.declared.expr.Atom.TheVariants as atom
use Rattle.quil_tree.specs.declared.statement.Name.{Name}
use Rattle.quil_tree.specs.declared.statement.Reference.{Reference}
use Rattle.quil_tree.specs.declared.statement.Qubit.{Qubit}
use Rattle.quil_tree.specs.declared.statement.Formula.{Formula}
use Rattle.quil_tree.specs.declared.statement.Operand.{Operand}
use Rattle.quil_tree.specs.declared.statement.Modification.{Modification}
use Rattle.quil_tree.specs.declared.statement.Modification.TheVariants as modification
use Rattle.quil_tree.specs.declared.statement.Modifier.{Modifier}
use Rattle.quil_tree.specs.declared.statement.Statement.{Statement}
use Rattle.quil_tree.specs.declared.statement.Statement.TheVariants as statement
use Rattle.quil_tree.specs.declared.statement.Line.{Line}
use Rattle.quil_tree.specs.declared.item.TypeName.{TypeName}
use Rattle.quil_tree.specs.declared.item.TypeName.TheVariants as type_name
use Rattle.quil_tree.specs.declared.item.Offset.{Offset}
use Rattle.quil_tree.specs.declared.item.Sharing.{Sharing}
use Rattle.quil_tree.specs.declared.item.Form.{Form}
use Rattle.quil_tree.specs.declared.item.Form.TheVariants as form
use Rattle.quil_tree.specs.declared.item.Item.{Item}
use Rattle.quil_tree.specs.declared.item.Item.TheVariants as item
use Rattle.quil_grammar.specs.declared.sort.Sort.{Sort}
use Rattle.quil_grammar.specs.declared.sort.Sort.TheVariants as sort
use Rattle.quil_grammar.specs.declared.class.Class.{Class}
use Rattle.quil_grammar.specs.declared.class.Class.TheVariants as class
use Rattle.quil_grammar.specs.Sort.{is_sort}
use Rattle.quil_grammar.specs.Grammar.Piece.{Says, Names, Takes, Acts, Counts, Keeps}
use Rattle.quil_grammar.specs.Written.{formula_of, reference_at, operand_of}
use Rattle.quil_grammar.specs.Written.Written.{Alone}
use Rattle.quil_grammar.specs.Parts.{Part}
use Rattle.quil_grammar.specs.Parts.Part.{Made, Value}

-- what a part gives, where it is of the kind
abbrev pub modification_of : Sort → Modification
modification_of s = if is_sort s sort.Controlled then modification.Controlled else (if is_sort s sort.Dagger then modification.Dagger else modification.Forked)

abbrev pub modifier_of : Part → Option Modifier
modifier_of (Made (Says p c s)) = Some (record { place = p; kind = modification_of s })
modifier_of _ = None

abbrev pub name_of : Part → Option Name
name_of (Made (Names n)) = Some n
name_of _ = None

abbrev pub taken_of : Part → Option Name
taken_of (Made (Takes n)) = Some n
taken_of _ = None

abbrev pub qubit_of : Part → Option Qubit
qubit_of (Made (Acts q)) = Some q
qubit_of _ = None

abbrev pub kept_of : Part → Option (List ℕ)
kept_of (Made (Keeps x)) = Some x
kept_of _ = None

abbrev pub value_of : Part → Option Formula
value_of (Value w) = Some (formula_of w)
value_of _ = None

-- the statement of a word of several, with what stands behind it; the last `else` is the one word that is left
abbrev pub bare_of : Sort → Statement
bare_of s = if is_sort s sort.Wait then statement.Wait else (if is_sort s sort.Nop then statement.Nop else statement.Halt)

abbrev pub label_of : Sort → Name → Statement
label_of s n = if is_sort s sort.LabelWord then statement.Label n else statement.Jump n

abbrev pub jump_of : Sort → Name → Reference → Statement
jump_of s n a = if is_sort s sort.JumpWhen then statement.JumpWhen n a else statement.JumpUnless n a

abbrev pub unary_of : Sort → Reference → Statement
unary_of s a = if is_sort s sort.Not then statement.Not a else statement.Neg a

abbrev pub pair_of : Sort → Reference → Reference → Statement
pair_of s a b = if is_sort s sort.Exchange then statement.Exchange a b else statement.Convert a b

abbrev pub binary_of : Sort → Reference → Operand → Statement
binary_of s a x =
    if is_sort s sort.Move then statement.Move a x
    else (if is_sort s sort.Add then statement.Add a x
    else (if is_sort s sort.Sub then statement.Sub a x
    else (if is_sort s sort.Mul then statement.Mul a x
    else (if is_sort s sort.Div then statement.Div a x
    else (if is_sort s sort.And then statement.And a x
    else (if is_sort s sort.Ior then statement.Ior a x
    else statement.Xor a x))))))

abbrev pub compare_of : Sort → Reference → Reference → Operand → Statement
compare_of s r a x =
    if is_sort s sort.Eq then statement.Eq r a x
    else (if is_sort s sort.Gt then statement.Gt r a x
    else (if is_sort s sort.Ge then statement.Ge r a x
    else (if is_sort s sort.Lt then statement.Lt r a x
    else statement.Le r a x)))

-- a memory reference
abbrev pub cell : Reference → Part
cell a = Value (Alone a.place (atom.Cell a.address))

-- the statement of a word, by the class of the word and the parts behind it
abbrev pub measure_of : List Part → Option Statement
measure_of (Made (Acts q) ∷ []) = Some (statement.Measure q None)
measure_of (Made (Acts q) ∷ Value (Alone p (atom.Cell a)) ∷ []) = Some (statement.Measure q (Some (reference_at p a)))
measure_of _ = None

abbrev pub reset_of : List Part → Option Statement
reset_of [] = Some (statement.Reset None)
reset_of (Made (Acts q) ∷ []) = Some (statement.Reset (Some q))
reset_of _ = None

abbrev pub pragma_of : List Part → Option Statement
pragma_of (Made (Names n) ∷ kept) = Some (statement.Pragma n (filter_map kept_of kept))
pragma_of _ = None

abbrev pub named_of : (Name → Statement) → List Part → Option Statement
named_of f (Made (Names n) ∷ []) = Some (f n)
named_of f _ = None

abbrev pub one_cell_of : (Reference → Statement) → List Part → Option Statement
one_cell_of f (Value (Alone p (atom.Cell a)) ∷ []) = Some (f (reference_at p a))
one_cell_of f _ = None

abbrev pub value_behind : (Operand → Statement) → List Part → Option Statement
value_behind f (Value w ∷ []) = Some (f (operand_of w))
value_behind f _ = None

abbrev pub cell_then : (Reference → List Part → Option Statement) → List Part → Option Statement
cell_then f (Value (Alone p (atom.Cell a)) ∷ ps) = f (reference_at p a) ps
cell_then f _ = None

abbrev pub name_then : (Name → List Part → Option Statement) → List Part → Option Statement
name_then f (Made (Names n) ∷ ps) = f n ps
name_then f _ = None

abbrev pub bare_if_alone : Sort → List Part → Option Statement
bare_if_alone s [] = Some (bare_of s)
bare_if_alone s _ = None

-- a gate: its modifiers, its name, its parameters and its qubits
abbrev pub gate_named : List Name → List Part → Option Statement
gate_named (n ∷ []) ps = Some (statement.Gate (record { modifiers = filter_map modifier_of ps; name = n; parameters = filter_map value_of ps; qubits = filter_map qubit_of ps }))
gate_named _ ps = None

abbrev pub gate_of : List Part → Option Statement
gate_of ps = gate_named (filter_map name_of ps) ps

-- the statement of a first word, with its class and its sort, from the parts behind it; a gate is made of all parts
abbrev pub worded : Class → Sort → List Part → List Part → Option Statement
worded class.Measure s ps all = measure_of ps
worded class.Reset s ps all = reset_of ps
worded class.Bare s ps all = bare_if_alone s ps
worded class.Pragma s ps all = pragma_of ps
worded class.LabelWord s ps all = named_of (label_of s) ps
worded class.JumpIf s ps all = name_then (λ n. one_cell_of (jump_of s n)) ps
worded class.UnaryWord s ps all = one_cell_of (unary_of s) ps
worded class.PairWord s ps all = cell_then (λ a. one_cell_of (pair_of s a)) ps
worded class.BinaryWord s ps all = cell_then (λ a. value_behind (binary_of s a)) ps
worded class.Load s ps all = cell_then (λ a. name_then (λ n. one_cell_of (statement.Load a n))) ps
worded class.Store s ps all = name_then (λ n. cell_then (λ a. value_behind (statement.Store n a))) ps
worded class.CompareWord s ps all = cell_then (λ r. cell_then (λ a. value_behind (compare_of s r a))) ps
worded class.Modifier s ps all = gate_of all
worded class.Forked s ps all = gate_of all
worded _ s ps all = None

abbrev pub at : Place → Option Statement → Option Line
at p None = None
at p (Some s) = Some (record { place = p; statement = s })

-- a statement stands where its first token does
abbrev pub line_of : List Part → Option Line
line_of (Made (Says p c s) ∷ ps) = at p (worded c s ps (Made (Says p c s) ∷ ps))
line_of (Made (Names n) ∷ ps) = at n.place (gate_of (Made (Names n) ∷ ps))
line_of _ = None

-- a declaration
abbrev pub type_name_of : Sort → TypeName
type_name_of s = if is_sort s sort.Bit then type_name.Bit else (if is_sort s sort.Octet then type_name.Octet else (if is_sort s sort.Integer then type_name.Integer else type_name.Real))

abbrev pub offsets_of : List Part → List Offset
offsets_of (Made (Counts n) ∷ Made (Says p c s) ∷ ps) = record { count = n; kind = type_name_of s } ∷ offsets_of ps
offsets_of _ = []

abbrev pub sharing_of : List Part → Option Sharing
sharing_of (Made (Names b) ∷ ps) = Some (record { base = b; offsets = offsets_of ps })
sharing_of _ = None

abbrev pub declaration_of : Place → List Part → Option Item
declaration_of p (Made (Names n) ∷ Made (Says q c s) ∷ Made (Counts l) ∷ ps) = Some (item.Declare (record { place = p; name = n; kind = type_name_of s; length = l; sharing = sharing_of ps }))
declaration_of p _ = None

-- a definition, whose body is still to come
abbrev pub gate_form : List Part → Form
gate_form (Made (Says p class.Permutation s) ∷ []) = form.Permutation []
gate_form _ = form.Matrix []

abbrev pub gate_definition_of : Place → List Part → Option Item
gate_definition_of p (Made (Names n) ∷ ps) = Some (item.DefGate (record { place = p; name = n; parameters = filter_map taken_of ps; form = gate_form ps }))
gate_definition_of p _ = None

abbrev pub circuit_definition_of : Place → List Part → Option Item
circuit_definition_of p (Made (Names n) ∷ ps) = Some (item.DefCircuit (record { place = p; name = n; parameters = filter_map taken_of ps; qubits = filter_map name_of ps; body = [] }))
circuit_definition_of p _ = None

abbrev pub plain : Option Line → Option Item
plain None = None
plain (Some l) = Some (item.Plain l)

-- what stands at the top level
abbrev pub item_of : List Part → Option Item
item_of (Made (Says p class.Declare s) ∷ ps) = declaration_of p ps
item_of (Made (Says p class.DefGate s) ∷ ps) = gate_definition_of p ps
item_of (Made (Says p class.DefCircuit s) ∷ ps) = circuit_definition_of p ps
item_of ps = plain (line_of ps)

-- a row of a matrix and of a permutation
abbrev pub row_of : List Part → List Formula
row_of ps = filter_map value_of ps

abbrev pub numbers_of : List Part → List (List ℕ)
numbers_of ps = filter_map kept_of ps
