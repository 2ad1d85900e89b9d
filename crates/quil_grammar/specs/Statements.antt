-- The statements of Quil as shapes over the grammar of expressions: one line, up to its end or a `;`.
use Rattle.std.specs.Prelude.{ℕ, zero, suc, Bool, true, false, [], ◌∷◌}
use Rattle.quil_shape.specs.Shape.{Shape}
use Rattle.quil_shape.specs.Shape.Shape.{One, Emit, Empty, Seq, Or, Many, Rule}
use Rattle.quil_grammar.specs.declared.class.Class.{Class}
use Rattle.quil_grammar.specs.declared.class.Class.TheVariants as class
use Rattle.quil_grammar.specs.Grammar.{Name, Event, Sum, OperandSum, index, whole_of}
use Rattle.quil_grammar.specs.Grammar.Event.{Makes}
use Rattle.quil_grammar.specs.Grammar.Piece.{Counts}

-- this, or nothing
abbrev pub maybe : Shape Class Event Name → Shape Class Event Name
maybe a = Or a Empty

-- a region's name, with an index or without
abbrev pub address : Shape Class Event Name
address = Seq (One (class.Region true)) index

-- an address, a whole number with a sign or without, or an expression without addresses
abbrev pub operand : Shape Class Event Name
operand = Or address (Rule OperandSum)

-- expressions with commas between them
abbrev pub formulas : Bool → Shape Class Event Name
formulas refs = Seq (Rule (Sum refs)) (Many (Seq (One class.Comma) (Rule (Sum refs))))

abbrev pub parameters : Shape Class Event Name
parameters = Seq (One class.ListBegins) (Seq (formulas true) (One class.ListEnds))

-- the parameters and the qubits of a gate or a circuit
abbrev pub behind_name : Shape Class Event Name
behind_name = Seq (maybe parameters) (Many (One class.Qubit))

-- a gate behind a modifier
abbrev pub named : Shape Class Event Name
named = Seq (One class.Named) behind_name

-- CONTROLLED and DAGGER, so many FORKED among them, and then a gate; one more FORKED is left out
abbrev pub modified : ℕ → Shape Class Event Name
modified zero = Seq (Many (One class.Modifier)) (Or named (One class.FifthForked))
modified (suc n) = Seq (Many (One class.Modifier)) (Or named (Seq (One class.Forked) (modified n)))

-- at most four FORKED stand in one instruction: four behind a first CONTROLLED or DAGGER, and three behind a first FORKED
abbrev pub plain_gate : Shape Class Event Name
plain_gate = Seq (One class.Gate) behind_name

abbrev pub modified_gate : Shape Class Event Name
modified_gate = Or (Seq (One class.Modifier) (modified 4)) (Seq (One class.Forked) (modified 3))

abbrev pub gate : Shape Class Event Name
gate = Or plain_gate modified_gate

-- statements of the top level and of the body of a circuit, each by its word
abbrev pub measure : Shape Class Event Name
measure = Seq (One class.Measure) (Seq (One class.Qubit) (maybe address))

abbrev pub reset : Shape Class Event Name
reset = Seq (One class.Reset) (maybe (One class.Qubit))

abbrev pub pragma : Shape Class Event Name
pragma = Seq (One class.Pragma) (Seq (One class.Named) (Many (One class.Any)))

abbrev pub label : Shape Class Event Name
label = Seq (One class.LabelWord) (One class.Label)

abbrev pub jump_if : Shape Class Event Name
jump_if = Seq (One class.JumpIf) (Seq (One class.Label) address)

abbrev pub unary : Shape Class Event Name
unary = Seq (One class.UnaryWord) address

abbrev pub pair : Shape Class Event Name
pair = Seq (One class.PairWord) (Seq address address)

abbrev pub binary : Shape Class Event Name
binary = Seq (One class.BinaryWord) (Seq address operand)

abbrev pub load : Shape Class Event Name
load = Seq (One class.Load) (Seq address (Seq (One class.Named) address))

abbrev pub store : Shape Class Event Name
store = Seq (One class.Store) (Seq (One class.Named) (Seq address operand))

abbrev pub compare : Shape Class Event Name
compare = Seq (One class.CompareWord) (Seq address (Seq address operand))

abbrev pub control : Shape Class Event Name
control = Or (One class.Bare) (Or pragma (Or label jump_if))

abbrev pub classical : Shape Class Event Name
classical = Or unary (Or pair (Or binary (Or load (Or store compare))))

abbrev pub statement : Shape Class Event Name
statement = Or gate (Or measure (Or reset (Or (One class.LeftOut) (Or classical control))))

-- DECLARE; without a length a region has 1 cell
abbrev pub some_length : Shape Class Event Name
some_length = Seq (One class.IndexBegins) (Seq (One class.Length) (One class.IndexEnds))

abbrev pub length : Shape Class Event Name
length = Or some_length (Emit (Makes (Counts (whole_of (49 ∷ [])))))

abbrev pub offset : Shape Class Event Name
offset = Seq (One class.OffsetCount) (One class.CellType)

abbrev pub offsets : Shape Class Event Name
offsets = Seq (One class.Offset) (Seq offset (Many offset))

abbrev pub sharing : Shape Class Event Name
sharing = Seq (One class.Sharing) (Seq (One class.Named) (maybe offsets))

abbrev pub declaration : Shape Class Event Name
declaration = Seq (One class.Declare) (Seq (One class.Named) (Seq (One class.CellType) (Seq length (maybe sharing))))

-- the parameters that a definition names
abbrev pub formals : Shape Class Event Name
formals = Seq (One class.ListBegins) (Seq (Seq (One class.TakenParameter) (Many (Seq (One class.Comma) (One class.TakenParameter)))) (One class.ListEnds))

-- AS MATRIX, AS PERMUTATION, or a form that is left out; a permutation has no parameters
abbrev pub matrix_form : Shape Class Event Name
matrix_form = Seq (One class.As) (Or (One class.Matrix) (One class.LeftOutForm))

abbrev pub any_form : Shape Class Event Name
any_form = Seq (One class.As) (Or (One class.Matrix) (Or (One class.Permutation) (One class.LeftOutForm)))

-- the header of a gate's definition
abbrev pub gate_shape : Shape Class Event Name
gate_shape = Or (Seq formals (maybe matrix_form)) (maybe any_form)

abbrev pub gate_header : Shape Class Event Name
gate_header = Seq (One class.DefGate) (Seq (One class.Named) (Seq gate_shape (One class.Colon)))

-- the header of a circuit's definition, with its parameters and formal qubits
abbrev pub circuit_header : Shape Class Event Name
circuit_header = Seq (One class.DefCircuit) (Seq (One class.Named) (Seq (maybe formals) (Seq (Many (One class.Named)) (One class.Colon))))

-- what stands at the top level
abbrev pub top_level : Shape Class Event Name
top_level = Or declaration (Or gate_header (Or circuit_header statement))

-- a row of a matrix, and of a permutation
abbrev pub matrix_row : Shape Class Event Name
matrix_row = formulas false

abbrev pub permutation_row : Shape Class Event Name
permutation_row = Seq (One class.Entry) (Many (Seq (One class.Comma) (One class.Entry)))

-- where nothing may stand; a word that is left out is told as such even there
abbrev pub nowhere : Shape Class Event Name
nowhere = One class.LeftOut

-- where nothing may stand in a gate's body, behind the row of a permutation: no statement begins there, so no word is left out
abbrev pub nothing : Shape Class Event Name
nothing = One class.Nothing
