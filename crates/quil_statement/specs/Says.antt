-- What the reader of statements tells: the parts that it read and their meaning. `parse` is told by other words, so nobody
-- has to believe these for it.
use Rattle.std.specs.Prelude.{◌≡◌, ℕ, Bool, true, false, List, [], ◌∷◌, Option, Some, None}
use Rattle.quil_shape.specs.Shape.{Shape}
use Rattle.quil_shape.specs.Reads.{Advances}
use Rattle.quil_tree.specs.declared.statement.Reference.{Reference}
use Rattle.quil_tree.specs.declared.statement.Qubit.{Qubit}
use Rattle.quil_tree.specs.declared.statement.Formula.{Formula}
use Rattle.quil_tree.specs.declared.statement.Operand.{Operand}
use Rattle.quil_tree.specs.declared.statement.Line.{Line}
use Rattle.quil_tree.specs.declared.item.Item.{Item}
use Rattle.quil_grammar.specs.declared.class.Class.{Class}
use Rattle.quil_grammar.specs.declared.class.Class.TheVariants as class
use Rattle.quil_grammar.specs.Token.{Token}
use Rattle.quil_grammar.specs.Grammar.{quil, Name, Event}
use Rattle.quil_grammar.specs.Tables.{tables}
use Rattle.quil_grammar.specs.Grammar.Piece.{Acts}
use Rattle.quil_grammar.specs.Written.{Written, operand_of}
use Rattle.quil_grammar.specs.Parts.{Part, parts_events}
use Rattle.quil_grammar.specs.Parts.Part.{Made, Value}
use Rattle.quil_grammar.specs.Statements.{operand, matrix_row, permutation_row}
use Rattle.quil_statement.specs.Meaning.{cell, line_of, item_of, row_of, numbers_of}

-- a token of the class makes a word, and is never too large
abbrev pub is_word : Class → Bool
is_word class.CellType = true
is_word class.Permutation = true
is_word class.Modifier = true
is_word class.Forked = true
is_word class.Declare = true
is_word class.DefGate = true
is_word class.DefCircuit = true
is_word class.Measure = true
is_word class.Reset = true
is_word class.Bare = true
is_word class.Pragma = true
is_word class.LabelWord = true
is_word class.JumpIf = true
is_word class.UnaryWord = true
is_word class.PairWord = true
is_word class.BinaryWord = true
is_word class.Load = true
is_word class.Store = true
is_word class.CompareWord = true
is_word _ = false

-- a token of the class makes nothing, and is never too large
abbrev pub is_silent : Class → Bool
is_silent class.IndexBegins = true
is_silent class.IndexEnds = true
is_silent class.ListBegins = true
is_silent class.ListEnds = true
is_silent class.Comma = true
is_silent class.Colon = true
is_silent class.Sharing = true
is_silent class.Offset = true
is_silent class.As = true
is_silent class.Matrix = true
is_silent _ = false

-- a token of the class is a name
abbrev pub is_naming : Class → Bool
is_naming class.Named = true
is_naming class.Gate = true
is_naming class.Label = true
is_naming _ = false

-- a token of the class is a number below 2^64
abbrev pub is_counting : Class → Bool
is_counting class.Length = true
is_counting class.OffsetCount = true
is_counting _ = false

-- a token of the class is kept as it was written
abbrev pub is_keeping : Class → Bool
is_keeping class.Any = true
is_keeping class.Entry = true
is_keeping _ = false

-- reading the shape makes these parts
abbrev pub Reads : Shape Class Event Name → List Token → List Token → List Part → Type 0
Reads s ts us ps = Advances quil tables s ts us (parts_events ps)

-- an operand is read
pub record IsOperand (ts us : List Token) (o : Operand) : Type 0 where
  pub written : Written
  pub reads : Reads operand ts us (Value written ∷ [])
  pub is_meaning : o ≡ operand_of written

-- the parts of what may lack
abbrev pub maybe_cell : Option Reference → List Part
maybe_cell None = []
maybe_cell (Some a) = cell a ∷ []

abbrev pub maybe_qubit : Option Qubit → List Part
maybe_qubit None = []
maybe_qubit (Some q) = Made (Acts q) ∷ []

-- a statement is read
pub record SaysLine (s : Shape Class Event Name) (ts us : List Token) (l : Line) : Type 0 where
  pub parts : List Part
  pub reads : Reads s ts us parts
  pub means : line_of parts ≡ Some l

-- an item is read; the body of a definition is still to come
pub record SaysItem (s : Shape Class Event Name) (ts us : List Token) (i : Item) : Type 0 where
  pub parts : List Part
  pub reads : Reads s ts us parts
  pub means : item_of parts ≡ Some i

-- a row of a matrix is read
pub record SaysRow (ts us : List Token) (row : List Formula) : Type 0 where
  pub parts : List Part
  pub reads : Reads matrix_row ts us parts
  pub means : row_of parts ≡ row

-- the row of a permutation is read
pub record SaysNumbers (ts us : List Token) (row : List (List ℕ)) : Type 0 where
  pub parts : List Part
  pub reads : Reads permutation_row ts us parts
  pub means : numbers_of parts ≡ row
