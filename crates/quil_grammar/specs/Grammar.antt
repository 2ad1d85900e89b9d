-- The places for a token in expressions and lines, and the grammar of expressions. `Statements.antt` has the forms of lines.
-- Loosest first: `+` and `-`, `*` and `/`, a sign, `^`, and then what stands alone or in parentheses.
use Rattle.std.specs.Prelude.{if◌then◌else◌, ℕ, ◌+◌, ◌-◌, ◌*◌, ◌^◌, Bool, true, false, not, ◌&&◌, ◌||◌, nat_lt, List, [], ◌∷◌}
use Rattle.std.specs.List.{list_all}
use Rattle.quil_shape.specs.Shape.{Shape, Grammar}
use Rattle.quil_shape.specs.Shape.Shape.{One, Emit, Empty, Seq, Or, Many, Rule}
use Rattle.quil_tree.specs.declared.place.Place.{Place}
use Rattle.quil_tree.specs.declared.expr.Whole.{Whole}
use Rattle.quil_tree.specs.declared.expr.Atom.{Atom}
use Rattle.quil_tree.specs.declared.expr.Atom.TheVariants as atom
use Rattle.quil_tree.specs.declared.expr.Sign.{Sign}
use Rattle.quil_tree.specs.declared.expr.Sign.TheVariants.{Plus as Positive, Minus as Negative}
use Rattle.quil_tree.specs.declared.expr.Operator.{Operator}
use Rattle.quil_tree.specs.declared.expr.Operator.TheVariants.{Add, Subtract, Multiply, Divide, Power as Raise}
use Rattle.quil_tree.specs.declared.expr.Function.{Function}
use Rattle.quil_tree.specs.declared.expr.Function.TheVariants as function
use Rattle.quil_tree.specs.declared.statement.Name.{Name as Called}
use Rattle.quil_tree.specs.declared.statement.Qubit.{Qubit}
use Rattle.quil_tree.specs.declared.statement.Qubit.TheVariants as qubit
use Rattle.quil_grammar.specs.declared.sort.Sort.{Sort}
use Rattle.quil_grammar.specs.declared.sort.Sort.TheVariants as sort
use Rattle.quil_grammar.specs.Sort.{is_sort, is_name, is_whole}
use Rattle.quil_grammar.specs.Token.{Token}
use Rattle.quil_grammar.specs.declared.class.Class.{Class}
use Rattle.quil_grammar.specs.declared.class.Class.TheVariants as class

-- what stands round an expression: a sign, parentheses, or the parentheses of a function
pub data Around : Type 0 where
  Signed : Place → Sign → Around
  Parenthesized : Place → Around
  Argument : Place → Function → Around

-- what reading makes outside expressions: a word, with its class and its sort; a name; the name of a parameter that a
-- definition takes; a qubit; a number; a token that is kept as it was written
pub data Piece : Type 0 where
  Says : Place → Class → Sort → Piece
  Names : Called → Piece
  Takes : Called → Piece
  Acts : Qubit → Piece
  Counts : Whole → Piece
  Keeps : List ℕ → Piece

-- What reading makes: an atom; of a cell its region and then its index; an operator between its operands, which are
-- joined behind the second; what is put round an expression, before it and again behind it; and what stands outside one.
pub data Event : Type 0 where
  Stands : Place → Atom → Event
  Region : Place → List ℕ → Event
  Index : Whole → Event
  Between : Operator → Event
  Joined : Event
  Opens : Around → Event
  Closes : Event
  Makes : Piece → Event

-- rules of expressions, each with references to memory or without; those of an operand differ at their first token
pub data Name : Type 0 where
  Sum Product Unary Power Primary : Bool → Name
  OperandSum OperandProduct OperandUnary OperandPower OperandPrimary : Name

-- the sorts that may stand in a place
abbrev pub accepts : Class → Sort → Bool
accepts class.Number s = is_sort s sort.Zero || (is_sort s sort.Whole || is_sort s sort.Decimal)
accepts class.Imaginary s = is_sort s sort.Imaginary
accepts class.Pi s = is_sort s sort.Pi
accepts class.I s = is_sort s sort.I
accepts class.Parameter s = is_sort s sort.Parameter
accepts (class.Region refs) s = is_name s && refs
accepts class.Index s = is_whole s
accepts class.Function s = is_sort s sort.Sqrt || (is_sort s sort.Sin || (is_sort s sort.Cos || (is_sort s sort.Cis || is_sort s sort.Exp)))
accepts class.Additive s = is_sort s sort.Plus || is_sort s sort.Minus
accepts class.Sign s = is_sort s sort.Plus || is_sort s sort.Minus
accepts class.Multiplicative s = is_sort s sort.Star || is_sort s sort.Slash
accepts class.Caret s = is_sort s sort.Caret
accepts class.Parenthesis s = is_sort s sort.LeftParenthesis
accepts class.ArgumentBegins s = is_sort s sort.LeftParenthesis
accepts class.ParenthesisEnds s = is_sort s sort.RightParenthesis
accepts class.IndexBegins s = is_sort s sort.LeftBracket
accepts class.IndexEnds s = is_sort s sort.RightBracket
accepts class.Declare s = is_sort s sort.Declare
accepts class.CellType s = is_sort s sort.Bit || (is_sort s sort.Octet || (is_sort s sort.Integer || is_sort s sort.Real))
accepts class.Length s = is_sort s sort.Whole
accepts class.Sharing s = is_sort s sort.Sharing
accepts class.Offset s = is_sort s sort.Offset
accepts class.OffsetCount s = is_sort s sort.Zero || is_sort s sort.Whole
accepts class.Named s = is_name s
accepts class.DefGate s = is_sort s sort.DefGate
accepts class.As s = is_sort s sort.As
accepts class.Matrix s = is_sort s sort.Matrix
accepts class.Permutation s = is_sort s sort.Permutation
accepts class.LeftOutForm s = is_sort s sort.LeftOutForm
accepts class.DefCircuit s = is_sort s sort.DefCircuit
accepts class.Colon s = is_sort s sort.Colon
accepts class.Comma s = is_sort s sort.Comma
accepts class.ListBegins s = is_sort s sort.LeftParenthesis
accepts class.ListEnds s = is_sort s sort.RightParenthesis
accepts class.TakenParameter s = is_sort s sort.Parameter || is_sort s sort.Unknown
accepts class.Entry s = is_sort s sort.Zero || is_sort s sort.Whole
accepts class.Modifier s = is_sort s sort.Controlled || is_sort s sort.Dagger
accepts class.Forked s = is_sort s sort.Forked
accepts class.FifthForked s = is_sort s sort.Forked
accepts class.Gate s = is_sort s sort.Name || is_sort s sort.LeftOutForm
accepts class.Qubit s = is_whole s || is_sort s sort.Formal
accepts class.Measure s = is_sort s sort.Measure
accepts class.Reset s = is_sort s sort.Reset
accepts class.Bare s = is_sort s sort.Wait || (is_sort s sort.Nop || is_sort s sort.Halt)
accepts class.Pragma s = is_sort s sort.Pragma
accepts class.Any s = not (is_sort s sort.Semicolon) && not (is_sort s sort.Bad)
accepts class.LabelWord s = is_sort s sort.LabelWord || is_sort s sort.Jump
accepts class.JumpIf s = is_sort s sort.JumpWhen || is_sort s sort.JumpUnless
accepts class.Label s = is_sort s sort.Label
accepts class.UnaryWord s = is_sort s sort.Not || is_sort s sort.Neg
accepts class.PairWord s = is_sort s sort.Exchange || is_sort s sort.Convert
accepts class.BinaryWord s = is_sort s sort.Move || (is_sort s sort.Add || (is_sort s sort.Sub || (is_sort s sort.Mul || (is_sort s sort.Div || (is_sort s sort.And || (is_sort s sort.Ior || is_sort s sort.Xor))))))
accepts class.Load s = is_sort s sort.Load
accepts class.Store s = is_sort s sort.Store
accepts class.CompareWord s = is_sort s sort.Eq || (is_sort s sort.Gt || (is_sort s sort.Ge || (is_sort s sort.Lt || is_sort s sort.Le)))
accepts class.LeftOut s = is_sort s sort.LeftOut
accepts class.Nothing s = false
accepts class.OperandNumber s = is_sort s sort.Zero || (is_sort s sort.Whole || is_sort s sort.Decimal)
accepts class.OperandSign s = is_sort s sort.Plus || is_sort s sort.Minus

abbrev pub sign_of : Sort → Sign
sign_of s = if is_sort s sort.Plus then Positive else Negative

abbrev pub operator_of : Sort → Operator
operator_of s = if is_sort s sort.Plus then Add else (if is_sort s sort.Minus then Subtract else (if is_sort s sort.Star then Multiply else (if is_sort s sort.Slash then Divide else Raise)))

abbrev pub function_of : Sort → Function
function_of s = if is_sort s sort.Sqrt then function.Sqrt else (if is_sort s sort.Sin then function.Sin else (if is_sort s sort.Cos then function.Cos else (if is_sort s sort.Cis then function.Cis else function.Exp)))

-- `0` to `9`
abbrev pub is_digit : ℕ → Bool
is_digit b = not (nat_lt b 48) && nat_lt b 58

-- the number that decimal digits write behind those of n
abbrev pub value_behind : ℕ → List ℕ → ℕ
value_behind n [] = n
value_behind n (b ∷ bs) = value_behind (n * 10 + (b - 48)) bs

-- the whole number that digits write
abbrev pub whole_of : List ℕ → Whole
whole_of digits = record { digits = digits; value = value_behind 0 digits }

-- a word
abbrev pub said : Class → Token → List Event
said c t = Makes (Says t.place c t.sort) ∷ []

-- a name where it stands
abbrev pub name_at : Token → Called
name_at t = record { place = t.place; text = t.text }

-- a qubit: a formal one by its name, else by its index
abbrev pub qubit_at : Token → Qubit
qubit_at t = if is_sort t.sort sort.Formal then qubit.Formal (name_at t) else qubit.Index t.place (whole_of t.text)

-- what a token makes
abbrev pub value_of : Class → Token → List Event
value_of class.Number t = Stands t.place (atom.Number t.text) ∷ []
value_of class.Imaginary t = Stands t.place (atom.Imaginary t.text) ∷ []
value_of class.Pi t = Stands t.place atom.Pi ∷ []
value_of class.I t = Stands t.place atom.I ∷ []
value_of class.Parameter t = Stands t.place (atom.Parameter t.number) ∷ []
value_of (class.Region refs) t = Region t.place t.text ∷ []
value_of class.Index t = Index (whole_of t.text) ∷ []
value_of class.Function t = Opens (Argument t.place (function_of t.sort)) ∷ []
value_of class.Additive t = Between (operator_of t.sort) ∷ []
value_of class.Sign t = Opens (Signed t.place (sign_of t.sort)) ∷ []
value_of class.Multiplicative t = Between (operator_of t.sort) ∷ []
value_of class.Caret t = Between (operator_of t.sort) ∷ []
value_of class.Parenthesis t = Opens (Parenthesized t.place) ∷ []
value_of class.ArgumentBegins t = []
value_of class.ParenthesisEnds t = []
value_of class.IndexBegins t = []
value_of class.IndexEnds t = []
value_of class.Declare t = said class.Declare t
value_of class.CellType t = said class.CellType t
value_of class.Length t = Makes (Counts (whole_of t.text)) ∷ []
value_of class.Sharing t = []
value_of class.Offset t = []
value_of class.OffsetCount t = Makes (Counts (whole_of t.text)) ∷ []
value_of class.Named t = Makes (Names (name_at t)) ∷ []
value_of class.DefGate t = said class.DefGate t
value_of class.As t = []
value_of class.Matrix t = []
value_of class.Permutation t = said class.Permutation t
value_of class.LeftOutForm t = []
value_of class.DefCircuit t = said class.DefCircuit t
value_of class.Colon t = []
value_of class.Comma t = []
value_of class.ListBegins t = []
value_of class.ListEnds t = []
value_of class.TakenParameter t = Makes (Takes (name_at t)) ∷ []
value_of class.Entry t = Makes (Keeps t.text) ∷ []
value_of class.Modifier t = said class.Modifier t
value_of class.Forked t = said class.Forked t
value_of class.FifthForked t = []
value_of class.Gate t = Makes (Names (name_at t)) ∷ []
value_of class.Qubit t = Makes (Acts (qubit_at t)) ∷ []
value_of class.Measure t = said class.Measure t
value_of class.Reset t = said class.Reset t
value_of class.Bare t = said class.Bare t
value_of class.Pragma t = said class.Pragma t
value_of class.Any t = Makes (Keeps t.text) ∷ []
value_of class.LabelWord t = said class.LabelWord t
value_of class.JumpIf t = said class.JumpIf t
value_of class.Label t = Makes (Names (name_at t)) ∷ []
value_of class.UnaryWord t = said class.UnaryWord t
value_of class.PairWord t = said class.PairWord t
value_of class.BinaryWord t = said class.BinaryWord t
value_of class.Load t = said class.Load t
value_of class.Store t = said class.Store t
value_of class.CompareWord t = said class.CompareWord t
value_of class.LeftOut t = []
value_of class.Nothing t = []
value_of class.OperandNumber t = Stands t.place (atom.Number t.text) ∷ []
value_of class.OperandSign t = Opens (Signed t.place (sign_of t.sort)) ∷ []

-- a whole number of 2^64 or more
abbrev pub is_wide : Token → Bool
is_wide t = not (nat_lt (value_behind 0 t.text) (2 ^ 64))

-- an operator comes next
abbrev pub is_operator_next : List Token → Bool
is_operator_next [] = false
is_operator_next (t ∷ ts) = accepts class.Additive t.sort || (accepts class.Multiplicative t.sort || accepts class.Caret t.sort)

-- a number written by digits alone
abbrev pub is_whole_number : Token → Bool
is_whole_number t = accepts class.Number t.sort && list_all is_digit t.text

-- a whole number of 2^64 or more comes next, and no operator behind it
abbrev pub is_wide_whole_next : List Token → Bool
is_wide_whole_next [] = false
is_wide_whole_next (t ∷ ts) = is_whole_number t && (is_wide t && not (is_operator_next ts))

-- Which tokens are too large for their places: numbers, and an operand that is a number and nothing more; words that are
-- left out are taken in their places and always too much there.
abbrev pub is_too_large : Class → Token → List Token → Bool
is_too_large class.Index t behind = is_wide t
is_too_large class.Length t behind = is_wide t
is_too_large class.OffsetCount t behind = is_wide t
is_too_large class.Qubit t behind = is_whole t.sort && not (nat_lt (value_behind 0 t.text) 65536)
is_too_large class.OperandNumber t behind = is_wide_whole_next (t ∷ behind)
is_too_large class.OperandSign t behind = is_wide_whole_next behind
is_too_large class.LeftOut t behind = true
is_too_large class.LeftOutForm t behind = true
is_too_large class.FifthForked t behind = true
is_too_large _ t behind = false

-- terms behind the first
abbrev pub more_terms : Bool → Shape Class Event Name
more_terms refs = Many (Seq (One class.Additive) (Seq (Rule (Product refs)) (Emit Joined)))

-- factors behind the first
abbrev pub more_factors : Bool → Shape Class Event Name
more_factors refs = Many (Seq (One class.Multiplicative) (Seq (Rule (Unary refs)) (Emit Joined)))

-- a sign before an expression with no looser operation
abbrev pub signed : Bool → Shape Class Event Name
signed refs = Seq (One class.Sign) (Seq (Rule (Unary refs)) (Emit Closes))

-- an exponent, which may begin with a sign, or nothing
abbrev pub exponent : Bool → Shape Class Event Name
exponent refs = Or (Seq (One class.Caret) (Seq (Rule (Unary refs)) (Emit Joined))) Empty

-- an index in brackets; without one it is 0
abbrev pub index : Shape Class Event Name
index = Or (Seq (One class.IndexBegins) (Seq (One class.Index) (One class.IndexEnds))) (Emit (Index (whole_of (48 ∷ []))))

-- a cell of memory
abbrev pub cell : Bool → Shape Class Event Name
cell refs = Seq (One (class.Region refs)) index

-- a sum, and a parenthesis behind it
abbrev pub parenthesized : Bool → Shape Class Event Name
parenthesized refs = Seq (Rule (Sum refs)) (Seq (One class.ParenthesisEnds) (Emit Closes))

-- what stands alone, a function of a sum, or a sum in parentheses
abbrev pub primary : Bool → Shape Class Event Name
primary refs = Or (One class.Number) (Or (One class.Imaginary) (Or (One class.Pi) (Or (One class.I) (Or (One class.Parameter)
    (Or (cell refs) (Or (Seq (One class.Function) (Seq (One class.ArgumentBegins) (parenthesized refs))) (Seq (One class.Parenthesis) (parenthesized refs))))))))

abbrev pub body_of : Name → Shape Class Event Name
body_of (Sum refs) = Seq (Rule (Product refs)) (more_terms refs)
body_of (Product refs) = Seq (Rule (Unary refs)) (more_factors refs)
body_of (Unary refs) = Or (signed refs) (Rule (Power refs))
body_of (Power refs) = Seq (Rule (Primary refs)) (exponent refs)
body_of (Primary refs) = primary refs
body_of OperandSum = Seq (Rule OperandProduct) (more_terms false)
body_of OperandProduct = Seq (Rule OperandUnary) (more_factors false)
body_of OperandUnary = Or (Seq (One class.OperandSign) (Seq (Rule (Unary false)) (Emit Closes))) (Rule OperandPower)
body_of OperandPower = Seq (Rule OperandPrimary) (exponent false)
body_of OperandPrimary = Or (One class.OperandNumber) (Or (One class.Imaginary) (Or (One class.Pi) (Or (One class.I) (Or (One class.Parameter)
    (Or (Seq (One class.Function) (Seq (One class.ArgumentBegins) (parenthesized false))) (Seq (One class.Parenthesis) (parenthesized false)))))))

unfoldable pub quil : Grammar Class Event Name Sort Token
quil = record { kind = λ t. t.sort; accepts = accepts; value = value_of; is_large = is_too_large; body = body_of }
