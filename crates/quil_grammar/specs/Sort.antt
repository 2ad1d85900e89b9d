-- Sorts of tokens, and the words of the language.
use Rattle.std.specs.Prelude.{ℕ, Bool, ◌==◌, ◌||◌, bytes_eq, List, [], ◌∷◌, ◌++◌, map, codes, if◌then◌else◌}
use Rattle.std.specs.List.{list_all}
use denote.Enum.Declared.{tag_of}
use Rattle.quil_lex.specs.declared.token.Kind.{Kind}
use Rattle.quil_lex.specs.declared.token.Kind.TheVariants as kind
use Rattle.quil_lex.specs.declared.token.Mark.{Mark}
use Rattle.quil_lex.specs.declared.token.Mark.TheVariants as mark
use Rattle.quil_grammar.specs.declared.sort.Sort.{Sort}
use Rattle.quil_grammar.specs.declared.sort.Sort.TheVariants as sort
use Rattle.quil_grammar.specs.contracts.sort.Sort.{the_type}

-- the words of expressions, each with its sort
abbrev pub expression_words : List (List ℕ × Sort)
expression_words = (codes "pi", sort.Pi) ∷ (codes "i", sort.I) ∷ (codes "sqrt", sort.Sqrt) ∷ (codes "sin", sort.Sin) ∷ (codes "cos", sort.Cos) ∷ (codes "cis", sort.Cis) ∷ (codes "exp", sort.Exp) ∷ []

-- the words of statements and definitions
abbrev pub statement_words : List (List ℕ × Sort)
statement_words = (codes "DECLARE", sort.Declare) ∷ (codes "BIT", sort.Bit) ∷ (codes "OCTET", sort.Octet) ∷ (codes "INTEGER", sort.Integer) ∷ (codes "REAL", sort.Real)
    ∷ (codes "SHARING", sort.Sharing) ∷ (codes "OFFSET", sort.Offset) ∷ (codes "DEFGATE", sort.DefGate) ∷ (codes "AS", sort.As) ∷ (codes "MATRIX", sort.Matrix)
    ∷ (codes "PERMUTATION", sort.Permutation) ∷ (codes "DEFCIRCUIT", sort.DefCircuit) ∷ (codes "CONTROLLED", sort.Controlled) ∷ (codes "DAGGER", sort.Dagger) ∷ (codes "FORKED", sort.Forked)
    ∷ (codes "MEASURE", sort.Measure) ∷ (codes "RESET", sort.Reset) ∷ (codes "WAIT", sort.Wait) ∷ (codes "NOP", sort.Nop) ∷ (codes "HALT", sort.Halt)
    ∷ (codes "PRAGMA", sort.Pragma) ∷ (codes "LABEL", sort.LabelWord) ∷ (codes "JUMP", sort.Jump) ∷ (codes "JUMP-WHEN", sort.JumpWhen) ∷ (codes "JUMP-UNLESS", sort.JumpUnless)
    ∷ (codes "NOT", sort.Not) ∷ (codes "NEG", sort.Neg) ∷ (codes "EXCHANGE", sort.Exchange) ∷ (codes "CONVERT", sort.Convert) ∷ (codes "MOVE", sort.Move)
    ∷ (codes "ADD", sort.Add) ∷ (codes "SUB", sort.Sub) ∷ (codes "MUL", sort.Mul) ∷ (codes "DIV", sort.Div) ∷ (codes "AND", sort.And)
    ∷ (codes "IOR", sort.Ior) ∷ (codes "XOR", sort.Xor) ∷ (codes "LOAD", sort.Load) ∷ (codes "STORE", sort.Store) ∷ (codes "EQ", sort.Eq)
    ∷ (codes "GT", sort.Gt) ∷ (codes "GE", sort.Ge) ∷ (codes "LT", sort.Lt) ∷ (codes "LE", sort.Le) ∷ []

-- the words with which a statement of the whole of Quil may begin, but none of this profile
abbrev pub left_out : List (List ℕ)
left_out = codes "INCLUDE" ∷ codes "TRUE" ∷ codes "FALSE" ∷ codes "OR" ∷ codes "DEFCAL" ∷ codes "DEFFRAME" ∷ codes "DEFWAVEFORM" ∷ codes "PULSE" ∷ codes "CAPTURE" ∷ codes "RAW-CAPTURE" ∷ codes "DELAY" ∷ codes "FENCE" ∷ []

-- the forms of a gate's definition that this profile leaves out
abbrev pub left_out_forms : List (List ℕ)
left_out_forms = codes "PAULI-SUM" ∷ codes "SEQUENCE" ∷ []

-- all these words, each with its sort
abbrev pub language_words : List (List ℕ × Sort)
language_words = expression_words ++ (statement_words ++ (map (λ w. (w, sort.LeftOut)) left_out ++ map (λ w. (w, sort.LeftOutForm)) left_out_forms))

-- the sort of a word in a table; a word that isn't there is a name
abbrev pub sort_among : List (List ℕ × Sort) → List ℕ → Sort
sort_among [] word = sort.Name
sort_among (entry ∷ entries) word = if bytes_eq entry.0 word then entry.1 else sort_among entries word

unfoldable pub word_sort : List ℕ → Sort
word_sort word = sort_among language_words word

abbrev pub sort_of_mark : Mark → Sort
sort_of_mark mark.LeftParenthesis = sort.LeftParenthesis
sort_of_mark mark.RightParenthesis = sort.RightParenthesis
sort_of_mark mark.LeftBracket = sort.LeftBracket
sort_of_mark mark.RightBracket = sort.RightBracket
sort_of_mark mark.Comma = sort.Comma
sort_of_mark mark.Colon = sort.Colon
sort_of_mark mark.Plus = sort.Plus
sort_of_mark mark.Minus = sort.Minus
sort_of_mark mark.Star = sort.Star
sort_of_mark mark.Slash = sort.Slash
sort_of_mark mark.Caret = sort.Caret

abbrev pub sort_of : Kind → List ℕ → Sort
sort_of kind.Name text = word_sort text
sort_of kind.Whole text = if list_all (λ b. b == 48) text then sort.Zero else sort.Whole
sort_of kind.Decimal text = sort.Decimal
sort_of kind.Imaginary text = sort.Imaginary
sort_of kind.Str text = sort.Str
sort_of kind.Parameter text = sort.Parameter
sort_of kind.Label text = sort.Label
sort_of (kind.Mark m) text = sort_of_mark m

-- how many sorts are declared before it
abbrev pub number_of : Sort → ℕ
number_of s = tag_of the_type s

-- Two sorts are the same. This is what `==` tells of sorts, and the law `sorts_are_told_apart` says all that there is to it.
abbrev pub is_sort : Sort → Sort → Bool
is_sort a b = number_of a == number_of b

-- a name: a formal qubit's, and a word that the language leaves out, are names where nothing else is said
abbrev pub is_name : Sort → Bool
is_name s = is_sort s sort.Name || (is_sort s sort.LeftOut || (is_sort s sort.LeftOutForm || is_sort s sort.Formal))

-- a whole number
abbrev pub is_whole : Sort → Bool
is_whole s = is_sort s sort.Zero || is_sort s sort.Whole
