-- The tokens of a text as the grammar reads them.
use Rattle.std.specs.Prelude.{ℕ, Bool, ◌&&◌, bytes_eq, List, [], ◌∷◌, ◌++◌, map, fold, if◌then◌else◌}
use Rattle.std.specs.List.{list_any, position_or_len}
use Rattle.quil_tree.specs.declared.place.Place.{Place}
use Rattle.quil_tree.specs.Names.{with_name}
use Rattle.quil_lex.specs.declared.segment.End.{End}
use Rattle.quil_lex.specs.declared.segment.End.TheVariants as end
use Rattle.quil_lex.specs.Reading.{Lexeme, Span}
use Rattle.quil_grammar.specs.declared.sort.Sort.{Sort}
use Rattle.quil_grammar.specs.declared.sort.Sort.TheVariants as sort
use Rattle.quil_grammar.specs.Sort.{sort_of, is_sort, is_name}

-- a token: its sort, its bytes, its place, and of a parameter its number
pub record Token : Type 0 where
  pub sort : Sort
  pub text : List ℕ
  pub place : Place
  pub number : ℕ

-- the lexeme is a parameter
abbrev pub is_parameter : Lexeme → Bool
is_parameter l = is_sort (sort_of l.kind l.text) sort.Parameter

-- the parameters that have appeared, in the order of their first appearance
abbrev pub names_with : List (List ℕ) → Lexeme → List (List ℕ)
names_with names l = if is_parameter l then with_name names l.text else names

-- how many parameters appeared before this one first did
abbrev pub number_among : List (List ℕ) → List ℕ → ℕ
number_among names text = position_or_len (bytes_eq text) names

-- a lexeme behind those in which these parameters appeared
abbrev pub token_of : List (List ℕ) → Lexeme → Token
token_of names l = record { sort = sort_of l.kind l.text; text = l.text; place = record { line = l.line; column = l.column }; number = if is_parameter l then number_among names l.text else 0 }

abbrev pub tokens_of : List (List ℕ) → List Lexeme → List Token
tokens_of names [] = []
tokens_of names (l ∷ ls) = token_of names l ∷ tokens_of (names_with names l) ls

-- a byte that is a token of its own
abbrev pub byte_token : Sort → ℕ → ℕ → Token
byte_token s line column = record { sort = s; text = []; place = record { line = line; column = column }; number = 0 }

-- a `;` and a byte at which no token begins are tokens; the end of a line is none
abbrev pub end_tokens : ℕ → End → List Token
end_tokens line end.Line = []
end_tokens line (end.Semicolon column) = byte_token sort.Semicolon line column ∷ []
end_tokens line (end.BadToken column) = byte_token sort.Bad line column ∷ []

-- the tokens of spans, all lines as one
abbrev pub tokens_among : List (List ℕ) → List Span → List Token
tokens_among names [] = []
tokens_among names (s ∷ ss) = tokens_of names s.lexemes ++ (end_tokens s.line s.end ++ tokens_among (fold names_with names s.lexemes) ss)

-- the place behind the last byte of the last line
abbrev pub end_of : List Span → Place
end_of [] = record { line = 1; column = 1 }
end_of (s ∷ []) = record { line = s.line; column = s.line_end }
end_of (s ∷ t ∷ ss) = end_of (t ∷ ss)

-- the names that a definition gives to what stands in its body: its parameters, and a circuit's qubits
pub record Context : Type 0 where
  pub parameters : List (List ℕ)
  pub qubits : List (List ℕ)

-- outside definitions there are none
abbrev pub no_context : Context
no_context = record { parameters = []; qubits = [] }

-- the sort of a token in a definition: a formal qubit's name has the sort Formal, and a parameter that the definition lacks
-- has the sort Unknown
abbrev pub sort_in : Context → Sort → List ℕ → Sort
sort_in c s text =
    if is_sort s sort.Parameter then (if list_any (bytes_eq text) c.parameters then sort.Parameter else sort.Unknown)
    else (if is_name s && list_any (bytes_eq text) c.qubits then sort.Formal else s)

-- a token there; of a known parameter with its number among the parameters
abbrev pub token_in : Context → Lexeme → Token
token_in c l = record { sort = sort_in c (sort_of l.kind l.text) l.text; text = l.text; place = record { line = l.line; column = l.column }; number = if is_parameter l then number_among c.parameters l.text else 0 }

-- a byte at which no token begins is a token
abbrev pub bad_token : ℕ → End → List Token
bad_token line end.Line = []
bad_token line (end.Semicolon column) = []
bad_token line (end.BadToken column) = byte_token sort.Bad line column ∷ []

-- The tokens of a statement, a header or a row. The first one is never a qubit: a formal qubit's name there is a plain name.
abbrev pub line_tokens : Context → List Lexeme → List Token
line_tokens c [] = []
line_tokens c (l ∷ ls) = token_in (record c { qubits = [] }) l ∷ map (token_in c) ls

-- the tokens of a span, and the byte at which none begins
abbrev pub span_tokens : Context → Span → List Token
span_tokens c s = line_tokens c s.lexemes ++ bad_token s.line s.end

-- the column of a `;`, or else the one behind the line's last byte
abbrev pub end_column : End → ℕ → ℕ
end_column end.Line n = n
end_column (end.Semicolon column) n = column
end_column (end.BadToken column) n = n

-- where a span ends: at its `;`, or behind the last byte of its line
abbrev pub span_end : Span → Place
span_end s = record { line = s.line; column = end_column s.end s.line_end }
