-- What a token of each kind is, and which token stands first in some bytes.
use Rattle.std.specs.Prelude.{◌≡◌, ◌≢◌, ℕ, ◌≤◌, Bool, true, false, ◌||◌, ◌&&◌, ◌==◌, ◌⊎◌, List, [], ◌∷◌, ◌++◌, length, if◌then◌else◌}
use Rattle.std.specs.List.{list_all}
use Rattle.std.specs.Char.{is_ascii_alphabetic, is_ascii_alphanumeric, is_ascii_digit}
use Rattle.quil_lex.specs.declared.token.Kind.{Kind}
use Rattle.quil_lex.specs.declared.token.Kind.TheVariants.{Name, Whole, Decimal, Imaginary, Str, Parameter, Label}
use Rattle.quil_lex.specs.declared.token.Kind.TheVariants as kinds
use Rattle.quil_lex.specs.declared.token.Mark.{Mark}
use Rattle.quil_lex.specs.declared.token.Mark.TheVariants as mark

-- a letter or `_`
abbrev pub is_name_start : ℕ → Bool
is_name_start b = is_ascii_alphabetic b || b == 95

-- a letter, a digit or `_`
abbrev pub is_word : ℕ → Bool
is_word b = is_ascii_alphanumeric b || b == 95

-- letters, digits, `_` and `-`, of which the last is no `-`
abbrev pub is_name_tail : List ℕ → Bool
is_name_tail [] = true
is_name_tail (b ∷ []) = is_word b
is_name_tail (b ∷ c ∷ bs) = (is_word b || b == 45) && is_name_tail (c ∷ bs)

abbrev pub is_name : List ℕ → Bool
is_name [] = false
is_name (b ∷ bs) = is_name_start b && is_name_tail bs

-- one digit or more
abbrev pub is_digits : List ℕ → Bool
is_digits [] = false
is_digits (b ∷ bs) = is_ascii_digit b && list_all is_ascii_digit bs

-- a point, and digits
abbrev pub is_fraction : List ℕ → Bool
is_fraction [] = false
is_fraction (b ∷ bs) = (b == 46) && is_digits bs

-- `+` or `-`
abbrev pub is_sign : ℕ → Bool
is_sign b = (b == 43) || (b == 45)

-- digits, with a sign in front or without
abbrev pub is_signed_digits : List ℕ → Bool
is_signed_digits [] = false
is_signed_digits (b ∷ bs) = if is_sign b then is_digits bs else is_digits (b ∷ bs)

-- `e` or `E`
abbrev pub is_exponent_mark : ℕ → Bool
is_exponent_mark b = (b == 101) || (b == 69)

abbrev pub is_exponent : List ℕ → Bool
is_exponent [] = false
is_exponent (b ∷ bs) = is_exponent_mark b && is_signed_digits bs

-- nothing, or what passes the test
abbrev pub IsOptional : (List ℕ → Bool) → List ℕ → Type 0
IsOptional test text = (text ≡ []) ⊎ (test text ≡ true)

-- digits, and then a fraction, an exponent, or both
pub record IsDecimal (text : List ℕ) : Type 0 where
  pub whole : List ℕ
  pub fraction : List ℕ
  pub exponent : List ℕ
  pub split : text ≡ whole ++ (fraction ++ exponent)
  pub digits : is_digits whole ≡ true
  pub point : IsOptional is_fraction fraction
  pub power : IsOptional is_exponent exponent
  pub some : fraction ++ exponent ≢ []

-- a number, and `i` (105)
pub record IsImaginary (text : List ℕ) : Type 0 where
  pub number : List ℕ
  pub split : text ≡ number ++ 105 ∷ []
  pub real : (is_digits number ≡ true) ⊎ IsDecimal number

abbrev pub is_empty : List ℕ → Bool
is_empty [] = true
is_empty (b ∷ bs) = false

-- bytes other than `"`, and then a `"` (no line end is among them, since the bytes are those of one line)
abbrev pub is_string_tail : List ℕ → Bool
is_string_tail [] = false
is_string_tail (b ∷ bs) = if b == 34 then is_empty bs else is_string_tail bs

-- a byte, and then what passes the test
abbrev pub is_after : ℕ → (List ℕ → Bool) → List ℕ → Bool
is_after first test [] = false
is_after first test (b ∷ bs) = (b == first) && test bs

-- the byte of a mark
abbrev pub byte_of : Mark → ℕ
byte_of mark.LeftParenthesis = 40
byte_of mark.RightParenthesis = 41
byte_of mark.LeftBracket = 91
byte_of mark.RightBracket = 93
byte_of mark.Comma = 44
byte_of mark.Colon = 58
byte_of mark.Plus = 43
byte_of mark.Minus = 45
byte_of mark.Star = 42
byte_of mark.Slash = 47
byte_of mark.Caret = 94

-- the texts of each kind: a string stands between `"` (34), a parameter behind `%` (37), a label behind `@` (64)
abbrev pub IsToken : Kind → List ℕ → Type 0
IsToken Name text = is_name text ≡ true
IsToken Whole text = is_digits text ≡ true
IsToken Decimal text = IsDecimal text
IsToken Imaginary text = IsImaginary text
IsToken Str text = is_after 34 is_string_tail text ≡ true
IsToken Parameter text = is_after 37 is_name text ≡ true
IsToken Label text = is_after 64 is_name text ≡ true
IsToken (kinds.Mark m) text = text ≡ byte_of m ∷ []

-- a letter, a digit or `_` comes next
abbrev pub begins_word : List ℕ → Bool
begins_word [] = false
begins_word (b ∷ bs) = is_word b

-- a token that may stand directly before rest: an imaginary number stands before no letter, digit or `_`
pub record IsTokenBefore (kind : Kind) (text rest : List ℕ) : Type 0 where
  pub token : IsToken kind text
  pub apart : kind ≡ Imaginary → begins_word rest ≡ false

-- the bytes begin with this token, rest stands behind it, and no longer token stands at their front
pub record IsFirstToken (kind : Kind) (text rest bytes : List ℕ) : Type 0 where
  pub split : bytes ≡ text ++ rest
  pub token : IsTokenBefore kind text rest
  pub longest : (k : Kind) (t r : List ℕ) → bytes ≡ t ++ r → IsTokenBefore k t r → length t ≤ length text

-- no token begins at the first of these bytes
abbrev pub NoToken : List ℕ → Type 0
NoToken bytes = (k : Kind) (t r : List ℕ) → bytes ≡ t ++ r → IsTokenBefore k t r → ⊥

-- a byte comes next that may go on a name or a number: a letter, a digit, `_`, `-` or a point
abbrev pub begins_more : List ℕ → Bool
begins_more [] = false
begins_more (b ∷ bs) = is_word b || ((b == 45) || (b == 46))

-- nothing goes on a string or a mark
abbrev pub is_closed : Kind → Bool
is_closed Name = false
is_closed Whole = false
is_closed Decimal = false
is_closed Imaginary = false
is_closed Str = true
is_closed Parameter = false
is_closed Label = false
is_closed (kinds.Mark m) = true
