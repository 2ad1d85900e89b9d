-- How the lexer finds the first token: lengths that it counts from the front. Nobody has to believe these:
-- the clause of `first_token` says that what is found so is the first token in the sense of Token.antt.
use Rattle.std.specs.Prelude.{ℕ, ◌+◌, Bool, true, false, ◌&&◌, ◌==◌, nat_lt, List, [], ◌∷◌, drop, Option, Some, None, if◌then◌else◌}
use Rattle.std.specs.List.{prefix_len}
use Rattle.std.specs.Char.{is_ascii_digit}
use Rattle.quil_lex.specs.declared.token.Kind.{Kind}
use Rattle.quil_lex.specs.declared.token.Kind.TheVariants.{Name, Whole, Decimal, Imaginary, Str, Parameter, Label}
use Rattle.quil_lex.specs.declared.token.Kind.TheVariants as kinds
use Rattle.quil_lex.specs.declared.token.Mark.{Mark}
use Rattle.quil_lex.specs.declared.token.Mark.TheVariants as mark
use Rattle.quil_lex.specs.Token.{is_name_start, is_word, is_sign, is_exponent_mark, begins_word}

-- the longest tail of a name
abbrev pub name_tail_len : List ℕ → ℕ
name_tail_len [] = 0
name_tail_len (b ∷ bs) = if is_word b then 1 + name_tail_len bs
    else (if (b == 45) && nat_lt 0 (name_tail_len bs) then 1 + name_tail_len bs else 0)

-- the longest name
abbrev pub name_len : List ℕ → ℕ
name_len [] = 0
name_len (b ∷ bs) = if is_name_start b then 1 + name_tail_len bs else 0

-- the bytes up to the first `"` and with it; 0 where there is none
abbrev pub string_tail_len : List ℕ → ℕ
string_tail_len [] = 0
string_tail_len (b ∷ bs) = if b == 34 then 1 else (if nat_lt 0 (string_tail_len bs) then 1 + string_tail_len bs else 0)

abbrev pub digits_len : List ℕ → ℕ
digits_len bs = prefix_len is_ascii_digit bs

abbrev pub fraction_len : List ℕ → ℕ
fraction_len [] = 0
fraction_len (b ∷ bs) = if (b == 46) && nat_lt 0 (digits_len bs) then 1 + digits_len bs else 0

-- digits, with a sign in front or without
abbrev pub signed_len : List ℕ → ℕ
signed_len [] = 0
signed_len (b ∷ bs) = if is_sign b then (if nat_lt 0 (digits_len bs) then 1 + digits_len bs else 0) else digits_len (b ∷ bs)

abbrev pub exponent_len : List ℕ → ℕ
exponent_len [] = 0
exponent_len (b ∷ bs) = if is_exponent_mark b && nat_lt 0 (signed_len bs) then 1 + signed_len bs else 0

-- the longest fraction and the longest exponent behind it
abbrev pub tail_len : List ℕ → ℕ
tail_len bs = fraction_len bs + exponent_len (drop (fraction_len bs) bs)

-- `i`, and behind it no letter, digit or `_`
abbrev pub begins_unit : List ℕ → Bool
begins_unit [] = false
begins_unit (b ∷ bs) = if b == 105 then (if begins_word bs then false else true) else false

-- a number of n digits and a tail of m bytes, before rest
abbrev pub number_of : ℕ → ℕ → List ℕ → Kind × ℕ
number_of n m rest = if begins_unit rest then (Imaginary, n + m + 1) else (if m == 0 then (Whole, n + m) else (Decimal, n + m))

-- the number that begins with n digits
abbrev pub number_from : ℕ → List ℕ → Kind × ℕ
number_from n bs = number_of n (tail_len (drop n bs)) (drop (tail_len (drop n bs)) (drop n bs))

-- a byte, and behind it n bytes, if there are any
abbrev pub behind : Kind → ℕ → Option (Kind × ℕ)
behind kind n = if nat_lt 0 n then Some (kind, n + 1) else None

abbrev pub mark_of : ℕ → Option Mark
mark_of b =
    if b == 40 then Some mark.LeftParenthesis else (if b == 41 then Some mark.RightParenthesis
    else (if b == 91 then Some mark.LeftBracket else (if b == 93 then Some mark.RightBracket
    else (if b == 44 then Some mark.Comma else (if b == 58 then Some mark.Colon
    else (if b == 43 then Some mark.Plus else (if b == 45 then Some mark.Minus
    else (if b == 42 then Some mark.Star else (if b == 47 then Some mark.Slash
    else (if b == 94 then Some mark.Caret else None))))))))))

abbrev pub token_of_mark : Option Mark → Option (Kind × ℕ)
token_of_mark None = None
token_of_mark (Some m) = Some (kinds.Mark m, 1)

-- the kind and the length of the token at the front
abbrev pub token_of : List ℕ → Option (Kind × ℕ)
token_of [] = None
token_of (b ∷ bs) =
    if is_ascii_digit b then Some (number_from (digits_len (b ∷ bs)) (b ∷ bs))
    else (if is_name_start b then Some (Name, name_len (b ∷ bs))
    else (if b == 34 then behind Str (string_tail_len bs)
    else (if b == 37 then behind Parameter (name_len bs)
    else (if b == 64 then behind Label (name_len bs)
    else token_of_mark (mark_of b)))))
