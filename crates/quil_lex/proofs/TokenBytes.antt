-- Only strings have bytes up to CR in them, and no token ends in CR.
use Rattle.std.proofs.Common.{◌≡◌, ◌≢◌, ℕ, ◌<◌, Bool, true, false, ◌||◌, inl, inr, List, [], ◌∷◌, ◌++◌, length, refl, ap, ◌∙◌, arith}
use Rattle.std.specs.Prelude.{nat_lt, ◌==◌}
use Rattle.std.specs.Char.{is_ascii_digit}
use Rattle.std.specs.List.{list_all}
use Rattle.std.proofs.lemmas.Bool.Decides.{nat_tests}
use Rattle.std.proofs.lemmas.List.Folds.{list_all-append}
use Rattle.quil_lex.specs.declared.token.Kind.{Kind}
use Rattle.quil_lex.specs.declared.token.Kind.TheVariants.{Name, Whole, Decimal, Imaginary, Str, Parameter, Label}
use Rattle.quil_lex.specs.declared.token.Kind.TheVariants as kinds
use Rattle.quil_lex.specs.declared.token.Mark.{Mark}
use Rattle.quil_lex.specs.declared.token.Mark.TheVariants as mark
use Rattle.quil_lex.specs.Token.{is_name_start, is_word, is_name_tail, is_name, is_digits, is_fraction, is_sign, is_signed_digits, is_exponent_mark, is_exponent, IsOptional, IsDecimal, is_empty, is_string_tail, is_after, byte_of, IsToken}
use Rattle.quil_lex.specs.Written.{has_feed}
use Rattle.quil_lex.proofs.Fronts.{bool_cases, both, and_true, string_some}

-- Plain bytes.

-- each byte is above CR (13)
abbrev is_plain : List ℕ → Bool
is_plain bytes = list_all (nat_lt 13) bytes

plain_cons : (b : ℕ) (bs : List ℕ) → nat_lt 13 b ≡ true → is_plain bs ≡ true → is_plain (b ∷ bs) ≡ true
plain_cons b bs h others = and_true (nat_lt 13 b) (is_plain bs) h others

plain_append : (xs ys : List ℕ) → is_plain xs ≡ true → is_plain ys ≡ true → is_plain (xs ++ ys) ≡ true
plain_append xs ys p q = list_all-append (nat_lt 13) xs ys ∙ and_true (is_plain xs) (is_plain ys) p q

word_byte : (b : ℕ) → is_word b ≡ true → nat_lt 13 b ≡ true
word_byte b h = grind (arith, nat_tests)

inner_byte : (b : ℕ) → (is_word b || (b == 45)) ≡ true → nat_lt 13 b ≡ true
inner_byte b h = grind (arith, nat_tests)

start_byte : (b : ℕ) → is_name_start b ≡ true → nat_lt 13 b ≡ true
start_byte b h = grind (arith, nat_tests)

digit_byte : (b : ℕ) → is_ascii_digit b ≡ true → nat_lt 13 b ≡ true
digit_byte b h = grind (arith, nat_tests)

sign_byte : (b : ℕ) → is_sign b ≡ true → nat_lt 13 b ≡ true
sign_byte b h = grind (arith, nat_tests)

exponent_byte : (b : ℕ) → is_exponent_mark b ≡ true → nat_lt 13 b ≡ true
exponent_byte b h = grind (arith, nat_tests)

same_byte : (b c : ℕ) → (b == c) ≡ true → nat_lt 13 c ≡ true → nat_lt 13 b ≡ true
same_byte b c h k = grind (arith, nat_tests)

name_tail_plain : (t : List ℕ) → is_name_tail t ≡ true → is_plain t ≡ true
name_tail_plain [] h = refl
name_tail_plain (b ∷ []) h = plain_cons b [] (word_byte b h) refl
name_tail_plain (b ∷ c ∷ t) h =
    let p = both (is_word b || (b == 45)) (is_name_tail (c ∷ t)) h in
    plain_cons b (c ∷ t) (inner_byte b p.0) (name_tail_plain (c ∷ t) p.1)

name_plain : (t : List ℕ) → is_name t ≡ true → is_plain t ≡ true
name_plain [] h = refl
name_plain (b ∷ t) h = let p = both (is_name_start b) (is_name_tail t) h in plain_cons b t (start_byte b p.0) (name_tail_plain t p.1)

all_digits_plain : (t : List ℕ) → list_all is_ascii_digit t ≡ true → is_plain t ≡ true
all_digits_plain [] h = refl
all_digits_plain (b ∷ t) h = let p = both (is_ascii_digit b) (list_all is_ascii_digit t) h in plain_cons b t (digit_byte b p.0) (all_digits_plain t p.1)

digits_plain : (t : List ℕ) → is_digits t ≡ true → is_plain t ≡ true
digits_plain [] h = refl
digits_plain (b ∷ t) h = all_digits_plain (b ∷ t) h

fraction_plain : (t : List ℕ) → is_fraction t ≡ true → is_plain t ≡ true
fraction_plain [] h = refl
fraction_plain (b ∷ t) h = let p = both (b == 46) (is_digits t) h in plain_cons b t (same_byte b 46 p.0 refl) (digits_plain t p.1)

signed_plain : (t : List ℕ) → is_signed_digits t ≡ true → is_plain t ≡ true
signed_plain [] h = refl
signed_plain (b ∷ t) h = elim (bool_cases (is_sign b)) [
  | inl s ↦ let d : is_digits t ≡ true = rw s at h in plain_cons b t (sign_byte b s) (digits_plain t d)
  | inr s ↦ let d : is_digits (b ∷ t) ≡ true = rw s at h in digits_plain (b ∷ t) d
]

exponent_plain : (t : List ℕ) → is_exponent t ≡ true → is_plain t ≡ true
exponent_plain [] h = refl
exponent_plain (b ∷ t) h = let p = both (is_exponent_mark b) (is_signed_digits t) h in plain_cons b t (exponent_byte b p.0) (signed_plain t p.1)

optional_plain : (test : List ℕ → Bool) (t : List ℕ) → ((u : List ℕ) → test u ≡ true → is_plain u ≡ true) → IsOptional test t → is_plain t ≡ true
optional_plain test t plain (inl none) = ap is_plain none
optional_plain test t plain (inr h) = plain t h

decimal_plain : (t : List ℕ) → IsDecimal t → is_plain t ≡ true
decimal_plain t d =
    let tail = plain_append d.fraction d.exponent (optional_plain is_fraction d.fraction fraction_plain d.point) (optional_plain is_exponent d.exponent exponent_plain d.power) in
    ap is_plain d.split ∙ plain_append d.whole (d.fraction ++ d.exponent) (digits_plain d.whole d.digits) tail

after_plain : (first : ℕ) (t : List ℕ) → nat_lt 13 first ≡ true → is_after first is_name t ≡ true → is_plain t ≡ true
after_plain first [] some h = refl
after_plain first (b ∷ t) some h = let p = both (b == first) (is_name t) h in plain_cons b t (same_byte b first p.0 some) (name_plain t p.1)

mark_plain : (m : Mark) → is_plain (byte_of m ∷ []) ≡ true
mark_plain mark.LeftParenthesis = refl
mark_plain mark.RightParenthesis = refl
mark_plain mark.LeftBracket = refl
mark_plain mark.RightBracket = refl
mark_plain mark.Comma = refl
mark_plain mark.Colon = refl
mark_plain mark.Plus = refl
mark_plain mark.Minus = refl
mark_plain mark.Star = refl
mark_plain mark.Slash = refl
mark_plain mark.Caret = refl

token_plain : (k : Kind) (t : List ℕ) → IsToken k t → k ≢ Str → is_plain t ≡ true
token_plain Name t h other = name_plain t h
token_plain Whole t h other = digits_plain t h
token_plain Decimal t h other = decimal_plain t h
token_plain Imaginary t h other = ap is_plain h.split ∙ plain_append h.number (105 ∷ []) (elim h.real [ inl d ↦ digits_plain h.number d | inr d ↦ decimal_plain h.number d ]) refl
token_plain Str t h other = absurd (other refl)
token_plain Parameter t h other = after_plain 37 t refl h
token_plain Label t h other = after_plain 64 t refl h
token_plain (kinds.Mark m) t h other = ap is_plain h ∙ mark_plain m

-- No LF.

feed_byte : (b : ℕ) → nat_lt 13 b ≡ true → (b == 10) ≡ false
feed_byte b h = grind (arith, nat_tests)

plain_feed : (t : List ℕ) → is_plain t ≡ true → has_feed t ≡ false
plain_feed [] h = refl
plain_feed (b ∷ t) h = let p = both (nat_lt 13 b) (is_plain t) h in rw (feed_byte b p.0) (plain_feed t p.1)

pub other_feed : (k : Kind) (t : List ℕ) → IsToken k t → k ≢ Str → has_feed t ≡ false
other_feed k t h other = plain_feed t (token_plain k t h other)

-- No CR at the end.

-- the last byte is CR
abbrev pub ends_return : List ℕ → Bool
ends_return [] = false
ends_return (b ∷ []) = b == 13
ends_return (b ∷ c ∷ bs) = ends_return (c ∷ bs)

ends_cons : (b : ℕ) (bs : List ℕ) → (b == 13) ≡ false → ends_return bs ≡ false → ends_return (b ∷ bs) ≡ false
ends_cons b [] p q = p
ends_cons b (c ∷ bs) p q = q

pub ends_append : (xs ys : List ℕ) → ends_return xs ≡ false → ends_return ys ≡ false → ends_return (xs ++ ys) ≡ false
ends_append [] ys p q = q
ends_append (b ∷ []) ys p q = ends_cons b ys p q
ends_append (b ∷ c ∷ xs) ys p q = ends_append (c ∷ xs) ys p q

pub ends_tail : (b : ℕ) (bs : List ℕ) → ends_return (b ∷ bs) ≡ false → ends_return bs ≡ false
ends_tail b [] h = refl
ends_tail b (c ∷ bs) h = h

return_byte : (b : ℕ) → nat_lt 13 b ≡ true → (b == 13) ≡ false
return_byte b h = grind (arith, nat_tests)

plain_ends : (t : List ℕ) → is_plain t ≡ true → ends_return t ≡ false
plain_ends [] h = refl
plain_ends (b ∷ t) h = let p = both (nat_lt 13 b) (is_plain t) h in ends_cons b t (return_byte b p.0) (plain_ends t p.1)

ends_later : (b : ℕ) (t : List ℕ) → 0 < length t → ends_return t ≡ false → ends_return (b ∷ t) ≡ false
ends_later b [] some h = absurd (omega arith)
ends_later b (c ∷ t) some h = h

quote_ends : (b : ℕ) (t : List ℕ) → (b == 34) ≡ true → is_empty t ≡ true → ends_return (b ∷ t) ≡ false
quote_ends b [] q h = return_byte b (same_byte b 34 q refl)
quote_ends b (c ∷ t) q h = absurd (cc)

string_tail_ends : (t : List ℕ) → is_string_tail t ≡ true → ends_return t ≡ false
string_tail_ends [] h = refl
string_tail_ends (b ∷ t) h = elim (bool_cases (b == 34)) [
  | inl q ↦ let e : is_empty t ≡ true = rw q at h in quote_ends b t q e
  | inr q ↦ let more : is_string_tail t ≡ true = rw q at h in ends_later b t (string_some t more) (string_tail_ends t more)
]

string_ends : (t : List ℕ) → is_after 34 is_string_tail t ≡ true → ends_return t ≡ false
string_ends [] h = refl
string_ends (b ∷ t) h = let p = both (b == 34) (is_string_tail t) h in ends_later b t (string_some t p.1) (string_tail_ends t p.1)

pub token_ends : (k : Kind) (t : List ℕ) → IsToken k t → ends_return t ≡ false
token_ends Str t h = string_ends t h
token_ends k t h = plain_ends t (token_plain k t h (λ e. cc))
