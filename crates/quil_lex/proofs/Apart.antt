-- A token is the first one before bytes that don't go it on.
use Rattle.std.proofs.Common.{◌≡◌, ℕ, ◌+◌, ◌<◌, Bool, true, false, ◌||◌, ◌⊎◌, inl, inr, List, [], ◌∷◌, ◌++◌, length, drop, Some, refl, sym, ap, ◌∙◌, append_assoc, arith}
use Rattle.std.specs.Prelude.{nat_lt, ◌==◌}
use Rattle.std.specs.Char.{is_ascii_digit}
use Rattle.std.proofs.lemmas.Bool.Decides.{nat_tests}
use Rattle.std.proofs.lemmas.List.{length-append, drop_at, take_at}
use Rattle.quil_lex.specs.declared.token.Kind.{Kind}
use Rattle.quil_lex.specs.declared.token.Kind.TheVariants.{Name, Whole, Decimal, Imaginary, Str, Parameter, Label}
use Rattle.quil_lex.specs.declared.token.Kind.TheVariants as kinds
use Rattle.quil_lex.specs.Token.{is_name_start, is_word, is_name_tail, is_name, is_digits, is_exponent_mark, is_string_tail, is_after, IsDecimal, IsImaginary, IsToken, begins_word, begins_more, is_closed, IsFirstToken}
use Rattle.quil_lex.specs.Scan.{name_tail_len, name_len, string_tail_len, digits_len, tail_len, begins_unit, number_of, number_from, token_of}
use Rattle.quil_lex.proofs.Fronts.{bool_cases, both, string_exact, string_some}
use Rattle.quil_lex.proofs.Numbers.{begins, digits_exact, fraction_none, exponent_none, tail_no_digit, tail_exact, Stops}
use Rattle.quil_lex.proofs.FirstToken.{numeral_of, number_token, start_no_digit, behind_some, is_byte, mark_token, unit_stops, unit_no_digit, name_some, some_length, first_some}

record Apart (r : List ℕ) : Type 0 where
  no_word : begins is_word r ≡ false
  no_dash : begins (λ b. b == 45) r ≡ false
  no_point : begins (λ b. b == 46) r ≡ false

none_of : (a b c : Bool) → (a || (b || c)) ≡ false → (a ≡ false) × (b ≡ false) × (c ≡ false)
none_of false false false h = (refl, refl, refl)
none_of true b c h = absurd (cc)
none_of false true c h = absurd (cc)
none_of false false true h = absurd (cc)

apart : (r : List ℕ) → begins_more r ≡ false → Apart r
apart [] h = record { no_word = refl; no_dash = refl; no_point = refl }
apart (b ∷ r) h = let p = none_of (is_word b) (b == 45) (b == 46) h in record { no_word = p.0; no_dash = p.1; no_point = p.2 }

no_digit_byte : (b : ℕ) → is_word b ≡ false → is_ascii_digit b ≡ false
no_digit_byte b h = grind (arith, nat_tests)

no_mark_byte : (b : ℕ) → is_word b ≡ false → is_exponent_mark b ≡ false
no_mark_byte b h = grind (arith, nat_tests)

no_unit_byte : (b : ℕ) → is_word b ≡ false → (b == 105) ≡ false
no_unit_byte b h = grind (arith, nat_tests)

stops_apart : (r : List ℕ) → Apart r → Stops r
stops_apart [] a = record { no_digit = refl; no_point = refl; no_mark = refl }
stops_apart (b ∷ r) a = record { no_digit = no_digit_byte b a.no_word; no_point = a.no_point; no_mark = no_mark_byte b a.no_word }

no_unit : (r : List ℕ) → Apart r → begins_unit r ≡ false
no_unit [] a = refl
no_unit (b ∷ r) a = rw (no_unit_byte b a.no_word) refl

apart_word : (r : List ℕ) → Apart r → begins_word r ≡ false
apart_word [] a = refl
apart_word (b ∷ r) a = a.no_word

-- the lexer finds this kind, and all of the text
abbrev Finds : Kind → List ℕ → List ℕ → Type 0
Finds k t bytes = token_of bytes ≡ Some (k, length t)

sized : {k : Kind} (bs : List ℕ) (m n : ℕ) → token_of bs ≡ Some (k, m) → m ≡ n → token_of bs ≡ Some (k, n)
sized {k} bs m n h e = h ∙ ap (λ (x : ℕ). Some (k, x)) e

-- Names.

tail_stops : (r : List ℕ) → Apart r → name_tail_len r ≡ 0
tail_stops [] a = refl
tail_stops (b ∷ r) a = rw (a.no_word, a.no_dash) refl

tail_goes : (b : ℕ) (t r : List ℕ) → name_tail_len (t ++ r) ≡ length t → 0 < length t → (is_word b || (b == 45)) ≡ true → name_tail_len (b ∷ (t ++ r)) ≡ 1 + length t
tail_goes b t r ih some h = elim (bool_cases (is_word b)) [
  | inl w ↦ rw w (omega (arith, ih))
  | inr w ↦
      let d : (b == 45) ≡ true = rw w at h in
      let positive : nat_lt 0 (name_tail_len (t ++ r)) ≡ true = grind (arith, nat_tests) in
      rw (w, d, positive) (omega (arith, ih))
]

name_tail_exact : (t r : List ℕ) → is_name_tail t ≡ true → Apart r → name_tail_len (t ++ r) ≡ length t
name_tail_exact [] r h a = tail_stops r a
name_tail_exact (b ∷ []) r h a = rw (h, tail_stops r a) (omega arith)
name_tail_exact (b ∷ c ∷ t) r h a =
    let p = both (is_word b || (b == 45)) (is_name_tail (c ∷ t)) h in
    tail_goes b (c ∷ t) r (name_tail_exact (c ∷ t) r p.1 a) (omega arith) p.0 ∙ omega arith

name_exact : (t r : List ℕ) → is_name t ≡ true → Apart r → name_len (t ++ r) ≡ length t
name_exact [] r h a = absurd (cc)
name_exact (b ∷ t) r h a = let p = both (is_name_start b) (is_name_tail t) h in rw p.0 (omega (arith, name_tail_exact t r p.1 a))

name_finds : (t r : List ℕ) → is_name t ≡ true → Apart r → Finds Name t (t ++ r)
name_finds [] r h a = absurd (cc)
name_finds (b ∷ t) r h a =
    let s = (both (is_name_start b) (is_name_tail t) h).0 in
    let f : token_of (b ∷ (t ++ r)) ≡ Some (Name, name_len (b ∷ (t ++ r))) = rw (start_no_digit b s, s) refl in
    sized (b ∷ (t ++ r)) (name_len (b ∷ (t ++ r))) (length (b ∷ t)) f (name_exact (b ∷ t) r h a)

parameter_finds : (t r : List ℕ) → is_after 37 is_name t ≡ true → Apart r → Finds Parameter t (t ++ r)
parameter_finds [] r h a = absurd (cc)
parameter_finds (b ∷ t) r h a =
    let p = both (b == 37) (is_name t) h in
    let exact = name_exact t r p.1 a in
    let some = name_some t p.1 in
    let f : token_of (37 ∷ (t ++ r)) ≡ Some (Parameter, name_len (t ++ r) + 1) = behind_some Parameter (name_len (t ++ r)) (omega (arith, exact, some)) in
    sized (b ∷ (t ++ r)) (name_len (t ++ r) + 1) (length (b ∷ t)) (ap (λ x. token_of (x ∷ (t ++ r))) (is_byte b 37 p.0) ∙ f) (omega (arith, exact))

label_finds : (t r : List ℕ) → is_after 64 is_name t ≡ true → Apart r → Finds Label t (t ++ r)
label_finds [] r h a = absurd (cc)
label_finds (b ∷ t) r h a =
    let p = both (b == 64) (is_name t) h in
    let exact = name_exact t r p.1 a in
    let some = name_some t p.1 in
    let f : token_of (64 ∷ (t ++ r)) ≡ Some (Label, name_len (t ++ r) + 1) = behind_some Label (name_len (t ++ r)) (omega (arith, exact, some)) in
    sized (b ∷ (t ++ r)) (name_len (t ++ r) + 1) (length (b ∷ t)) (ap (λ x. token_of (x ∷ (t ++ r))) (is_byte b 64 p.0) ∙ f) (omega (arith, exact))

string_finds : (t r : List ℕ) → is_after 34 is_string_tail t ≡ true → Finds Str t (t ++ r)
string_finds [] r h = absurd (cc)
string_finds (b ∷ t) r h =
    let p = both (b == 34) (is_string_tail t) h in
    let exact = string_exact t r p.1 in
    let some = string_some t p.1 in
    let f : token_of (34 ∷ (t ++ r)) ≡ Some (Str, string_tail_len (t ++ r) + 1) = behind_some Str (string_tail_len (t ++ r)) (omega (arith, exact, some)) in
    sized (b ∷ (t ++ r)) (string_tail_len (t ++ r) + 1) (length (b ∷ t)) (ap (λ x. token_of (x ∷ (t ++ r))) (is_byte b 34 p.0) ∙ f) (omega (arith, exact))

-- Numbers.

number_is : (w r rest bs : List ℕ) (m : ℕ) → bs ≡ w ++ r → is_digits w ≡ true → digits_len (w ++ r) ≡ length w → tail_len r ≡ m → drop m r ≡ rest → token_of bs ≡ Some (number_of (length w) m rest)
number_is w r rest bs m split h exact tail behind =
    let e : number_from (digits_len (w ++ r)) (w ++ r) ≡ number_of (length w) m rest = rw (exact, drop_at w r (length w) refl, tail, behind) refl in
    ap token_of split ∙ number_token w r h ∙ ap (λ (j : Kind × ℕ). Some j) e

whole_finds : (t r : List ℕ) → is_digits t ≡ true → Apart r → Finds Whole t (t ++ r)
whole_finds t r h a =
    let stops = stops_apart r a in
    let none : tail_len r ≡ 0 = rw (fraction_none r stops.no_point, exponent_none r stops.no_mark) refl in
    let e : number_of (length t) 0 r ≡ (Whole, length t + 0) = rw (no_unit r a) refl in
    sized (t ++ r) (length t + 0) (length t) (number_is t r r (t ++ r) 0 refl h (digits_exact t r h stops.no_digit) none refl ∙ ap (λ (j : Kind × ℕ). Some j) e) (omega arith)

decimal_finds : (t r : List ℕ) → IsDecimal t → Apart r → Finds Decimal t (t ++ r)
decimal_finds t r d a =
    let tail = d.fraction ++ d.exponent in
    let stops = stops_apart r a in
    let stop = tail_no_digit d.fraction d.exponent r d.point d.power d.some in
    let exact = tail_exact d.fraction d.exponent r d.point d.power stops in
    let size : length t ≡ length d.whole + length tail = ap length d.split ∙ length-append d.whole tail in
    let some : 0 < length tail = some_length tail d.some in
    let many : (length tail == 0) ≡ false = grind (arith, nat_tests, some) in
    let s : t ++ r ≡ d.whole ++ (tail ++ r) = ap (λ l. l ++ r) d.split ∙ append_assoc d.whole tail r in
    let e : number_of (length d.whole) (length tail) r ≡ (Decimal, length d.whole + length tail) = rw (no_unit r a, many) refl in
    sized (t ++ r) (length d.whole + length tail) (length t) (number_is d.whole (tail ++ r) r (t ++ r) (length tail) s d.digits (digits_exact d.whole (tail ++ r) d.digits stop) exact (drop_at tail r (length tail) refl) ∙ ap (λ (j : Kind × ℕ). Some j) e) (sym size)

imaginary_finds : (t r : List ℕ) → IsImaginary t → begins_word r ≡ false → Finds Imaginary t (t ++ r)
imaginary_finds t r i no_word =
    let v = numeral_of i.number i.real in
    let tail = v.fraction ++ v.exponent in
    let size : length t ≡ length v.whole + length tail + 1 = ap length i.split ∙ length-append i.number (105 ∷ []) ∙ omega (arith, ap length v.split, length-append v.whole tail) in
    let s : t ++ r ≡ v.whole ++ (tail ++ 105 ∷ r) = ap (λ l. l ++ r) i.split ∙ append_assoc i.number (105 ∷ []) r ∙ ap (λ l. l ++ 105 ∷ r) v.split ∙ append_assoc v.whole tail (105 ∷ r) in
    let e : number_of (length v.whole) (length tail) (105 ∷ r) ≡ (Imaginary, length v.whole + length tail + 1) = rw no_word refl in
    sized (t ++ r) (length v.whole + length tail + 1) (length t)
    (number_is v.whole (tail ++ 105 ∷ r) (105 ∷ r) (t ++ r) (length tail) s v.digits (digits_exact v.whole (tail ++ 105 ∷ r) v.digits (unit_no_digit v r))
    (tail_exact v.fraction v.exponent (105 ∷ r) v.point v.power (unit_stops r)) (drop_at tail (105 ∷ r) (length tail) refl) ∙ ap (λ (j : Kind × ℕ). Some j) e) (sym size)

-- The law.

found_first : (k : Kind) (t r : List ℕ) → Finds k t (t ++ r) → IsFirstToken k t r (t ++ r)
found_first k t r h = first_some (t ++ r) k (length t) t r h (sym (take_at t r (length t) refl)) (sym (drop_at t r (length t) refl))

open_first : (k : Kind) (t r : List ℕ) → is_closed k ≡ false → IsToken k t → Apart r → IsFirstToken k t r (t ++ r)
open_first Name t r o h a = found_first Name t r (name_finds t r h a)
open_first Whole t r o h a = found_first Whole t r (whole_finds t r h a)
open_first Decimal t r o h a = found_first Decimal t r (decimal_finds t r h a)
open_first Imaginary t r o h a = found_first Imaginary t r (imaginary_finds t r h (apart_word r a))
open_first Parameter t r o h a = found_first Parameter t r (parameter_finds t r h a)
open_first Label t r o h a = found_first Label t r (label_finds t r h a)
open_first Str t r o h a = absurd (cc)
open_first (kinds.Mark m) t r o h a = absurd (cc)

closed_first : (k : Kind) (t r : List ℕ) → is_closed k ≡ true → IsToken k t → IsFirstToken k t r (t ++ r)
closed_first Str t r c h = found_first Str t r (string_finds t r h)
closed_first (kinds.Mark m) t r c h = found_first (kinds.Mark m) t r (sized (t ++ r) 1 (length t) (ap (λ l. token_of (l ++ r)) h ∙ mark_token m r) (sym (ap length h)))
closed_first Name t r c h = absurd (cc)
closed_first Whole t r c h = absurd (cc)
closed_first Decimal t r c h = absurd (cc)
closed_first Imaginary t r c h = absurd (cc)
closed_first Parameter t r c h = absurd (cc)
closed_first Label t r c h = absurd (cc)

pub stands_apart : (k : Kind) (t r : List ℕ) → IsToken k t → (is_closed k ≡ true) ⊎ (begins_more r ≡ false) → IsFirstToken k t r (t ++ r)
stands_apart k t r h (inl c) = closed_first k t r c h
stands_apart k t r h (inr m) = elim (bool_cases (is_closed k)) [ inl c ↦ closed_first k t r c h | inr o ↦ open_first k t r o h (apart r m) ]
