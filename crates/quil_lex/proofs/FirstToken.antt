-- What the lexer finds at the front is the first token, and the only one.
use Rattle.std.proofs.Common.{◌≡◌, ◌≢◌, ℕ, ◌+◌, ◌<◌, ◌≤◌, Bool, true, false, cond, ◌⊎◌, inl, inr, List, [], ◌∷◌, ◌++◌, length, take, drop, Option, Some, None, refl, sym, ap, ◌∙◌, subst, append_assoc, arith}
use Rattle.std.specs.Prelude.{nat_lt, ◌==◌}
use Rattle.std.specs.Char.{is_ascii_digit}
use Rattle.std.proofs.lemmas.Bool.Decides.{nat_tests}
use Rattle.std.proofs.lemmas.List.{append-nil, length-append, drop_at, take_at}
use Rattle.quil_lex.specs.declared.token.Kind.{Kind}
use Rattle.quil_lex.specs.declared.token.Kind.TheVariants.{Name, Whole, Decimal, Imaginary, Str, Parameter, Label}
use Rattle.quil_lex.specs.declared.token.Kind.TheVariants as kinds
use Rattle.quil_lex.specs.declared.token.Mark.{Mark}
use Rattle.quil_lex.specs.declared.token.Mark.TheVariants as mark
use Rattle.quil_lex.specs.Token.{is_name_start, is_name_tail, is_name, is_digits, is_fraction, is_exponent, is_string_tail, is_after, IsOptional, IsDecimal, IsImaginary, byte_of, IsToken, begins_word, IsTokenBefore, IsFirstToken, NoToken}
use Rattle.quil_lex.specs.Scan.{name_len, string_tail_len, digits_len, tail_len, begins_unit, number_of, number_from, behind, mark_of, token_of_mark, token_of}
use Rattle.quil_lex.proofs.Fronts.{Front, bool_cases, both, and_true, chosen, name_front, name_bound, string_front, string_some, string_exact}
use Rattle.quil_lex.proofs.Numbers.{begins, digits_bound, digits_exact, some_digits, drop_front, tail_front, tail_no_digit, tail_bound, tail_exact, Stops}

-- a token of this kind and length stands at the front
pub record Found (j : Kind × ℕ) (bytes : List ℕ) : Type 0 where
  pub text : List ℕ
  pub rest : List ℕ
  pub split : bytes ≡ text ++ rest
  pub size : length text ≡ j.1
  pub token : IsTokenBefore j.0 text rest

-- the lexer finds a token, none shorter than this one, and of its kind where it is as long
pub record Agrees (k : Kind) (t bytes : List ℕ) : Type 0 where
  pub kind : Kind
  pub len : ℕ
  pub found : token_of bytes ≡ Some (kind, len)
  pub bound : length t ≤ len
  pub same : length t ≡ len → k ≡ kind

nil_cases : (l : List ℕ) → (l ≡ []) ⊎ (l ≢ [])
nil_cases [] = inl refl
nil_cases (b ∷ l) = inr (λ e. absurd (cc))

-- Numbers.

unit_split : (r : List ℕ) → begins_unit r ≡ true → (more : List ℕ) × (r ≡ 105 ∷ more) × (begins_word more ≡ false)
unit_split [] h = absurd (cc)
unit_split (b ∷ r) h =
    elim (chosen (b == 105) (cond (begins_word r) false true) false true h) [
      | inl p ↦ elim (chosen (begins_word r) false true true p.1) [
        | inl q ↦ absurd (cc)
        | inr q ↦ let same : b ≡ 105 = grind (arith, nat_tests, p.0) in (r, ap (λ x. x ∷ r) same, q.0)
      ]
      | inr p ↦ absurd (cc)
    ]

-- digits with what may stand behind them
pub record Numeral (text : List ℕ) : Type 0 where
  pub whole : List ℕ
  pub fraction : List ℕ
  pub exponent : List ℕ
  pub split : text ≡ whole ++ (fraction ++ exponent)
  pub digits : is_digits whole ≡ true
  pub point : IsOptional is_fraction fraction
  pub power : IsOptional is_exponent exponent

decimal : {u : List ℕ} (n : Numeral u) → n.fraction ++ n.exponent ≢ [] → IsDecimal u
decimal n some = record { whole = n.whole; fraction = n.fraction; exponent = n.exponent; split = n.split; digits = n.digits; point = n.point; power = n.power; some = some }

real_of : {u : List ℕ} (n : Numeral u) → (is_digits u ≡ true) ⊎ IsDecimal u
real_of {u} n = elim (nil_cases (n.fraction ++ n.exponent)) [
  | inl none ↦ let e : u ≡ n.whole = n.split ∙ ap (λ l. n.whole ++ l) none ∙ append-nil n.whole in inl (ap is_digits e ∙ n.digits)
  | inr some ↦ inr (decimal n some)
]

pub numeral_of : (u : List ℕ) → (is_digits u ≡ true) ⊎ IsDecimal u → Numeral u
numeral_of u (inl h) = record { whole = u; fraction = []; exponent = []; split = sym (append-nil u); digits = h; point = inl refl; power = inl refl }
numeral_of u (inr d) = record { whole = d.whole; fraction = d.fraction; exponent = d.exponent; split = d.split; digits = d.digits; point = d.point; power = d.power }

plain : {kind : Kind} (text rest : List ℕ) → IsToken kind text → kind ≢ Imaginary → IsTokenBefore kind text rest
plain text rest h other = record { token = h; apart = λ e. absurd (other e) }

no_nil : (l : List ℕ) → l ≢ [] → (length l == 0) ≡ false
no_nil [] h = absurd (h refl)
no_nil (b ∷ l) h = grind (arith, nat_tests)

pub some_length : (l : List ℕ) → l ≢ [] → 0 < length l
some_length [] h = absurd (h refl)
some_length (b ∷ l) h = omega arith

-- a numeral before r, as the lexer tells it by its lengths
number_found : {u : List ℕ} (v : Numeral u) (r : List ℕ) → Found (number_of (length v.whole) (length (v.fraction ++ v.exponent)) r) (u ++ r)
number_found {u} v r =
    let tail = v.fraction ++ v.exponent in
    let size : length u ≡ length v.whole + length tail = ap length v.split ∙ length-append v.whole tail in
    elim (bool_cases (begins_unit r)) [
      | inl h ↦
          let s = unit_split r h in
          rw h (record {
            text = u ++ 105 ∷ [];
            rest = s.0;
            split = ap (λ l. u ++ l) s.1 ∙ sym (append_assoc u (105 ∷ []) s.0);
            size = length-append u (105 ∷ []) ∙ omega (arith, size);
            token = record { token = record { number = u; split = refl; real = real_of v }; apart = λ _. s.2 };
          })
      | inr h ↦ elim (nil_cases tail) [
        | inl none ↦
            let e : u ≡ v.whole = v.split ∙ ap (λ l. v.whole ++ l) none ∙ append-nil v.whole in
            rw (h, none) (record { text = u; rest = r; split = refl; size = ap length e ∙ omega arith; token = plain u r (ap is_digits e ∙ v.digits) (λ x. cc) })
        | inr some ↦
            let many : (length tail == 0) ≡ false = no_nil tail some in
            rw (h, many) (record { text = u; rest = r; split = refl; size = size; token = plain u r (decimal v some) (λ x. cc) })
      ]
    ]

-- the number that begins with some digits
digits_found : (bs : List ℕ) → nat_lt 0 (digits_len bs) ≡ true → Found (number_from (digits_len bs) bs) bs
digits_found bs some =
    let d = some_digits bs some in
    let t = tail_front d.rest in
    let behind = drop_front d in
    let tail = t.fraction ++ t.exponent in
    let after : drop (tail_len d.rest) d.rest ≡ t.rest = ap (drop (tail_len d.rest)) t.split ∙ drop_at tail t.rest (tail_len d.rest) t.size in
    let v : Numeral (d.text ++ tail) = record { whole = d.text; fraction = t.fraction; exponent = t.exponent; split = refl; digits = d.holds; point = t.point; power = t.power } in
    let e : number_from (digits_len bs) bs ≡ number_of (length d.text) (length tail) t.rest = rw (behind, after, ← t.size, ← d.size) refl in
    let s : bs ≡ (d.text ++ tail) ++ t.rest = d.split ∙ ap (λ l. d.text ++ l) t.split ∙ sym (append_assoc d.text tail t.rest) in
    subst (λ j. Found j bs) (sym e) (subst (Found (number_of (length d.text) (length tail) t.rest)) (sym s) (number_found v t.rest))

-- Which kind a number has.

whole_agrees : (n m l : ℕ) (rest : List ℕ) → l ≤ n → (l ≤ (number_of n m rest).1) × (l ≡ (number_of n m rest).1 → Whole ≡ (number_of n m rest).0)
whole_agrees n m l rest h =
    elim (bool_cases (begins_unit rest)) [
      | inl u ↦ rw u (omega arith, λ e. absurd (omega arith))
      | inr u ↦ elim (bool_cases (m == 0)) [
        | inl z ↦ rw (u, z) (omega arith, λ e. refl)
        | inr z ↦ rw (u, z) (omega arith, λ e. absurd (grind (arith, nat_tests)))
      ]
    ]

decimal_agrees : (n m l : ℕ) (rest : List ℕ) → l ≤ n + m → 0 < m → (l ≤ (number_of n m rest).1) × (l ≡ (number_of n m rest).1 → Decimal ≡ (number_of n m rest).0)
decimal_agrees n m l rest h some =
    let many : (m == 0) ≡ false = grind (arith, nat_tests) in
    elim (bool_cases (begins_unit rest)) [
      | inl u ↦ rw u (omega arith, λ e. absurd (omega arith))
      | inr u ↦ rw (u, many) (h, λ e. refl)
    ]

-- digits at the front make a number
number_at : (b : ℕ) (bs : List ℕ) → is_ascii_digit b ≡ true → token_of (b ∷ bs) ≡ Some (number_from (digits_len (b ∷ bs)) (b ∷ bs))
number_at b bs h = ap (λ (x : Bool). cond x (Some (number_from (digits_len (b ∷ bs)) (b ∷ bs)))
    (cond (is_name_start b) (Some (Name, name_len (b ∷ bs))) (cond (b == 34) (behind Str (string_tail_len bs)) (cond (b == 37) (behind Parameter (name_len bs)) (cond (b == 64) (behind Label (name_len bs)) (token_of_mark (mark_of b))))))) h

pub number_token : (w r : List ℕ) → is_digits w ≡ true → token_of (w ++ r) ≡ Some (number_from (digits_len (w ++ r)) (w ++ r))
number_token [] r h = absurd (cc)
number_token (b ∷ w) r h = number_at b (w ++ r) (both (is_ascii_digit b) _ h).0

whole_found : (w r : List ℕ) → is_digits w ≡ true → Agrees Whole w (w ++ r)
whole_found w r h =
    let n = digits_len (w ++ r) in
    let rest = drop n (w ++ r) in
    let a = whole_agrees n (tail_len rest) (length w) (drop (tail_len rest) rest) (digits_bound w r h) in
    record { kind = (number_from n (w ++ r)).0; len = (number_from n (w ++ r)).1; found = number_token w r h; bound = a.0; same = a.1 }

-- the number at the front, where the lengths of its parts are known
number_with : {kind : Kind} {t : List ℕ} (w r rest bs : List ℕ) (m : ℕ) → bs ≡ w ++ r → is_digits w ≡ true → digits_len (w ++ r) ≡ length w → tail_len r ≡ m → drop m r ≡ rest
    → (length t ≤ (number_of (length w) m rest).1) × (length t ≡ (number_of (length w) m rest).1 → kind ≡ (number_of (length w) m rest).0) → Agrees kind t bs
number_with {kind} {t} w r rest bs m split h exact tail behind a =
    let e : number_from (digits_len (w ++ r)) (w ++ r) ≡ number_of (length w) m rest = rw (exact, drop_at w r (length w) refl, tail, behind) refl in
    record {
      kind = (number_of (length w) m rest).0;
      len = (number_of (length w) m rest).1;
      found = ap token_of split ∙ number_token w r h ∙ ap (λ (j : Kind × ℕ). Some j) e;
      bound = a.0;
      same = a.1;
    }

decimal_found : (t r : List ℕ) → IsDecimal t → Agrees Decimal t (t ++ r)
decimal_found t r d =
    let tail = d.fraction ++ d.exponent in
    let stop = tail_no_digit d.fraction d.exponent r d.point d.power d.some in
    let bound = tail_bound d.fraction d.exponent r d.point d.power in
    let size : length t ≡ length d.whole + length tail = ap length d.split ∙ length-append d.whole tail in
    let positive : 0 < length tail = some_length tail d.some in
    let s : t ++ r ≡ d.whole ++ (tail ++ r) = ap (λ l. l ++ r) d.split ∙ append_assoc d.whole tail r in
    let m = tail_len (tail ++ r) in
    number_with d.whole (tail ++ r) (drop m (tail ++ r)) (t ++ r) m s d.digits (digits_exact d.whole (tail ++ r) d.digits stop) refl refl
    (decimal_agrees (length d.whole) m (length t) (drop m (tail ++ r)) (omega (arith, size, bound)) (omega (arith, positive, bound)))

-- an `i` stops a number
pub unit_stops : (r : List ℕ) → Stops (105 ∷ r)
unit_stops r = record { no_digit = refl; no_point = refl; no_mark = refl }

pub unit_no_digit : {u : List ℕ} (v : Numeral u) (r : List ℕ) → begins is_ascii_digit ((v.fraction ++ v.exponent) ++ 105 ∷ r) ≡ false
unit_no_digit v r = elim (nil_cases (v.fraction ++ v.exponent)) [
  | inl none ↦ rw none refl
  | inr some ↦ tail_no_digit v.fraction v.exponent (105 ∷ r) v.point v.power some
]

imaginary_found : (t r : List ℕ) → IsImaginary t → begins_word r ≡ false → Agrees Imaginary t (t ++ r)
imaginary_found t r i apart =
    let v = numeral_of i.number i.real in
    let tail = v.fraction ++ v.exponent in
    let size : length t ≡ length v.whole + length tail + 1 = ap length i.split ∙ length-append i.number (105 ∷ []) ∙ omega (arith, ap length v.split, length-append v.whole tail) in
    let s : t ++ r ≡ v.whole ++ (tail ++ 105 ∷ r) = ap (λ l. l ++ r) i.split ∙ append_assoc i.number (105 ∷ []) r ∙ ap (λ l. l ++ 105 ∷ r) v.split ∙ append_assoc v.whole tail (105 ∷ r) in
    number_with v.whole (tail ++ 105 ∷ r) (105 ∷ r) (t ++ r) (length tail) s v.digits (digits_exact v.whole (tail ++ 105 ∷ r) v.digits (unit_no_digit v r))
    (tail_exact v.fraction v.exponent (105 ∷ r) v.point v.power (unit_stops r)) (drop_at tail (105 ∷ r) (length tail) refl)
    (rw apart (omega (arith, size), λ e. refl))

-- The other kinds.

pub start_no_digit : (b : ℕ) → is_name_start b ≡ true → is_ascii_digit b ≡ false
start_no_digit b h = grind (arith, nat_tests)

name_found : (t r : List ℕ) → is_name t ≡ true → Agrees Name t (t ++ r)
name_found [] r h = absurd (cc)
name_found (b ∷ t) r h =
    let s = (both (is_name_start b) (is_name_tail t) h).0 in
    record { kind = Name; len = name_len (b ∷ t ++ r); found = rw (start_no_digit b s, s) refl; bound = name_bound (b ∷ t) r h; same = λ _. refl }

pub behind_some : (kind : Kind) (n : ℕ) → 0 < n → behind kind n ≡ Some (kind, n + 1)
behind_some kind n some = let e : nat_lt 0 n ≡ true = grind (arith, nat_tests) in rw e refl

pub name_some : (t : List ℕ) → is_name t ≡ true → 0 < length t
name_some [] h = absurd (cc)
name_some (b ∷ t) h = omega arith

pub is_byte : (b c : ℕ) → (b == c) ≡ true → b ≡ c
is_byte b c h = grind (arith, nat_tests)

parameter_found : (t r : List ℕ) → is_after 37 is_name t ≡ true → Agrees Parameter t (t ++ r)
parameter_found [] r h = absurd (cc)
parameter_found (b ∷ t) r h =
    let p = both (b == 37) (is_name t) h in
    let bound = name_bound t r p.1 in
    let some = name_some t p.1 in
    let f : token_of (37 ∷ (t ++ r)) ≡ Some (Parameter, name_len (t ++ r) + 1) = behind_some Parameter (name_len (t ++ r)) (omega (arith, bound, some)) in
    record { kind = Parameter; len = name_len (t ++ r) + 1; found = ap (λ x. token_of (x ∷ (t ++ r))) (is_byte b 37 p.0) ∙ f; bound = omega (arith, bound); same = λ _. refl }

label_found : (t r : List ℕ) → is_after 64 is_name t ≡ true → Agrees Label t (t ++ r)
label_found [] r h = absurd (cc)
label_found (b ∷ t) r h =
    let p = both (b == 64) (is_name t) h in
    let bound = name_bound t r p.1 in
    let some = name_some t p.1 in
    let f : token_of (64 ∷ (t ++ r)) ≡ Some (Label, name_len (t ++ r) + 1) = behind_some Label (name_len (t ++ r)) (omega (arith, bound, some)) in
    record { kind = Label; len = name_len (t ++ r) + 1; found = ap (λ x. token_of (x ∷ (t ++ r))) (is_byte b 64 p.0) ∙ f; bound = omega (arith, bound); same = λ _. refl }

string_found : (t r : List ℕ) → is_after 34 is_string_tail t ≡ true → Agrees Str t (t ++ r)
string_found [] r h = absurd (cc)
string_found (b ∷ t) r h =
    let p = both (b == 34) (is_string_tail t) h in
    let exact = string_exact t r p.1 in
    let some = string_some t p.1 in
    let f : token_of (34 ∷ (t ++ r)) ≡ Some (Str, string_tail_len (t ++ r) + 1) = behind_some Str (string_tail_len (t ++ r)) (omega (arith, exact, some)) in
    record { kind = Str; len = string_tail_len (t ++ r) + 1; found = ap (λ x. token_of (x ∷ (t ++ r))) (is_byte b 34 p.0) ∙ f; bound = omega (arith, exact); same = λ _. refl }

pub mark_token : (m : Mark) (r : List ℕ) → token_of (byte_of m ∷ r) ≡ Some (kinds.Mark m, 1)
mark_token mark.LeftParenthesis r = refl
mark_token mark.RightParenthesis r = refl
mark_token mark.LeftBracket r = refl
mark_token mark.RightBracket r = refl
mark_token mark.Comma r = refl
mark_token mark.Colon r = refl
mark_token mark.Plus r = refl
mark_token mark.Minus r = refl
mark_token mark.Star r = refl
mark_token mark.Slash r = refl
mark_token mark.Caret r = refl

-- whatever token stands at the front, the lexer finds it or a longer one
pub token_agrees : (k : Kind) (t r : List ℕ) → IsTokenBefore k t r → Agrees k t (t ++ r)
token_agrees Name t r h = name_found t r h.token
token_agrees Whole t r h = whole_found t r h.token
token_agrees Decimal t r h = decimal_found t r h.token
token_agrees Imaginary t r h = imaginary_found t r h.token (h.apart refl)
token_agrees Str t r h = string_found t r h.token
token_agrees Parameter t r h = parameter_found t r h.token
token_agrees Label t r h = label_found t r h.token
token_agrees (kinds.Mark m) t r h = record { kind = kinds.Mark m; len = 1; found = ap (λ l. token_of (l ++ r)) h.token ∙ mark_token m r; bound = omega (arith, ap length h.token); same = λ _. refl }

-- What the lexer finds is a token.

abbrev Passes : (List ℕ → Bool) → List ℕ → Type 0
Passes test text = test text ≡ true

found_as : {i j : Kind × ℕ} {bs : List ℕ} → Found i bs → Some i ≡ Some j → Found j bs
found_as {i} {j} {bs} f e = let same : i ≡ j = cc in subst (λ x. Found x bs) same f

behind_found : (kind : Kind) (first : ℕ) (test : List ℕ → Bool) (b : ℕ) (bs : List ℕ) (n : ℕ) (j : Kind × ℕ) → (b == first) ≡ true → (0 < n → Front (Passes test) n bs)
    → ((u : List ℕ) → is_after first test u ≡ true → IsToken kind u) → kind ≢ Imaginary → behind kind n ≡ Some j → Found j (b ∷ bs)
behind_found kind first test b bs n j p front token other h =
    elim (chosen (nat_lt 0 n) (Some (kind, n + 1)) None (Some j) h) [
      | inl q ↦
          let some : nat_lt 0 n ≡ true = q.0 in
          let f = front (grind (arith, nat_tests)) in
          let after : is_after first test (b ∷ f.text) ≡ true = and_true (b == first) (test f.text) p f.holds in
          let found : Found (kind, n + 1) (b ∷ bs) = record { text = b ∷ f.text; rest = f.rest; split = ap (λ l. b ∷ l) f.split; size = omega (arith, f.size); token = plain (b ∷ f.text) f.rest (token (b ∷ f.text) after) other } in
          found_as found q.1
      | inr q ↦ absurd (let e : None ≡ Some j = q.1 in cc)
    ]

sign_split : (o : Option Mark) (j : Kind × ℕ) → token_of_mark o ≡ Some j → (m : Mark) × (o ≡ Some m) × (Some (kinds.Mark m, 1) ≡ Some j)
sign_split None j h = absurd (cc)
sign_split (Some m) j h = (m, refl, h)

mark_step : (b c : ℕ) (m n : Mark) (others : Option Mark) → byte_of n ≡ c → cond (b == c) (Some n) others ≡ Some m → (b ≡ byte_of m) ⊎ (others ≡ Some m)
mark_step b c m n others e h =
    elim (chosen (b == c) (Some n) others (Some m) h) [
      | inl p ↦ let same : n ≡ m = (let q : Some n ≡ Some m = p.1 in cc) in inl (is_byte b c p.0 ∙ sym e ∙ ap byte_of same)
      | inr p ↦ inr p.1
    ]

mark_last : (b c : ℕ) (m n : Mark) → byte_of n ≡ c → cond (b == c) (Some n) None ≡ Some m → b ≡ byte_of m
mark_last b c m n e h = elim (mark_step b c m n None e h) [ inl p ↦ p | inr p ↦ absurd (cc) ]

mark_byte : (b : ℕ) (m : Mark) → mark_of b ≡ Some m → b ≡ byte_of m
mark_byte b m h =
    elim (mark_step b 40 m mark.LeftParenthesis _ refl h) [
      | inl p ↦ p
      | inr h ↦
          elim (mark_step b 41 m mark.RightParenthesis _ refl h) [
            | inl p ↦ p
            | inr h ↦
                elim (mark_step b 91 m mark.LeftBracket _ refl h) [
                  | inl p ↦ p
                  | inr h ↦
                      elim (mark_step b 93 m mark.RightBracket _ refl h) [
                        | inl p ↦ p
                        | inr h ↦
                            elim (mark_step b 44 m mark.Comma _ refl h) [
                              | inl p ↦ p
                              | inr h ↦
                                  elim (mark_step b 58 m mark.Colon _ refl h) [
                                    | inl p ↦ p
                                    | inr h ↦
                                        elim (mark_step b 43 m mark.Plus _ refl h) [
                                          | inl p ↦ p
                                          | inr h ↦
                                              elim (mark_step b 45 m mark.Minus _ refl h) [
                                                | inl p ↦ p
                                                | inr h ↦
                                                    elim (mark_step b 42 m mark.Star _ refl h) [
                                                      | inl p ↦ p
                                                      | inr h ↦
                                                          elim (mark_step b 47 m mark.Slash _ refl h) [
                                                            | inl p ↦ p
                                                            | inr h ↦
                                                                mark_last b 94 m mark.Caret refl h
                                                          ]
                                                    ]
                                              ]
                                        ]
                                  ]
                            ]
                      ]
                ]
          ]
    ]

first_digit : (b : ℕ) (bs : List ℕ) → is_ascii_digit b ≡ true → nat_lt 0 (digits_len (b ∷ bs)) ≡ true
first_digit b bs h = rw h (let e : nat_lt 0 (1 + digits_len bs) ≡ true = grind (arith, nat_tests) in e)

first_name : (b : ℕ) (bs : List ℕ) → is_name_start b ≡ true → 0 < name_len (b ∷ bs)
first_name b bs h = rw h (omega arith)

name_at : (b : ℕ) (bs : List ℕ) → is_name_start b ≡ true → Found (Name, name_len (b ∷ bs)) (b ∷ bs)
name_at b bs h =
    let f = name_front (b ∷ bs) (first_name b bs h) in
    record { text = f.text; rest = f.rest; split = f.split; size = f.size; token = plain f.text f.rest f.holds (λ x. cc) }

sign_found : (b : ℕ) (bs : List ℕ) (j : Kind × ℕ) → token_of_mark (mark_of b) ≡ Some j → Found j (b ∷ bs)
sign_found b bs j h =
    let s = sign_split (mark_of b) j h in
    let found : Found (kinds.Mark s.0, 1) (b ∷ bs) = record { text = b ∷ []; rest = bs; split = refl; size = refl; token = plain (b ∷ []) bs (ap (λ x. x ∷ []) (mark_byte b s.0 s.1)) (λ x. cc) } in
    found_as found s.2

other_found : (b : ℕ) (bs : List ℕ) (j : Kind × ℕ) → cond (b == 34) (behind Str (string_tail_len bs)) (cond (b == 37) (behind Parameter (name_len bs)) (cond (b == 64) (behind Label (name_len bs)) (token_of_mark (mark_of b)))) ≡ Some j → Found j (b ∷ bs)
other_found b bs j h =
    elim (chosen (b == 34) _ _ (Some j) h) [
      | inl p ↦ behind_found Str 34 is_string_tail b bs (string_tail_len bs) j p.0 (string_front bs) (λ u t. t) (λ x. cc) p.1
      | inr h ↦
          elim (chosen (b == 37) _ _ (Some j) h.1) [
            | inl p ↦ behind_found Parameter 37 is_name b bs (name_len bs) j p.0 (name_front bs) (λ u t. t) (λ x. cc) p.1
            | inr h ↦
                elim (chosen (b == 64) _ _ (Some j) h.1) [
                  | inl p ↦ behind_found Label 64 is_name b bs (name_len bs) j p.0 (name_front bs) (λ u t. t) (λ x. cc) p.1
                  | inr h ↦
                      sign_found b bs j h.1
                ]
          ]
    ]

pub token_found : (bs : List ℕ) (j : Kind × ℕ) → token_of bs ≡ Some j → Found j bs
token_found [] j h = absurd (cc)
token_found (b ∷ bs) j h =
    elim (chosen (is_ascii_digit b) _ _ (Some j) h) [
      | inl p ↦ found_as (digits_found (b ∷ bs) (first_digit b bs p.0)) p.1
      | inr p ↦ elim (chosen (is_name_start b) _ _ (Some j) p.1) [
        | inl q ↦ found_as (name_at b bs q.0) q.1
        | inr q ↦ other_found b bs j q.1
      ]
    ]

-- The clause of the lexer, and that no other token is the first.

pub first_none : (bs : List ℕ) → token_of bs ≡ None → NoToken bs
first_none bs none k t r split h =
    let a = token_agrees k t r h in
    let e : ◌≡◌ {A = Option (Kind × ℕ)} (Some (a.kind, a.len)) None = sym a.found ∙ sym (ap token_of split) ∙ none in
    cc

-- two tokens that the lexer found are one
same_found : (k l : Kind) (m n : ℕ) → ◌≡◌ {A = Option (Kind × ℕ)} (Some (k, m)) (Some (l, n)) → (k ≡ l) × (m ≡ n)
same_found k l m n e = let p : ◌≡◌ {A = Kind × ℕ} (k, m) (l, n) = cc in (ap (λ (x : Kind × ℕ). x.0) p, ap (λ (x : Kind × ℕ). x.1) p)

pub first_some : (bs : List ℕ) (kind : Kind) (len : ℕ) (text rest : List ℕ) → token_of bs ≡ Some (kind, len) → text ≡ take len bs → rest ≡ drop len bs → IsFirstToken kind text rest bs
first_some bs kind len text rest found front back =
    let f = token_found bs (kind, len) found in
    let same_text : f.text ≡ text = sym (front ∙ ap (take len) f.split ∙ take_at f.text f.rest len f.size) in
    let same_rest : f.rest ≡ rest = sym (back ∙ ap (drop len) f.split ∙ drop_at f.text f.rest len f.size) in
    record {
      split = f.split ∙ ap (λ l. l ++ f.rest) same_text ∙ ap (λ l. text ++ l) same_rest;
      token = subst (λ u. IsTokenBefore kind u rest) same_text (subst (λ u. IsTokenBefore kind f.text u) same_rest f.token);
      longest = λ k t r split h.
          let a = token_agrees k t r h in
          let s = same_found a.kind kind a.len len (sym a.found ∙ sym (ap token_of split) ∙ found) in
          omega (arith, a.bound, s.1, f.size, ap length same_text);
    }

pub first_len : (bs : List ℕ) (kind : Kind) (len : ℕ) → token_of bs ≡ Some (kind, len) → len ≤ length bs
first_len bs kind len found =
    let f = token_found bs (kind, len) found in
    omega (arith, f.size, ap length f.split, length-append f.text f.rest)

found_at : (bs : List ℕ) {k l : Kind} {m n : ℕ} → token_of bs ≡ Some (k, m) → k ≡ l → m ≡ n → token_of bs ≡ Some (l, n)
found_at bs {k} {l} {m} {n} found kind size = found ∙ ap (λ (x : Kind). Some (x, m)) kind ∙ ap (λ (x : ℕ). Some (l, x)) size

-- the lexer finds the first token
pub first_found : {k : Kind} {t r bs : List ℕ} → IsFirstToken k t r bs → token_of bs ≡ Some (k, length t)
first_found {k} {t} {r} {bs} h =
    let a = token_agrees k t r h.token in
    let found : token_of bs ≡ Some (a.kind, a.len) = ap token_of h.split ∙ a.found in
    let f = token_found bs (a.kind, a.len) found in
    let bound = h.longest a.kind f.text f.rest f.split f.token in
    let size : a.len ≡ length t = omega (arith, bound, f.size, a.bound) in
    let kind : a.kind ≡ k = sym (a.same (sym size)) in
    found_at bs found kind size

pub record Same (k l : Kind) (t u r s : List ℕ) : Type 0 where
  pub kind : k ≡ l
  pub text : t ≡ u
  pub rest : r ≡ s

pub one_first : {k l : Kind} {t u r s bs : List ℕ} → IsFirstToken k t r bs → IsFirstToken l u s bs → Same k l t u r s
one_first {k} {l} {t} {u} {r} {s} {bs} a b =
    let same = same_found k l (length t) (length u) (sym (first_found a) ∙ first_found b) in
    record {
      kind = same.0;
      text = sym (take_at t r (length u) same.1) ∙ ap (take (length u)) (sym a.split ∙ b.split) ∙ take_at u s (length u) refl;
      rest = sym (drop_at t r (length u) same.1) ∙ ap (drop (length u)) (sym a.split ∙ b.split) ∙ drop_at u s (length u) refl;
    }
