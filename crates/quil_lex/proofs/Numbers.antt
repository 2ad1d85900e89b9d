-- The lengths that the lexer counts in a number are those of its parts.
use Rattle.std.proofs.Common.{◌≡◌, ◌≢◌, ℕ, ◌<◌, ◌≤◌, Bool, true, false, ◌&&◌, inl, inr, List, [], ◌∷◌, ◌++◌, length, drop, refl, sym, ap, ◌∙◌, subst, append_assoc, arith}
use Rattle.std.specs.Prelude.{nat_lt, ◌==◌}
use Rattle.std.specs.List.{list_all}
use Rattle.std.specs.Char.{is_ascii_digit}
use Rattle.std.proofs.lemmas.Bool.Decides.{nat_tests}
use Rattle.std.proofs.lemmas.List.{append-nil, length-append, drop_at}
use Rattle.quil_lex.specs.Token.{is_digits, is_fraction, is_sign, is_signed_digits, is_exponent_mark, is_exponent, IsOptional}
use Rattle.quil_lex.specs.Scan.{digits_len, fraction_len, signed_len, exponent_len, tail_len}
use Rattle.quil_lex.proofs.Fronts.{Front, bool_cases, both, and_true}

abbrev Passes : (List ℕ → Bool) → List ℕ → Type 0
Passes test text = test text ≡ true

-- the first byte passes
abbrev pub begins : (ℕ → Bool) → List ℕ → Bool
begins test [] = false
begins test (b ∷ bs) = test b

-- Digits.

pub digits_front : (bs : List ℕ) → Front (Passes (list_all is_ascii_digit)) (digits_len bs) bs
digits_front [] = record { text = []; rest = []; split = refl; size = refl; holds = refl }
digits_front (b ∷ bs) =
    let f = digits_front bs in
    elim (bool_cases (is_ascii_digit b)) [
      | inl d ↦ record { text = b ∷ f.text; rest = f.rest; split = ap (λ l. b ∷ l) f.split; size = rw d (omega (arith, f.size)); holds = rw d f.holds }
      | inr d ↦ record { text = []; rest = b ∷ bs; split = refl; size = rw d refl; holds = refl }
    ]

digits_all : (t : List ℕ) → is_digits t ≡ true → list_all is_ascii_digit t ≡ true
digits_all [] h = refl
digits_all (b ∷ t) h = h

all_digits : (t : List ℕ) → list_all is_ascii_digit t ≡ true → 0 < length t → is_digits t ≡ true
all_digits [] h some = absurd (omega arith)
all_digits (b ∷ t) h some = h

pub digits_some : (t : List ℕ) → is_digits t ≡ true → 0 < length t
digits_some [] h = absurd (cc)
digits_some (b ∷ t) h = omega arith

all_bound : (t r : List ℕ) → list_all is_ascii_digit t ≡ true → length t ≤ digits_len (t ++ r)
all_bound [] r h = omega arith
all_bound (b ∷ t) r h = let p = both (is_ascii_digit b) (list_all is_ascii_digit t) h in rw p.0 (omega (arith, all_bound t r p.1))

all_exact : (t r : List ℕ) → list_all is_ascii_digit t ≡ true → begins is_ascii_digit r ≡ false → digits_len (t ++ r) ≡ length t
all_exact [] [] h stop = refl
all_exact [] (b ∷ r) h stop = rw stop refl
all_exact (b ∷ t) r h stop = let p = both (is_ascii_digit b) (list_all is_ascii_digit t) h in rw p.0 (omega (arith, all_exact t r p.1 stop))

pub digits_bound : (t r : List ℕ) → is_digits t ≡ true → length t ≤ digits_len (t ++ r)
digits_bound t r h = all_bound t r (digits_all t h)

pub digits_exact : (t r : List ℕ) → is_digits t ≡ true → begins is_ascii_digit r ≡ false → digits_len (t ++ r) ≡ length t
digits_exact t r h stop = all_exact t r (digits_all t h) stop

-- digits at the front, where there is one
pub some_digits : (bs : List ℕ) → nat_lt 0 (digits_len bs) ≡ true → Front (Passes is_digits) (digits_len bs) bs
some_digits bs some =
    let f = digits_front bs in
    record { text = f.text; rest = f.rest; split = f.split; size = f.size; holds = all_digits f.text f.holds (grind (arith, nat_tests, f.size)) }

-- that n bytes are more than none, as a test
positive : (m n : ℕ) → 0 < m → m ≤ n → nat_lt 0 n ≡ true
positive m n some bound = grind (arith, nat_tests)

-- A point and digits.

pub fraction_front : (bs : List ℕ) → Front (IsOptional is_fraction) (fraction_len bs) bs
fraction_front [] = record { text = []; rest = []; split = refl; size = refl; holds = inl refl }
fraction_front (b ∷ bs) =
    elim (bool_cases ((b == 46) && nat_lt 0 (digits_len bs))) [
      | inl h ↦
          let p = both (b == 46) (nat_lt 0 (digits_len bs)) h in
          let f = some_digits bs p.1 in
          record { text = b ∷ f.text; rest = f.rest; split = ap (λ l. b ∷ l) f.split; size = rw h (omega (arith, f.size)); holds = inr (and_true (b == 46) (is_digits f.text) p.0 f.holds) }
      | inr h ↦ record { text = []; rest = b ∷ bs; split = refl; size = rw h refl; holds = inl refl }
    ]

pub fraction_bound : (t r : List ℕ) → is_fraction t ≡ true → length t ≤ fraction_len (t ++ r)
fraction_bound [] r h = omega arith
fraction_bound (b ∷ t) r h =
    let p = both (b == 46) (is_digits t) h in
    let bound = digits_bound t r p.1 in
    rw (p.0, positive _ _ (digits_some t p.1) bound) (omega (arith, bound))

pub fraction_exact : (t r : List ℕ) → is_fraction t ≡ true → begins is_ascii_digit r ≡ false → fraction_len (t ++ r) ≡ length t
fraction_exact [] r h stop = absurd (cc)
fraction_exact (b ∷ t) r h stop =
    let p = both (b == 46) (is_digits t) h in
    rw (p.0, positive _ _ (digits_some t p.1) (digits_bound t r p.1), digits_exact t r p.1 stop) (omega arith)

pub fraction_none : (r : List ℕ) → begins (λ b. b == 46) r ≡ false → fraction_len r ≡ 0
fraction_none [] h = refl
fraction_none (b ∷ r) h = rw h refl

-- Digits with a sign or without.

unsigned : (b : ℕ) (bs text rest : List ℕ) → b ∷ bs ≡ text ++ rest → is_sign b ≡ false → is_digits text ≡ true → is_signed_digits text ≡ true
unsigned b bs [] rest split s h = absurd (cc)
unsigned b bs (c ∷ text) rest split s h =
    let same : b ≡ c = cc in
    let t : is_sign c ≡ false = subst (λ x. is_sign x ≡ false) same s in
    rw t h

signed_front : (bs : List ℕ) → nat_lt 0 (signed_len bs) ≡ true → Front (Passes is_signed_digits) (signed_len bs) bs
signed_front [] some = absurd (cc)
signed_front (b ∷ bs) some =
    elim (bool_cases (is_sign b)) [
      | inl s ↦ elim (bool_cases (nat_lt 0 (digits_len bs))) [
        | inl d ↦ let f = some_digits bs d in
            record { text = b ∷ f.text; rest = f.rest; split = ap (λ l. b ∷ l) f.split; size = rw (s, d) (omega (arith, f.size)); holds = rw s f.holds }
        | inr d ↦ let none : false ≡ true = rw (s, d) at some in absurd (cc)
      ]
      | inr s ↦
          let d : nat_lt 0 (digits_len (b ∷ bs)) ≡ true = rw s at some in
          let f = some_digits (b ∷ bs) d in
          record { text = f.text; rest = f.rest; split = f.split; size = rw s f.size; holds = unsigned b bs f.text f.rest f.split s f.holds }
    ]

signed_some : (t : List ℕ) → is_signed_digits t ≡ true → 0 < length t
signed_some [] h = absurd (cc)
signed_some (b ∷ t) h = omega arith

signed_bound : (t r : List ℕ) → is_signed_digits t ≡ true → length t ≤ signed_len (t ++ r)
signed_bound [] r h = omega arith
signed_bound (b ∷ t) r h =
    elim (bool_cases (is_sign b)) [
      | inl s ↦
          let d : is_digits t ≡ true = rw s at h in
          let bound = digits_bound t r d in
          rw (s, positive _ _ (digits_some t d) bound) (omega (arith, bound))
      | inr s ↦ let d : is_digits (b ∷ t) ≡ true = rw s at h in rw s (digits_bound (b ∷ t) r d)
    ]

signed_exact : (t r : List ℕ) → is_signed_digits t ≡ true → begins is_ascii_digit r ≡ false → signed_len (t ++ r) ≡ length t
signed_exact [] r h stop = absurd (cc)
signed_exact (b ∷ t) r h stop =
    elim (bool_cases (is_sign b)) [
      | inl s ↦
          let d : is_digits t ≡ true = rw s at h in
          rw (s, positive _ _ (digits_some t d) (digits_bound t r d), digits_exact t r d stop) (omega arith)
      | inr s ↦ let d : is_digits (b ∷ t) ≡ true = rw s at h in rw s (digits_exact (b ∷ t) r d stop)
    ]

-- An exponent.

pub exponent_front : (bs : List ℕ) → Front (IsOptional is_exponent) (exponent_len bs) bs
exponent_front [] = record { text = []; rest = []; split = refl; size = refl; holds = inl refl }
exponent_front (b ∷ bs) =
    elim (bool_cases (is_exponent_mark b && nat_lt 0 (signed_len bs))) [
      | inl h ↦
          let p = both (is_exponent_mark b) (nat_lt 0 (signed_len bs)) h in
          let f = signed_front bs p.1 in
          record { text = b ∷ f.text; rest = f.rest; split = ap (λ l. b ∷ l) f.split; size = rw h (omega (arith, f.size)); holds = inr (and_true (is_exponent_mark b) (is_signed_digits f.text) p.0 f.holds) }
      | inr h ↦ record { text = []; rest = b ∷ bs; split = refl; size = rw h refl; holds = inl refl }
    ]

pub exponent_bound : (t r : List ℕ) → is_exponent t ≡ true → length t ≤ exponent_len (t ++ r)
exponent_bound [] r h = omega arith
exponent_bound (b ∷ t) r h =
    let p = both (is_exponent_mark b) (is_signed_digits t) h in
    let bound = signed_bound t r p.1 in
    rw (p.0, positive _ _ (signed_some t p.1) bound) (omega (arith, bound))

pub exponent_exact : (t r : List ℕ) → is_exponent t ≡ true → begins is_ascii_digit r ≡ false → exponent_len (t ++ r) ≡ length t
exponent_exact [] r h stop = absurd (cc)
exponent_exact (b ∷ t) r h stop =
    let p = both (is_exponent_mark b) (is_signed_digits t) h in
    rw (p.0, positive _ _ (signed_some t p.1) (signed_bound t r p.1), signed_exact t r p.1 stop) (omega arith)

pub exponent_none : (r : List ℕ) → begins is_exponent_mark r ≡ false → exponent_len r ≡ 0
exponent_none [] h = refl
exponent_none (b ∷ r) h = rw h refl

-- An exponent begins with no digit and no point.

mark_no_digit : (b : ℕ) → is_exponent_mark b ≡ true → is_ascii_digit b ≡ false
mark_no_digit b h = grind (arith, nat_tests)

mark_no_point : (b : ℕ) → is_exponent_mark b ≡ true → (b == 46) ≡ false
mark_no_point b h = grind (arith, nat_tests)

point_no_digit : (b : ℕ) → (b == 46) ≡ true → is_ascii_digit b ≡ false
point_no_digit b h = grind (arith, nat_tests)

exponent_no_digit : (t r : List ℕ) → is_exponent t ≡ true → begins is_ascii_digit (t ++ r) ≡ false
exponent_no_digit [] r h = absurd (cc)
exponent_no_digit (b ∷ t) r h = mark_no_digit b (both (is_exponent_mark b) (is_signed_digits t) h).0

exponent_no_point : (t r : List ℕ) → is_exponent t ≡ true → begins (λ b. b == 46) (t ++ r) ≡ false
exponent_no_point [] r h = absurd (cc)
exponent_no_point (b ∷ t) r h = mark_no_point b (both (is_exponent_mark b) (is_signed_digits t) h).0

fraction_no_digit : (t r : List ℕ) → is_fraction t ≡ true → begins is_ascii_digit (t ++ r) ≡ false
fraction_no_digit [] r h = absurd (cc)
fraction_no_digit (b ∷ t) r h = point_no_digit b (both (b == 46) (is_digits t) h).0

-- What stands behind the digits.

pub record Tail (bytes : List ℕ) : Type 0 where
  pub fraction : List ℕ
  pub exponent : List ℕ
  pub rest : List ℕ
  pub split : bytes ≡ (fraction ++ exponent) ++ rest
  pub size : length (fraction ++ exponent) ≡ tail_len bytes
  pub point : IsOptional is_fraction fraction
  pub power : IsOptional is_exponent exponent

pub drop_front : {n : ℕ} {bs : List ℕ} {P : List ℕ → Type 0} (f : Front P n bs) → drop n bs ≡ f.rest
drop_front {n} {bs} f = ap (drop n) f.split ∙ drop_at f.text f.rest n f.size

pub tail_front : (bs : List ℕ) → Tail bs
tail_front bs =
    let f = fraction_front bs in
    let behind = drop_front f in
    let e = exponent_front f.rest in
    record {
      fraction = f.text;
      exponent = e.text;
      rest = e.rest;
      split = f.split ∙ ap (λ l. f.text ++ l) e.split ∙ sym (append_assoc f.text e.text e.rest);
      size = length-append f.text e.text ∙ rw behind (omega (arith, f.size, e.size));
      point = f.holds;
      power = e.holds;
    }

-- the digits stop before a tail that isn't empty
pub tail_no_digit : (f e r : List ℕ) → IsOptional is_fraction f → IsOptional is_exponent e → f ++ e ≢ [] → begins is_ascii_digit ((f ++ e) ++ r) ≡ false
tail_no_digit f e r (inl none) (inl nil) some = absurd (some (rw (none, nil) refl))
tail_no_digit f e r (inl none) (inr h) some = rw none (exponent_no_digit e r h)
tail_no_digit f e r (inr h) power some = rw append_assoc (fraction_no_digit f (e ++ r) h)

pub tail_bound : (f e r : List ℕ) → IsOptional is_fraction f → IsOptional is_exponent e → length (f ++ e) ≤ tail_len ((f ++ e) ++ r)
tail_bound f e r (inl none) (inl nil) = rw (none, nil) (omega arith)
tail_bound f e r (inl none) (inr h) = rw (none, fraction_none (e ++ r) (exponent_no_point e r h)) (omega (arith, exponent_bound e r h))
tail_bound f e r (inr h) (inl nil) = rw (nil, append-nil f) (omega (arith, fraction_bound f r h))
tail_bound f e r (inr h) (inr k) =
    let stop = exponent_no_digit e r k in
    rw (append_assoc f e r, fraction_exact f (e ++ r) h stop, drop_at f (e ++ r) (length f) refl, length-append f e) (omega (arith, exponent_bound e r k))

-- a byte that goes on no number
pub record Stops (r : List ℕ) : Type 0 where
  pub no_digit : begins is_ascii_digit r ≡ false
  pub no_point : begins (λ b. b == 46) r ≡ false
  pub no_mark : begins is_exponent_mark r ≡ false

pub tail_exact : (f e r : List ℕ) → IsOptional is_fraction f → IsOptional is_exponent e → Stops r → tail_len ((f ++ e) ++ r) ≡ length (f ++ e)
tail_exact f e r (inl none) (inl nil) stops = rw (none, nil, fraction_none r stops.no_point, exponent_none r stops.no_mark) refl
tail_exact f e r (inl none) (inr h) stops = rw (none, fraction_none (e ++ r) (exponent_no_point e r h)) (omega (arith, exponent_exact e r h stops.no_digit))
tail_exact f e r (inr h) (inl nil) stops = rw (nil, append-nil f, fraction_exact f r h stops.no_digit, drop_at f r (length f) refl, exponent_none r stops.no_mark) (omega arith)
tail_exact f e r (inr h) (inr k) stops =
    let stop = exponent_no_digit e r k in
    rw (append_assoc f e r, fraction_exact f (e ++ r) h stop, drop_at f (e ++ r) (length f) refl, length-append f e, exponent_exact e r k stops.no_digit) refl
