-- Values of options.
use Rattle.std.proofs.Common.{◌≡◌, refl, sym, ◌∙◌, ap, subst, ℕ, ◌+◌, ◌^◌, ◌<◌, ◌≤◌, Bool, true, false, ◌&&◌, List, [], ◌∷◌, length, map, get_or, drop, arith}
use Rattle.std.specs.Prelude.{Option, Some, None, Result, Ok, Err, MatchOption, nat_le, nat_lt, ◌==◌, slice_index, slice_set, if◌then◌else◌}
use Rattle.std.specs.List.{list_all, range_with_len}
use Rattle.std.specs.Result.{result_ok}
use Rattle.std.specs.Char.{digit_value, is_digit}
use Rattle.std.specs.Str.Parse.{AllDigits, IsNumeral, ParsesUnsigned, without_leading_plus, digits_value}
use Rattle.std.proofs.lemmas.Bool.{ltb-true, ltb-false, leb-true, eqb-true, le-leb, lt-leb, eq-eqb, ne_eqb, both_ways}
use Rattle.std.proofs.lemmas.List.Folds.{list_all_at}
use Rattle.std.proofs.lemmas.List.{get_or-set_other}
use Rattle.std.proofs.lemmas.Grind.{get_or-set_at}
use Rattle.std.proofs.lemmas.List.FromFn.{fill_by_all}
use Rattle.qvm.specs.Command.{byte_of_digits, seed_of, limit_of}

-- ---- seeds

-- a choice by a test that is known
when : {A : Type 0} → Bool → A → Option A
when b x = if b then Some x else None

when_true : {A : Type 0} (b : Bool) (x : A) → b ≡ true → Some x ≡ when b x
unfolding when
when_true b x e = sym (ap (λ (c : Bool). when c x) e)

when_false : {A : Type 0} (b : Bool) (x : A) → b ≡ false → None ≡ when b x
unfolding when
when_false b x e = sym (ap (λ (c : Bool). when c x) e)

and_true : (a b : Bool) → a ≡ true → b ≡ true → (a && b) ≡ true
and_true true b e f = f
and_true false b e f = e

and_false_left : (a b : Bool) → a ≡ false → (a && b) ≡ false
and_false_left true b e = absurd (both_ways true e refl)
and_false_left false b e = refl

and_false_right : (a b : Bool) → b ≡ false → (a && b) ≡ false
and_false_right true b e = e
and_false_right false b e = refl

-- each digit is one
pub digit_at : (radix : ℕ) (digits : List ℕ) (i : ℕ) → list_all (λ c. is_digit c radix) digits ≡ true → i < length digits → digit_value (slice_index digits i) < radix
digit_at radix digits i all h = by (is_digit (get_or digits i 0) radix) refl
  where
    by : (b : Bool) → is_digit (get_or digits i 0) radix ≡ b → digit_value (get_or digits i 0) < radix
    by true e = ltb-true _ _ e
    by false e = absurd (both_ways _ (list_all_at (λ c. is_digit c radix) digits i 0 h e) all)

-- one more byte
pub byte_more : (seed : List ℕ) (f : ℕ → ℕ) (i b : ℕ) → i < length seed → b ≡ f i → ((k : ℕ) → k < i → slice_index seed k ≡ f k) → (k : ℕ) → k < i + 1 → slice_index (slice_set seed i b) k ≡ f k
byte_more seed f i b h e before k l = by (nat_lt k i) refl
  where
    by : (t : Bool) → nat_lt k i ≡ t → slice_index (slice_set seed i b) k ≡ f k
    by true g = let less : k < i = ltb-true _ _ g in get_or-set_other seed i k b 0 (λ q. omega (arith, less, q)) ∙ before k less
    by false g = let same : k ≡ i = omega (arith, ltb-false _ _ g, l) in get_or-set_at seed i k b 0 same h ∙ e ∙ ap f (sym same)

pub all_bytes : (seed : List ℕ) (f : ℕ → ℕ) (i : ℕ) → length seed ≡ 32 → 32 ≤ i → ((k : ℕ) → k < i → slice_index seed k ≡ f k) → seed ≡ map f (range_with_len 0 32)
all_bytes seed f i h l all = fill_by_all f seed 32 0 h (λ k m. all k (omega (arith, l, m)))

pub a_seed : (text seed : List ℕ) → length text ≡ 64 → list_all (λ c. is_digit c 16) text ≡ true → seed ≡ map (byte_of_digits text) (range_with_len 0 32) → Some seed ≡ seed_of text
unfolding seed_of when
a_seed text seed h all e = ap (λ (s : List ℕ). Some s) e ∙ when_true (length text == 64 && list_all (λ c. is_digit c 16) text) _ (and_true _ _ (eq-eqb _ _ h) all)

pub no_seed_long : (text : List ℕ) → (length text ≡ 64 → ⊥) → None ≡ seed_of text
unfolding seed_of when
no_seed_long text h = when_false (length text == 64 && list_all (λ c. is_digit c 16) text) _ (and_false_left _ _ (ne_eqb _ _ h))

pub no_seed_digits : (text : List ℕ) → list_all (λ c. is_digit c 16) text ≡ false → None ≡ seed_of text
unfolding seed_of when
no_seed_digits text h = when_false (length text == 64 && list_all (λ c. is_digit c 16) text) _ (and_false_right (length text == 64) _ h)

-- ---- limits

digits_all : (radix : ℕ) (ds : List ℕ) → list_all (λ c. is_digit c radix) ds ≡ true → AllDigits radix ds
digits_all radix [] e = tt
digits_all radix (c ∷ cs) e = (by (is_digit c radix) refl, digits_all radix cs (and_right (is_digit c radix) _ e))
  where
    and_right : (a b : Bool) → (a && b) ≡ true → b ≡ true
    and_right true b f = f
    and_right false b f = absurd (both_ways _ refl f)

    and_left : (a b : Bool) → (a && b) ≡ true → a ≡ true
    and_left true b f = refl
    and_left false b f = f

    by : (b : Bool) → is_digit c radix ≡ b → digit_value c < radix
    by true f = ltb-true _ _ f
    by false f = absurd (both_ways _ f (and_left (is_digit c radix) _ e))

-- digits begin with no plus
no_plus : (ds : List ℕ) → list_all (λ c. is_digit c 10) ds ≡ true → without_leading_plus ds ≡ ds
no_plus [] e = refl
no_plus (c ∷ cs) e = by (c == 43) refl
  where
    first : (a b : Bool) → (a && b) ≡ true → a ≡ true
    first true b g = refl
    first false b g = g

    plus : (d : ℕ) → d ≡ 43 → digit_value d < 10 → ⊥
    plus d f g = let P : ℕ → Type 0 = λ n. digit_value n < 10 in let h : 36 < 10 = subst P f g in omega (arith, h)

    by : (b : Bool) → (c == 43) ≡ b → without_leading_plus (c ∷ cs) ≡ c ∷ cs
    by false f = ap (λ (d : Bool). drop (if d then 1 else 0) (c ∷ cs)) f
    by true f = absurd (plus c (eqb-true c 43 f) (ltb-true _ _ (first (is_digit c 10) _ e)))

positive_length : (ds : List ℕ) → 1 ≤ digits_value 10 ds → 0 < length ds
positive_length [] h = absurd (omega (arith, h))
positive_length (c ∷ cs) h = omega arith

-- what `parse` gives of digits
parsed_digits : {E : Type 0} (ds : List ℕ) (r : Result ℕ E) → list_all (λ c. is_digit c 10) ds ≡ true → ParsesUnsigned 64 10 ds r →
    MatchOption (result_ok r) (1 ≤ digits_value 10 ds → digits_value 10 ds ≤ 2 ^ 32 → ⊥) (λ n. n ≡ digits_value 10 ds)
parsed_digits ds (Ok n) all p = p.1 ∙ ap (digits_value 10) (no_plus ds all)
parsed_digits ds (Err e) all p = λ h k.
    let D : List ℕ → Type 0 = λ d. IsNumeral 10 d × (digits_value 10 d < 2 ^ 64) in
    p (subst D (sym (no_plus ds all)) ((positive_length ds h, digits_all 10 ds all), omega (arith, k)))

pub parsed_number : {E : Type 0} (ds : List ℕ) (r : Result ℕ E) (o : Option ℕ) → list_all (λ c. is_digit c 10) ds ≡ true → ParsesUnsigned 64 10 ds r → o ≡ result_ok r →
    MatchOption o (1 ≤ digits_value 10 ds → digits_value 10 ds ≤ 2 ^ 32 → ⊥) (λ n. n ≡ digits_value 10 ds)
parsed_number ds r o all p e =
    let P : Option ℕ → Type 0 = λ q. MatchOption q (1 ≤ digits_value 10 ds → digits_value 10 ds ≤ 2 ^ 32 → ⊥) (λ n. n ≡ digits_value 10 ds) in
    subst P (sym e) (parsed_digits ds r all p)

limit_test : List ℕ → Bool
limit_test text = (nat_le (length text) 20 && list_all (λ c. is_digit c 10) text) && (nat_le 1 (digits_value 10 text) && nat_le (digits_value 10 text) (2 ^ 32))

pub a_limit : (text : List ℕ) (n : ℕ) → length text ≤ 20 → list_all (λ c. is_digit c 10) text ≡ true → n ≡ digits_value 10 text → 1 ≤ n → n ≤ 2 ^ 32 → Some n ≡ limit_of text
unfolding limit_of when limit_test
a_limit text n h all e low high =
    let P : ℕ → Type 0 = λ m. 1 ≤ m in let Q : ℕ → Type 0 = λ m. m ≤ 2 ^ 32 in
    ap (λ (m : ℕ). Some m) e ∙ when_true (limit_test text) _ (and_true _ _ (and_true _ _ (le-leb _ _ h) all) (and_true _ _ (le-leb _ _ (subst P e low)) (le-leb _ _ (subst Q e high))))

no_limit : (text : List ℕ) → limit_test text ≡ false → None ≡ limit_of text
unfolding limit_of when limit_test
no_limit text e = when_false (limit_test text) _ e

pub no_limit_long : (text : List ℕ) → 20 < length text → None ≡ limit_of text
unfolding limit_test
no_limit_long text h = no_limit text (and_false_left _ _ (and_false_left _ _ (lt-leb _ _ h)))

pub no_limit_digits : (text : List ℕ) → list_all (λ c. is_digit c 10) text ≡ false → None ≡ limit_of text
unfolding limit_test
no_limit_digits text h = no_limit text (and_false_left _ _ (and_false_right (nat_le (length text) 20) _ h))

-- a value outside of the range
pub no_limit_value : (text : List ℕ) → (1 ≤ digits_value 10 text → digits_value 10 text ≤ 2 ^ 32 → ⊥) → None ≡ limit_of text
unfolding limit_test
no_limit_value text h = no_limit text (and_false_right (nat_le (length text) 20 && list_all (λ c. is_digit c 10) text) _ (by (nat_le 1 (digits_value 10 text)) refl (nat_le (digits_value 10 text) (2 ^ 32)) refl))
  where
    by : (a : Bool) → nat_le 1 (digits_value 10 text) ≡ a → (b : Bool) → nat_le (digits_value 10 text) (2 ^ 32) ≡ b → (nat_le 1 (digits_value 10 text) && nat_le (digits_value 10 text) (2 ^ 32)) ≡ false
    by true e true f = absurd (h (leb-true _ _ e) (leb-true _ _ f))
    by false e b f = and_false_left _ _ e
    by true e false f = and_false_right (nat_le 1 (digits_value 10 text)) _ f
