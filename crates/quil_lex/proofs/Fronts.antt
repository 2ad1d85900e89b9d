-- The lengths that the lexer counts are those of the longest names, strings, digits, fractions and exponents at the front.
use Rattle.std.proofs.Common.{◌≡◌, ℕ, suc, ◌<◌, ◌≤◌, Bool, true, false, cond, ◌&&◌, ◌||◌, ◌⊎◌, inl, inr, List, [], ◌∷◌, ◌++◌, length, refl, ap, arith}
use Rattle.std.specs.Prelude.{nat_lt, ◌==◌}
use Rattle.std.proofs.lemmas.Bool.Decides.{nat_tests}
use Rattle.quil_lex.specs.Token.{is_name_start, is_word, is_name_tail, is_name, is_empty, is_string_tail}
use Rattle.quil_lex.specs.Scan.{name_tail_len, name_len, string_tail_len}

-- n bytes at the front have the property
pub record Front (P : List ℕ → Type 0) (n : ℕ) (bytes : List ℕ) : Type 0 where
  pub text : List ℕ
  pub rest : List ℕ
  pub split : bytes ≡ text ++ rest
  pub size : length text ≡ n
  pub holds : P text

pub bool_cases : (b : Bool) → (b ≡ true) ⊎ (b ≡ false)
bool_cases true = inl refl
bool_cases false = inr refl

-- both parts of a test that passes
pub both : (a b : Bool) → (a && b) ≡ true → (a ≡ true) × (b ≡ true)
both true b h = (refl, h)
both false b h = absurd (cc)

pub and_true : (a b : Bool) → a ≡ true → b ≡ true → (a && b) ≡ true
and_true true b h k = k
and_true false b h k = absurd (cc)

-- which way a test went
pub chosen : {A : Type 0} (b : Bool) (x y z : A) → cond b x y ≡ z → ((b ≡ true) × (x ≡ z)) ⊎ ((b ≡ false) × (y ≡ z))
chosen true x y z h = inl (refl, h)
chosen false x y z h = inr (refl, h)

abbrev Passes : (List ℕ → Bool) → List ℕ → Type 0
Passes test text = test text ≡ true

-- a byte in front of a tail
word_tail : (b : ℕ) (ts : List ℕ) → is_word b ≡ true → is_name_tail ts ≡ true → is_name_tail (b ∷ ts) ≡ true
word_tail b [] w h = w
word_tail b (c ∷ ts) w h = rw w h

dash_tail : (b : ℕ) (ts : List ℕ) → (b == 45) ≡ true → 0 < length ts → is_name_tail ts ≡ true → is_name_tail (b ∷ ts) ≡ true
dash_tail b [] d some h = absurd (omega arith)
dash_tail b (c ∷ ts) d some h = elim (bool_cases (is_word b)) [ inl w ↦ rw w h | inr w ↦ rw (w, d) h ]

pub name_tail_front : (bs : List ℕ) → Front (Passes is_name_tail) (name_tail_len bs) bs
name_tail_front [] = record { text = []; rest = []; split = refl; size = refl; holds = refl }
name_tail_front (b ∷ bs) =
    let f = name_tail_front bs in
    elim (bool_cases (is_word b)) [
      | inl w ↦ record { text = b ∷ f.text; rest = f.rest; split = ap (λ l. b ∷ l) f.split; size = rw w (omega (arith, f.size)); holds = word_tail b f.text w f.holds }
      | inr w ↦ elim (bool_cases ((b == 45) && nat_lt 0 (name_tail_len bs))) [
        | inl d ↦ record { text = b ∷ f.text; rest = f.rest; split = ap (λ l. b ∷ l) f.split; size = rw (w, d) (omega (arith, f.size)); holds = let p = both (b == 45) (nat_lt 0 (name_tail_len bs)) d in dash_tail b f.text p.0 (let some : nat_lt 0 (name_tail_len bs) ≡ true = p.1 in grind (arith, nat_tests, f.size)) f.holds }
        | inr d ↦ record { text = []; rest = b ∷ bs; split = refl; size = rw (w, d) refl; holds = refl }
      ]
    ]

tail_step : (b : ℕ) (t r : List ℕ) → length t ≤ name_tail_len (t ++ r) → (is_word b || (b == 45)) ≡ true → 0 < length t → suc (length t) ≤ name_tail_len (b ∷ (t ++ r))
tail_step b t r bound h some = elim (bool_cases (is_word b)) [
  | inl w ↦ rw w (omega (arith, bound))
  | inr w ↦ let d : (b == 45) ≡ true = rw w at h in
      let positive : nat_lt 0 (name_tail_len (t ++ r)) ≡ true = grind (arith, nat_tests) in
      rw (w, d, positive) (omega (arith, bound))
]

pub name_tail_bound : (t r : List ℕ) → is_name_tail t ≡ true → length t ≤ name_tail_len (t ++ r)
name_tail_bound [] r h = omega arith
name_tail_bound (b ∷ []) r h = rw h (omega arith)
name_tail_bound (b ∷ c ∷ t) r h =
    let p = both (is_word b || (b == 45)) (is_name_tail (c ∷ t)) h in
    tail_step b (c ∷ t) r (name_tail_bound (c ∷ t) r p.1) p.0 (omega arith)

pub name_front : (bs : List ℕ) → 0 < name_len bs → Front (Passes is_name) (name_len bs) bs
name_front [] h = absurd (omega arith)
name_front (b ∷ bs) h =
    let f = name_tail_front bs in
    elim (bool_cases (is_name_start b)) [
      | inl w ↦ record { text = b ∷ f.text; rest = f.rest; split = ap (λ l. b ∷ l) f.split; size = rw w (omega (arith, f.size)); holds = rw w f.holds }
      | inr w ↦ let none : 0 < 0 = rw w at h in absurd (omega arith)
    ]

pub name_bound : (t r : List ℕ) → is_name t ≡ true → length t ≤ name_len (t ++ r)
name_bound [] r h = omega arith
name_bound (b ∷ t) r h =
    let p = both (is_name_start b) (is_name_tail t) h in
    rw p.0 (omega (arith, name_tail_bound t r p.1))

pub string_front : (bs : List ℕ) → 0 < string_tail_len bs → Front (Passes is_string_tail) (string_tail_len bs) bs
string_front [] h = absurd (omega arith)
string_front (b ∷ bs) h =
    elim (bool_cases (b == 34)) [
      | inl q ↦ record { text = b ∷ []; rest = bs; split = refl; size = rw q refl; holds = rw q refl }
      | inr q ↦ elim (bool_cases (nat_lt 0 (string_tail_len bs))) [
        | inl some ↦
            let f = string_front bs (grind (arith, nat_tests)) in
            record { text = b ∷ f.text; rest = f.rest; split = ap (λ l. b ∷ l) f.split; size = rw (q, some) (omega (arith, f.size)); holds = rw q f.holds }
        | inr none ↦ let nothing : 0 < 0 = rw (q, none) at h in absurd (omega arith)
      ]
    ]

empty_nil : (t : List ℕ) → is_empty t ≡ true → t ≡ []
empty_nil [] h = refl
empty_nil (b ∷ t) h = absurd (cc)

pub string_some : (t : List ℕ) → is_string_tail t ≡ true → 0 < length t
string_some [] h = absurd (cc)
string_some (b ∷ t) h = omega arith

pub string_exact : (t r : List ℕ) → is_string_tail t ≡ true → string_tail_len (t ++ r) ≡ length t
string_exact [] r h = absurd (cc)
string_exact (b ∷ t) r h =
    elim (bool_cases (b == 34)) [
      | inl q ↦ let e : is_empty t ≡ true = rw q at h in rw (q, empty_nil t e) refl
      | inr q ↦
          let more : is_string_tail t ≡ true = rw q at h in
          let ih = string_exact t r more in
          let some = string_some t more in
          let positive : nat_lt 0 (string_tail_len (t ++ r)) ≡ true = grind (arith, nat_tests) in
          rw (q, positive) (omega (arith, ih))
    ]
