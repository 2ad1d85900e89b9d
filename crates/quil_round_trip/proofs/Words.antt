-- Words of a line, as they are printed, and the tokens that they are read as.
use Rattle.std.proofs.Common.{◌≡◌, ℕ, ◌⊎◌, inl, inr, Bool, true, false, ◌&&◌, List, [], ◌∷◌, ◌++◌, refl, sym, ◌∙◌, ap, subst, append_assoc, if◌then◌else◌, arith}
use Rattle.std.specs.Prelude.{nat_lt, ◌==◌, bytes_eq}
use Rattle.std.specs.List.{list_all, list_any}
use Rattle.std.proofs.lemmas.Bool.{and_parts}
use Rattle.std.proofs.lemmas.Bool.Decides.{nat_tests}
use Rattle.quil_lex.specs.declared.token.Kind.{Kind}
use Rattle.quil_lex.specs.declared.token.Kind.TheVariants as kind
use Rattle.quil_lex.specs.declared.token.Mark.{Mark}
use Rattle.quil_lex.specs.declared.token.Mark.TheVariants as mark
use Rattle.quil_lex.specs.Token.{begins_more}
use Rattle.quil_lex.specs.Written.{Word, IsLineToken, IsApartFrom, AreApart, words_bytes}
use Rattle.quil_lex.specs.Reading.{Lexeme}
use Rattle.quil_grammar.specs.declared.sort.Sort.{Sort}
use Rattle.quil_grammar.specs.declared.sort.Sort.TheVariants as sort
use Rattle.quil_grammar.specs.Sort.{sort_of, sort_of_mark, sort_among, word_sort, language_words, number_of, is_sort, is_name}
use Rattle.quil_grammar.specs.Token.{Token, Context, token_in, sort_in}
use Rattle.quil_round_trip.specs.Unplaced.{origin}

-- a token of such a kind and text, without its place
abbrev pub lexeme : Kind → List ℕ → Lexeme
lexeme k x = record { kind = k; text = x; line = 0; column = 0 }

abbrev pub tok : Context → Kind → List ℕ → Token
tok c k x = token_in c (lexeme k x)

abbrev pub bare : Token → Token
bare t = record t { place = origin }

-- the token was read of a text of a kind
pub record Fits (c : Context) (t : Token) : Type 0 where
  pub kind : Kind
  pub text : IsLineToken kind t.text
  pub is : bare t ≡ tok c kind t.text

abbrev pub AreFit : Context → List Token → Type 0
AreFit c [] = Unit {0}
AreFit c (t ∷ ts) = Fits c t × AreFit c ts

pub fit_first : (c : Context) (ts us : List Token) (t : Token) → ts ≡ t ∷ us → AreFit c ts → Fits c t
fit_first c ts us t e h = (subst (λ xs. AreFit c xs) e h).0

pub fit_rest : (c : Context) (ts us before : List Token) → ts ≡ before ++ us → AreFit c ts → AreFit c us
fit_rest c ts us [] e h = subst (λ xs. AreFit c xs) e h
fit_rest c ts us (t ∷ before) e h = fit_rest c (before ++ us) us before refl (subst (λ xs. AreFit c xs) e h).1

-- ---- kinds by sorts

-- 0 for words, and a number for each other kind
abbrev pub kind_class : Kind → ℕ
kind_class kind.Name = 0
kind_class kind.Whole = 1
kind_class kind.Decimal = 2
kind_class kind.Imaginary = 3
kind_class kind.Str = 4
kind_class kind.Parameter = 5
kind_class kind.Label = 6
kind_class (kind.Mark m) = 7

abbrev pub is_word : Sort → Bool
is_word s = nat_lt (number_of s) 55

abbrev pub sort_class : Sort → ℕ
sort_class s =
    if is_word s then 0 else (if nat_lt (number_of s) 57 then 1 else (if nat_lt (number_of s) 58 then 2 else (if nat_lt (number_of s) 59 then 3
    else (if nat_lt (number_of s) 60 then 4 else (if nat_lt (number_of s) 62 then 5 else (if nat_lt (number_of s) 63 then 6 else 7))))))

word_among : (es : List (List ℕ × Sort)) (x : List ℕ) → list_all (λ e. is_word e.1) es ≡ true → is_word (sort_among es x) ≡ true
word_among [] x h = refl
word_among (e ∷ es) x h = by (bytes_eq e.0 x) (word_among es x (and_parts _ _ h).1)
  where
    by : (b : Bool) → is_word (sort_among es x) ≡ true → is_word (if b then e.1 else sort_among es x) ≡ true
    by true i = (and_parts _ _ h).0
    by false i = i

word_is : (x : List ℕ) → is_word (word_sort x) ≡ true
unfolding word_sort
word_is x = word_among language_words x refl

class_word : (s : Sort) → is_word s ≡ true → sort_class s ≡ 0
class_word s h = rw h refl

-- the names of a definition change no class
parameter_number : (s : Sort) → is_word s ≡ true → is_sort s sort.Parameter ≡ false
parameter_number s h = by_number (number_of s) h
  where
    by_number : (n : ℕ) → nat_lt n 55 ≡ true → (n == 60) ≡ false
    by_number n e = grind (arith, nat_tests)

word_in : (c : Context) (s : Sort) (x : List ℕ) → is_word s ≡ true → is_word (sort_in c s x) ≡ true
word_in c s x h = rw (parameter_number s h) (by (is_name s && list_any (bytes_eq x) c.qubits))
  where
    by : (b : Bool) → is_word (if b then sort.Formal else s) ≡ true
    by true = refl
    by false = h

parameter_in : (b : Bool) → sort_class (if b then sort.Parameter else sort.Unknown) ≡ 5
parameter_in true = refl
parameter_in false = refl

whole_in : (b : Bool) (c : Context) (x : List ℕ) → sort_class (sort_in c (if b then sort.Zero else sort.Whole) x) ≡ 1
whole_in true c x = refl
whole_in false c x = refl

mark_in : (m : Mark) (c : Context) (x : List ℕ) → sort_class (sort_in c (sort_of_mark m) x) ≡ 7
mark_in mark.LeftParenthesis c x = refl
mark_in mark.RightParenthesis c x = refl
mark_in mark.LeftBracket c x = refl
mark_in mark.RightBracket c x = refl
mark_in mark.Comma c x = refl
mark_in mark.Colon c x = refl
mark_in mark.Plus c x = refl
mark_in mark.Minus c x = refl
mark_in mark.Star c x = refl
mark_in mark.Slash c x = refl
mark_in mark.Caret c x = refl

pub class_in : (k : Kind) (c : Context) (x : List ℕ) → sort_class (sort_in c (sort_of k x) x) ≡ kind_class k
class_in kind.Name c x = class_word (sort_in c (word_sort x) x) (word_in c (word_sort x) x (word_is x))
class_in kind.Whole c x = whole_in (list_all (λ b. b == 48) x) c x
class_in kind.Decimal c x = refl
class_in kind.Imaginary c x = refl
class_in kind.Str c x = refl
class_in kind.Parameter c x = parameter_in (list_any (bytes_eq x) c.parameters)
class_in kind.Label c x = refl
class_in (kind.Mark m) c x = mark_in m c x

-- the kind of a token is that of its sort
pub fit_class : (c : Context) (t : Token) (f : Fits c t) → kind_class f.kind ≡ sort_class t.sort
fit_class c t f = sym (class_in f.kind c t.text) ∙ ap (λ u. sort_class u.sort) (sym f.is)

abbrev pub kind_at : ℕ → Kind
kind_at n =
    if n == 0 then kind.Name else (if n == 1 then kind.Whole else (if n == 2 then kind.Decimal else (if n == 3 then kind.Imaginary
    else (if n == 4 then kind.Str else (if n == 5 then kind.Parameter else kind.Label)))))

kind_back : (k : Kind) → (kind_class k == 7) ≡ false → kind_at (kind_class k) ≡ k
kind_back kind.Name n = refl
kind_back kind.Whole n = refl
kind_back kind.Decimal n = refl
kind_back kind.Imaginary n = refl
kind_back kind.Str n = refl
kind_back kind.Parameter n = refl
kind_back kind.Label n = refl
kind_back (kind.Mark m) n = absurd (cc)

pub kind_of_class : (c : Context) (t : Token) (f : Fits c t) (n : ℕ) → sort_class t.sort ≡ n → (n == 7) ≡ false → f.kind ≡ kind_at n
kind_of_class c t f n e h =
    let same : kind_class f.kind ≡ n = fit_class c t f ∙ e in
    sym (kind_back f.kind (subst (λ m. (m == 7) ≡ false) (sym same) h)) ∙ ap kind_at same

-- ---- words in a row

abbrev pub toks : Context → List Word → List Token
toks c [] = []
toks c (w ∷ ws) = tok c w.kind w.text ∷ toks c ws

-- whatever stands before them, the words are told from it
abbrev pub IsFree : List Word → Type 0
IsFree [] = Unit {0}
IsFree (v ∷ vs) = (v.blank ≡ true) ⊎ (begins_more v.text ≡ false)

pub toks_append : (c : Context) (ws vs : List Word) (us : List Token) → toks c (ws ++ vs) ++ us ≡ toks c ws ++ (toks c vs ++ us)
toks_append c [] vs us = refl
toks_append c (w ∷ ws) vs us = ap (λ ts. tok c w.kind w.text ∷ ts) (toks_append c ws vs us)

pub bytes_append : (ws vs : List Word) → words_bytes (ws ++ vs) ≡ words_bytes ws ++ words_bytes vs
bytes_append [] vs = refl
bytes_append (w ∷ ws) vs = ap (λ x. (if w.blank then 32 ∷ w.text else w.text) ++ x) (bytes_append ws vs) ∙ sym (append_assoc (if w.blank then 32 ∷ w.text else w.text) (words_bytes ws) (words_bytes vs))

pub free_behind : (w : Word) (vs : List Word) → IsFree vs → IsApartFrom w vs
free_behind w [] h = tt
free_behind w (v ∷ vs) (inl h) = inl h
free_behind w (v ∷ vs) (inr h) = inr (inr h)

pub apart_append : (ws vs : List Word) → AreApart ws → AreApart vs → IsFree vs → AreApart (ws ++ vs)
apart_append [] vs p q f = q
apart_append (w ∷ []) vs p q f = (p.0, free_behind w vs f, q)
apart_append (w ∷ v ∷ ws) vs p q f = (p.0, p.1, apart_append (v ∷ ws) vs p.2 q f)
