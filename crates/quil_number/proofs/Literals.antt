-- A literal as it is written, and its parts.
use Rattle.std.proofs.Common.{◌≡◌, ℕ, true, Bool, List, [], ◌∷◌, ◌++◌, length, take, drop, refl, sym, ◌∙◌, ap, append_assoc, arith, pos, neg_ℤ}
use Rattle.std.specs.Prelude.{◌-ℤ◌}
use Rattle.std.specs.List.{list_all, prefix_len}
use Rattle.std.specs.Char.{is_ascii_digit}
use Rattle.std.proofs.lemmas.Bool.{and_parts}
use Rattle.std.proofs.lemmas.List.Folds.{length-prefix_len}
use Rattle.std.proofs.Math.Seq.{take-append_seam, drop-append_seam}
use Rattle.quil_number.specs.Decimal.{digits, behind_digits, exponent, number, scaled, decimal_value}

prefix_of_all : (p : ℕ → Bool) (xs ys : List ℕ) → list_all p xs ≡ true → prefix_len p ys ≡ 0 → prefix_len p (xs ++ ys) ≡ length xs
prefix_of_all p [] ys all none = none
prefix_of_all p (x ∷ xs) ys all none =
    let both = and_parts (p x) (list_all p xs) all in
    rw (both.0, prefix_of_all p xs ys both.1 none) (omega arith)

digits-append : (xs ys : List ℕ) → list_all is_ascii_digit xs ≡ true → prefix_len is_ascii_digit ys ≡ 0 → digits (xs ++ ys) ≡ xs
digits-append xs ys all none = ap (λ n. take n (xs ++ ys)) (prefix_of_all is_ascii_digit xs ys all none) ∙ take-append_seam xs ys

behind_digits-append : (xs ys : List ℕ) → list_all is_ascii_digit xs ≡ true → prefix_len is_ascii_digit ys ≡ 0 → behind_digits (xs ++ ys) ≡ ys
behind_digits-append xs ys all none = ap (λ n. drop n (xs ++ ys)) (prefix_of_all is_ascii_digit xs ys all none) ∙ drop-append_seam xs ys

no_digits : (xs : List ℕ) → digits xs ≡ [] → prefix_len is_ascii_digit xs ≡ 0
no_digits xs none = sym (length-prefix_len is_ascii_digit xs) ∙ ap length none

as_one : (ws fs es behind : List ℕ) (sign : ℕ) → ws ++ 46 ∷ fs ++ 101 ∷ sign ∷ es ++ behind ≡ ws ++ (46 ∷ (fs ++ (101 ∷ sign ∷ (es ++ behind))))
as_one ws fs es behind sign = append_assoc (ws ++ 46 ∷ fs) (101 ∷ sign ∷ es) behind ∙ append_assoc ws (46 ∷ fs) ((101 ∷ sign ∷ es) ++ behind)

-- digits, a point, digits and an `e` with what stands behind it
value_of_parts : (ws fs rest : List ℕ) → list_all is_ascii_digit ws ≡ true → list_all is_ascii_digit fs ≡ true → decimal_value (ws ++ (46 ∷ (fs ++ (101 ∷ rest)))) ≡ scaled (number (ws ++ fs)) (exponent (101 ∷ rest) -ℤ pos (length fs))
unfolding decimal_value
value_of_parts ws fs rest w f =
    let front : digits (ws ++ (46 ∷ (fs ++ (101 ∷ rest)))) ≡ ws = digits-append ws (46 ∷ (fs ++ (101 ∷ rest))) w refl in
    let behind : behind_digits (ws ++ (46 ∷ (fs ++ (101 ∷ rest)))) ≡ 46 ∷ (fs ++ (101 ∷ rest)) = behind_digits-append ws (46 ∷ (fs ++ (101 ∷ rest))) w refl in
    let places : digits (fs ++ (101 ∷ rest)) ≡ fs = digits-append fs (101 ∷ rest) f refl in
    let last : behind_digits (fs ++ (101 ∷ rest)) ≡ 101 ∷ rest = behind_digits-append fs (101 ∷ rest) f refl in
    rw (front, behind, places, last) refl

pub raised_literal : (ws fs es behind : List ℕ) → list_all is_ascii_digit ws ≡ true → list_all is_ascii_digit fs ≡ true → list_all is_ascii_digit es ≡ true → digits behind ≡ [] → decimal_value (ws ++ 46 ∷ fs ++ 101 ∷ 43 ∷ es ++ behind) ≡ scaled (number (ws ++ fs)) (pos (number es) -ℤ pos (length fs))
raised_literal ws fs es behind w f x none =
    ap decimal_value (as_one ws fs es behind 43)
    ∙ value_of_parts ws fs (43 ∷ (es ++ behind)) w f
    ∙ ap (λ ds. scaled (number (ws ++ fs)) (pos (number ds) -ℤ pos (length fs))) (digits-append es behind x (no_digits behind none))

pub lowered_literal : (ws fs es behind : List ℕ) → list_all is_ascii_digit ws ≡ true → list_all is_ascii_digit fs ≡ true → list_all is_ascii_digit es ≡ true → digits behind ≡ [] → decimal_value (ws ++ 46 ∷ fs ++ 101 ∷ 45 ∷ es ++ behind) ≡ scaled (number (ws ++ fs)) (neg_ℤ (pos (number es)) -ℤ pos (length fs))
lowered_literal ws fs es behind w f x none =
    ap decimal_value (as_one ws fs es behind 45)
    ∙ value_of_parts ws fs (45 ∷ (es ++ behind)) w f
    ∙ ap (λ ds. scaled (number (ws ++ fs)) (neg_ℤ (pos (number ds)) -ℤ pos (length fs))) (digits-append es behind x (no_digits behind none))
