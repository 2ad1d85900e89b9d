-- Names in a set, and as their bytes.
use Rattle.std.proofs.Common.{◌≡◌, ℕ, ◌+◌, Bool, true, false, not, cond, nat_lt, List, [], ◌∷◌, ◌++◌, ◌||◌, map, length, position, refl, ap, ◌∙◌, ◌≤◌, arith, le_antisymm, if◌then◌else◌, Option, Some, None}
use Rattle.std.specs.Str.{bytes_eq}
use Rattle.std.proofs.lemmas.Bool.{ltb-false}
use Rattle.std.proofs.lemmas.List.{map-append}
use Rattle.std.specs.List.{list_any, position_or_len}
use Rattle.quil_tree.specs.Names.{with_name}

pub position_or_len-map : {A B : Type 0} (f : A → B) (p : B → Bool) (xs : List A) → position_or_len (λ x. p (f x)) xs ≡ position_or_len p (map f xs)
position_or_len-map f p [] = refl
position_or_len-map f p (x ∷ xs) = ap (λ n. cond (not (p (f x))) (1 + n) 0) (position_or_len-map f p xs)

pub list_any-map : {A B : Type 0} (f : A → B) (p : B → Bool) (xs : List A) → list_any (λ x. p (f x)) xs ≡ list_any p (map f xs)
list_any-map f p [] = refl
list_any-map f p (x ∷ xs) = ap (λ b. p (f x) || b) (list_any-map f p xs)

added : {K : Type 0} (items : K → List ℕ) (b : Bool) (k : K) (ks : List K) → map items (if b then ks else ks ++ k ∷ []) ≡ (if b then map items ks else map items ks ++ items k ∷ [])
added items true k ks = refl
added items false k ks = map-append items ks (k ∷ [])

pub with_key : {K : Type 0} (items : K → List ℕ) (k : K) (ks new : List K) → new ≡ (if list_any (λ x. bytes_eq (items k) (items x)) ks then ks else ks ++ k ∷ []) → map items new ≡ with_name (map items ks) (items k)
with_key items k ks new e =
    ap (λ xs. map items xs) e ∙ added items (list_any (λ x. bytes_eq (items k) (items x)) ks) k ks
    ∙ ap (λ b. if b then map items ks else map items ks ++ items k ∷ []) (list_any-map items (bytes_eq (items k)) ks)

within : {A : Type 0} (p : A → Bool) (xs : List A) → position_or_len p xs ≤ length xs
within p [] = omega arith
within p (x ∷ xs) = by (p x) (within p xs)
  where
    by : (b : Bool) → position_or_len p xs ≤ length xs → cond (not b) (1 + position_or_len p xs) 0 ≤ length (x ∷ xs)
    by true h = omega arith
    by false h = omega arith

-- the index of a name, and that of none
module _ {K : Type 0} (items : K → List ℕ) (n : List ℕ) (ks : List K) where
  pub number_found : (i : ℕ) → Some i ≡ position (λ k. bytes_eq n (items k)) ks → i ≡ position_or_len (bytes_eq n) (map items ks)
  number_found i e = by (nat_lt (position_or_len (λ k. bytes_eq n (items k)) ks) (length ks)) e
    where
      by : (b : Bool) → Some i ≡ cond b (Some (position_or_len (λ k. bytes_eq n (items k)) ks)) None → i ≡ position_or_len (bytes_eq n) (map items ks)
      by true e = let place : i ≡ position_or_len (λ k. bytes_eq n (items k)) ks = cc in place ∙ position_or_len-map items (bytes_eq n) ks
      by false e = cc

  pub number_missing : None ≡ position (λ k. bytes_eq n (items k)) ks → length ks ≡ position_or_len (bytes_eq n) (map items ks)
  number_missing e = by (nat_lt (position_or_len (λ k. bytes_eq n (items k)) ks) (length ks)) refl e
    where
      by : (b : Bool) → nat_lt (position_or_len (λ k. bytes_eq n (items k)) ks) (length ks) ≡ b → ◌≡◌ {A = Option ℕ} None (cond b (Some (position_or_len (λ k. bytes_eq n (items k)) ks)) None) → length ks ≡ position_or_len (bytes_eq n) (map items ks)
      by true t e = cc
      by false t e = le_antisymm (omega (arith, ltb-false (position_or_len (λ k. bytes_eq n (items k)) ks) (length ks) t)) (within (λ k. bytes_eq n (items k)) ks) ∙ position_or_len-map items (bytes_eq n) ks
