-- The regions of a layout, and the names of an index that stand in their order.
use Rattle.std.proofs.Common.{◌≡◌, refl, sym, ◌∙◌, ap, subst, ℕ, ◌+◌, ◌<◌, Bool, true, false, not, cond, nat_lt, List, [], ◌∷◌, ◌++◌, length, map, position, slice_get, Option, Some, None, is_some, ◌||◌, arith}
use Rattle.std.specs.List.{position_or_len, list_any, find}
use Rattle.std.specs.Str.{bytes_eq}
use Rattle.std.specs.Option.{IfSome, IfNone}
use Rattle.std.proofs.lemmas.Bool.{ltb-true, ltb-false, cond-false}
use Rattle.std.proofs.lemmas.List.{length-map, map-append}
use Rattle.std.proofs.lemmas.List.Folds.{find_at}
use Rattle.std.proofs.lemmas.Option.{slice_get_past, slice_get-get_or, same_Some}
use Rattle.quil_memory.specs.declared.region.Region.{Region}
use Rattle.quil_memory.specs.Layout.{region_named}

position_or_len-map : {A B : Type 0} (f : A → B) (p : B → Bool) (xs : List A) → position_or_len (λ x. p (f x)) xs ≡ position_or_len p (map f xs)
position_or_len-map f p [] = refl
position_or_len-map f p (x ∷ xs) = ap (λ n. cond (not (p (f x))) (1 + n) 0) (position_or_len-map f p xs)

position-map : {A B : Type 0} (f : A → B) (p : B → Bool) (xs : List A) → position (λ x. p (f x)) xs ≡ position p (map f xs)
position-map f p xs =
    ap (λ n. cond (nat_lt n (length xs)) (Some n) None) (position_or_len-map f p xs)
    ∙ ap (λ n. cond (nat_lt (position_or_len p (map f xs)) n) (Some (position_or_len p (map f xs))) None) (sym (length-map xs f))

list_any-map : {A B : Type 0} (f : A → B) (p : B → Bool) (xs : List A) → list_any (λ x. p (f x)) xs ≡ list_any p (map f xs)
list_any-map f p [] = refl
list_any-map f p (x ∷ xs) = ap (λ b. p (f x) || b) (list_any-map f p xs)

-- the place that the index gives is the region's
pub position_same : {K : Type 0} (items : K → List ℕ) (n : List ℕ) (ks : List K) (rs : List Region) → map items ks ≡ map (λ r. r.name) rs → position (λ k. bytes_eq n (items k)) ks ≡ position (λ (r : Region). bytes_eq n r.name) rs
position_same items n ks rs same =
    position-map items (bytes_eq n) ks ∙ ap (position (bytes_eq n)) same ∙ sym (position-map (λ (r : Region). r.name) (bytes_eq n) rs)

-- the region at a place that was found is the one of the name
pub found : (n : List ℕ) (rs : List Region) (i : ℕ) → position (λ (r : Region). bytes_eq n r.name) rs ≡ Some i → region_named n rs ≡ slice_get rs i
found n rs i e = by (nat_lt (position_or_len (λ (r : Region). bytes_eq n r.name) rs) (length rs)) e
  where
    by : (b : Bool) → cond b (Some (position_or_len (λ (r : Region). bytes_eq n r.name) rs)) None ≡ Some i → region_named n rs ≡ slice_get rs i
    by true e = let place : position_or_len (λ (r : Region). bytes_eq n r.name) rs ≡ i = cc in find_at (λ r. bytes_eq n r.name) rs ∙ ap (slice_get rs) place
    by false e = cc

pub missing : (n : List ℕ) (rs : List Region) → position (λ (r : Region). bytes_eq n r.name) rs ≡ None → region_named n rs ≡ None
missing n rs e = by (nat_lt (position_or_len (λ (r : Region). bytes_eq n r.name) rs) (length rs)) refl e
  where
    by : (b : Bool) → nat_lt (position_or_len (λ (r : Region). bytes_eq n r.name) rs) (length rs) ≡ b → ◌≡◌ {A = Option ℕ} (cond b (Some (position_or_len (λ (r : Region). bytes_eq n r.name) rs)) None) None → region_named n rs ≡ None
    by true t e = cc
    by false t e = find_at (λ r. bytes_eq n r.name) rs ∙ slice_get_past rs (position_or_len (λ (r : Region). bytes_eq n r.name) rs) (omega (arith, ltb-false (position_or_len (λ (r : Region). bytes_eq n r.name) rs) (length rs) t))

any_none : {A : Type 0} (p : A → Bool) (xs : List A) → is_some (find p xs) ≡ false → list_any p xs ≡ false
any_none p [] e = refl
any_none p (x ∷ xs) e = by (p x) e (any_none p xs)
  where
    by : (b : Bool) → is_some (cond b (Some x) (find p xs)) ≡ false → (is_some (find p xs) ≡ false → list_any p xs ≡ false) → (b || list_any p xs) ≡ false
    by true e rest = cc
    by false e rest = rest e

-- a new name goes to the end of the index, as its region does
pub names_more : {K : Type 0} (items : K → List ℕ) (n : List ℕ) (k : K) (ks new : List K) (rs : List Region) (r : Region) → map items ks ≡ map (λ r. r.name) rs → is_some (region_named n rs) ≡ false → items k ≡ n
    → new ≡ cond (list_any (λ x. bytes_eq (items k) (items x)) ks) ks (ks ++ k ∷ []) → r.name ≡ n → map items new ≡ map (λ r. r.name) (rs ++ r ∷ [])
names_more items n k ks new rs r same none is keys name =
    let absent : list_any (λ x. bytes_eq (items k) (items x)) ks ≡ false
    = ap (λ (m : List ℕ). list_any (λ x. bytes_eq m (items x)) ks) is ∙ list_any-map items (bytes_eq n) ks ∙ ap (list_any (bytes_eq n)) same
    ∙ sym (list_any-map (λ (r : Region). r.name) (bytes_eq n) rs) ∙ any_none (λ r. bytes_eq n r.name) rs none in
    ap (map items) (keys ∙ cond-false (list_any (λ x. bytes_eq (items k) (items x)) ks) ks (ks ++ k ∷ []) absent) ∙ map-append items ks (k ∷ [])
    ∙ ap (λ l. l ++ items k ∷ []) same ∙ ap (λ m. map (λ r. r.name) rs ++ m ∷ []) (is ∙ sym name) ∙ sym (map-append (λ (r : Region). r.name) rs (r ∷ []))

some_at : {A : Type 0} (xs : List A) (i : ℕ) → i < length xs → is_some (slice_get xs i) ≡ true
some_at [] i h = absurd (omega arith)
some_at (x ∷ xs) i h = ap is_some (slice_get-get_or (x ∷ xs) i x h)

-- a name that the index has is a region's
pub known_same : (n : List ℕ) (rs : List Region) (o : Option ℕ) → o ≡ position (λ (r : Region). bytes_eq n r.name) rs → is_some (region_named n rs) ≡ is_some o
known_same n rs None e = ap is_some (missing n rs (sym e))
known_same n rs (Some i) e = by (nat_lt (position_or_len (λ (r : Region). bytes_eq n r.name) rs) (length rs)) refl e
  where
    by : (b : Bool) → nat_lt (position_or_len (λ (r : Region). bytes_eq n r.name) rs) (length rs) ≡ b → ◌≡◌ {A = Option ℕ} (Some i) (cond b (Some (position_or_len (λ (r : Region). bytes_eq n r.name) rs)) None) → is_some (region_named n rs) ≡ true
    by true t f = ap is_some (found n rs i (sym e)) ∙ some_at rs i (subst (λ j. j < length rs) (sym (same_Some i (position_or_len (λ (r : Region). bytes_eq n r.name) rs) f)) (ltb-true (position_or_len (λ (r : Region). bytes_eq n r.name) rs) (length rs) t))
    by false t f = cc

pub region_is : (n : List ℕ) (rs : List Region) (o : Option ℕ) → o ≡ position (λ (r : Region). bytes_eq n r.name) rs → IfSome o (λ i. region_named n rs ≡ slice_get rs i)
region_is n rs None e = tt
region_is n rs (Some i) e = found n rs i (sym e)

pub none_is : (n : List ℕ) (rs : List Region) (o : Option ℕ) → o ≡ position (λ (r : Region). bytes_eq n r.name) rs → IfNone o (region_named n rs ≡ None)
none_is n rs None e = missing n rs (sym e)
none_is n rs (Some i) e = tt
