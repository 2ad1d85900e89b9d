-- Entries one after another: those so far, and those that are left.
use Rattle.std.proofs.Common.{◌≡◌, refl, sym, ◌∙◌, ap, ℕ, ◌+◌, ◌*◌, ◌<◌, ◌⊎◌, inl, inr, add-one, drop, get_or, drop-cons, true, List, [], ◌∷◌, ◌++◌, length, Result, Ok, Err, append_assoc, arith, length-append}
use Rattle.std.specs.Prelude.{◌==◌}
use Rattle.std.specs.List.{flat_map, list_all}
use Rattle.std.proofs.lemmas.Bool.{eqb-true}
use Rattle.qvm_ring.proofs.RingLemmas.{and_left, and_right}
use Rattle.quil_value.specs.Results.{and_then, each}

joined : {B F : Type 0} (y : B) (ys : List B) (r : Result (List B) F) → and_then (and_then r (λ zs. Ok (y ∷ zs))) (λ bs. Ok (ys ++ bs)) ≡ and_then r (λ bs. Ok ((ys ++ y ∷ []) ++ bs))
joined y ys (Ok zs) = ap (λ bs. Ok bs) (sym (append_assoc ys (y ∷ []) zs))
joined y ys (Err e) = refl

-- one more element
pub each_next : {A B F : Type 0} (f : A → Result B F) (x : A) (xs : List A) (y : B) (ys : List B) → f x ≡ Ok y →
    and_then (each f (x ∷ xs)) (λ bs. Ok (ys ++ bs)) ≡ and_then (each f xs) (λ bs. Ok ((ys ++ y ∷ []) ++ bs))
each_next f x xs y ys e =
    ap (λ r. and_then (and_then r (λ z. and_then (each f xs) (λ zs. Ok (z ∷ zs)))) (λ bs. Ok (ys ++ bs))) e ∙ joined y ys (each f xs)

-- the first element with a fault
pub each_failed : {A B F : Type 0} (f : A → Result B F) (x : A) (xs : List A) (e : F) → f x ≡ Err e → each f (x ∷ xs) ≡ Err e
each_failed f x xs e h = ap (λ r. and_then r (λ z. and_then (each f xs) (λ zs. Ok (z ∷ zs)))) h

pub fault_before : {A B F : Type 0} (r : Result A F) (k : A → B) (e : F) → and_then r (λ x. Ok (k x)) ≡ Err e → r ≡ Err e
fault_before (Ok x) k e h = cc
fault_before (Err d) k e h = let same : d ≡ e = cc in ap (λ x. Err x) same

pub then_ok : {A F : Type 0} (r : Result (List A) F) → and_then r (λ x. Ok ([] ++ x)) ≡ r
then_ok (Ok x) = refl
then_ok (Err e) = refl

appended : {B F : Type 0} (y : B) (r s : Result (List B) F) → and_then (and_then r (λ us. and_then s (λ bs. Ok (us ++ bs)))) (λ zs. Ok (y ∷ zs)) ≡ and_then (and_then r (λ zs. Ok (y ∷ zs))) (λ us. and_then s (λ bs. Ok (us ++ bs)))
appended y (Ok us) (Ok bs) = refl
appended y (Ok us) (Err e) = refl
appended y (Err e) s = refl

first_appended : {B F : Type 0} (q : Result B F) (r s : Result (List B) F) → and_then q (λ y. and_then (and_then r (λ us. and_then s (λ bs. Ok (us ++ bs)))) (λ zs. Ok (y ∷ zs)))
    ≡ and_then (and_then q (λ y. and_then r (λ zs. Ok (y ∷ zs)))) (λ us. and_then s (λ bs. Ok (us ++ bs)))
first_appended (Ok y) r s = appended y r s
first_appended (Err e) r s = refl

whole : {B F : Type 0} (s : Result (List B) F) → s ≡ and_then s (λ bs. Ok ([] ++ bs))
whole (Ok bs) = refl
whole (Err e) = refl

pub each_append : {A B F : Type 0} (f : A → Result B F) (xs ys : List A) → each f (xs ++ ys) ≡ and_then (each f xs) (λ us. and_then (each f ys) (λ bs. Ok (us ++ bs)))
each_append f [] ys = whole (each f ys)
each_append f (x ∷ xs) ys =
    ap (λ r. and_then (f x) (λ y. and_then r (λ zs. Ok (y ∷ zs)))) (each_append f xs ys) ∙ first_appended (f x) (each f xs) (each f ys)

behind : {B F : Type 0} (xs zs : List B) (r s : Result (List B) F) → and_then r (λ us. Ok (xs ++ us)) ≡ Ok zs →
    and_then (and_then r (λ us. and_then s (λ bs. Ok (us ++ bs)))) (λ bs. Ok (xs ++ bs)) ≡ and_then s (λ bs. Ok (zs ++ bs))
behind xs zs (Ok us) (Ok bs) h = let e : xs ++ us ≡ zs = cc in ap (λ l. Ok l) (sym (append_assoc xs us bs) ∙ ap (λ l. l ++ bs) e)
behind xs zs (Ok us) (Err e) h = refl
behind xs zs (Err d) s h = cc

-- the elements of one more list
pub each_list : {A B F : Type 0} (f : A → Result B F) (xs ys : List A) (before zs : List B) → and_then (each f xs) (λ us. Ok (before ++ us)) ≡ Ok zs →
    and_then (each f (xs ++ ys)) (λ bs. Ok (before ++ bs)) ≡ and_then (each f ys) (λ bs. Ok (zs ++ bs))
each_list f xs ys before zs h = ap (λ r. and_then r (λ bs. Ok (before ++ bs))) (each_append f xs ys) ∙ behind before zs (each f xs) (each f ys) h

pub each_list_failed : {A B F : Type 0} (f : A → Result B F) (xs ys : List A) (e : F) → each f xs ≡ Err e → each f (xs ++ ys) ≡ Err e
each_list_failed f xs ys e h = each_append f xs ys ∙ ap (λ r. and_then r (λ us. and_then (each f ys) (λ bs. Ok (us ++ bs)))) h

-- ---- lists after one another

abbrev pub all_of : {A : Type 0} → List (List A) → List A
all_of rows = flat_map (λ r. r) rows

split_row : {A : Type 0} (rows : List (List A)) (i : ℕ) (row d : List A) → i < length rows → row ≡ get_or rows i d → all_of (drop i rows) ≡ row ++ all_of (drop (i + 1) rows)
split_row rows i row d h e =
    let split : drop i rows ≡ get_or rows i d ∷ drop (i + 1) rows = rw (add-one i) (drop-cons rows i d h) in
    ap all_of split ∙ ap (λ r. r ++ all_of (drop (i + 1) rows)) (sym e)

pub row_told : {A B F : Type 0} (f : A → Result B F) (rows : List (List A)) (i : ℕ) (row d : List A) (before zs : List B) (w : Result (List B) F) → i < length rows → row ≡ get_or rows i d →
    and_then (each f row) (λ us. Ok (before ++ us)) ≡ Ok zs → and_then (each f (all_of (drop i rows))) (λ bs. Ok (before ++ bs)) ≡ w →
    and_then (each f (all_of (drop (i + 1) rows))) (λ bs. Ok (zs ++ bs)) ≡ w
row_told f rows i row d before zs w h e told so_far =
    sym (each_list f row (all_of (drop (i + 1) rows)) before zs told)
    ∙ ap (λ l. and_then (each f l) (λ bs. Ok (before ++ bs))) (sym (split_row rows i row d h e)) ∙ so_far

pub row_failed : {A B F : Type 0} (f : A → Result B F) (rows : List (List A)) (i : ℕ) (row d : List A) (before : List B) (w : Result (List B) F) (fault : F) → i < length rows → row ≡ get_or rows i d →
    each f row ≡ Err fault → and_then (each f (all_of (drop i rows))) (λ bs. Ok (before ++ bs)) ≡ w → w ≡ Err fault
row_failed f rows i row d before w fault h e failed so_far =
    sym so_far ∙ ap (λ l. and_then (each f l) (λ bs. Ok (before ++ bs))) (split_row rows i row d h e)
    ∙ ap (λ r. and_then r (λ bs. Ok (before ++ bs))) (each_list_failed f row (all_of (drop (i + 1) rows)) fault failed)

pub failed_or_memory : {P Q M : Type 0} → M ⊎ P → (P → Q) → M ⊎ Q
failed_or_memory (inl m) h = inl m
failed_or_memory (inr p) h = inr (h p)

-- ---- how many

one_longer : {B F : Type 0} (n : ℕ) (y : B) (r : Result (List B) F) (zs : List B) → ((ys : List B) → r ≡ Ok ys → length ys ≡ n) → and_then r (λ ys. Ok (y ∷ ys)) ≡ Ok zs → length zs ≡ n + 1
one_longer n y (Ok ys) zs h e = let same : y ∷ ys ≡ zs = cc in omega (arith, sym (ap length same), h ys refl)
one_longer n y (Err d) zs h e = cc

more : {B F : Type 0} (n : ℕ) (zs : List B) (r : Result B F) (s : Result (List B) F) → ((ys : List B) → s ≡ Ok ys → length ys ≡ n) → and_then r (λ y. and_then s (λ ys. Ok (y ∷ ys))) ≡ Ok zs → length zs ≡ n + 1
more n zs (Ok y) s h e = one_longer n y s zs h e
more n zs (Err d) s h e = cc

pub each_length : {A B F : Type 0} (f : A → Result B F) (xs : List A) (zs : List B) → each f xs ≡ Ok zs → length zs ≡ length xs
each_length f [] zs e = let same : [] ≡ zs = cc in sym (ap length same)
each_length f (x ∷ xs) zs e = omega (arith, more (length xs) zs (f x) (each f xs) (each_length f xs) e)

pub rows_length : {A : Type 0} (n : ℕ) (rows : List (List A)) → list_all (λ r. length r == n) rows ≡ true → length (flat_map (λ r. r) rows) ≡ length rows * n
rows_length n [] e = omega arith
rows_length n (r ∷ rs) e =
    let first : length r ≡ n = eqb-true (length r) n (and_left (length r == n) (list_all (λ r. length r == n) rs) e) in
    let rest : length (flat_map (λ r. r) rs) ≡ length rs * n = rows_length n rs (and_right (length r == n) (list_all (λ r. length r == n) rs) e) in
    omega (arith, length-append r (flat_map (λ r. r) rs), first, rest)
