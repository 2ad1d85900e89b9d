-- What the computed condition says of each kind, and what tests of the first token say.
use Rattle.std.proofs.Common.{◌≡◌, ℕ, zero, suc, Bool, true, false, not, ◌&&◌, true≢false, List, [], ◌∷◌, refl, sym, subst, nat_lt}
use Rattle.std.specs.Prelude.{Some, slice_get}
use Rattle.std.specs.List.{list_all}
use Rattle.std.proofs.lemmas.Bool.{and_parts}
use Rattle.quil_shape.specs.Shape.{Grammar}
use Rattle.quil_shape.specs.Condition.{Listing, Tables, opens, skips, implies, is_apart, is_within, is_clear, is_clear_rule, leads}
use Rattle.quil_shape.specs.Reads.{first_passes}

-- a test of each element holds of the one at a place
all_at : {A : Type 0} (p : A → Bool) (xs : List A) (i : ℕ) (a : A) → slice_get xs i ≡ Some a → list_all p xs ≡ true → p a ≡ true
all_at p [] i a e h = absurd (cc)
all_at p (x ∷ xs) zero a e h = let same : x ≡ a = cc in subst (λ y. p y ≡ true) same (and_parts _ _ h).0
all_at p (x ∷ xs) (suc i) a e h = all_at p xs i a e (and_parts _ _ h).1

pub listed_at : {A : Type 0} (l : Listing A) (p : A → Bool) → list_all p l.items ≡ true → (a : A) → p a ≡ true
listed_at l p h a = all_at p l.items (l.place a) a (l.is_listed a) h

pub implies_at : (a b : Bool) → implies a b ≡ true → a ≡ true → b ≡ true
implies_at true b h e = h
implies_at false b h e = absurd (true≢false (sym e))

-- both can't be true
both_not : (a b : Bool) → not (a && b) ≡ true → a ≡ true → b ≡ true → ⊥
both_not true true h e f = true≢false (sym h)
both_not true false h e f = true≢false (sym f)
both_not false b h e f = true≢false (sym e)

pub apart_at : {R K : Type 0} (tables : Tables R K) (p q : K → Bool) → is_apart tables p q ≡ true → (k : K) → p k ≡ true → q k ≡ true → ⊥
apart_at tables p q h k = both_not (p k) (q k) (listed_at tables.kinds (λ k. not (p k && q k)) h k)

pub within_at : {R K : Type 0} (tables : Tables R K) (p q : K → Bool) → is_within tables p q ≡ true → (k : K) → p k ≡ true → q k ≡ true
within_at tables p q h k = implies_at (p k) (q k) (listed_at tables.kinds (λ k. implies (p k) (q k)) h k)

-- what the tables say of each rule
pub record AreTrue {C O R K T : Type 0} (g : Grammar C O R K T) (tables : Tables R K) : Type 0 where
  pub opens_body : (r : R) (k : K) → opens g tables (g.body r) k ≡ true → tables.opens r k ≡ true
  pub skips_body : (r : R) → skips tables (g.body r) ≡ true → tables.skippable r ≡ true
  pub clear_body : (r : R) → is_clear g tables (tables.follow r) (g.body r) ≡ true
  pub leads_body : (r : R) → leads tables (λ q. nat_lt (tables.rank q) (tables.rank r)) (g.body r) ≡ true

pub tables_are_true : {C O R K T : Type 0} (g : Grammar C O R K T) (tables : Tables R K) → list_all (is_clear_rule g tables) tables.rules.items ≡ true → AreTrue g tables
tables_are_true {R = R} g tables h =
    let at : (r : R) → is_clear_rule g tables r ≡ true = λ r. listed_at tables.rules (is_clear_rule g tables) h r in
    record {
      opens_body = λ r k. within_at tables (opens g tables (g.body r)) (tables.opens r) (and_parts _ _ (and_parts _ _ (at r)).0).0 k;
      skips_body = λ r. implies_at (skips tables (g.body r)) (tables.skippable r) (and_parts _ _ (and_parts _ _ (at r)).0).1;
      clear_body = λ r. (and_parts _ _ (and_parts _ _ (at r)).1).0;
      leads_body = λ r. (and_parts _ _ (and_parts _ _ (at r)).1).1;
    }

-- there is no first token, or its kind passes the test
abbrev pub meets : {C O R K T : Type 0} → Grammar C O R K T → (K → Bool) → List T → Bool
meets g test [] = true
meets g test (t ∷ ts) = test (g.kind t)

module _ {C O R K T : Type 0} (g : Grammar C O R K T) where
  pub passes_more : (p q : K → Bool) (ts : List T) → ((k : K) → p k ≡ true → q k ≡ true) → first_passes g p ts ≡ true → first_passes g q ts ≡ true
  passes_more p q [] f h = h
  passes_more p q (t ∷ ts) f h = f _ h

  pub passes_apart : (p q : K → Bool) (ts : List T) → ((k : K) → p k ≡ true → q k ≡ true → ⊥) → first_passes g p ts ≡ true → first_passes g q ts ≡ true → ⊥
  passes_apart p q [] f h i = true≢false (sym h)
  passes_apart p q (t ∷ ts) f h i = f _ h i

  pub meets_more : (p q : K → Bool) (ts : List T) → ((k : K) → p k ≡ true → q k ≡ true) → meets g p ts ≡ true → meets g q ts ≡ true
  meets_more p q [] f h = refl
  meets_more p q (t ∷ ts) f h = f _ h

  pub passes_meets : (p q : K → Bool) (ts : List T) → ((k : K) → p k ≡ true → q k ≡ true) → first_passes g p ts ≡ true → meets g q ts ≡ true
  passes_meets p q [] f h = refl
  passes_meets p q (t ∷ ts) f h = f _ h

  -- a first token that passes one test, and meets a test that is apart
  pub meets_apart : (p q : K → Bool) (ts : List T) → ((k : K) → q k ≡ true → p k ≡ true → ⊥) → first_passes g p ts ≡ true → meets g q ts ≡ true → ⊥
  meets_apart p q [] f h i = true≢false (sym h)
  meets_apart p q (t ∷ ts) f h i = f _ i h
