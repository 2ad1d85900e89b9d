-- What the condition forbids at a choice and at a repetition.
use Rattle.std.proofs.Common.{◌≡◌, ◌⊎◌, inl, inr, Bool, true, false, not, ◌&&◌, ◌||◌, true≢false, List, sym, ◌∙◌, subst}
use Rattle.std.proofs.lemmas.Bool.{and_parts, and_from, or_left, or_right, or_cases}
use Rattle.quil_shape.specs.Shape.{Shape, Grammar}
use Rattle.quil_shape.specs.Shape.Shape.{Or, Many}
use Rattle.quil_shape.specs.Condition.{Tables, opens, skips, ahead, is_apart, is_clear, implies}
use Rattle.quil_shape.specs.Reads.{starts, is_barred}
use Rattle.quil_shape.proofs.Takes.{Takes}
use Rattle.quil_shape.proofs.Tests.{AreTrue, meets, passes_meets, passes_apart, meets_more, meets_apart, apart_at, implies_at}
use Rattle.quil_shape.proofs.Starts.{takes_begins}

-- what a test says where its negation is true
not_both : (a : Bool) → not a ≡ true → a ≡ true → ⊥
not_both true h e = true≢false (sym h)
not_both false h e = true≢false (sym e)

-- neither opened nor empty
pub barred_not : (a b : Bool) → (not a && not b) ≡ true → (a ≡ true) ⊎ (b ≡ true) → ⊥
barred_not a b h (inl e) = not_both a (and_parts _ _ h).0 e
barred_not a b h (inr e) = not_both b (and_parts _ _ h).1 e

-- the parts of the condition at a choice
pub record IsClearChoice {C O R K T : Type 0} (g : Grammar C O R K T) (tables : Tables R K) (follow : K → Bool) (a b : Shape C O R) : Type 0 where
  pub first_clear : is_clear g tables follow a ≡ true
  pub second_clear : is_clear g tables follow b ≡ true
  pub apart : (k : K) → opens g tables a k ≡ true → opens g tables b k ≡ true → ⊥
  pub one_empty : skips tables a ≡ true → skips tables b ≡ true → ⊥
  pub behind_first : skips tables a ≡ true → (k : K) → follow k ≡ true → opens g tables b k ≡ true → ⊥
  pub behind_second : skips tables b ≡ true → (k : K) → follow k ≡ true → opens g tables a k ≡ true → ⊥

module _ {C O R K T : Type 0} (g : Grammar C O R K T) (tables : Tables R K) where
  pub choice_clear : (follow : K → Bool) (a b : Shape C O R) → is_clear g tables follow (Or a b) ≡ true → IsClearChoice g tables follow a b
  choice_clear follow a b h =
      let both = and_parts (is_clear g tables follow a && is_clear g tables follow b) _ h in
      let rest = and_parts (is_apart tables (opens g tables a) (opens g tables b)) _ both.1 in
      let tails = and_parts (implies (skips tables a) (not (skips tables b) && is_apart tables follow (opens g tables b))) (implies (skips tables b) (is_apart tables follow (opens g tables a))) rest.1 in
      record {
        first_clear = (and_parts _ _ both.0).0;
        second_clear = (and_parts _ _ both.0).1;
        apart = apart_at tables (opens g tables a) (opens g tables b) rest.0;
        one_empty = λ e f. not_both (skips tables b) (and_parts _ _ (implies_at (skips tables a) _ tails.0 e)).0 f;
        behind_first = λ e. apart_at tables follow (opens g tables b) (and_parts (not (skips tables b)) _ (implies_at (skips tables a) _ tails.0 e)).1;
        behind_second = λ e. apart_at tables follow (opens g tables a) (implies_at (skips tables b) _ tails.1 e);
      }

  pub many_clear : (follow : K → Bool) (a : Shape C O R) → is_clear g tables follow (Many a) ≡ true → is_clear g tables (λ k. opens g tables a k || follow k) a ≡ true
  many_clear follow a h = (and_parts _ _ h).0

  pub many_not_empty : (follow : K → Bool) (a : Shape C O R) → is_clear g tables follow (Many a) ≡ true → skips tables a ≡ true → ⊥
  many_not_empty follow a h e = not_both (skips tables a) (and_parts (not (skips tables a)) _ (and_parts (is_clear g tables (λ k. opens g tables a k || follow k) a) _ h).1).0 e

  pub many_apart : (follow : K → Bool) (a : Shape C O R) → is_clear g tables follow (Many a) ≡ true → (k : K) → follow k ≡ true → opens g tables a k ≡ true → ⊥
  many_apart follow a h = apart_at tables follow (opens g tables a) (and_parts (not (skips tables a)) (is_apart tables follow (opens g tables a)) (and_parts (is_clear g tables (λ k. opens g tables a k || follow k) a) _ h).1).1

  -- where the choice takes one member, no token opens the other
  pub left_not_opened : (follow : K → Bool) (a b : Shape C O R) (ts : List T) → IsClearChoice g tables follow a b → (starts g tables a ts || is_barred g tables b ts) ≡ true → starts g tables b ts ≡ true → ⊥
  left_not_opened follow a b ts clear h o =
      elim (or_cases _ _ h) [
        | inl e ↦ passes_apart g (opens g tables a) (opens g tables b) ts clear.apart e o
        | inr e ↦ barred_not (starts g tables b ts) _ e (inl o)
      ]

  pub right_not_opened : (follow : K → Bool) (a b : Shape C O R) (ts : List T) → IsClearChoice g tables follow a b → (starts g tables b ts || is_barred g tables a ts) ≡ true → starts g tables a ts ≡ true → ⊥
  right_not_opened follow a b ts clear h o =
      elim (or_cases _ _ h) [
        | inl e ↦ passes_apart g (opens g tables a) (opens g tables b) ts clear.apart o e
        | inr e ↦ barred_not (starts g tables a ts) _ e (inl o)
      ]

  -- where the choice takes one member, and one of `follow` comes next, the other isn't left empty
  pub left_not_skipped : (follow : K → Bool) (a b : Shape C O R) (ts : List T) → IsClearChoice g tables follow a b → (starts g tables a ts || is_barred g tables b ts) ≡ true → meets g follow ts ≡ true → skips tables b ≡ true → ⊥
  left_not_skipped follow a b ts clear h m e =
      elim (or_cases _ _ h) [
        | inl o ↦ meets_apart g (opens g tables a) follow ts (clear.behind_second e) o m
        | inr o ↦ barred_not (starts g tables b ts) _ o (inr e)
      ]

  pub right_not_skipped : (follow : K → Bool) (a b : Shape C O R) (ts : List T) → IsClearChoice g tables follow a b → (starts g tables b ts || is_barred g tables a ts) ≡ true → meets g follow ts ≡ true → skips tables a ≡ true → ⊥
  right_not_skipped follow a b ts clear h m e =
      elim (or_cases _ _ h) [
        | inl o ↦ meets_apart g (opens g tables b) follow ts (clear.behind_first e) o m
        | inr o ↦ barred_not (starts g tables a ts) _ o (inr e)
      ]

module _ {C O R K T : Type 0} (g : Grammar C O R K T) (tables : Tables R K) (true_tables : AreTrue g tables) where
  -- what comes before a whole and what follows it
  pub takes_meets : {s : Shape C O R} {ts us : List T} {os : List O} → (follow : K → Bool) → Takes g s ts us os → meets g follow us ≡ true → meets g (ahead g tables s follow) ts ≡ true
  takes_meets {s = s} {ts = ts} {us = us} follow w m =
      elim (takes_begins g tables true_tables w) [
        | inl o ↦ passes_meets g (opens g tables s) (ahead g tables s follow) ts (λ k e. or_left _ _ e) o
        | inr e ↦ meets_more g follow (ahead g tables s follow) ts (λ k f. or_right (opens g tables s k) _ (and_from _ _ e.1 f)) (subst (λ ws. meets g follow ws ≡ true) (sym e.0) m)
      ]

  -- what comes before a repetition and what follows it
  pub more_meets : {a : Shape C O R} {ts us : List T} {os : List O} → (follow : K → Bool) → Takes g (Many a) ts us os → meets g follow us ≡ true → meets g (λ k. opens g tables a k || follow k) ts ≡ true
  more_meets {a = a} {ts = ts} {us = us} follow w m =
      elim (takes_begins g tables true_tables w) [
        | inl o ↦ passes_meets g (opens g tables a) (λ k. opens g tables a k || follow k) ts (λ k e. or_left _ _ e) o
        | inr e ↦ meets_more g follow (λ k. opens g tables a k || follow k) ts (λ k f. or_right (opens g tables a k) _ f) (subst (λ ws. meets g follow ws ≡ true) (sym e.0) m)
      ]

  -- the other member of a choice isn't what stands there
  pub left_only : {a b : Shape C O R} {ts us : List T} {os : List O} → (follow : K → Bool) → IsClearChoice g tables follow a b → (starts g tables a ts || is_barred g tables b ts) ≡ true → Takes g b ts us os → meets g follow us ≡ true → ⊥
  left_only {a = a} {b = b} {ts = ts} follow clear h w m =
      elim (takes_begins g tables true_tables w) [
        | inl o ↦ left_not_opened g tables follow a b ts clear h o
        | inr e ↦ left_not_skipped g tables follow a b ts clear h (subst (λ ws. meets g follow ws ≡ true) (sym e.0) m) e.1
      ]

  pub right_only : {a b : Shape C O R} {ts us : List T} {os : List O} → (follow : K → Bool) → IsClearChoice g tables follow a b → (starts g tables b ts || is_barred g tables a ts) ≡ true → Takes g a ts us os → meets g follow us ≡ true → ⊥
  right_only {a = a} {b = b} {ts = ts} follow clear h w m =
      elim (takes_begins g tables true_tables w) [
        | inl o ↦ right_not_opened g tables follow a b ts clear h o
        | inr e ↦ right_not_skipped g tables follow a b ts clear h (subst (λ ws. meets g follow ws ≡ true) (sym e.0) m) e.1
      ]

  -- where no token opens a part, there is no part
  pub no_part : {a : Shape C O R} {ts us : List T} {os : List O} → (follow : K → Bool) → is_clear g tables follow (Many a) ≡ true → starts g tables a ts ≡ false → Takes g a ts us os → ⊥
  no_part {a = a} follow clear h w =
      elim (takes_begins g tables true_tables w) [
        | inl o ↦ true≢false (sym o ∙ h)
        | inr e ↦ many_not_empty g tables follow a clear e.1
      ]

  -- nothing is read where the shape is barred
  pub barred_takes : {s : Shape C O R} {ts us : List T} {os : List O} → is_barred g tables s ts ≡ true → Takes g s ts us os → ⊥
  barred_takes {s = s} {ts = ts} h w =
      elim (takes_begins g tables true_tables w) [
        | inl o ↦ barred_not (starts g tables s ts) _ h (inl o)
        | inr e ↦ barred_not (starts g tables s ts) _ h (inr e.1)
      ]
