-- Reading from left to right comes to an outcome on any tokens.
use Rattle.std.proofs.Common.{◌≡◌, ℕ, zero, suc, ◌<◌, Bool, true, false, not, ◌&&◌, ◌||◌, List, [], ◌∷◌, length, refl, sym, subst, le_refl, arith, nat_lt, ltb-true}
use Rattle.std.proofs.lemmas.Bool.{and_parts, and_from, not_from_false}
use Rattle.quil_shape.specs.Shape.{Shape, Grammar}
use Rattle.quil_shape.specs.Shape.Shape.{One, Emit, Empty, Seq, Or, Many, Rule}
use Rattle.quil_shape.specs.Condition.{Tables, opens, skips, ahead, is_clear, leads}
use Rattle.quil_shape.specs.Outcome.{Outcome, after}
use Rattle.quil_shape.specs.Outcome.Outcome.{Made, Stuck, Large}
use Rattle.quil_shape.specs.Reads.{Reads, starts, is_barred}
use Rattle.quil_shape.proofs.Takes.{whole_takes}
use Rattle.quil_shape.proofs.Tests.{AreTrue, implies_at}
use Rattle.quil_shape.proofs.Starts.{Shrinks, takes_shrinks}
use Rattle.quil_shape.proofs.Choices.{choice_clear, many_clear, many_not_empty}
use Rattle.quil_shape.proofs.Sound.{HasWhole, stands, leads_any}

-- some outcome of reading
pub record Comes {C O R K T : Type 0} (g : Grammar C O R K T) (tables : Tables R K) (s : Shape C O R) (ts : List T) : Type 0 where
  pub outcome : Outcome O T
  pub reads : Reads g tables s ts outcome

-- the other member can be taken where the first can't: of the two at most one may be empty
right_taken : (a b e f : Bool) → (e ≡ true → f ≡ true → ⊥) → (a || (not b && not f)) ≡ false → (b || (not a && not e)) ≡ true
right_taken true b e f h i = absurd (cc)
right_taken false true e f h i = refl
right_taken false false true true h i = absurd (h refl refl)
right_taken false false true false h i = absurd (cc)
right_taken false false false f h i = refl

module _ {C O R K T : Type 0} (g : Grammar C O R K T) (tables : Tables R K) where
  one_comes : (c : C) (t : T) (ts : List T) (accepted large : Bool) → g.accepts c (g.kind t) ≡ accepted → g.is_large c t ts ≡ large → Comes g tables (One c) (t ∷ ts)
  one_comes c t ts false large h l = record { outcome = Stuck (t ∷ ts); reads = Reads.barred (and_from _ _ (not_from_false _ h) refl) }
  one_comes c t ts true false h l = record { outcome = Made (g.value c t) ts; reads = Reads.one h l }
  one_comes c t ts true true h l = record { outcome = Large (t ∷ ts); reads = Reads.one_large h l }

  class_comes : (c : C) (ts : List T) → Comes g tables (One c) ts
  class_comes c [] = record { outcome = Stuck []; reads = Reads.barred refl }
  class_comes c (t ∷ ts) = one_comes c t ts _ _ refl refl

  seq_comes : (a b : Shape C O R) (ts : List T) (out : Outcome O T) → Reads g tables a ts out → ((os : List O) (us : List T) → Reads g tables a ts (Made os us) → Comes g tables b us) → Comes g tables (Seq a b) ts
  seq_comes a b ts (Made os us) r f = let q = f os us r in record { outcome = after os q.outcome; reads = Reads.seq r q.reads }
  seq_comes a b ts (Stuck us) r f = record { outcome = Stuck us; reads = Reads.seq_stuck r }
  seq_comes a b ts (Large us) r f = record { outcome = Large us; reads = Reads.seq_large r }

  more_comes : (a : Shape C O R) (ts : List T) (out : Outcome O T) → starts g tables a ts ≡ true → Reads g tables a ts out → ((os : List O) (us : List T) → Reads g tables a ts (Made os us) → Comes g tables (Many a) us) → Comes g tables (Many a) ts
  more_comes a ts (Made os us) h r f = let q = f os us r in record { outcome = after os q.outcome; reads = Reads.more h r q.reads }
  more_comes a ts (Stuck us) h r f = record { outcome = Stuck us; reads = Reads.more_stuck h r }
  more_comes a ts (Large us) h r f = record { outcome = Large us; reads = Reads.more_large h r }

  or_comes : (a b : Shape C O R) (ts : List T) (taken : Bool) → (starts g tables a ts || is_barred g tables b ts) ≡ taken → (skips tables a ≡ true → skips tables b ≡ true → ⊥) → Comes g tables a ts → Comes g tables b ts → Comes g tables (Or a b) ts
  or_comes a b ts true h one p q = record { outcome = p.outcome; reads = Reads.left h p.reads }
  or_comes a b ts false h one p q = record { outcome = q.outcome; reads = Reads.right (right_taken (starts g tables a ts) (starts g tables b ts) (skips tables a) (skips tables b) one h) q.reads }

module _ {C O R K T : Type 0} (g : Grammar C O R K T) (tables : Tables R K) (true_tables : AreTrue g tables) where
  -- what reading took
  read_shrinks : (s : Shape C O R) (ts us : List T) (os : List O) → Reads g tables s ts (Made os us) → Shrinks tables s ts us
  read_shrinks s ts us os r =
      let w : HasWhole g s ts us os = stands g tables true_tables r in
      subst (λ xs. Shrinks tables s xs us) (sym w.splits) (takes_shrinks g tables true_tables (whole_takes g w.whole us))

  module _ (ts : List T) (shorter : (us : List T) → length us < length ts → (s : Shape C O R) (follow : K → Bool) → is_clear g tables follow s ≡ true → Comes g tables s us) where
    behind_comes : (a b : Shape C O R) (follow : K → Bool) (us : List T) → is_clear g tables follow b ≡ true → (skips tables a ≡ true → Comes g tables b ts) → Shrinks tables a ts us → Comes g tables b us
    behind_comes a b follow us clear here (Shrinks.nothing e h) = subst (λ ws. Comes g tables b ws) e (here h)
    behind_comes a b follow us clear here (Shrinks.shorter l) = shorter us l b follow clear

    many_comes : (a : Shape C O R) (follow : K → Bool) (started : Bool) → is_clear g tables follow (Many a) ≡ true → starts g tables a ts ≡ started → Comes g tables a ts → Comes g tables (Many a) ts
    many_comes a follow false clear h p = record { outcome = Made [] ts; reads = Reads.none h }
    many_comes a follow true clear h p = more_comes g tables a ts p.outcome h p.reads (λ os us r. behind_comes a (Many a) follow us clear (λ e. absurd (many_not_empty g tables follow a clear e)) (read_shrinks a ts us os r))

    -- where each rule that a shape may begin with comes to an outcome, so does the shape
    shape_comes : (test : R → Bool) → ((r : R) → test r ≡ true → Comes g tables (Rule r) ts) → (s : Shape C O R) → (follow : K → Bool) → is_clear g tables follow s ≡ true → leads tables test s ≡ true → Comes g tables s ts
    shape_comes test f (One c) follow clear h = class_comes g tables c ts
    shape_comes test f (Emit o) follow clear h = record { outcome = Made (o ∷ []) ts; reads = Reads.emit }
    shape_comes test f Empty follow clear h = record { outcome = Made [] ts; reads = Reads.empty }
    shape_comes test f (Seq a b) follow clear h =
        let p = shape_comes test f a (ahead g tables b follow) (and_parts _ _ clear).0 (and_parts _ _ h).0 in
        seq_comes g tables a b ts p.outcome p.reads (λ os us r. behind_comes a b follow us (and_parts _ _ clear).1 (λ e. shape_comes test f b follow (and_parts _ _ clear).1 (implies_at (skips tables a) _ (and_parts _ _ h).1 e)) (read_shrinks a ts us os r))
    shape_comes test f (Or a b) follow clear h =
        let choice = choice_clear g tables follow a b clear in
        or_comes g tables a b ts _ refl choice.one_empty (shape_comes test f a follow choice.first_clear (and_parts _ _ h).0) (shape_comes test f b follow choice.second_clear (and_parts _ _ h).1)
    shape_comes test f (Many a) follow clear h = many_comes a follow _ clear refl (shape_comes test f a (λ k. opens g tables a k || follow k) (many_clear g tables follow a clear) h)
    shape_comes test f (Rule r) follow clear h = f r h

    rule_comes_below : (n : ℕ) (r : R) → tables.rank r < n → Comes g tables (Rule r) ts
    rule_comes_below zero r l = absurd (omega arith)
    rule_comes_below (suc n) r l =
        let p = shape_comes (λ q. nat_lt (tables.rank q) (tables.rank r)) (λ q h. rule_comes_below n q (let m : tables.rank q < tables.rank r = ltb-true _ _ h in omega arith)) (g.body r) (tables.follow r) (true_tables.clear_body r) (true_tables.leads_body r) in
        record { outcome = p.outcome; reads = Reads.rule p.reads }

  comes_below : (n : ℕ) (ts : List T) → length ts < n → (s : Shape C O R) (follow : K → Bool) → is_clear g tables follow s ≡ true → Comes g tables s ts
  comes_below zero ts l s follow clear = absurd (omega arith)
  comes_below (suc n) ts l s follow clear = shape_comes ts (λ us m. comes_below n us (omega arith)) (λ r. true) (λ r h. rule_comes_below ts (λ us m. comes_below n us (omega arith)) (suc (tables.rank r)) r (le_refl _)) s follow clear (leads_any g tables s)

  -- reading comes to an outcome
  pub comes : (s : Shape C O R) (follow : K → Bool) (ts : List T) → is_clear g tables follow s ≡ true → Comes g tables s ts
  comes s follow ts clear = comes_below (suc (length ts)) ts (le_refl _) s follow clear
