-- Two wholes that stand at the same place, with what may follow behind each, are one.
use Rattle.std.proofs.Common.{◌≡◌, ◌⊎◌, inl, inr, Bool, true, ◌||◌, List, ◌++◌, refl, sym, ap₂, subst}
use Rattle.std.proofs.lemmas.Bool.{and_parts}
use Rattle.quil_shape.specs.Shape.{Shape, Grammar}
use Rattle.quil_shape.specs.Shape.Shape.{Many}
use Rattle.quil_shape.specs.Condition.{Tables, opens, skips, ahead, is_clear}
use Rattle.quil_shape.specs.Reads.{starts}
use Rattle.quil_shape.proofs.Takes.{Takes}
use Rattle.quil_shape.proofs.Tests.{AreTrue, meets, meets_more, meets_apart, passes_apart, within_at}
use Rattle.quil_shape.proofs.Starts.{takes_begins}
use Rattle.quil_shape.proofs.Choices.{IsClearChoice, choice_clear, many_clear, many_apart, many_not_empty, takes_meets, more_meets}

module _ {C O R K T : Type 0} (g : Grammar C O R K T) (tables : Tables R K) (true_tables : AreTrue g tables) where
  -- a choice has no whole of both members
  not_both_members : {a b : Shape C O R} {ts us vs : List T} {os ps : List O} → (follow : K → Bool) → IsClearChoice g tables follow a b → Takes g a ts us os → Takes g b ts vs ps → meets g follow us ≡ true → meets g follow vs ≡ true → ⊥
  not_both_members {a = a} {b = b} {ts = ts} {us = us} {vs = vs} follow clear w v m n = by_cases (takes_begins g tables true_tables w) (takes_begins g tables true_tables v)
    where
      by_cases : (starts g tables a ts ≡ true) ⊎ ((ts ≡ us) × (skips tables a ≡ true)) → (starts g tables b ts ≡ true) ⊎ ((ts ≡ vs) × (skips tables b ≡ true)) → ⊥
      by_cases (inl h) (inl i) = passes_apart g (opens g tables a) (opens g tables b) ts clear.apart h i
      by_cases (inl h) (inr e) = meets_apart g (opens g tables a) follow ts (clear.behind_second e.1) h (subst (λ ws. meets g follow ws ≡ true) (sym e.0) n)
      by_cases (inr e) (inl i) = meets_apart g (opens g tables b) follow ts (clear.behind_first e.1) i (subst (λ ws. meets g follow ws ≡ true) (sym e.0) m)
      by_cases (inr e) (inr f) = clear.one_empty e.1 f.1

  -- a repetition doesn't end where a part stands
  not_ended : {a : Shape C O R} {ts us : List T} {os : List O} → (follow : K → Bool) → is_clear g tables follow (Many a) ≡ true → meets g follow ts ≡ true → Takes g a ts us os → ⊥
  not_ended {a = a} {ts = ts} follow clear m w =
      elim (takes_begins g tables true_tables w) [
        | inl h ↦ meets_apart g (opens g tables a) follow ts (many_apart g tables follow a clear) h m
        | inr e ↦ many_not_empty g tables follow a clear e.1
      ]

  pub same : {s : Shape C O R} {ts us vs : List T} {os ps : List O} → (follow : K → Bool) → is_clear g tables follow s ≡ true → Takes g s ts us os → Takes g s ts vs ps → meets g follow us ≡ true → meets g follow vs ≡ true → (us ≡ vs) × (os ≡ ps)
  same follow clear (Takes.one h) (Takes.one i) m n = (refl, refl)
  same follow clear Takes.emit Takes.emit m n = (refl, refl)
  same follow clear Takes.empty Takes.empty m n = (refl, refl)
  same follow clear (Takes.seq {a = a} {b = b} {vs = xs} {ps = os} w w') (Takes.seq v v') m n =
      let first = same (ahead g tables b follow) (and_parts _ _ clear).0 w v (takes_meets g tables true_tables follow w' m) (takes_meets g tables true_tables follow v' n) in
      let second = same follow (and_parts _ _ clear).1 (subst (λ ws. Takes g b ws xs os) first.0 w') v' m n in
      (second.0, ap₂ (λ x y. x ++ y) first.1 second.1)
  same follow clear (Takes.left {a = a} {b = b} w) (Takes.left v) m n = same follow (choice_clear g tables follow a b clear).first_clear w v m n
  same follow clear (Takes.left {a = a} {b = b} w) (Takes.right v) m n = absurd (not_both_members follow (choice_clear g tables follow a b clear) w v m n)
  same follow clear (Takes.right {a = a} {b = b} w) (Takes.left v) m n = absurd (not_both_members follow (choice_clear g tables follow a b clear) v w n m)
  same follow clear (Takes.right {a = a} {b = b} w) (Takes.right v) m n = same follow (choice_clear g tables follow a b clear).second_clear w v m n
  same follow clear Takes.none Takes.none m n = (refl, refl)
  same follow clear Takes.none (Takes.more v v') m n = absurd (not_ended follow clear m v)
  same follow clear (Takes.more w w') Takes.none m n = absurd (not_ended follow clear n w)
  same follow clear (Takes.more {a = a} {vs = xs} {ps = os} w w') (Takes.more v v') m n =
      let first = same (λ k. opens g tables a k || follow k) (many_clear g tables follow a clear) w v (more_meets g tables true_tables follow w' m) (more_meets g tables true_tables follow v' n) in
      let second = same follow clear (subst (λ ws. Takes g (Many a) ws xs os) first.0 w') v' m n in
      (second.0, ap₂ (λ x y. x ++ y) first.1 second.1)
  same follow clear (Takes.rule {r = r} w) (Takes.rule v) m n = same (tables.follow r) (true_tables.clear_body r) w v (meets_more g follow (tables.follow r) _ (within_at tables follow (tables.follow r) clear) m) (meets_more g follow (tables.follow r) _ (within_at tables follow (tables.follow r) clear) n)
