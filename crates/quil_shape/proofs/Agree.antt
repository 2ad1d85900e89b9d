-- Reading from left to right agrees with each whole that stands there: it is complete, and a whole is the only one.
use Rattle.std.proofs.Common.{◌≡◌, ◌≤◌, Bool, true, ◌||◌, List, ◌++◌, length, refl, sym, ap₂, subst, le_trans, arith}
use Rattle.std.proofs.lemmas.Bool.{and_parts}
use Rattle.quil_shape.specs.Shape.{Shape, Grammar}
use Rattle.quil_shape.specs.Shape.Shape.{Many}
use Rattle.quil_shape.specs.Condition.{Tables, opens, ahead, is_clear}
use Rattle.quil_shape.specs.Outcome.{Outcome, after}
use Rattle.quil_shape.specs.Outcome.Outcome.{Made, Stuck, Large}
use Rattle.quil_shape.specs.Reads.{Reads, starts}
use Rattle.quil_shape.proofs.Takes.{Takes, takes_length}
use Rattle.quil_shape.proofs.Tests.{AreTrue, meets, meets_more, meets_apart, within_at}
use Rattle.quil_shape.proofs.Choices.{choice_clear, many_clear, many_apart, takes_meets, more_meets, left_only, right_only, no_part, barred_takes}

-- an outcome agrees with a whole that leaves `us` and makes `os`; reading may have stopped within it at a token too large
abbrev pub Agrees : {O T : Type 0} → List T → List O → Outcome O T → Type 0
Agrees us os (Made ps vs) = (vs ≡ us) × (ps ≡ os)
Agrees us os (Stuck vs) = ⊥
Agrees us os (Large vs) = length us ≤ length vs

agrees_after : {O T : Type 0} → (us : List T) (os ps qs : List O) (out : Outcome O T) → qs ≡ os → Agrees us ps out → Agrees us (os ++ ps) (after qs out)
agrees_after us os ps qs (Made rs vs) e a = (a.0, ap₂ (λ x y. x ++ y) e a.1)
agrees_after us os ps qs (Stuck vs) e a = a
agrees_after us os ps qs (Large vs) e a = a

module _ {C O R K T : Type 0} (g : Grammar C O R K T) (tables : Tables R K) (true_tables : AreTrue g tables) where
  -- where no part is opened by what follows, and a part is opened, the repetition isn't at its end
  not_ended : (a : Shape C O R) (ts : List T) (follow : K → Bool) → is_clear g tables follow (Many a) ≡ true → starts g tables a ts ≡ true → meets g follow ts ≡ true → ⊥
  not_ended a ts follow clear o m = meets_apart g (opens g tables a) follow ts (many_apart g tables follow a clear) o m

  pub agrees : {s : Shape C O R} {ts us : List T} {os : List O} {out : Outcome O T} → Reads g tables s ts out → (follow : K → Bool) → is_clear g tables follow s ≡ true → Takes g s ts us os → meets g follow us ≡ true → Agrees us os out
  agrees (Reads.barred h) follow clear w m = absurd (barred_takes g tables true_tables h w)
  agrees (Reads.one h l) follow clear (Takes.one i) m = (refl, refl)
  agrees (Reads.one_large h l) follow clear (Takes.one i) m = omega arith
  agrees Reads.emit follow clear Takes.emit m = (refl, refl)
  agrees Reads.empty follow clear Takes.empty m = (refl, refl)
  agrees (Reads.seq {b = b} {out = out} r q) follow clear (Takes.seq {vs = vs} {os = os} {ps = ps} w v) m =
      let first = agrees r (ahead g tables b follow) (and_parts _ _ clear).0 w (takes_meets g tables true_tables follow v m) in
      agrees_after vs os ps _ out first.1 (agrees q follow (and_parts _ _ clear).1 (subst (λ xs. Takes g b xs vs ps) (sym first.0) v) m)
  agrees (Reads.seq_stuck {b = b} r) follow clear (Takes.seq w v) m = absurd (agrees r (ahead g tables b follow) (and_parts _ _ clear).0 w (takes_meets g tables true_tables follow v m))
  agrees (Reads.seq_large {b = b} r) follow clear (Takes.seq w v) m = le_trans (takes_length g v) (agrees r (ahead g tables b follow) (and_parts _ _ clear).0 w (takes_meets g tables true_tables follow v m))
  agrees (Reads.left {a = a} {b = b} h r) follow clear (Takes.left w) m = agrees r follow (choice_clear g tables follow a b clear).first_clear w m
  agrees (Reads.left {a = a} {b = b} h r) follow clear (Takes.right w) m = absurd (left_only g tables true_tables follow (choice_clear g tables follow a b clear) h w m)
  agrees (Reads.right {a = a} {b = b} h r) follow clear (Takes.left w) m = absurd (right_only g tables true_tables follow (choice_clear g tables follow a b clear) h w m)
  agrees (Reads.right {a = a} {b = b} h r) follow clear (Takes.right w) m = agrees r follow (choice_clear g tables follow a b clear).second_clear w m
  agrees (Reads.none h) follow clear Takes.none m = (refl, refl)
  agrees (Reads.none h) follow clear (Takes.more w v) m = absurd (no_part g tables true_tables follow clear h w)
  agrees (Reads.more {a = a} h r q) follow clear Takes.none m = absurd (not_ended a _ follow clear h m)
  agrees (Reads.more {a = a} {out = out} h r q) follow clear (Takes.more {vs = vs} {os = os} {ps = ps} w v) m =
      let first = agrees r (λ k. opens g tables a k || follow k) (many_clear g tables follow a clear) w (more_meets g tables true_tables follow v m) in
      agrees_after vs os ps _ out first.1 (agrees q follow clear (subst (λ xs. Takes g (Many a) xs vs ps) (sym first.0) v) m)
  agrees (Reads.more_stuck {a = a} h r) follow clear Takes.none m = absurd (not_ended a _ follow clear h m)
  agrees (Reads.more_stuck {a = a} h r) follow clear (Takes.more w v) m = absurd (agrees r (λ k. opens g tables a k || follow k) (many_clear g tables follow a clear) w (more_meets g tables true_tables follow v m))
  agrees (Reads.more_large {a = a} h r) follow clear Takes.none m = absurd (not_ended a _ follow clear h m)
  agrees (Reads.more_large {a = a} h r) follow clear (Takes.more w v) m = le_trans (takes_length g v) (agrees r (λ k. opens g tables a k || follow k) (many_clear g tables follow a clear) w (more_meets g tables true_tables follow v m))
  agrees (Reads.rule {r = r} q) follow clear (Takes.rule w) m = agrees q (tables.follow r) (true_tables.clear_body r) w (meets_more g follow (tables.follow r) _ (within_at tables follow (tables.follow r) clear) m)
