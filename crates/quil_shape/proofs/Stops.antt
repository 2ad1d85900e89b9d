-- Reading from left to right goes as far as any front, and stops at the first token that is too large.
use Rattle.std.proofs.Common.{◌≡◌, ◌≤◌, ◌<◌, inl, Bool, true, false, ◌||◌, true≢false, List, [], ◌∷◌, length, sym, ◌∙◌, subst, le_refl, le_trans, arith}
use Rattle.std.proofs.lemmas.Bool.{and_parts, or_left}
use Rattle.quil_shape.specs.Shape.{Shape, Grammar}
use Rattle.quil_shape.specs.Shape.Shape.{Many}
use Rattle.quil_shape.specs.Condition.{Tables, opens, ahead, is_clear}
use Rattle.quil_shape.specs.Outcome.{Outcome, after}
use Rattle.quil_shape.specs.Outcome.Outcome.{Made, Stuck, Large}
use Rattle.quil_shape.specs.Reads.{Reads, first_passes, starts}
use Rattle.quil_shape.proofs.Takes.{Faces, faces_length}
use Rattle.quil_shape.proofs.Tests.{AreTrue, meets, passes_meets}
use Rattle.quil_shape.proofs.Starts.{faces_starts}
use Rattle.quil_shape.proofs.Choices.{choice_clear, many_clear, no_part, left_not_opened, right_not_opened, barred_not}
use Rattle.quil_shape.proofs.Agree.{agrees}

-- the first token is too large for the class
abbrev pub first_is_large : {C O R K T : Type 0} → Grammar C O R K T → C → List T → Bool
first_is_large g c [] = false
first_is_large g c (t ∷ ts) = g.is_large c t ts

-- reading went past the token at the head of `us`, which isn't too large; or it stopped at one that is, not behind it
abbrev pub Passes : {T O : Type 0} → List T → Bool → Outcome O T → Type 0
Passes us large (Made ps vs) = (length vs < length us) × (large ≡ false)
Passes us large (Stuck vs) = (length vs < length us) × (large ≡ false)
Passes us large (Large vs) = large ≡ true → length us ≤ length vs

passes_after : {T O : Type 0} → (us : List T) (large : Bool) (os : List O) (out : Outcome O T) → Passes us large out → Passes us large (after os out)
passes_after us large os (Made ps vs) h = h
passes_after us large os (Stuck vs) h = h
passes_after us large os (Large vs) h = h

-- how many tokens are left
abbrev pub LeavesWithin : {T O : Type 0} → List T → Outcome O T → Type 0
LeavesWithin ts (Made ps vs) = length vs ≤ length ts
LeavesWithin ts (Stuck vs) = length vs ≤ length ts
LeavesWithin ts (Large vs) = length vs ≤ length ts

leaves_after : {T O : Type 0} → (ts us : List T) (os : List O) (out : Outcome O T) → length us ≤ length ts → LeavesWithin us out → LeavesWithin ts (after os out)
leaves_after ts us os (Made ps vs) l h = le_trans h l
leaves_after ts us os (Stuck vs) l h = le_trans h l
leaves_after ts us os (Large vs) l h = le_trans h l

-- what was passed stays passed
passes_on : {T O : Type 0} → (us vs : List T) (large : Bool) (os : List O) (out : Outcome O T) → (length vs < length us) × (large ≡ false) → LeavesWithin vs out → Passes us large (after os out)
passes_on us vs large os (Made ps ws) h l = (omega arith, h.1)
passes_on us vs large os (Stuck ws) h l = (omega arith, h.1)
passes_on us vs large os (Large ws) h l = λ e. absurd (true≢false (sym e ∙ h.1))

module _ {C O R K T : Type 0} (g : Grammar C O R K T) (tables : Tables R K) where
  pub leaves_within : {s : Shape C O R} {ts : List T} {out : Outcome O T} → Reads g tables s ts out → LeavesWithin ts out
  leaves_within (Reads.one h l) = omega arith
  leaves_within (Reads.one_large h l) = le_refl _
  leaves_within Reads.emit = le_refl _
  leaves_within Reads.empty = le_refl _
  leaves_within (Reads.seq {ts = ts} {us = us} {os = os} {out = out} r q) = leaves_after ts us os out (leaves_within r) (leaves_within q)
  leaves_within (Reads.seq_stuck r) = leaves_within r
  leaves_within (Reads.seq_large r) = leaves_within r
  leaves_within (Reads.left h r) = leaves_within r
  leaves_within (Reads.right h r) = leaves_within r
  leaves_within (Reads.none h) = le_refl _
  leaves_within (Reads.more {ts = ts} {us = us} {os = os} {out = out} h r q) = leaves_after ts us os out (leaves_within r) (leaves_within q)
  leaves_within (Reads.more_stuck h r) = leaves_within r
  leaves_within (Reads.more_large h r) = leaves_within r
  leaves_within (Reads.rule r) = leaves_within r
  leaves_within (Reads.barred h) = le_refl _

module _ {C O R K T : Type 0} (g : Grammar C O R K T) (tables : Tables R K) (true_tables : AreTrue g tables) where
  -- what stands before a place of a class that accepts the next token
  faces_meet : {s : Shape C O R} {ts us : List T} {c : C} → (follow : K → Bool) → Faces g s ts us c → first_passes g (g.accepts c) us ≡ true → meets g (ahead g tables s follow) ts ≡ true
  faces_meet {s = s} {ts = ts} follow f h = passes_meets g (opens g tables s) (ahead g tables s follow) ts (λ k e. or_left _ _ e) (faces_starts g tables true_tables f h)

  faces_meet_more : {a : Shape C O R} {ts us : List T} {c : C} → (follow : K → Bool) → Faces g (Many a) ts us c → first_passes g (g.accepts c) us ≡ true → meets g (λ k. opens g tables a k || follow k) ts ≡ true
  faces_meet_more {a = a} {ts = ts} follow f h = passes_meets g (opens g tables a) (λ k. opens g tables a k || follow k) ts (λ k e. or_left _ _ e) (faces_starts g tables true_tables f h)

  pub passes : {s : Shape C O R} {ts us : List T} {c : C} {out : Outcome O T} → Reads g tables s ts out → (follow : K → Bool) → is_clear g tables follow s ≡ true → Faces g s ts us c → first_passes g (g.accepts c) us ≡ true → Passes us (first_is_large g c us) out
  passes (Reads.barred {s = s} {ts = ts} h) follow clear f i = absurd (barred_not (starts g tables s ts) _ h (inl (faces_starts g tables true_tables f i)))
  passes (Reads.one h l) follow clear Faces.one i = (le_refl _, l)
  passes (Reads.one_large h l) follow clear Faces.one i = λ e. le_refl _
  passes Reads.emit follow clear f i = elim f [ ]
  passes Reads.empty follow clear f i = elim f [ ]
  passes (Reads.seq {b = b} {us = vs} {os = os} {out = out} r q) follow clear (Faces.first {us = us} {c = c} f) i =
      passes_on us vs (first_is_large g c us) os out (passes r (ahead g tables b follow) (and_parts _ _ clear).0 f i) (leaves_within g tables q)
  passes (Reads.seq {b = b} {os = os} {out = out} r q) follow clear (Faces.next {vs = us} {c = c} w f) i =
      let first = agrees g tables true_tables r (ahead g tables b follow) (and_parts _ _ clear).0 w (faces_meet follow f i) in
      passes_after us (first_is_large g c us) os out (passes q follow (and_parts _ _ clear).1 (subst (λ xs. Faces g b xs us c) (sym first.0) f) i)
  passes (Reads.seq_stuck {b = b} r) follow clear (Faces.first f) i = passes r (ahead g tables b follow) (and_parts _ _ clear).0 f i
  passes (Reads.seq_stuck {b = b} r) follow clear (Faces.next w f) i = absurd (agrees g tables true_tables r (ahead g tables b follow) (and_parts _ _ clear).0 w (faces_meet follow f i))
  passes (Reads.seq_large {b = b} r) follow clear (Faces.first f) i = passes r (ahead g tables b follow) (and_parts _ _ clear).0 f i
  passes (Reads.seq_large {b = b} r) follow clear (Faces.next w f) i = λ e. le_trans (faces_length g f) (agrees g tables true_tables r (ahead g tables b follow) (and_parts _ _ clear).0 w (faces_meet follow f i))
  passes (Reads.left {a = a} {b = b} h r) follow clear (Faces.left f) i = passes r follow (choice_clear g tables follow a b clear).first_clear f i
  passes (Reads.left {a = a} {b = b} {ts = ts} h r) follow clear (Faces.right f) i = absurd (left_not_opened g tables follow a b ts (choice_clear g tables follow a b clear) h (faces_starts g tables true_tables f i))
  passes (Reads.right {a = a} {b = b} {ts = ts} h r) follow clear (Faces.left f) i = absurd (right_not_opened g tables follow a b ts (choice_clear g tables follow a b clear) h (faces_starts g tables true_tables f i))
  passes (Reads.right {a = a} {b = b} h r) follow clear (Faces.right f) i = passes r follow (choice_clear g tables follow a b clear).second_clear f i
  passes (Reads.none h) follow clear (Faces.part f) i = absurd (true≢false (sym (faces_starts g tables true_tables f i) ∙ h))
  passes (Reads.none h) follow clear (Faces.again w f) i = absurd (no_part g tables true_tables follow clear h w)
  passes (Reads.more {a = a} {us = vs} {os = os} {out = out} h r q) follow clear (Faces.part {us = us} {c = c} f) i =
      passes_on us vs (first_is_large g c us) os out (passes r (λ k. opens g tables a k || follow k) (many_clear g tables follow a clear) f i) (leaves_within g tables q)
  passes (Reads.more {a = a} {os = os} {out = out} h r q) follow clear (Faces.again {vs = us} {c = c} w f) i =
      let first = agrees g tables true_tables r (λ k. opens g tables a k || follow k) (many_clear g tables follow a clear) w (faces_meet_more follow f i) in
      passes_after us (first_is_large g c us) os out (passes q follow clear (subst (λ xs. Faces g (Many a) xs us c) (sym first.0) f) i)
  passes (Reads.more_stuck {a = a} h r) follow clear (Faces.part f) i = passes r (λ k. opens g tables a k || follow k) (many_clear g tables follow a clear) f i
  passes (Reads.more_stuck {a = a} h r) follow clear (Faces.again w f) i = absurd (agrees g tables true_tables r (λ k. opens g tables a k || follow k) (many_clear g tables follow a clear) w (faces_meet_more follow f i))
  passes (Reads.more_large {a = a} h r) follow clear (Faces.part f) i = passes r (λ k. opens g tables a k || follow k) (many_clear g tables follow a clear) f i
  passes (Reads.more_large {a = a} h r) follow clear (Faces.again w f) i = λ e. le_trans (faces_length g f) (agrees g tables true_tables r (λ k. opens g tables a k || follow k) (many_clear g tables follow a clear) w (faces_meet_more follow f i))
  passes (Reads.rule {r = r} q) follow clear (Faces.rule f) i = passes q (tables.follow r) (true_tables.clear_body r) f i
