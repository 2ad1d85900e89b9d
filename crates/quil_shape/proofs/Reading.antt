-- The laws by which a hand-written reader is proved, gathered in `reading` and `resuming`.
use Rattle.std.proofs.Common.{◌≡◌, true, false, ◌||◌, List, [], ◌∷◌, ◌++◌, refl, sym, ap, subst, append_assoc, append-nil}
use Rattle.std.proofs.lemmas.Bool.{and_from, or_left, or_right, not_from_false}
use Rattle.quil_shape.specs.Shape.{Shape, Grammar}
use Rattle.quil_shape.specs.Shape.Shape.{One, Emit, Empty, Seq, Or, Many, Rule}
use Rattle.quil_shape.specs.Condition.{Tables}
use Rattle.quil_shape.specs.Outcome.{Outcome, after}
use Rattle.quil_shape.specs.Outcome.Outcome.{Made, Stuck, Large}
use Rattle.quil_shape.specs.Reads.Ending.{Went, Halted, Exceeded, Unknown}
use Rattle.quil_shape.specs.Reads.{Reads, ReadsAll, Resumes, GoesOn, StopsAt, ExceedsAt, Ending, ReadsOn, Advances, Halts, Exceeds, starts, is_barred}

-- what was made before what was made before
after_after : {O T : Type 0} (os ps : List O) (out : Outcome O T) → after os (after ps out) ≡ after (os ++ ps) out
after_after os ps (Made qs us) = ap (λ xs. Made xs us) (sym (append_assoc os ps qs))
after_after os ps (Stuck us) = refl
after_after os ps (Large us) = refl

after_nothing : {O T : Type 0} (out : Outcome O T) → after [] out ≡ out
after_nothing (Made os us) = refl
after_nothing (Stuck us) = refl
after_nothing (Large us) = refl

module _ {C O R K T : Type 0} {g : Grammar C O R K T} {tables : Tables R K} where
  -- one token
  pub token_advances : {c : C} {t : T} {ts : List T} → g.accepts c (g.kind t) ≡ true → g.is_large c t ts ≡ false → Advances g tables (One c) (t ∷ ts) ts (g.value c t)
  token_advances h l = Reads.one h l

  pub token_exceeds : {c : C} {t : T} {ts : List T} → g.accepts c (g.kind t) ≡ true → g.is_large c t ts ≡ true → Exceeds g tables (One c) (t ∷ ts) (t ∷ ts)
  token_exceeds h l = Reads.one_large h l

  pub token_halts : {c : C} {t : T} {ts : List T} → g.accepts c (g.kind t) ≡ false → Halts g tables (One c) (t ∷ ts) (t ∷ ts)
  token_halts h = Reads.barred (and_from _ _ (not_from_false _ h) refl)

  pub end_halts : {c : C} → Halts g tables (One c) [] []
  end_halts = Reads.barred refl

  -- a shape that isn't empty, before a token that doesn't open it
  pub barred_halts : {s : Shape C O R} {ts : List T} → is_barred g tables s ts ≡ true → Halts g tables s ts ts
  barred_halts h = Reads.barred h

  -- nothing
  pub emit_advances : {o : O} {ts : List T} → Advances g tables (Emit o) ts ts (o ∷ [])
  emit_advances = Reads.emit

  pub empty_advances : {ts : List T} → Advances g tables Empty ts ts []
  empty_advances = Reads.empty

  -- a sequence
  pub seq_advances : {a b : Shape C O R} {ts us vs : List T} {os ps : List O} → Advances g tables a ts us os → Advances g tables b us vs ps → Advances g tables (Seq a b) ts vs (os ++ ps)
  seq_advances r q = Reads.seq r q

  pub seq_halts_first : {a b : Shape C O R} {ts us : List T} → Halts g tables a ts us → Halts g tables (Seq a b) ts us
  seq_halts_first r = Reads.seq_stuck r

  pub seq_halts_second : {a b : Shape C O R} {ts us vs : List T} {os : List O} → Advances g tables a ts us os → Halts g tables b us vs → Halts g tables (Seq a b) ts vs
  seq_halts_second r q = Reads.seq r q

  pub seq_exceeds_first : {a b : Shape C O R} {ts us : List T} → Exceeds g tables a ts us → Exceeds g tables (Seq a b) ts us
  seq_exceeds_first r = Reads.seq_large r

  pub seq_exceeds_second : {a b : Shape C O R} {ts us vs : List T} {os : List O} → Advances g tables a ts us os → Exceeds g tables b us vs → Exceeds g tables (Seq a b) ts vs
  seq_exceeds_second r q = Reads.seq r q

  -- a sequence that begins with a token, or with what takes none
  pub token_then_advances : {c : C} {b : Shape C O R} {t : T} {ts us : List T} {os : List O} → g.accepts c (g.kind t) ≡ true → g.is_large c t ts ≡ false → Advances g tables b ts us os → Advances g tables (Seq (One c) b) (t ∷ ts) us (g.value c t ++ os)
  token_then_advances h l r = Reads.seq (Reads.one h l) r

  pub token_then_halts : {c : C} {b : Shape C O R} {t : T} {ts us : List T} → g.accepts c (g.kind t) ≡ true → g.is_large c t ts ≡ false → Halts g tables b ts us → Halts g tables (Seq (One c) b) (t ∷ ts) us
  token_then_halts h l r = Reads.seq (Reads.one h l) r

  pub token_then_exceeds : {c : C} {b : Shape C O R} {t : T} {ts us : List T} → g.accepts c (g.kind t) ≡ true → g.is_large c t ts ≡ false → Exceeds g tables b ts us → Exceeds g tables (Seq (One c) b) (t ∷ ts) us
  token_then_exceeds h l r = Reads.seq (Reads.one h l) r

  pub emit_then_halts : {o : O} {b : Shape C O R} {ts us : List T} → Halts g tables b ts us → Halts g tables (Seq (Emit o) b) ts us
  emit_then_halts r = Reads.seq Reads.emit r

  pub emit_then_exceeds : {o : O} {b : Shape C O R} {ts us : List T} → Exceeds g tables b ts us → Exceeds g tables (Seq (Emit o) b) ts us
  emit_then_exceeds r = Reads.seq Reads.emit r

  -- a choice looks at one token
  pub choice_first : {a b : Shape C O R} {ts : List T} {out : Outcome O T} → starts g tables a ts ≡ true → Reads g tables a ts out → Reads g tables (Or a b) ts out
  choice_first h r = Reads.left (or_left _ _ h) r

  pub choice_second : {a b : Shape C O R} {ts : List T} {out : Outcome O T} → starts g tables b ts ≡ true → Reads g tables b ts out → Reads g tables (Or a b) ts out
  choice_second h r = Reads.right (or_left _ _ h) r

  pub choice_not_second : {a b : Shape C O R} {ts : List T} {out : Outcome O T} → is_barred g tables b ts ≡ true → Reads g tables a ts out → Reads g tables (Or a b) ts out
  choice_not_second h r = Reads.left (or_right _ _ h) r

  pub choice_not_first : {a b : Shape C O R} {ts : List T} {out : Outcome O T} → is_barred g tables a ts ≡ true → Reads g tables b ts out → Reads g tables (Or a b) ts out
  choice_not_first h r = Reads.right (or_right _ _ h) r

  -- a repetition ends where no token opens a part, and else goes on with one
  pub many_ends : {a : Shape C O R} {ts : List T} → starts g tables a ts ≡ false → Advances g tables (Many a) ts ts []
  many_ends h = Reads.none h

  pub many_advances : {a : Shape C O R} {ts us vs : List T} {os ps : List O} → starts g tables a ts ≡ true → Advances g tables a ts us os → Advances g tables (Many a) us vs ps → Advances g tables (Many a) ts vs (os ++ ps)
  many_advances h r q = Reads.more h r q

  pub many_halts_here : {a : Shape C O R} {ts us : List T} → starts g tables a ts ≡ true → Halts g tables a ts us → Halts g tables (Many a) ts us
  many_halts_here h r = Reads.more_stuck h r

  pub many_halts_later : {a : Shape C O R} {ts us vs : List T} {os : List O} → starts g tables a ts ≡ true → Advances g tables a ts us os → Halts g tables (Many a) us vs → Halts g tables (Many a) ts vs
  many_halts_later h r q = Reads.more h r q

  pub many_exceeds_here : {a : Shape C O R} {ts us : List T} → starts g tables a ts ≡ true → Exceeds g tables a ts us → Exceeds g tables (Many a) ts us
  many_exceeds_here h r = Reads.more_large h r

  pub many_exceeds_later : {a : Shape C O R} {ts us vs : List T} {os : List O} → starts g tables a ts ≡ true → Advances g tables a ts us os → Exceeds g tables (Many a) us vs → Exceeds g tables (Many a) ts vs
  many_exceeds_later h r q = Reads.more h r q

  -- a rule is its body
  pub rule_reads : {r : R} {ts : List T} {out : Outcome O T} → Reads g tables (g.body r) ts out → Reads g tables (Rule r) ts out
  rule_reads r = Reads.rule r

  all_of_one : (s : Shape C O R) (ts : List T) (out : Outcome O T) → ReadsAll g tables (s ∷ []) ts out → Reads g tables s ts out
  all_of_one s ts out (ReadsAll.next {us = us} {os = os} {out = more} r q) = ended os us more r q
    where
      ended : (os : List O) (us : List T) (more : Outcome O T) → Reads g tables s ts (Made os us) → ReadsAll g tables [] us more → Reads g tables s ts (after os more)
      ended os us more r ReadsAll.done = subst (λ xs. Reads g tables s ts (Made xs us)) (sym (append-nil os)) r
  all_of_one s ts out (ReadsAll.stuck r) = r
  all_of_one s ts out (ReadsAll.large r) = r

  -- at the start the whole shape is to be read
  pub resume_start : {s : Shape C O R} {ts : List T} → Resumes g tables s ts (s ∷ []) ts []
  resume_start {s = s} {ts = ts} = record { goes_on = λ out r. subst (λ x. Reads g tables s ts x) (sym (after_nothing out)) (all_of_one s ts out r) }

  -- a part that advances is done
  pub resume_next : {s a : Shape C O R} {todo : List (Shape C O R)} {ts us vs : List T} {os ps : List O} → Resumes g tables s ts (a ∷ todo) us os → Advances g tables a us vs ps → Resumes g tables s ts todo vs (os ++ ps)
  resume_next {s = s} {ts = ts} {os = os} {ps = ps} h r = record { goes_on = λ out q. subst (λ x. Reads g tables s ts x) (after_after os ps out) (h.goes_on (after ps out) (ReadsAll.next r q)) }

  -- a part that halts halts the whole
  pub resume_halts : {s a : Shape C O R} {todo : List (Shape C O R)} {ts us vs : List T} {os : List O} → Resumes g tables s ts (a ∷ todo) us os → Halts g tables a us vs → Halts g tables s ts vs
  resume_halts h r = h.goes_on (Stuck _) (ReadsAll.stuck r)

  pub resume_exceeds : {s a : Shape C O R} {todo : List (Shape C O R)} {ts us vs : List T} {os : List O} → Resumes g tables s ts (a ∷ todo) us os → Exceeds g tables a us vs → Exceeds g tables s ts vs
  resume_exceeds h r = h.goes_on (Large _) (ReadsAll.large r)

  -- where nothing is to be read, the whole has been read
  pub resume_end : {s : Shape C O R} {ts us : List T} {os : List O} → Resumes g tables s ts [] us os → Advances g tables s ts us os
  resume_end {s = s} {ts = ts} {us = us} {os = os} h = subst (λ xs. Reads g tables s ts (Made xs us)) (append-nil os) (h.goes_on (Made [] us) ReadsAll.done)

  -- what is to be read instead of the first shape
  all_by : (a s : Shape C O R) (todo : List (Shape C O R)) (ts : List T) → ((out : Outcome O T) → Reads g tables a ts out → Reads g tables s ts out) → (out : Outcome O T) → ReadsAll g tables (a ∷ todo) ts out → ReadsAll g tables (s ∷ todo) ts out
  all_by a s todo ts f out (ReadsAll.next r q) = ReadsAll.next (f _ r) q
  all_by a s todo ts f out (ReadsAll.stuck r) = ReadsAll.stuck (f _ r)
  all_by a s todo ts f out (ReadsAll.large r) = ReadsAll.large (f _ r)

  all_seq : (a b : Shape C O R) (todo : List (Shape C O R)) (ts : List T) (out : Outcome O T) → ReadsAll g tables (a ∷ b ∷ todo) ts out → ReadsAll g tables (Seq a b ∷ todo) ts out
  all_seq a b todo ts out (ReadsAll.next {os = os} r (ReadsAll.next {os = ps} {out = more} r' q)) = subst (λ x. ReadsAll g tables (Seq a b ∷ todo) ts x) (sym (after_after os ps more)) (ReadsAll.next (Reads.seq r r') q)
  all_seq a b todo ts out (ReadsAll.next r (ReadsAll.stuck r')) = ReadsAll.stuck (Reads.seq r r')
  all_seq a b todo ts out (ReadsAll.next r (ReadsAll.large r')) = ReadsAll.large (Reads.seq r r')
  all_seq a b todo ts out (ReadsAll.stuck r) = ReadsAll.stuck (Reads.seq_stuck r)
  all_seq a b todo ts out (ReadsAll.large r) = ReadsAll.large (Reads.seq_large r)

  all_more : (a : Shape C O R) (todo : List (Shape C O R)) (ts : List T) (out : Outcome O T) → starts g tables a ts ≡ true → ReadsAll g tables (a ∷ Many a ∷ todo) ts out → ReadsAll g tables (Many a ∷ todo) ts out
  all_more a todo ts out h (ReadsAll.next {os = os} r (ReadsAll.next {os = ps} {out = more} r' q)) = subst (λ x. ReadsAll g tables (Many a ∷ todo) ts x) (sym (after_after os ps more)) (ReadsAll.next (Reads.more h r r') q)
  all_more a todo ts out h (ReadsAll.next r (ReadsAll.stuck r')) = ReadsAll.stuck (Reads.more h r r')
  all_more a todo ts out h (ReadsAll.next r (ReadsAll.large r')) = ReadsAll.large (Reads.more h r r')
  all_more a todo ts out h (ReadsAll.stuck r) = ReadsAll.stuck (Reads.more_stuck h r)
  all_more a todo ts out h (ReadsAll.large r) = ReadsAll.large (Reads.more_large h r)

  -- steps of a reader that keeps a list of what is to be read
  pub goes_by : {todo rest : List (Shape C O R)} {us : List T} {os : List O} → ((out : Outcome O T) → ReadsAll g tables rest us out → ReadsAll g tables todo us out) → GoesOn g tables todo us os rest us os
  goes_by f = record { resumes = λ s ts h. record { goes_on = λ out r. h.goes_on out (f out r) } }

  pub goes_still : {todo : List (Shape C O R)} {us : List T} {os : List O} → GoesOn g tables todo us os todo us os
  goes_still = record { resumes = λ s ts h. h }

  pub goes_then : {todo rest more : List (Shape C O R)} {us vs ws : List T} {os ps qs : List O} → GoesOn g tables todo us os rest vs ps → GoesOn g tables rest vs ps more ws qs → GoesOn g tables todo us os more ws qs
  goes_then p q = record { resumes = λ s ts h. q.resumes s ts (p.resumes s ts h) }

  pub goes_next : {a : Shape C O R} {todo : List (Shape C O R)} {us vs : List T} {os ps : List O} → Advances g tables a us vs ps → GoesOn g tables (a ∷ todo) us os todo vs (os ++ ps)
  goes_next r = record { resumes = λ s ts h. resume_next h r }

  -- a part that makes nothing
  pub goes_past : {a : Shape C O R} {todo : List (Shape C O R)} {us vs : List T} {os : List O} → Advances g tables a us vs [] → GoesOn g tables (a ∷ todo) us os todo vs os
  goes_past {a = a} {todo = todo} {us = us} {vs = vs} {os = os} r = subst (λ xs. GoesOn g tables (a ∷ todo) us os todo vs xs) (append-nil os) (goes_next r)

  pub goes_seq : {a b : Shape C O R} {todo : List (Shape C O R)} {us : List T} {os : List O} → GoesOn g tables (Seq a b ∷ todo) us os (a ∷ b ∷ todo) us os
  goes_seq {a = a} {b = b} {todo = todo} {us = us} = goes_by (all_seq a b todo us)

  pub goes_first : {a b : Shape C O R} {todo : List (Shape C O R)} {us : List T} {os : List O} → (starts g tables a us || is_barred g tables b us) ≡ true → GoesOn g tables (Or a b ∷ todo) us os (a ∷ todo) us os
  goes_first {a = a} {b = b} {todo = todo} {us = us} h = goes_by (all_by a (Or a b) todo us (λ out r. Reads.left h r))

  pub goes_second : {a b : Shape C O R} {todo : List (Shape C O R)} {us : List T} {os : List O} → (starts g tables b us || is_barred g tables a us) ≡ true → GoesOn g tables (Or a b ∷ todo) us os (b ∷ todo) us os
  goes_second {a = a} {b = b} {todo = todo} {us = us} h = goes_by (all_by b (Or a b) todo us (λ out r. Reads.right h r))

  pub goes_more : {a : Shape C O R} {todo : List (Shape C O R)} {us : List T} {os : List O} → starts g tables a us ≡ true → GoesOn g tables (Many a ∷ todo) us os (a ∷ Many a ∷ todo) us os
  goes_more {a = a} {todo = todo} {us = us} h = goes_by (λ out r. all_more a todo us out h r)

  pub goes_rule : {r : R} {todo : List (Shape C O R)} {us : List T} {os : List O} → GoesOn g tables (Rule r ∷ todo) us os (g.body r ∷ todo) us os
  goes_rule {r = r} {todo = todo} {us = us} = goes_by (all_by (g.body r) (Rule r) todo us (λ out q. Reads.rule q))

  -- where a reader that keeps a list of what is to be read stops
  pub stops_here : {a : Shape C O R} {todo : List (Shape C O R)} {us vs : List T} {os : List O} → Halts g tables a us vs → StopsAt g tables (a ∷ todo) us os vs
  stops_here r = record { halts = λ s ts h. resume_halts h r }

  pub exceeds_here : {a : Shape C O R} {todo : List (Shape C O R)} {us vs : List T} {os : List O} → Exceeds g tables a us vs → ExceedsAt g tables (a ∷ todo) us os vs
  exceeds_here r = record { exceeds = λ s ts h. resume_exceeds h r }

  pub stops_behind : {todo rest : List (Shape C O R)} {us vs ws : List T} {os ps : List O} → GoesOn g tables todo us os rest vs ps → StopsAt g tables rest vs ps ws → StopsAt g tables todo us os ws
  stops_behind p q = record { halts = λ s ts h. q.halts s ts (p.resumes s ts h) }

  pub exceeds_behind : {todo rest : List (Shape C O R)} {us vs ws : List T} {os ps : List O} → GoesOn g tables todo us os rest vs ps → ExceedsAt g tables rest vs ps ws → ExceedsAt g tables todo us os ws
  exceeds_behind p q = record { exceeds = λ s ts h. q.exceeds s ts (p.resumes s ts h) }

  past_token : {c : C} {t : T} {todo : List (Shape C O R)} {us : List T} {os : List O} → g.accepts c (g.kind t) ≡ true → g.is_large c t us ≡ false → g.value c t ≡ [] → GoesOn g tables (One c ∷ todo) (t ∷ us) os todo us os
  past_token {c = c} {t = t} {us = us} h l e = goes_past (subst (λ xs. Reads g tables (One c) (t ∷ us) (Made xs us)) e (Reads.one h l))

  -- the same one step before what is known, so that a search finds each step by the shape that comes first
  pub goes_by_token : {c : C} {t : T} {todo : List (Shape C O R)} {rest : List (Shape C O R)} {us vs : List T} {os ps : List O} → g.accepts c (g.kind t) ≡ true → g.is_large c t us ≡ false → GoesOn g tables todo us (os ++ g.value c t) rest vs ps → GoesOn g tables (One c ∷ todo) (t ∷ us) os rest vs ps
  goes_by_token h l q = goes_then (goes_next (Reads.one h l)) q

  pub stops_by_token : {c : C} {t : T} {todo : List (Shape C O R)} {us vs : List T} {os : List O} → g.accepts c (g.kind t) ≡ true → g.is_large c t us ≡ false → StopsAt g tables todo us (os ++ g.value c t) vs → StopsAt g tables (One c ∷ todo) (t ∷ us) os vs
  stops_by_token h l q = stops_behind (goes_next (Reads.one h l)) q

  pub exceeds_by_token : {c : C} {t : T} {todo : List (Shape C O R)} {us vs : List T} {os : List O} → g.accepts c (g.kind t) ≡ true → g.is_large c t us ≡ false → ExceedsAt g tables todo us (os ++ g.value c t) vs → ExceedsAt g tables (One c ∷ todo) (t ∷ us) os vs
  exceeds_by_token h l q = exceeds_behind (goes_next (Reads.one h l)) q

  pub goes_by_past : {c : C} {t : T} {todo : List (Shape C O R)} {rest : List (Shape C O R)} {us vs : List T} {os ps : List O} → g.accepts c (g.kind t) ≡ true → g.is_large c t us ≡ false → g.value c t ≡ [] → GoesOn g tables todo us os rest vs ps → GoesOn g tables (One c ∷ todo) (t ∷ us) os rest vs ps
  goes_by_past h l e q = goes_then (past_token h l e) q

  pub stops_by_past : {c : C} {t : T} {todo : List (Shape C O R)} {us vs : List T} {os : List O} → g.accepts c (g.kind t) ≡ true → g.is_large c t us ≡ false → g.value c t ≡ [] → StopsAt g tables todo us os vs → StopsAt g tables (One c ∷ todo) (t ∷ us) os vs
  stops_by_past h l e q = stops_behind (past_token h l e) q

  pub exceeds_by_past : {c : C} {t : T} {todo : List (Shape C O R)} {us vs : List T} {os : List O} → g.accepts c (g.kind t) ≡ true → g.is_large c t us ≡ false → g.value c t ≡ [] → ExceedsAt g tables todo us os vs → ExceedsAt g tables (One c ∷ todo) (t ∷ us) os vs
  exceeds_by_past h l e q = exceeds_behind (past_token h l e) q

  pub goes_by_emit : {o : O} {todo : List (Shape C O R)} {rest : List (Shape C O R)} {us vs : List T} {os ps : List O} → GoesOn g tables todo us (os ++ o ∷ []) rest vs ps → GoesOn g tables (Emit o ∷ todo) us os rest vs ps
  goes_by_emit q = goes_then (goes_next Reads.emit) q

  pub stops_by_emit : {o : O} {todo : List (Shape C O R)} {us vs : List T} {os : List O} → StopsAt g tables todo us (os ++ o ∷ []) vs → StopsAt g tables (Emit o ∷ todo) us os vs
  stops_by_emit q = stops_behind (goes_next Reads.emit) q

  pub exceeds_by_emit : {o : O} {todo : List (Shape C O R)} {us vs : List T} {os : List O} → ExceedsAt g tables todo us (os ++ o ∷ []) vs → ExceedsAt g tables (Emit o ∷ todo) us os vs
  exceeds_by_emit q = exceeds_behind (goes_next Reads.emit) q

  pub goes_by_empty : {todo : List (Shape C O R)} {rest : List (Shape C O R)} {us vs : List T} {os ps : List O} → GoesOn g tables todo us os rest vs ps → GoesOn g tables (Empty ∷ todo) us os rest vs ps
  goes_by_empty q = goes_then (goes_past Reads.empty) q

  pub stops_by_empty : {todo : List (Shape C O R)} {us vs : List T} {os : List O} → StopsAt g tables todo us os vs → StopsAt g tables (Empty ∷ todo) us os vs
  stops_by_empty q = stops_behind (goes_past Reads.empty) q

  pub exceeds_by_empty : {todo : List (Shape C O R)} {us vs : List T} {os : List O} → ExceedsAt g tables todo us os vs → ExceedsAt g tables (Empty ∷ todo) us os vs
  exceeds_by_empty q = exceeds_behind (goes_past Reads.empty) q

  pub goes_by_seq : {a b : Shape C O R} {todo : List (Shape C O R)} {rest : List (Shape C O R)} {us vs : List T} {os ps : List O} → GoesOn g tables (a ∷ b ∷ todo) us os rest vs ps → GoesOn g tables (Seq a b ∷ todo) us os rest vs ps
  goes_by_seq q = goes_then goes_seq q

  pub stops_by_seq : {a b : Shape C O R} {todo : List (Shape C O R)} {us vs : List T} {os : List O} → StopsAt g tables (a ∷ b ∷ todo) us os vs → StopsAt g tables (Seq a b ∷ todo) us os vs
  stops_by_seq q = stops_behind goes_seq q

  pub exceeds_by_seq : {a b : Shape C O R} {todo : List (Shape C O R)} {us vs : List T} {os : List O} → ExceedsAt g tables (a ∷ b ∷ todo) us os vs → ExceedsAt g tables (Seq a b ∷ todo) us os vs
  exceeds_by_seq q = exceeds_behind goes_seq q

  pub goes_by_first : {a b : Shape C O R} {todo : List (Shape C O R)} {rest : List (Shape C O R)} {us vs : List T} {os ps : List O} → (starts g tables a us || is_barred g tables b us) ≡ true → GoesOn g tables (a ∷ todo) us os rest vs ps → GoesOn g tables (Or a b ∷ todo) us os rest vs ps
  goes_by_first h q = goes_then (goes_first h) q

  pub stops_by_first : {a b : Shape C O R} {todo : List (Shape C O R)} {us vs : List T} {os : List O} → (starts g tables a us || is_barred g tables b us) ≡ true → StopsAt g tables (a ∷ todo) us os vs → StopsAt g tables (Or a b ∷ todo) us os vs
  stops_by_first h q = stops_behind (goes_first h) q

  pub exceeds_by_first : {a b : Shape C O R} {todo : List (Shape C O R)} {us vs : List T} {os : List O} → (starts g tables a us || is_barred g tables b us) ≡ true → ExceedsAt g tables (a ∷ todo) us os vs → ExceedsAt g tables (Or a b ∷ todo) us os vs
  exceeds_by_first h q = exceeds_behind (goes_first h) q

  pub goes_by_second : {a b : Shape C O R} {todo : List (Shape C O R)} {rest : List (Shape C O R)} {us vs : List T} {os ps : List O} → (starts g tables b us || is_barred g tables a us) ≡ true → GoesOn g tables (b ∷ todo) us os rest vs ps → GoesOn g tables (Or a b ∷ todo) us os rest vs ps
  goes_by_second h q = goes_then (goes_second h) q

  pub stops_by_second : {a b : Shape C O R} {todo : List (Shape C O R)} {us vs : List T} {os : List O} → (starts g tables b us || is_barred g tables a us) ≡ true → StopsAt g tables (b ∷ todo) us os vs → StopsAt g tables (Or a b ∷ todo) us os vs
  stops_by_second h q = stops_behind (goes_second h) q

  pub exceeds_by_second : {a b : Shape C O R} {todo : List (Shape C O R)} {us vs : List T} {os : List O} → (starts g tables b us || is_barred g tables a us) ≡ true → ExceedsAt g tables (b ∷ todo) us os vs → ExceedsAt g tables (Or a b ∷ todo) us os vs
  exceeds_by_second h q = exceeds_behind (goes_second h) q

  pub goes_by_more : {a : Shape C O R} {todo : List (Shape C O R)} {rest : List (Shape C O R)} {us vs : List T} {os ps : List O} → starts g tables a us ≡ true → GoesOn g tables (a ∷ Many a ∷ todo) us os rest vs ps → GoesOn g tables (Many a ∷ todo) us os rest vs ps
  goes_by_more h q = goes_then (goes_more h) q

  pub stops_by_more : {a : Shape C O R} {todo : List (Shape C O R)} {us vs : List T} {os : List O} → starts g tables a us ≡ true → StopsAt g tables (a ∷ Many a ∷ todo) us os vs → StopsAt g tables (Many a ∷ todo) us os vs
  stops_by_more h q = stops_behind (goes_more h) q

  pub exceeds_by_more : {a : Shape C O R} {todo : List (Shape C O R)} {us vs : List T} {os : List O} → starts g tables a us ≡ true → ExceedsAt g tables (a ∷ Many a ∷ todo) us os vs → ExceedsAt g tables (Many a ∷ todo) us os vs
  exceeds_by_more h q = exceeds_behind (goes_more h) q

  pub goes_by_ended : {a : Shape C O R} {todo : List (Shape C O R)} {rest : List (Shape C O R)} {us vs : List T} {os ps : List O} → starts g tables a us ≡ false → GoesOn g tables todo us os rest vs ps → GoesOn g tables (Many a ∷ todo) us os rest vs ps
  goes_by_ended h q = goes_then (goes_past (Reads.none h)) q

  pub stops_by_ended : {a : Shape C O R} {todo : List (Shape C O R)} {us vs : List T} {os : List O} → starts g tables a us ≡ false → StopsAt g tables todo us os vs → StopsAt g tables (Many a ∷ todo) us os vs
  stops_by_ended h q = stops_behind (goes_past (Reads.none h)) q

  pub exceeds_by_ended : {a : Shape C O R} {todo : List (Shape C O R)} {us vs : List T} {os : List O} → starts g tables a us ≡ false → ExceedsAt g tables todo us os vs → ExceedsAt g tables (Many a ∷ todo) us os vs
  exceeds_by_ended h q = exceeds_behind (goes_past (Reads.none h)) q

  pub goes_by_rule : {r : R} {todo : List (Shape C O R)} {rest : List (Shape C O R)} {us vs : List T} {os ps : List O} → GoesOn g tables (g.body r ∷ todo) us os rest vs ps → GoesOn g tables (Rule r ∷ todo) us os rest vs ps
  goes_by_rule q = goes_then goes_rule q

  pub stops_by_rule : {r : R} {todo : List (Shape C O R)} {us vs : List T} {os : List O} → StopsAt g tables (g.body r ∷ todo) us os vs → StopsAt g tables (Rule r ∷ todo) us os vs
  stops_by_rule q = stops_behind goes_rule q

  pub exceeds_by_rule : {r : R} {todo : List (Shape C O R)} {us vs : List T} {os : List O} → ExceedsAt g tables (g.body r ∷ todo) us os vs → ExceedsAt g tables (Rule r ∷ todo) us os vs
  exceeds_by_rule q = exceeds_behind goes_rule q

  -- what ends a function behind a step ends both
  pub reads_behind : (todo rest more : List (Shape C O R)) (us vs ws : List T) (os ps qs : List O) (e : Ending) → GoesOn g tables todo us os rest vs ps → ReadsOn g tables rest vs ps more ws qs e → ReadsOn g tables todo us os more ws qs e
  reads_behind todo rest more us vs ws os ps qs Went p q = goes_then p q
  reads_behind todo rest more us vs ws os ps qs Halted p q = stops_behind p q
  reads_behind todo rest more us vs ws os ps qs Exceeded p q = exceeds_behind p q
  reads_behind todo rest more us vs ws os ps qs Unknown p q = tt

  -- from the whole shape to its end or its stop
  pub goes_to_end : {s : Shape C O R} {ts us : List T} {os : List O} → GoesOn g tables (s ∷ []) ts [] [] us os → Advances g tables s ts us os
  goes_to_end p = resume_end (p.resumes _ _ resume_start)

  pub goes_to_stop : {s : Shape C O R} {ts us : List T} → StopsAt g tables (s ∷ []) ts [] us → Halts g tables s ts us
  goes_to_stop p = p.halts _ _ resume_start

  pub goes_to_large : {s : Shape C O R} {ts us : List T} → ExceedsAt g tables (s ∷ []) ts [] us → Exceeds g tables s ts us
  goes_to_large p = p.exceeds _ _ resume_start

-- for readers whose functions say that a shape advances, halts or exceeds
pub ruleset reading = (token_then_advances, token_then_halts, token_then_exceeds, emit_then_halts, emit_then_exceeds, token_advances, token_exceeds, token_halts, end_halts, barred_halts, emit_advances, empty_advances, seq_advances, seq_halts_first, seq_halts_second, seq_exceeds_first, seq_exceeds_second, choice_first, choice_second, choice_not_second, choice_not_first, many_ends, many_advances, many_halts_here, many_halts_later, many_exceeds_here, many_exceeds_later, rule_reads)

-- for readers that keep a list of what is to be read
pub ruleset resuming = (goes_still, goes_by_token, stops_by_token, exceeds_by_token, goes_by_past, stops_by_past, exceeds_by_past, goes_by_emit, stops_by_emit, exceeds_by_emit, goes_by_empty, stops_by_empty, exceeds_by_empty, goes_by_seq, stops_by_seq, exceeds_by_seq, goes_by_first, stops_by_first, exceeds_by_first, goes_by_second, stops_by_second, exceeds_by_second, goes_by_more, stops_by_more, exceeds_by_more, goes_by_ended, stops_by_ended, exceeds_by_ended, goes_by_rule, stops_by_rule, exceeds_by_rule, stops_here, exceeds_here)
