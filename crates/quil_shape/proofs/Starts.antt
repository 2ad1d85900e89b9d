-- A whole or a front that isn't empty begins with a token that opens the shape.
use Rattle.std.proofs.Common.{◌≡◌, ◌≤◌, ◌<◌, ◌⊎◌, inl, inr, true, List, length, refl, sym, ◌∙◌, subst, le_refl, arith}
use Rattle.std.proofs.lemmas.Bool.{and_from, or_left, or_right}
use Rattle.quil_shape.specs.Shape.{Shape, Grammar}
use Rattle.quil_shape.specs.Shape.Shape.{Seq, Or, Many, Rule}
use Rattle.quil_shape.specs.Condition.{Tables, opens, skips}
use Rattle.quil_shape.specs.Reads.{first_passes, starts}
use Rattle.quil_shape.proofs.Takes.{Takes, Faces, takes_length}
use Rattle.quil_shape.proofs.Tests.{AreTrue, passes_more}

-- nothing was taken, or some tokens were
pub data Shrinks {C O R K T : Type 0} (tables : Tables R K) (s : Shape C O R) (ts us : List T) : Type 0 where
  nothing : ts ≡ us → skips tables s ≡ true → Shrinks tables s ts us
  shorter : length us < length ts → Shrinks tables s ts us

module _ {C O R K T : Type 0} (g : Grammar C O R K T) (tables : Tables R K) (true_tables : AreTrue g tables) where
  seq_first : (a b : Shape C O R) (ts : List T) → starts g tables a ts ≡ true → starts g tables (Seq a b) ts ≡ true
  seq_first a b ts h = passes_more g (opens g tables a) (opens g tables (Seq a b)) ts (λ k e. or_left _ _ e) h

  seq_second : (a b : Shape C O R) (ts us : List T) → ts ≡ us → skips tables a ≡ true → starts g tables b us ≡ true → starts g tables (Seq a b) ts ≡ true
  seq_second a b ts us e i h = passes_more g (opens g tables b) (opens g tables (Seq a b)) ts (λ k o. or_right (opens g tables a k) _ (and_from _ _ i o)) (subst (λ ws. starts g tables b ws ≡ true) (sym e) h)

  or_first : (a b : Shape C O R) (ts : List T) → starts g tables a ts ≡ true → starts g tables (Or a b) ts ≡ true
  or_first a b ts h = passes_more g (opens g tables a) (opens g tables (Or a b)) ts (λ k e. or_left _ _ e) h

  or_second : (a b : Shape C O R) (ts : List T) → starts g tables b ts ≡ true → starts g tables (Or a b) ts ≡ true
  or_second a b ts h = passes_more g (opens g tables b) (opens g tables (Or a b)) ts (λ k e. or_right _ _ e) h

  rule_starts : (r : R) (ts : List T) → starts g tables (g.body r) ts ≡ true → starts g tables (Rule r) ts ≡ true
  rule_starts r ts h = passes_more g (opens g tables (g.body r)) (opens g tables (Rule r)) ts (true_tables.opens_body r) h

  -- the start of a part that others came before
  start_behind : (a b : Shape C O R) (ts us : List T) → (starts g tables a ts ≡ true) ⊎ ((ts ≡ us) × (skips tables a ≡ true)) → starts g tables b us ≡ true → starts g tables (Seq a b) ts ≡ true
  start_behind a b ts us (inl h) i = seq_first a b ts h
  start_behind a b ts us (inr e) i = seq_second a b ts us e.0 e.1 i

  more_behind : (a : Shape C O R) (ts us : List T) → (starts g tables a ts ≡ true) ⊎ ((ts ≡ us) × (skips tables a ≡ true)) → starts g tables a us ≡ true → starts g tables a ts ≡ true
  more_behind a ts us (inl h) i = h
  more_behind a ts us (inr e) i = subst (λ ws. starts g tables a ws ≡ true) (sym e.0) i

  begins_seq : (a b : Shape C O R) (ts us vs : List T) → (starts g tables a ts ≡ true) ⊎ ((ts ≡ us) × (skips tables a ≡ true)) → (starts g tables b us ≡ true) ⊎ ((us ≡ vs) × (skips tables b ≡ true)) → (starts g tables (Seq a b) ts ≡ true) ⊎ ((ts ≡ vs) × (skips tables (Seq a b) ≡ true))
  begins_seq a b ts us vs p (inl h) = inl (start_behind a b ts us p h)
  begins_seq a b ts us vs (inl h) (inr f) = inl (seq_first a b ts h)
  begins_seq a b ts us vs (inr e) (inr f) = inr (e.0 ∙ f.0, and_from _ _ e.1 f.1)

  begins_more : (a : Shape C O R) (ts us vs : List T) → (starts g tables a ts ≡ true) ⊎ ((ts ≡ us) × (skips tables a ≡ true)) → (starts g tables (Many a) us ≡ true) ⊎ ((us ≡ vs) × (true ≡ true)) → (starts g tables (Many a) ts ≡ true) ⊎ ((ts ≡ vs) × (true ≡ true))
  begins_more a ts us vs p (inl h) = inl (more_behind a ts us p h)
  begins_more a ts us vs (inl h) (inr f) = inl h
  begins_more a ts us vs (inr e) (inr f) = inr (e.0 ∙ f.0, refl)

  begins_by : (a s : Shape C O R) (ts us : List T) → (starts g tables a ts ≡ true → starts g tables s ts ≡ true) → (skips tables a ≡ true → skips tables s ≡ true) → (starts g tables a ts ≡ true) ⊎ ((ts ≡ us) × (skips tables a ≡ true)) → (starts g tables s ts ≡ true) ⊎ ((ts ≡ us) × (skips tables s ≡ true))
  begins_by a s ts us f f' (inl h) = inl (f h)
  begins_by a s ts us f f' (inr e) = inr (e.0, f' e.1)

  -- a token opens a whole, or it is empty
  pub takes_begins : {s : Shape C O R} {ts us : List T} {os : List O} → Takes g s ts us os → (starts g tables s ts ≡ true) ⊎ ((ts ≡ us) × (skips tables s ≡ true))
  takes_begins (Takes.one h) = inl h
  takes_begins Takes.emit = inr (refl, refl)
  takes_begins Takes.empty = inr (refl, refl)
  takes_begins (Takes.seq {a = a} {b = b} {ts = ts} {us = us} {vs = vs} w v) = begins_seq a b ts us vs (takes_begins w) (takes_begins v)
  takes_begins (Takes.left {a = a} {b = b} {ts = ts} {us = us} w) = begins_by a (Or a b) ts us (or_first a b ts) (or_left _ _) (takes_begins w)
  takes_begins (Takes.right {a = a} {b = b} {ts = ts} {us = us} w) = begins_by b (Or a b) ts us (or_second a b ts) (or_right _ _) (takes_begins w)
  takes_begins Takes.none = inr (refl, refl)
  takes_begins (Takes.more {a = a} {ts = ts} {us = us} {vs = vs} w v) = begins_more a ts us vs (takes_begins w) (takes_begins v)
  takes_begins (Takes.rule {r = r} {ts = ts} {us = us} w) = begins_by (g.body r) (Rule r) ts us (rule_starts r ts) (true_tables.skips_body r) (takes_begins w)

  -- where a class that accepts the token is expected behind a stretch, the first token of both opens the shape
  pub faces_starts : {s : Shape C O R} {ts us : List T} {c : C} → Faces g s ts us c → first_passes g (g.accepts c) us ≡ true → starts g tables s ts ≡ true
  faces_starts Faces.one h = h
  faces_starts (Faces.first {a = a} {b = b} {ts = ts} f) h = seq_first a b ts (faces_starts f h)
  faces_starts (Faces.next {a = a} {b = b} {ts = ts} {us = us} w f) h = start_behind a b ts us (takes_begins w) (faces_starts f h)
  faces_starts (Faces.left {a = a} {b = b} {ts = ts} f) h = or_first a b ts (faces_starts f h)
  faces_starts (Faces.right {a = a} {b = b} {ts = ts} f) h = or_second a b ts (faces_starts f h)
  faces_starts (Faces.part f) h = faces_starts f h
  faces_starts (Faces.again {a = a} {ts = ts} {us = us} w f) h = more_behind a ts us (takes_begins w) (faces_starts f h)
  faces_starts (Faces.rule {r = r} {ts = ts} f) h = rule_starts r ts (faces_starts f h)

  shrinks_by : (a s : Shape C O R) (ts us : List T) → (skips tables a ≡ true → skips tables s ≡ true) → Shrinks tables a ts us → Shrinks tables s ts us
  shrinks_by a s ts us f (Shrinks.nothing e h) = Shrinks.nothing e (f h)
  shrinks_by a s ts us f (Shrinks.shorter l) = Shrinks.shorter l

  shrinks_seq : (a b s : Shape C O R) (ts us vs : List T) → (skips tables a ≡ true → skips tables b ≡ true → skips tables s ≡ true) → length us ≤ length ts → length vs ≤ length us → Shrinks tables a ts us → Shrinks tables b us vs → Shrinks tables s ts vs
  shrinks_seq a b s ts us vs f l m (Shrinks.nothing e h) (Shrinks.nothing d i) = Shrinks.nothing (e ∙ d) (f h i)
  shrinks_seq a b s ts us vs f l m (Shrinks.shorter n) q = Shrinks.shorter (omega arith)
  shrinks_seq a b s ts us vs f l m (Shrinks.nothing e h) (Shrinks.shorter n) = Shrinks.shorter (omega arith)

  -- a whole took a token, or it is empty and the shape may be
  pub takes_shrinks : {s : Shape C O R} {ts us : List T} {os : List O} → Takes g s ts us os → Shrinks tables s ts us
  takes_shrinks (Takes.one h) = Shrinks.shorter (le_refl _)
  takes_shrinks Takes.emit = Shrinks.nothing refl refl
  takes_shrinks Takes.empty = Shrinks.nothing refl refl
  takes_shrinks (Takes.seq {a = a} {b = b} {ts = ts} {us = us} {vs = vs} w v) = shrinks_seq a b (Seq a b) ts us vs (and_from _ _) (takes_length g w) (takes_length g v) (takes_shrinks w) (takes_shrinks v)
  takes_shrinks (Takes.left {a = a} {b = b} {ts = ts} {us = us} w) = shrinks_by a (Or a b) ts us (or_left _ _) (takes_shrinks w)
  takes_shrinks (Takes.right {a = a} {b = b} {ts = ts} {us = us} w) = shrinks_by b (Or a b) ts us (or_right _ _) (takes_shrinks w)
  takes_shrinks Takes.none = Shrinks.nothing refl refl
  takes_shrinks (Takes.more {a = a} {ts = ts} {us = us} {vs = vs} w v) = shrinks_seq a (Many a) (Many a) ts us vs (λ h i. refl) (takes_length g w) (takes_length g v) (takes_shrinks w) (takes_shrinks v)
  takes_shrinks (Takes.rule {r = r} {ts = ts} {us = us} w) = shrinks_by (g.body r) (Rule r) ts us (true_tables.skips_body r) (takes_shrinks w)
