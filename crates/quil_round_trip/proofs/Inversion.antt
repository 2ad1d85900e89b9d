-- What a reading that came to its end says of its shape.
use Rattle.std.proofs.Common.{◌≡◌, ◌⊎◌, inl, inr, true, false, ◌||◌, List, [], ◌∷◌, ◌++◌, refl, sym, ◌∙◌, ap, subst, append_assoc}
use Rattle.quil_shape.specs.Shape.{Shape, Grammar}
use Rattle.quil_shape.specs.Shape.Shape.{One, Emit, Empty, Seq, Or, Many, Rule}
use Rattle.quil_shape.specs.Condition.{Tables}
use Rattle.quil_shape.specs.Outcome.{Outcome, after}
use Rattle.quil_shape.specs.Outcome.Outcome.{Made, Stuck, Large}
use Rattle.quil_shape.specs.Reads.{Reads, starts, is_barred}

-- the outcome is that these things were made and these tokens are left
made_os : {O T : Type 0} (os ps : List O) (us vs : List T) → Made os us ≡ Made ps vs → (os ≡ ps) × (us ≡ vs)
made_os os ps us vs e = (cc, cc)

module _ {C O R K T : Type 0} (g : Grammar C O R K T) (tables : Tables R K) where
  pub record IsOne (c : C) (ts : List T) (os : List O) (us : List T) : Type 0 where
    pub token : T
    pub splits : ts ≡ token ∷ us
    pub accepted : g.accepts c (g.kind token) ≡ true
    pub small : g.is_large c token us ≡ false
    pub makes : os ≡ g.value c token

  pub record IsSeq (a b : Shape C O R) (ts : List T) (os : List O) (us : List T) : Type 0 where
    pub middle : List T
    pub first_os : List O
    pub second_os : List O
    pub first : Reads g tables a ts (Made first_os middle)
    pub second : Reads g tables b middle (Made second_os us)
    pub makes : os ≡ first_os ++ second_os

  -- the parts of a repetition, one behind the other
  pub data Chain (a : Shape C O R) : List T → List O → List T → Type 0 where
    done : {ts : List T} → Chain a ts [] ts
    link : {ts us vs : List T} {os ps : List O} → Reads g tables a ts (Made os us) → Chain a us ps vs → Chain a ts (os ++ ps) vs

  one_of : (c : C) (ts : List T) (out : Outcome O T) (os : List O) (us : List T) → Reads g tables (One c) ts out → out ≡ Made os us → IsOne c ts os us
  one_of c ts out os us (Reads.one {t = t} {ts = vs} h l) e =
      let p = made_os (g.value c t) os vs us e in
      record { token = t; splits = ap (λ xs. t ∷ xs) p.1; accepted = h; small = subst (λ xs. g.is_large c t xs ≡ false) p.1 l; makes = sym p.0 }
  one_of c ts out os us (Reads.one_large h l) e = absurd (cc)
  one_of c ts out os us (Reads.barred h) e = absurd (cc)

  pub one : {c : C} {ts us : List T} {os : List O} → Reads g tables (One c) ts (Made os us) → IsOne c ts os us
  one {c} {ts} {us} {os} r = one_of c ts (Made os us) os us r refl

  seq_of : (a b : Shape C O R) (ts : List T) (out : Outcome O T) (os : List O) (us : List T) → Reads g tables (Seq a b) ts out → out ≡ Made os us → IsSeq a b ts os us
  seq_of a b ts out os us (Reads.seq {us = vs} {os = ps} {out = more} r q) e = by more q e
    where
      by : (more : Outcome O T) → Reads g tables b vs more → after ps more ≡ Made os us → IsSeq a b ts os us
      by (Made qs ws) q e =
          let p = made_os (ps ++ qs) os ws us e in
          record { middle = vs; first_os = ps; second_os = qs; first = r; second = subst (λ xs. Reads g tables b vs (Made qs xs)) p.1 q; makes = sym p.0 }
      by (Stuck ws) q e = absurd (cc)
      by (Large ws) q e = absurd (cc)
  seq_of a b ts out os us (Reads.seq_stuck r) e = absurd (cc)
  seq_of a b ts out os us (Reads.seq_large r) e = absurd (cc)
  seq_of a b ts out os us (Reads.barred h) e = absurd (cc)

  pub seq : {a b : Shape C O R} {ts us : List T} {os : List O} → Reads g tables (Seq a b) ts (Made os us) → IsSeq a b ts os us
  seq {a} {b} {ts} {us} {os} r = seq_of a b ts (Made os us) os us r refl

  or_of : (a b : Shape C O R) (ts : List T) (out : Outcome O T) (os : List O) (us : List T) → Reads g tables (Or a b) ts out → out ≡ Made os us → (Reads g tables a ts (Made os us)) ⊎ (Reads g tables b ts (Made os us))
  or_of a b ts out os us (Reads.left h r) e = inl (subst (λ x. Reads g tables a ts x) e r)
  or_of a b ts out os us (Reads.right h r) e = inr (subst (λ x. Reads g tables b ts x) e r)
  or_of a b ts out os us (Reads.barred h) e = absurd (cc)

  pub or : {a b : Shape C O R} {ts us : List T} {os : List O} → Reads g tables (Or a b) ts (Made os us) → (Reads g tables a ts (Made os us)) ⊎ (Reads g tables b ts (Made os us))
  or {a} {b} {ts} {us} {os} r = or_of a b ts (Made os us) os us r refl

  -- the part that was read of a choice, and why it was taken
  abbrev pub Choice : Shape C O R → Shape C O R → List T → Outcome O T → Type 0
  Choice a b ts out =
      (((starts g tables a ts || is_barred g tables b ts) ≡ true) × Reads g tables a ts out) ⊎ (((starts g tables b ts || is_barred g tables a ts) ≡ true) × Reads g tables b ts out)

  choice_of : (a b : Shape C O R) (ts : List T) (out : Outcome O T) (os : List O) (us : List T) → Reads g tables (Or a b) ts out → out ≡ Made os us → Choice a b ts (Made os us)
  choice_of a b ts out os us (Reads.left h r) e = inl (h, subst (λ x. Reads g tables a ts x) e r)
  choice_of a b ts out os us (Reads.right h r) e = inr (h, subst (λ x. Reads g tables b ts x) e r)
  choice_of a b ts out os us (Reads.barred h) e = absurd (cc)

  pub choice : {a b : Shape C O R} {ts us : List T} {os : List O} → Reads g tables (Or a b) ts (Made os us) → Choice a b ts (Made os us)
  choice {a} {b} {ts} {us} {os} r = choice_of a b ts (Made os us) os us r refl

  rule_of : (n : R) (ts : List T) (out : Outcome O T) (os : List O) (us : List T) → Reads g tables (Rule n) ts out → out ≡ Made os us → Reads g tables (g.body n) ts (Made os us)
  rule_of n ts out os us (Reads.rule r) e = subst (λ x. Reads g tables (g.body n) ts x) e r
  rule_of n ts out os us (Reads.barred h) e = absurd (cc)

  pub rule : {n : R} {ts us : List T} {os : List O} → Reads g tables (Rule n) ts (Made os us) → Reads g tables (g.body n) ts (Made os us)
  rule {n} {ts} {us} {os} r = rule_of n ts (Made os us) os us r refl

  emit_of : (o : O) (ts : List T) (out : Outcome O T) (os : List O) (us : List T) → Reads g tables (Emit o) ts out → out ≡ Made os us → (os ≡ o ∷ []) × (us ≡ ts)
  emit_of o ts out os us Reads.emit e = let p = made_os (o ∷ []) os ts us e in (sym p.0, sym p.1)
  emit_of o ts out os us (Reads.barred h) e = absurd (cc)

  pub emit : {o : O} {ts us : List T} {os : List O} → Reads g tables (Emit o) ts (Made os us) → (os ≡ o ∷ []) × (us ≡ ts)
  emit {o} {ts} {us} {os} r = emit_of o ts (Made os us) os us r refl

  empty_of : (ts : List T) (out : Outcome O T) (os : List O) (us : List T) → Reads g tables Empty ts out → out ≡ Made os us → (os ≡ []) × (us ≡ ts)
  empty_of ts out os us Reads.empty e = let p = made_os [] os ts us e in (sym p.0, sym p.1)
  empty_of ts out os us (Reads.barred h) e = absurd (cc)

  pub empty : {ts us : List T} {os : List O} → Reads g tables Empty ts (Made os us) → (os ≡ []) × (us ≡ ts)
  empty {ts} {us} {os} r = empty_of ts (Made os us) os us r refl

  many_of : (a : Shape C O R) (ts : List T) (out : Outcome O T) (os : List O) (us : List T) → Reads g tables (Many a) ts out → out ≡ Made os us → Chain a ts os us
  many_of a ts out os us (Reads.none h) e =
      let p = made_os [] os ts us e in subst (λ xs. Chain a ts xs us) p.0 (subst (λ xs. Chain a ts [] xs) p.1 Chain.done)
  many_of a ts out os us (Reads.more {us = vs} {os = ps} {out = more} h r q) e = by more q (λ qs f. many_of a vs more qs us q f) e
    where
      by : (more : Outcome O T) → Reads g tables (Many a) vs more → ((qs : List O) → more ≡ Made qs us → Chain a vs qs us) → after ps more ≡ Made os us → Chain a ts os us
      by (Made qs ws) q rest e =
          let p = made_os (ps ++ qs) os ws us e in
          subst (λ xs. Chain a ts xs us) p.0 (Chain.link r (rest qs (ap (λ xs. Made qs xs) p.1)))
      by (Stuck ws) q rest e = absurd (cc)
      by (Large ws) q rest e = absurd (cc)
  many_of a ts out os us (Reads.more_stuck h r) e = absurd (cc)
  many_of a ts out os us (Reads.more_large h r) e = absurd (cc)
  many_of a ts out os us (Reads.barred h) e = absurd (cc)

  pub many : {a : Shape C O R} {ts us : List T} {os : List O} → Reads g tables (Many a) ts (Made os us) → Chain a ts os us
  many {a} {ts} {us} {os} r = many_of a ts (Made os us) os us r refl

  -- what is left is the end of what was there
  pub record Ends (ts us : List T) : Type 0 where
    pub before : List T
    pub splits : ts ≡ before ++ us

  ends_here : (ts : List T) → Ends ts ts
  ends_here ts = record { before = []; splits = refl }

  ends_then : (ts us vs : List T) → Ends ts us → Ends us vs → Ends ts vs
  ends_then ts us vs p q = record { before = p.before ++ q.before; splits = p.splits ∙ ap (λ xs. p.before ++ xs) q.splits ∙ sym (append_assoc p.before q.before vs) }

  abbrev pub Leaves : List T → Outcome O T → Type 0
  Leaves ts (Made os us) = Ends ts us
  Leaves ts (Stuck us) = Unit {0}
  Leaves ts (Large us) = Unit {0}

  leaves_after : (ts us : List T) (os : List O) (out : Outcome O T) → Ends ts us → Leaves us out → Leaves ts (after os out)
  leaves_after ts us os (Made ps vs) p q = ends_then ts us vs p q
  leaves_after ts us os (Stuck vs) p q = tt
  leaves_after ts us os (Large vs) p q = tt

  pub leaves : {s : Shape C O R} {ts : List T} {out : Outcome O T} → Reads g tables s ts out → Leaves ts out
  leaves (Reads.one {t = t} h l) = record { before = t ∷ []; splits = refl }
  leaves (Reads.one_large h l) = tt
  leaves {ts = ts} Reads.emit = ends_here ts
  leaves {ts = ts} Reads.empty = ends_here ts
  leaves (Reads.seq {ts = ts} {us = us} {os = os} {out = out} r q) = leaves_after ts us os out (leaves r) (leaves q)
  leaves (Reads.seq_stuck r) = tt
  leaves (Reads.seq_large r) = tt
  leaves (Reads.left h r) = leaves r
  leaves (Reads.right h r) = leaves r
  leaves {ts = ts} (Reads.none h) = ends_here ts
  leaves (Reads.more {ts = ts} {us = us} {os = os} {out = out} h r q) = leaves_after ts us os out (leaves r) (leaves q)
  leaves (Reads.more_stuck h r) = tt
  leaves (Reads.more_large h r) = tt
  leaves (Reads.rule r) = leaves r
  leaves (Reads.barred h) = tt

  pub rest_of : {s : Shape C O R} {ts us : List T} {os : List O} → Reads g tables s ts (Made os us) → Ends ts us
  rest_of r = leaves r
