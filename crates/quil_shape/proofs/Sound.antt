-- What reading from left to right comes to stands there: a whole, a front, or a token that is too large.
use Rattle.std.proofs.Common.{◌≡◌, ℕ, zero, suc, ◌<◌, Bool, true, false, List, [], ◌∷◌, ◌++◌, refl, ◌∙◌, ap, append_assoc, le_refl, arith, nat_lt, ltb-true}
use Rattle.std.proofs.lemmas.Bool.{and_parts, and_from}
use Rattle.quil_shape.specs.Shape.{Shape, Grammar}
use Rattle.quil_shape.specs.Shape.Shape.{One, Emit, Empty, Seq, Or, Many, Rule}
use Rattle.quil_shape.specs.Whole.{Whole}
use Rattle.quil_shape.specs.Front.{Front}
use Rattle.quil_shape.specs.Expects.{Expects}
use Rattle.quil_shape.specs.Verdict.{HasLargeAt}
use Rattle.quil_shape.specs.Condition.{Tables, leads, implies, skips}
use Rattle.quil_shape.specs.Outcome.{Outcome, after}
use Rattle.quil_shape.specs.Outcome.Outcome.{Made, Stuck, Large}
use Rattle.quil_shape.specs.Reads.{Reads}
use Rattle.quil_shape.proofs.Tests.{AreTrue}

-- a whole at the head of the tokens
pub record HasWhole {C O R K T : Type 0} (g : Grammar C O R K T) (s : Shape C O R) (ts us : List T) (os : List O) : Type 0 where
  pub before : List T
  pub splits : ts ≡ before ++ us
  pub whole : Whole g s before os

-- a front at the head of the tokens
pub record HasFront {C O R K T : Type 0} (g : Grammar C O R K T) (s : Shape C O R) (ts us : List T) : Type 0 where
  pub before : List T
  pub splits : ts ≡ before ++ us
  pub front : Front g s before

-- what an outcome says stands at the head of the tokens
abbrev pub Stands : {C O R K T : Type 0} → Grammar C O R K T → Shape C O R → List T → Outcome O T → Type 0
Stands g s ts (Made os us) = HasWhole g s ts us os
Stands g s ts (Stuck us) = HasFront g s ts us
Stands g s ts (Large us) = HasLargeAt g s ts us

implies_any : (a b : Bool) → b ≡ true → implies a b ≡ true
implies_any true b h = h
implies_any false b h = refl

module _ {C O R K T : Type 0} (g : Grammar C O R K T) (tables : Tables R K) where
  -- where each rule that the shape may begin with has a front of no token, so has the shape
  front_nothing_by : (test : R → Bool) → ((r : R) → test r ≡ true → Front g (Rule r) []) → (s : Shape C O R) → leads tables test s ≡ true → Front g s []
  front_nothing_by test f (One c) h = Front.nothing
  front_nothing_by test f (Emit o) h = Front.emit
  front_nothing_by test f Empty h = Front.empty
  front_nothing_by test f (Seq a b) h = Front.first (front_nothing_by test f a (and_parts _ _ h).0)
  front_nothing_by test f (Or a b) h = Front.left (front_nothing_by test f a (and_parts _ _ h).0)
  front_nothing_by test f (Many a) h = Front.part (front_nothing_by test f a h)
  front_nothing_by test f (Rule r) h = f r h

  -- each shape begins with rules of any kind
  pub leads_any : (s : Shape C O R) → leads tables (λ r. true) s ≡ true
  leads_any (One c) = refl
  leads_any (Emit o) = refl
  leads_any Empty = refl
  leads_any (Seq a b) = and_from _ _ (leads_any a) (implies_any (skips tables a) _ (leads_any b))
  leads_any (Or a b) = and_from _ _ (leads_any a) (leads_any b)
  leads_any (Many a) = leads_any a
  leads_any (Rule r) = refl

module _ {C O R K T : Type 0} (g : Grammar C O R K T) (tables : Tables R K) (true_tables : AreTrue g tables) where
  rule_front_below : (n : ℕ) (r : R) → tables.rank r < n → Front g (Rule r) []
  rule_front_below zero r l = absurd (omega arith)
  rule_front_below (suc n) r l = Front.rule (front_nothing_by g tables (λ q. nat_lt (tables.rank q) (tables.rank r)) (λ q h. rule_front_below n q (let m : tables.rank q < tables.rank r = ltb-true _ _ h in omega arith)) (g.body r) (true_tables.leads_body r))

  -- no token is a front of each shape
  pub front_nothing : (s : Shape C O R) → Front g s []
  front_nothing s = front_nothing_by g tables (λ r. true) (λ r h. rule_front_below (suc (tables.rank r)) r (le_refl _)) s (leads_any g tables s)

  -- a whole is a front
  pub whole_front : {s : Shape C O R} {ts : List T} {os : List O} → Whole g s ts os → Front g s ts
  whole_front (Whole.one h) = Front.token h
  whole_front Whole.emit = Front.emit
  whole_front Whole.empty = Front.empty
  whole_front (Whole.seq w v) = Front.next w (whole_front v)
  whole_front (Whole.left w) = Front.left (whole_front w)
  whole_front (Whole.right w) = Front.right (whole_front w)
  whole_front (Whole.none {a = a}) = Front.part (front_nothing a)
  whole_front (Whole.more w v) = Front.again w (whole_front v)
  whole_front (Whole.rule w) = Front.rule (whole_front w)

  stands_seq : (a b : Shape C O R) (ts us : List T) (os : List O) (out : Outcome O T) → HasWhole g a ts us os → Stands g b us out → Stands g (Seq a b) ts (after os out)
  stands_seq a b ts us os (Made ps vs) w v = record { before = w.before ++ v.before; splits = rw append_assoc (w.splits ∙ ap (λ xs. w.before ++ xs) v.splits); whole = Whole.seq w.whole v.whole }
  stands_seq a b ts us os (Stuck vs) w v = record { before = w.before ++ v.before; splits = rw append_assoc (w.splits ∙ ap (λ xs. w.before ++ xs) v.splits); front = Front.next w.whole v.front }
  stands_seq a b ts us os (Large vs) w v = record { before = w.before ++ v.before; token = v.token; behind = v.behind; place = v.place; splits = rw append_assoc (w.splits ∙ ap (λ xs. w.before ++ xs) v.splits); is_first = v.is_first; is_expected = Expects.next w.whole v.is_expected; is_accepted = v.is_accepted; is_large = v.is_large }

  stands_more : (a : Shape C O R) (ts us : List T) (os : List O) (out : Outcome O T) → HasWhole g a ts us os → Stands g (Many a) us out → Stands g (Many a) ts (after os out)
  stands_more a ts us os (Made ps vs) w v = record { before = w.before ++ v.before; splits = rw append_assoc (w.splits ∙ ap (λ xs. w.before ++ xs) v.splits); whole = Whole.more w.whole v.whole }
  stands_more a ts us os (Stuck vs) w v = record { before = w.before ++ v.before; splits = rw append_assoc (w.splits ∙ ap (λ xs. w.before ++ xs) v.splits); front = Front.again w.whole v.front }
  stands_more a ts us os (Large vs) w v = record { before = w.before ++ v.before; token = v.token; behind = v.behind; place = v.place; splits = rw append_assoc (w.splits ∙ ap (λ xs. w.before ++ xs) v.splits); is_first = v.is_first; is_expected = Expects.again w.whole v.is_expected; is_accepted = v.is_accepted; is_large = v.is_large }

  -- what stands for a part stands for the shape
  stands_by : (a s : Shape C O R) (ts : List T) (out : Outcome O T) → ((xs : List T) (os : List O) → Whole g a xs os → Whole g s xs os) → ((xs : List T) → Front g a xs → Front g s xs) → ((xs : List T) (c : C) → Expects g a xs c → Expects g s xs c) → Stands g a ts out → Stands g s ts out
  stands_by a s ts (Made ps vs) f f' f'' w = record { before = w.before; splits = w.splits; whole = f _ _ w.whole }
  stands_by a s ts (Stuck vs) f f' f'' w = record { before = w.before; splits = w.splits; front = f' _ w.front }
  stands_by a s ts (Large vs) f f' f'' w = record { before = w.before; token = w.token; behind = w.behind; place = w.place; splits = w.splits; is_first = w.is_first; is_expected = f'' _ _ w.is_expected; is_accepted = w.is_accepted; is_large = w.is_large }

  large_by : (a s : Shape C O R) (ts us : List T) → ((xs : List T) (c : C) → Expects g a xs c → Expects g s xs c) → HasLargeAt g a ts us → HasLargeAt g s ts us
  large_by a s ts us f w = record { before = w.before; token = w.token; behind = w.behind; place = w.place; splits = w.splits; is_first = w.is_first; is_expected = f _ _ w.is_expected; is_accepted = w.is_accepted; is_large = w.is_large }

  pub stands : {s : Shape C O R} {ts : List T} {out : Outcome O T} → Reads g tables s ts out → Stands g s ts out
  stands (Reads.one {t = t} h l) = record { before = t ∷ []; splits = refl; whole = Whole.one h }
  stands (Reads.one_large {c = c} {t = t} {ts = ts} h l) = record { before = []; token = t; behind = ts; place = c; splits = refl; is_first = refl; is_expected = Expects.one; is_accepted = h; is_large = l }
  stands Reads.emit = record { before = []; splits = refl; whole = Whole.emit }
  stands Reads.empty = record { before = []; splits = refl; whole = Whole.empty }
  stands (Reads.seq {a = a} {b = b} {ts = ts} {us = us} {os = os} {out = out} r q) = stands_seq a b ts us os out (stands r) (stands q)
  stands (Reads.seq_stuck r) = let w = stands r in record { before = w.before; splits = w.splits; front = Front.first w.front }
  stands (Reads.seq_large {a = a} {b = b} {ts = ts} {us = us} r) = large_by a (Seq a b) ts us (λ xs c e. Expects.first e) (stands r)
  stands (Reads.left {a = a} {b = b} {ts = ts} {out = out} h r) = stands_by a (Or a b) ts out (λ xs os w. Whole.left w) (λ xs f. Front.left f) (λ xs c e. Expects.left e) (stands r)
  stands (Reads.right {a = a} {b = b} {ts = ts} {out = out} h r) = stands_by b (Or a b) ts out (λ xs os w. Whole.right w) (λ xs f. Front.right f) (λ xs c e. Expects.right e) (stands r)
  stands (Reads.none h) = record { before = []; splits = refl; whole = Whole.none }
  stands (Reads.more {a = a} {ts = ts} {us = us} {os = os} {out = out} h r q) = stands_more a ts us os out (stands r) (stands q)
  stands (Reads.more_stuck h r) = let w = stands r in record { before = w.before; splits = w.splits; front = Front.part w.front }
  stands (Reads.more_large {a = a} {ts = ts} {us = us} h r) = large_by a (Many a) ts us (λ xs c e. Expects.part e) (stands r)
  stands (Reads.rule {r = r} {ts = ts} {out = out} q) = stands_by (g.body r) (Rule r) ts out (λ xs os w. Whole.rule w) (λ xs f. Front.rule f) (λ xs c e. Expects.rule e) (stands q)
  stands (Reads.barred {s = s} h) = record { before = []; splits = refl; front = front_nothing s }
