-- The theorem: under the condition a whole is the only one, and reading from left to right gives the one true verdict.
use Rattle.std.proofs.Common.{◌≡◌, ◌≤◌, ◌+◌, ◌⊎◌, inl, inr, Bool, true, false, true≢false, List, [], ◌∷◌, ◌++◌, length, refl, sym, ◌∙◌, ap, subst, append-nil, length-append, le_of_suc-le-suc, arith, le_antisymm}
use Rattle.std.proofs.lemmas.Bool.{and_parts}
use Rattle.quil_shape.specs.Shape.{Shape, Grammar}
use Rattle.quil_shape.specs.Whole.{Whole}
use Rattle.quil_shape.specs.Front.{Front}
use Rattle.quil_shape.specs.Expects.{Expects}
use Rattle.quil_shape.specs.Verdict.{HasLargeAt, IsRefusedAt, IsTooLargeAt, Verdict, IsVerdict, IsOnlyVerdict}
use Rattle.quil_shape.specs.Verdict.Verdict.{Read, Refused, TooLarge}
use Rattle.quil_shape.specs.Condition.{Tables, is_clear, is_decided_by_one_token}
use Rattle.quil_shape.specs.Outcome.{Outcome, verdict_of}
use Rattle.quil_shape.specs.Outcome.Outcome.{Made, Stuck, Large}
use Rattle.quil_shape.specs.Reads.{Reads}
use Rattle.quil_shape.proofs.Takes.{Taken, whole_takes, expects_faces, front_last}
use Rattle.quil_shape.proofs.Tests.{AreTrue, tables_are_true}
use Rattle.quil_shape.proofs.Agree.{Agrees, agrees}
use Rattle.quil_shape.proofs.Only.{same}
use Rattle.quil_shape.proofs.Stops.{Passes, passes, LeavesWithin, leaves_within}
use Rattle.quil_shape.proofs.Sound.{HasWhole, HasFront, stands, whole_front}
use Rattle.quil_shape.proofs.Total.{comes}

-- two ends of one list that are equally long are equal
ends_same : {A : Type 0} (a b c d : List A) → a ++ b ≡ c ++ d → length b ≡ length d → b ≡ d
ends_same [] b [] d e l = e
ends_same [] b (x ∷ c) d e l = absurd (let m : length b ≡ length (x ∷ (c ++ d)) = ap length e in let n : length (c ++ d) ≡ length c + length d = length-append c d in omega arith)
ends_same (x ∷ a) b [] d e l = absurd (let m : length (x ∷ (a ++ b)) ≡ length d = ap length e in let n : length (a ++ b) ≡ length a + length b = length-append a b in omega arith)
ends_same (x ∷ a) b (y ∷ c) d e l = ends_same a b c d (cc) l

-- of two ways to split a list, the longer front leaves the shorter end
split_lengths : {A : Type 0} (ts a b c d : List A) → ts ≡ a ++ b → ts ≡ c ++ d → length a + length b ≡ length c + length d
split_lengths ts a b c d e f = sym (length-append a b) ∙ (ap length (sym e ∙ f) ∙ length-append c d)

cons_not_nil : {A : Type 0} (x : A) (xs : List A) → x ∷ xs ≡ [] → ⊥
cons_not_nil x xs e = cc

-- the tokens at which reading stopped aren't before `rest`
abbrev pub GoesTo : {T O : Type 0} → List T → Outcome O T → Type 0
GoesTo rest (Made ps vs) = length vs ≤ length rest
GoesTo rest (Stuck vs) = length vs ≤ length rest
GoesTo rest (Large vs) = Unit {0}

within_goes : {T O : Type 0} (rest : List T) (out : Outcome O T) → LeavesWithin rest out → GoesTo rest out
within_goes rest (Made ps vs) h = h
within_goes rest (Stuck vs) h = h
within_goes rest (Large vs) h = tt

passes_goes : {T O : Type 0} (t : T) (rest : List T) (large : Bool) (out : Outcome O T) → Passes (t ∷ rest) large out → GoesTo rest out
passes_goes t rest large (Made ps vs) h = le_of_suc-le-suc h.0
passes_goes t rest large (Stuck vs) h = le_of_suc-le-suc h.0
passes_goes t rest large (Large vs) h = tt

module _ {C O R K T : Type 0} (g : Grammar C O R K T) (s : Shape C O R) where
  -- refused at one place only
  pub refused_once : (ts us vs : List T) → IsRefusedAt g s ts us → IsRefusedAt g s ts vs → us ≡ vs
  refused_once ts us vs p q =
      let l = p.is_longest q.before vs q.splits q.is_front in
      let m = q.is_longest p.before us p.splits p.is_front in
      let n = split_lengths ts p.before us q.before vs p.splits q.splits in
      ends_same p.before us q.before vs (sym p.splits ∙ q.splits) (omega arith)

  -- the first token that is too large stands at one place only
  pub large_once : (ts us vs : List T) → IsTooLargeAt g s ts us → IsTooLargeAt g s ts vs → us ≡ vs
  large_once ts us vs p q = ends_same p.is_large.before us q.is_large.before vs (sym p.is_large.splits ∙ q.is_large.splits) (le_antisymm (q.is_earliest us p.is_large) (p.is_earliest vs q.is_large))

module _ {C O R K T : Type 0} (g : Grammar C O R K T) (tables : Tables R K) (s : Shape C O R) (decided : is_decided_by_one_token g tables s ≡ true) where
  true_tables : AreTrue g tables
  true_tables = tables_are_true g tables (and_parts _ _ decided).1

  clear : is_clear g tables (λ k. false) s ≡ true
  clear = (and_parts _ _ decided).0

  -- a whole is the only one
  pub whole_once : (ts : List T) (os ps : List O) → Whole g s ts os → Whole g s ts ps → os ≡ ps
  whole_once ts os ps w v = (same g tables true_tables (λ k. false) clear (whole_takes g w []) (whole_takes g v []) refl refl).1

  -- reading from left to right comes to an outcome
  pub some_outcome : (ts : List T) → (out : Outcome O T) × Reads g tables s ts out
  some_outcome ts = let p = comes g tables true_tables s (λ k. false) ts clear in (p.outcome, p.reads)

  -- reading passes a token that is too large by nowhere
  large_passed_at : (before behind : List T) (token : T) (place : C) (out : Outcome O T) → Reads g tables s (before ++ token ∷ behind) out → Expects g s before place → g.accepts place (g.kind token) ≡ true → g.is_large place token behind ≡ true → Passes (token ∷ behind) true out
  large_passed_at before behind token place out r e h l = subst (λ large. Passes (token ∷ behind) large out) l (passes g tables true_tables r (λ k. false) clear (expects_faces g e (token ∷ behind)) h)

  large_passed : (ts rest : List T) (out : Outcome O T) → Reads g tables s ts out → HasLargeAt g s ts rest → Passes rest true out
  large_passed ts rest out r h =
      subst (λ xs. Passes xs true out) (sym h.is_first)
      (large_passed_at h.before h.behind h.token h.place out (subst (λ xs. Reads g tables s xs out) (h.splits ∙ ap (λ xs. h.before ++ xs) h.is_first) r) h.is_expected h.is_accepted h.is_large)

  -- which whole there is
  agreed : (ts : List T) (os : List O) (out : Outcome O T) → Reads g tables s ts out → Whole g s ts os → Agrees [] os out
  agreed ts os out r w = agrees g tables true_tables (subst (λ xs. Reads g tables s xs out) (sym (append-nil ts)) r) (λ k. false) clear (whole_takes g w []) refl

  -- reading goes as far as any front
  front_passed : (longer rest : List T) (out : Outcome O T) → Reads g tables s (longer ++ rest) out → (longer ++ rest ≡ rest) ⊎ Taken g s (longer ++ rest) rest → GoesTo rest out
  front_passed longer rest out r (inl e) = within_goes rest out (subst (λ xs. LeavesWithin xs out) e (leaves_within g tables r))
  front_passed longer rest out r (inr t) = passes_goes t.token rest _ out (passes g tables true_tables r (λ k. false) clear t.faces t.is_accepted)

  front_reached : (ts longer rest : List T) (out : Outcome O T) → Reads g tables s ts out → ts ≡ longer ++ rest → Front g s longer → GoesTo rest out
  front_reached ts longer rest out r e f = front_passed longer rest out (subst (λ xs. Reads g tables s xs out) e r) (front_last g f rest)

  -- a stretch that leaves no fewer tokens is no longer
  no_longer : (ts before rest longer after : List T) → ts ≡ before ++ rest → ts ≡ longer ++ after → length rest ≤ length after → length longer ≤ length before
  no_longer ts before rest longer after e f l = let n = split_lengths ts before rest longer after e f in omega arith

  -- the verdict that reading gives is true
  pub verdict_true : (ts : List T) (out : Outcome O T) → Reads g tables s ts out → IsVerdict g s ts (verdict_of out)
  verdict_true ts (Made os []) r =
      let w : HasWhole g s ts [] os = stands g tables true_tables r in
      record {
        whole = subst (λ xs. Whole g s xs os) (sym (w.splits ∙ append-nil w.before)) w.whole;
        none_large = λ rest h. true≢false (large_passed ts rest (Made os []) r h).1;
      }
  verdict_true ts (Made os (t ∷ us)) r =
      let w : HasWhole g s ts (t ∷ us) os = stands g tables true_tables r in
      record {
        before = w.before;
        splits = w.splits;
        is_front = whole_front g tables true_tables w.whole;
        is_longest = λ longer after e f. no_longer ts w.before (t ∷ us) longer after w.splits e (front_reached ts longer after (Made os (t ∷ us)) r e f);
        not_whole = λ ps v. let a = agreed ts ps (Made os (t ∷ us)) r v in absurd (cons_not_nil t us a.0);
        none_large = λ rest h. true≢false (large_passed ts rest (Made os (t ∷ us)) r h).1;
      }
  verdict_true ts (Stuck us) r =
      let w : HasFront g s ts us = stands g tables true_tables r in
      record {
        before = w.before;
        splits = w.splits;
        is_front = w.front;
        is_longest = λ longer after e f. no_longer ts w.before us longer after w.splits e (front_reached ts longer after (Stuck us) r e f);
        not_whole = λ ps v. agreed ts ps (Stuck us) r v;
        none_large = λ rest h. true≢false (large_passed ts rest (Stuck us) r h).1;
      }
  verdict_true ts (Large us) r =
      record {
        is_large = stands g tables true_tables r;
        is_earliest = λ other h. large_passed ts other (Large us) r h refl;
      }

  -- there is one true verdict at most
  verdict_once : (ts : List T) (v w : Verdict O T) → IsVerdict g s ts v → IsVerdict g s ts w → w ≡ v
  verdict_once ts (Read os) (Read ps) p q = ap (λ xs. Read xs) (whole_once ts ps os q.whole p.whole)
  verdict_once ts (Read os) (Refused vs) p q = absurd (q.not_whole os p.whole)
  verdict_once ts (Read os) (TooLarge vs) p q = absurd (p.none_large vs q.is_large)
  verdict_once ts (Refused us) (Read ps) p q = absurd (p.not_whole ps q.whole)
  verdict_once ts (Refused us) (Refused vs) p q = ap (λ xs. Refused xs) (refused_once g s ts vs us q p)
  verdict_once ts (Refused us) (TooLarge vs) p q = absurd (p.none_large vs q.is_large)
  verdict_once ts (TooLarge us) (Read ps) p q = absurd (q.none_large us p.is_large)
  verdict_once ts (TooLarge us) (Refused vs) p q = absurd (q.none_large us p.is_large)
  verdict_once ts (TooLarge us) (TooLarge vs) p q = ap (λ xs. TooLarge xs) (large_once g s ts vs us q p)

  -- the verdict that reading gives is the one
  pub verdict_only : (ts : List T) (out : Outcome O T) → Reads g tables s ts out → IsOnlyVerdict g s ts (verdict_of out)
  verdict_only ts out r = record { is_true = verdict_true ts out r; is_only = λ w q. verdict_once ts (verdict_of out) w (verdict_true ts out r) q }
