-- For the top of a reader: the verdict that its ending means, and the place of the tokens that it left.
use Rattle.std.proofs.Common.{◌≡◌, ◌≤◌, ◌<◌, ◌+◌, ◌-◌, suc, true, List, [], ◌∷◌, ◌++◌, length, drop, sym, ◌∙◌, ap, subst, length-append, arith}
use Rattle.std.proofs.Math.Seq.{drop-append_seam}
use Rattle.quil_shape.specs.Shape.{Shape, Grammar}
use Rattle.quil_shape.specs.Condition.{Tables, is_decided_by_one_token}
use Rattle.quil_shape.specs.Verdict.{IsRefusedAt, IsTooLargeAt, IsOnlyVerdict}
use Rattle.quil_shape.specs.Outcome.{verdict_of}
use Rattle.quil_shape.specs.Outcome.Outcome.{Made, Stuck, Large}
use Rattle.quil_shape.specs.Verdict.Verdict.{Refused, TooLarge}
use Rattle.quil_shape.specs.Reads.{GoesOn, StopsAt, ExceedsAt}
use Rattle.quil_shape.proofs.Reading.{goes_to_end, goes_to_stop, goes_to_large, stops_behind, exceeds_behind}
use Rattle.quil_shape.proofs.Verdicts.{verdict_only}

module _ {C O R K T : Type 0} (g : Grammar C O R K T) (tables : Tables R K) (s : Shape C O R) (decided : is_decided_by_one_token g tables s ≡ true) where
  -- nothing is to be read: what is left decides
  pub end_verdict : {ts us : List T} {os : List O} → GoesOn g tables (s ∷ []) ts [] [] us os → IsOnlyVerdict g s ts (verdict_of (Made os us))
  end_verdict {ts = ts} {us = us} {os = os} p = verdict_only g tables s decided ts (Made os us) (goes_to_end p)

  -- a reader that halted
  pub halted_verdict : {ts us vs : List T} {os : List O} {todo : List (Shape C O R)} → GoesOn g tables (s ∷ []) ts [] todo us os → StopsAt g tables todo us os vs → IsOnlyVerdict g s ts (Refused vs)
  halted_verdict {ts = ts} {vs = vs} p q = verdict_only g tables s decided ts (Stuck vs) (goes_to_stop (stops_behind p q))

  -- a reader that met a token too large
  pub large_verdict : {ts us vs : List T} {os : List O} {todo : List (Shape C O R)} → GoesOn g tables (s ∷ []) ts [] todo us os → ExceedsAt g tables todo us os vs → IsOnlyVerdict g s ts (TooLarge vs)
  large_verdict {ts = ts} {vs = vs} p q = verdict_only g tables s decided ts (Large vs) (goes_to_large (exceeds_behind p q))

-- the tokens from the place on that so many are left at
pub drop_before : {T : Type 0} (ts before rest : List T) → ts ≡ before ++ rest → drop (length ts - length rest) ts ≡ rest
drop_before ts before rest e =
    let n : length ts - length rest ≡ length before = omega (arith, ap length e ∙ length-append before rest) in
    rw n (subst (λ xs. drop (length before) xs ≡ rest) (sym e) (drop-append_seam before rest))

module _ {C O R K T : Type 0} (g : Grammar C O R K T) (s : Shape C O R) where
  pub refused_place : (ts rest : List T) → IsRefusedAt g s ts rest → (length ts - length rest ≤ length ts) × (drop (length ts - length rest) ts ≡ rest)
  refused_place ts rest h = (omega arith, drop_before ts h.before rest h.splits)

  pub large_place : (ts rest : List T) → IsTooLargeAt g s ts rest → (length ts - length rest < length ts) × (drop (length ts - length rest) ts ≡ rest)
  large_place ts rest h =
      let large = h.is_large in
      let more : length rest ≡ suc (length large.behind) = ap length large.is_first in
      let all : length ts ≡ length large.before + length rest = ap length large.splits ∙ length-append large.before rest in
      (omega arith, drop_before ts large.before rest large.splits)
