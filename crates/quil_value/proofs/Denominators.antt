-- Common denominators of sums.
use Rattle.std.proofs.Common.{◌≡◌, ◌<◌, ◌≤◌, ◌+◌, ◌*◌, ◌/◌, ◌^◌, ◌&&◌, ℕ, zero, suc, refl, sym, subst, ◌∙◌, ap, ap₂, arith, true, false, Bool, inl, inr, List, [], ◌∷◌, length, get_or, map, Option, Some, None, Result, Ok, Err, All, le_refl, le_trans}
use Rattle.std.specs.Prelude.{ℤ, pos, negsuc, neg_ℤ, nat_abs, nat_le, fold, int_div, if◌then◌else◌}
use Rattle.std.specs.List.{list_all}
use Rattle.std.specs.Int.{IsGcd, ◌∣◌}
use Rattle.std.proofs.Math.Nat.{mul-div_cancel', mul-le-mul_left, div-le_self}
use Rattle.std.proofs.lemmas.Bool.{cases_lt, cases_Bool, lt-leb, le-leb}
use Rattle.std.proofs.lemmas.List.Elements.{All-head, All-tail}
use Rattle.std.proofs.lemmas.List.Folds.{list_all-map, list_all_at}
use Rattle.quil_number.specs.declared.fraction.Fraction.{Fraction}
use Rattle.quil_number.specs.Divisor.{common_divisor}
use Rattle.quil_number.specs.Fraction.{lowest}
use Rattle.quil_number.proofs.Divisors.{common_divisor_is}
use Rattle.quil_number.proofs.Meanings.{lowest_terms}
use Rattle.quil_value.specs.declared.lack.Lack.{Lack}
use Rattle.quil_value.specs.declared.lack.Lack.TheVariants.{NumberTooWide}
use Rattle.quil_value.specs.declared.sums.Term.{Term}
use Rattle.quil_value.specs.declared.angle_sum.Count.{Count}
use Rattle.std.proofs.lemmas.List.{length-map}
use Rattle.quil_value.specs.Sums.{Sum, most_cells}
use Rattle.quil_value.specs.SumForms.{IsRatio, AreTerms, IsSum, IsAngleSum}
use Rattle.quil_value.specs.AngleSums.{common_multiple, counted_over, is_small, is_narrow}
use Rattle.quil_value.specs.Runs.{narrow_counts}

pub quotient_some : (a b g : ℕ) → IsGcd a b g → 0 < b → 0 < b / g
quotient_some a b g h some = elim (cases_lt 0 (b / g)) [
  | inl above ↦ above
  | inr none ↦
      let zeroed : b / g ≡ 0 = omega arith in
      let whole : g * (b / g) ≡ b = mul-div_cancel' g h.1 in
      let nothing : g * 0 ≡ b = (rw zeroed at whole) in
      absurd (omega (arith, nothing))
]

pub times_more : (a k : ℕ) → 0 < k → a ≤ a * k
times_more a k some = let h : 1 ≤ k = omega arith in omega (arith, mul-le-mul_left a h)

pub multiple_more : (a b : ℕ) → 0 < b → a ≤ common_multiple a b
multiple_more a b some = times_more a (b / common_divisor a b) (quotient_some a b (common_divisor a b) (common_divisor_is a b) some)

-- a common multiple only grows
pub common_grows : (ts : List Term) (a : ℕ) → All (λ t. IsRatio t.factor) ts → a ≤ fold (λ q t. common_multiple q t.factor.q) a ts
common_grows [] a h = le_refl a
common_grows (t ∷ ts) a h =
    let here = All-head (λ u. IsRatio u.factor) t ts h in
    le_trans (multiple_more a t.factor.q here.form.some) (common_grows ts (common_multiple a t.factor.q) (All-tail (λ u. IsRatio u.factor) t ts h))

pub above_bound : (ts all : List Term) (a start bound : ℕ) → fold (λ q t. common_multiple q t.factor.q) a ts ≡ fold (λ q t. common_multiple q t.factor.q) start all → bound < a → All (λ t. IsRatio t.factor) ts
    → nat_le (fold (λ q t. common_multiple q t.factor.q) start all) bound ≡ false
above_bound ts all a start bound e over h =
    let more = common_grows ts a h in
    lt-leb _ bound (subst (λ n. bound < n) e (omega arith))

abs_negated : (n : ℕ) → nat_abs (neg_ℤ (pos n)) ≡ n
abs_negated zero = refl
abs_negated (suc n) = refl

pub lowest_smaller : (p : ℤ) (q : ℕ) → nat_abs (lowest p q).p ≤ nat_abs p
unfolding lowest
lowest_smaller (pos a) q = div-le_self a (common_divisor a q)
lowest_smaller (negsuc a) q = subst (λ n. n ≤ suc a) (sym (abs_negated (suc a / common_divisor (suc a) q))) (div-le_self (suc a) (common_divisor (suc a) q))

pub lowest_some : (p : ℤ) (q : ℕ) → 0 < q → 0 < (lowest p q).q
lowest_some p q some = (lowest_terms p q some).some

-- ---- counts

abbrev count_of : ℕ → Term → Count
count_of n t = record { cell = t.cell; count = counted_over n t.factor }

pub not_chosen : {A : Type 0} (b : Bool) (y : A) → None ≡ (if b then Some y else None) → b ≡ false
not_chosen true y e = absurd cc
not_chosen false y e = refl

pub wide_count : (n : ℕ) (ts : List Term) (i : ℕ) (d : Term) → i < length ts → is_small (counted_over n (get_or ts i d).factor) ≡ false → narrow_counts n ts ≡ Err NumberTooWide
wide_count n ts i d lt wide =
    let one = list_all_at (λ (t : Term). is_small (counted_over n t.factor)) ts i d lt wide in
    let all : list_all (λ (c : Count). is_small c.count) (map (count_of n) ts) ≡ false = list_all-map (λ (c : Count). is_small c.count) (count_of n) ts ∙ one in
    ap (λ (b : Bool). if b then Ok (map (count_of n) ts) else Err NumberTooWide) all

narrow_is : (n : ℕ) (ts : List Term) (cs : List Count) → narrow_counts n ts ≡ Ok cs → (map (count_of n) ts ≡ cs) × (list_all (λ (c : Count). is_small c.count) (map (count_of n) ts) ≡ true)
narrow_is n ts cs e = elim (cases_Bool (list_all (λ (c : Count). is_small c.count) (map (count_of n) ts))) [
  | inl holds ↦ let f : Ok (map (count_of n) ts) ≡ Ok cs = (rw holds at e) in (cc f, holds)
  | inr fails ↦ let f : Err NumberTooWide ≡ Ok cs = (rw fails at e) in absurd cc
]

pub angle_form : (ts : List Term) (n : ℕ) (given own : ℤ) (cs : List Count) → given ≡ own → 0 < n → n ≤ 2 ^ 20 → AreTerms ts → is_small own ≡ true → narrow_counts n ts ≡ Ok cs
    → IsAngleSum (record { common = n; counts = cs; own = given })
angle_form ts n given own cs same some bound h narrow e =
    let all = narrow_is n ts cs e in
    let within : nat_le n (2 ^ 20) ≡ true = le-leb n (2 ^ 20) bound in
    let small : is_small given ≡ true = ap is_small same ∙ narrow in
    let each : list_all (λ (c : Count). is_small c.count) cs ≡ true = subst (λ (ds : List Count). list_all (λ (c : Count). is_small c.count) ds ≡ true) all.0 all.1 in
    record {
      some = some;
      narrow = rw (within, small, each) refl;
      most = subst (λ (ds : List Count). length ds ≤ most_cells) all.0 (subst (λ k. k ≤ most_cells) (sym (length-map ts (count_of n))) h.most);
    }
