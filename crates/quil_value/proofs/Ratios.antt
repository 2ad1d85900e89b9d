-- The form of rationals in lowest terms.
use Rattle.std.proofs.Common.{◌≡◌, ◌<◌, ◌≤◌, ◌^◌, ℕ, zero, suc, refl, sym, subst, ◌∙◌, ap, arith, true, false, ◌&&◌, Bool}
use Rattle.std.specs.Prelude.{ℤ, pos, negsuc, neg_ℤ, nat_abs, nat_le, int_lt, if◌then◌else◌}
use Rattle.std.specs.Int.{IsGcd}
use Rattle.std.proofs.lemmas.Nat.Gcd.{IsGcd-swap}
use Rattle.std.proofs.lemmas.Bool.{and_parts}
use Rattle.quil_number.specs.declared.fraction.Fraction.{Fraction}
use Rattle.quil_number.specs.Fraction.{lowest}
use Rattle.quil_number.proofs.Meanings.{lowest_terms}
use Rattle.quil_value.specs.Exact.{is_near}
use Rattle.quil_value.specs.Forms.{IsInLowestTerms}
use Rattle.quil_value.specs.Sums.{inverse}
use Rattle.quil_value.specs.SumForms.{IsRatio}

pub ratio_form : (p : ℤ) (q : ℕ) (x : Fraction) → x ≡ lowest p q → 0 < q → (is_near x.p && nat_le x.q (2 ^ 62)) ≡ true → IsRatio x
ratio_form p q x e some within =
    let form = lowest_terms p q some in
    let low : IsInLowestTerms (lowest p q) = record { lowest = form.lowest; some = form.some } in
    record { form = subst IsInLowestTerms (sym e) low; within = within }

abs_negated : (z : ℤ) → nat_abs (neg_ℤ z) ≡ nat_abs z
abs_negated (pos zero) = refl
abs_negated (pos (suc n)) = refl
abs_negated (negsuc n) = refl

pub opposite_form : (x : Fraction) → IsRatio x → IsRatio (record { p = neg_ℤ x.p; q = x.q })
opposite_form x h = record {
  form = record { lowest = subst (λ n. IsGcd n x.q 1) (sym (abs_negated x.p)) h.form.lowest; some = h.form.some };
  within = ap (λ n. nat_le n (2 ^ 62) && nat_le x.q (2 ^ 62)) (abs_negated x.p) ∙ h.within;
}

both_within : (p q : ℕ) → (nat_le p (2 ^ 62) && nat_le q (2 ^ 62)) ≡ true → (nat_le q (2 ^ 62) && nat_le p (2 ^ 62)) ≡ true
both_within p q h = let both = and_parts (nat_le p (2 ^ 62)) (nat_le q (2 ^ 62)) h in rw (both.0, both.1) refl

pub inverse_form : (x : Fraction) → IsRatio x → 0 < nat_abs x.p → IsRatio (inverse x)
inverse_form x h some =
    let over : IsRatio (record { p = pos x.q; q = nat_abs x.p }) = record {
      form = record { lowest = IsGcd-swap (nat_abs x.p) x.q 1 h.form.lowest; some = some };
      within = both_within (nat_abs x.p) x.q h.within;
    } in
    elim (int_lt x.p (pos 0)) as (λ (b : Bool). IsRatio (if b then record { p = neg_ℤ (pos x.q); q = nat_abs x.p } else record { p = pos x.q; q = nat_abs x.p })) [
      | true ↦ opposite_form (record { p = pos x.q; q = nat_abs x.p }) over
      | false ↦ over
    ]

pub same_form : (x y : Fraction) → x ≡ y → IsRatio y → IsRatio x
same_form x y e h = subst IsRatio (sym e) h
