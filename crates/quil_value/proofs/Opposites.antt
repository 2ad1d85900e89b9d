-- The opposite of a value is one.
use Rattle.std.proofs.Common.{◌≡◌, sym, ◌∙◌, ap, ap₂, subst, ℕ, ◌<◌, ◌%◌, ◌==◌, ◌^◌, Bool, ◌&&◌}
use Rattle.std.specs.Prelude.{ℤ, neg_ℤ, nat_abs, nat_le}
use Rattle.std.specs.Int.{IsGcd}
use Rattle.qvm_ring.specs.Ring.{Element, negated, is_divisible}
use Rattle.qvm_ring.proofs.Elements.{abs_neg}
use Rattle.quil_number.specs.declared.fraction.Fraction.{Fraction}
use Rattle.quil_value.specs.Exact.{Exact, Ring, Rational, Pi, ImagPi, is_within, opposite_of}
use Rattle.quil_value.specs.Forms.{IsInLowestTerms, IsRational, IsAngle, IsForm}
use Rattle.quil_value.specs.Value.{IsValue}

divisible_negated : (z : Element) → is_divisible (negated z) ≡ is_divisible z
divisible_negated z = cc (abs_neg z.a, abs_neg z.b, abs_neg z.c, abs_neg z.d)

opposite_lowest : (x : Fraction) → IsInLowestTerms x → IsInLowestTerms (record { p = neg_ℤ x.p; q = x.q })
opposite_lowest x h = record { lowest = subst (λ (n : ℕ). IsGcd n x.q 1) (sym (abs_neg x.p)) h.lowest; some = h.some }

opposite_angle : (x : Fraction) → IsAngle x → IsAngle (record { p = neg_ℤ x.p; q = x.q })
opposite_angle x h = record { form = opposite_lowest x h.form; some = subst (λ (n : ℕ). 0 < n) (sym (abs_neg x.p)) h.some }

opposite_form : (x : Exact) → IsForm x → IsForm (opposite_of x)
opposite_form (Ring z m) h = λ l. divisible_negated z ∙ h l
opposite_form (Rational x) h = record { form = opposite_lowest x h.form; other = h.other }
opposite_form (Pi x) h = opposite_angle x h
opposite_form (ImagPi x) h = opposite_angle x h

fraction_within : (x : Fraction) → (nat_le (nat_abs (neg_ℤ x.p)) (2 ^ 62) && nat_le x.q (2 ^ 62)) ≡ (nat_le (nat_abs x.p) (2 ^ 62) && nat_le x.q (2 ^ 62))
fraction_within x = ap (λ (n : ℕ). nat_le n (2 ^ 62) && nat_le x.q (2 ^ 62)) (abs_neg x.p)

opposite_within : (x : Exact) → is_within (opposite_of x) ≡ is_within x
opposite_within (Ring z m) = cc (abs_neg z.a, abs_neg z.b, abs_neg z.c, abs_neg z.d)
opposite_within (Rational x) = fraction_within x
opposite_within (Pi x) = fraction_within x
opposite_within (ImagPi x) = fraction_within x

pub opposite_value : (x : Exact) → IsValue x → IsValue (opposite_of x)
opposite_value x h = record { form = opposite_form x h.form; within = opposite_within x ∙ h.within }
