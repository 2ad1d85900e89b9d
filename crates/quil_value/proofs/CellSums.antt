-- The form of sums.
use Rattle.std.proofs.Common.{◌≡◌, ◌<◌, ◌≤◌, ◌^◌, ◌&&◌, ◌∙◌, ℕ, refl, ap, arith, true, List, [], ◌∷◌, length, AllPairs}
use Rattle.std.specs.Prelude.{ℤ, pos, nat_abs, nat_le}
use Rattle.std.proofs.Math.Nat.{one-dvd}
use Rattle.std.proofs.lemmas.List.Elements.{All-nil, All-cons}
use Rattle.quil_number.specs.declared.fraction.Fraction.{Fraction}
use Rattle.quil_value.specs.declared.sums.Cell.{Cell}
use Rattle.quil_value.specs.declared.sums.Term.{Term}
use Rattle.quil_value.specs.Sums.{Sum, cell_sum, zero_ratio}
use Rattle.quil_value.specs.SumForms.{IsRatio, AreApart, AreTerms, IsSum}

whole_form : (n : ℕ) → (p : ℤ) → nat_abs p ≡ n → nat_le n (2 ^ 62) ≡ true → IsRatio (record { p = p; q = 1 })
whole_form n p e h = record {
  form = record { lowest = (one-dvd (nat_abs p), one-dvd 1, λ d u v. v); some = omega arith };
  within = ap (λ (m : ℕ). nat_le m (2 ^ 62) && true) e ∙ ap (λ b. b && true) h;
}

pub zero_form : IsRatio zero_ratio
zero_form = whole_form 0 (pos 0) refl refl

one_form : IsRatio (record { p = pos 1; q = 1 })
one_form = whole_form 1 (pos 1) refl refl

one_pair : (t : Term) → AllPairs AreApart (t ∷ [])
one_pair t i j d lower within = absurd (omega arith)

pub cell_form : (c : Cell) → IsSum (cell_sum c)
cell_form c = record {
  terms = record {
    factors = All-cons (λ t. IsRatio t.factor) _ [] one_form (All-nil (λ t. IsRatio t.factor));
    apart = one_pair _;
    most = omega arith;
  };
  own = zero_form;
}

pub pi_form : (x : Fraction) → IsRatio x → IsSum (record { terms = []; own = x })
pi_form x h = record {
  terms = record { factors = All-nil (λ t. IsRatio t.factor); apart = λ i j d lower within. absurd (omega arith); most = omega arith };
  own = h;
}
