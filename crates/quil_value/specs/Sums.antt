-- Rational sums c1·r1 + .. + cn·rn + s of memory cells, for the parameters of gates: each c a rational, s a rational times π.
-- Nothing here has a width but the bounds.
use Rattle.std.specs.Prelude.{ℕ, ◌*◌, ◌^◌, ◌==◌, nat_le, ℤ, pos, ◌+ℤ◌, ◌*ℤ◌, neg_ℤ, nat_abs, int_lt, Bool, ◌&&◌, List, [], ◌∷◌, map, length, Result, Ok, Err, if◌then◌else◌}
use Rattle.quil_number.specs.declared.fraction.Fraction.{Fraction}
use Rattle.quil_number.specs.Fraction.{lowest}
use Rattle.quil_value.specs.declared.sums.Cell.{Cell}
use Rattle.quil_value.specs.declared.sums.Term.{Term}
use Rattle.quil_value.specs.Results.{and_then}
use Rattle.quil_value.specs.Exact.{is_near}
use Rattle.quil_value.specs.declared.lack.Lack.{Lack}
use Rattle.quil_value.specs.declared.lack.Lack.TheVariants.{NumberTooWide}

-- each cell once, with its factor; and the factor of π
pub record Sum : Type 0 where
  pub terms : List Term
  pub own : Fraction

-- ---- rationals in lowest terms, within the bounds

abbrev pub ratio : ℤ → ℕ → Result Fraction Lack
ratio p q =
    let x = lowest p q in
    if is_near x.p && nat_le x.q (2 ^ 62) then Ok x else Err NumberTooWide

abbrev pub ratio_sum : Fraction → Fraction → Result Fraction Lack
ratio_sum x y = ratio (x.p *ℤ pos y.q +ℤ y.p *ℤ pos x.q) (x.q * y.q)

abbrev pub ratio_product : Fraction → Fraction → Result Fraction Lack
ratio_product x y = ratio (x.p *ℤ y.p) (x.q * y.q)

-- q/p, for p/q that isn't 0
abbrev pub inverse : Fraction → Fraction
inverse x = if int_lt x.p (pos 0) then record { p = neg_ℤ (pos x.q); q = nat_abs x.p } else record { p = pos x.q; q = nat_abs x.p }

-- ---- sums of sums

abbrev pub is_same_cell : Cell → Cell → Bool
is_same_cell c d = c.region == d.region && c.index == d.index

-- the terms, with one more: the factors of one cell are added
abbrev pub with_term : List Term → Term → Result (List Term) Lack
with_term [] t = Ok (t ∷ [])
with_term (u ∷ us) t =
    if is_same_cell u.cell t.cell then and_then (ratio_sum u.factor t.factor) (λ f. Ok (record { cell = u.cell; factor = f } ∷ us))
    else and_then (with_term us t) (λ ts. Ok (u ∷ ts))

-- a sum has at most so many cells
abbrev pub most_cells : ℕ
most_cells = 16

abbrev pub limited : List Term → Result (List Term) Lack
limited ts = if nat_le (length ts) most_cells then Ok ts else Err NumberTooWide

abbrev pub with_terms : List Term → List Term → Result (List Term) Lack
with_terms ts [] = Ok ts
with_terms ts (u ∷ us) = and_then (and_then (with_term ts u) limited) (λ vs. with_terms vs us)

abbrev pub sum_of_sums : Sum → Sum → Result Sum Lack
sum_of_sums x y = and_then (with_terms x.terms y.terms) (λ ts. and_then (ratio_sum x.own y.own) (λ s. Ok (record { terms = ts; own = s })))

-- each factor times a rational; one that becomes 0 still counts
abbrev pub scaled_terms : List Term → Fraction → Result (List Term) Lack
scaled_terms [] c = Ok []
scaled_terms (t ∷ ts) c = and_then (ratio_product t.factor c) (λ f. and_then (scaled_terms ts c) (λ us. Ok (record { cell = t.cell; factor = f } ∷ us)))

abbrev pub scaled_sum : Sum → Fraction → Result Sum Lack
scaled_sum x c = and_then (scaled_terms x.terms c) (λ ts. and_then (ratio_product x.own c) (λ s. Ok (record { terms = ts; own = s })))

abbrev pub opposite_term : Term → Term
opposite_term t = record { cell = t.cell; factor = record { p = neg_ℤ t.factor.p; q = t.factor.q } }

abbrev pub opposite_sum : Sum → Sum
opposite_sum x = record { terms = map opposite_term x.terms; own = record { p = neg_ℤ x.own.p; q = x.own.q } }

abbrev pub zero_ratio : Fraction
zero_ratio = record { p = pos 0; q = 1 }

-- the sum that is a cell
abbrev pub cell_sum : Cell → Sum
cell_sum c = record { terms = record { cell = c; factor = record { p = pos 1; q = 1 } } ∷ []; own = zero_ratio }
