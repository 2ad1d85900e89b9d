-- Square roots of fractions and how large they are.
use Rattle.std.proofs.Common.{◌≡◌, refl, sym, ◌∙◌, ap, subst, ℕ, zero, suc, ◌*◌, ◌/◌, ◌^◌, ◌<◌, ◌≤◌, Option, Some, None, arith}
use Rattle.std.specs.Prelude.{ℤ, pos, negsuc, neg_ℤ, nat_abs, int_div}
use Rattle.std.proofs.Math.Nat.{div-le_self}
use Rattle.quil_number.specs.declared.fraction.Fraction.{Fraction}
use Rattle.quil_number.specs.Divisor.{common_divisor}
use Rattle.quil_number.specs.Fraction.{lowest}
use Rattle.quil_number.specs.Root.{root, over_root, fraction_root}
use Rattle.quil_number.proofs.Meanings.{lowest_terms}
use Rattle.quil_number.proofs.Roots.{root_squared}

-- r is from 0 on, and its square is p/q
pub record IsRootOf (p : ℤ) (q : ℕ) (r : Fraction) : Type 0 where
  pub sign : r.p ≡ pos (nat_abs r.p)
  pub top : p ≡ pos (nat_abs r.p * nat_abs r.p)
  pub bottom : q ≡ r.q * r.q

found_by : (n q : ℕ) (r : Fraction) (o s : Option ℕ) → root n ≡ o → root q ≡ s → Some r ≡ over_root o s → IsRootOf (pos n) q r
found_by n q r (Some a) (Some b) e f h =
    let k : r ≡ record { p = pos a; q = b } = cc h in
    subst (IsRootOf (pos n) q) (sym k) (record { sign = refl; top = ap pos (sym (root_squared n a e)); bottom = sym (root_squared q b f) })
found_by n q r (Some a) None e f h = absurd (cc h)
found_by n q r None s e f h = absurd (cc h)

pub root_found : (p : ℤ) (q : ℕ) (r : Fraction) → Some r ≡ fraction_root p q → IsRootOf p q r
root_found (pos n) q r h = found_by n q r (root n) (root q) refl refl h
root_found (negsuc n) q r h = absurd (cc h)

below_square : (r : ℕ) → r ≤ r * r
below_square zero = omega arith
below_square (suc r) = omega arith

some_below_square : (r : ℕ) → 0 < r * r → 0 < r
some_below_square zero h = let z : 0 * 0 ≡ 0 = refl in absurd (omega (arith, z, h))
some_below_square (suc r) h = omega arith

pub record IsSmallRoot (p : ℤ) (q : ℕ) (r : Fraction) : Type 0 where
  pub numerator : nat_abs r.p ≤ nat_abs p
  pub some : 0 < r.q
  pub denominator : r.q ≤ q

pub root_small : (p : ℤ) (q : ℕ) (r : Fraction) → 0 < q → Some r ≡ fraction_root p q → IsSmallRoot p q r
root_small p q r some h =
    let k = root_found p q r h in
    record {
      numerator = subst (λ (x : ℤ). nat_abs r.p ≤ nat_abs x) (sym k.top) (below_square (nat_abs r.p));
      some = some_below_square r.q (subst (λ n. 0 < n) k.bottom some);
      denominator = subst (λ n. r.q ≤ n) (sym k.bottom) (below_square r.q);
    }

size_negated : (m : ℕ) → nat_abs (neg_ℤ (pos m)) ≡ m
size_negated zero = refl
size_negated (suc m) = refl

quotient_small : (p : ℤ) (g : ℕ) → nat_abs (int_div p (pos g)) ≤ nat_abs p
quotient_small (pos n) g = div-le_self n g
quotient_small (negsuc n) g = subst (λ m. m ≤ suc n) (sym (size_negated (suc n / g))) (div-le_self (suc n) g)

pub record IsSmallFraction (p : ℤ) (q : ℕ) (x : Fraction) : Type 0 where
  pub numerator : nat_abs x.p ≤ nat_abs p
  pub some : 0 < x.q
  pub denominator : x.q ≤ q

pub lowest_small : (p : ℤ) (q : ℕ) (x : Fraction) → x ≡ lowest p q → 0 < q → IsSmallFraction p q x
unfolding lowest
lowest_small p q x e some = subst (IsSmallFraction p q) (sym e) (record {
  numerator = quotient_small p (common_divisor (nat_abs p) q);
  some = (lowest_terms p q some).some;
  denominator = div-le_self q (common_divisor (nat_abs p) q);
})
