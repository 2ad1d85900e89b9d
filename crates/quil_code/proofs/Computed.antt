-- Tests that are computed: equal elements, a unitary gate, small entries; and what they say.
use Rattle.std.proofs.Common.{◌≡◌, refl, sym, ap, ◌∙◌, ℕ, zero, suc, ◌<◌, ◌⊎◌, inl, inr, ◌^◌, Bool, true, arith}
use Rattle.std.specs.Prelude.{ℤ, pos, negsuc, nat_abs, nat_lt, ◌&&◌}
use Rattle.std.proofs.lemmas.Bool.{eqb-true, eq-eqb, ltb-true}
use Rattle.qvm_ring.specs.Ring.{Element}
use Rattle.qvm_ring.specs.Gate.{Gate, gram_entry, cogram_entry, identity_entry, IsUnitary}
use Rattle.qvm_ring.specs.Multiply.{IsWithin}
use Rattle.quil_code.specs.Unitary.{each_below, same_whole, same, has_products, is_unitary}
use Rattle.qvm_ring.proofs.RingLemmas.{same_element, and_left, and_right}

-- ---- tests at each number below n

at_or_below : (i n : ℕ) → i < suc n → (i ≡ n) ⊎ (i < n)
at_or_below i n h = grind arith

pub below : (n : ℕ) (test : ℕ → Bool) → each_below n test ≡ true → (k : ℕ) → k < n → test k ≡ true
below zero test e k h = absurd (omega arith)
below (suc n) test e k h = elim (at_or_below k n h) [
  | inl p ↦ ap test p ∙ and_right (each_below n test) (test n) e
  | inr l ↦ below n test (and_left (each_below n test) (test n) e) k l
]

both_true : (s t : Bool) → s ≡ true → t ≡ true → (s && t) ≡ true
both_true s t e h = ap (λ (b : Bool). b && t) e ∙ h

pub all_below : (n : ℕ) (test : ℕ → Bool) → ((k : ℕ) → k < n → test k ≡ true) → each_below n test ≡ true
all_below zero test h = refl
all_below (suc n) test h = both_true (each_below n test) (test n) (all_below n test (λ k l. h k (omega arith))) (h n (omega arith))

pub at_16 : (test : ℕ → Bool) → each_below 16 test ≡ true → (k : ℕ) → k < 16 → test k ≡ true
at_16 test e k h = below 16 test e k h

-- ---- equal elements

same_whole_is : (x y : ℤ) → same_whole x y ≡ true → x ≡ y
same_whole_is (pos m) (pos n) e = ap pos (eqb-true m n e)
same_whole_is (negsuc m) (negsuc n) e = ap negsuc (eqb-true m n e)
same_whole_is (pos m) (negsuc n) e = absurd (cc)
same_whole_is (negsuc m) (pos n) e = absurd (cc)

pub same_is : (x y : Element) → same x y ≡ true → x ≡ y
same_is x y e =
    let p = same_whole x.a y.a in let q = same_whole x.b y.b in let r = same_whole x.c y.c in let s = same_whole x.d y.d in
    let pqr = and_left (p && q && r) s e in
    let pq = and_left (p && q) r pqr in
    same_element x y (same_whole_is x.a y.a (and_left p q pq)) (same_whole_is x.b y.b (and_right p q pq)) (same_whole_is x.c y.c (and_right (p && q) r pqr)) (same_whole_is x.d y.d (and_right (p && q && r) s e))

same_whole_self : (x : ℤ) → same_whole x x ≡ true
same_whole_self (pos n) = eq-eqb n n refl
same_whole_self (negsuc n) = eq-eqb n n refl

same_self : (x : Element) → same x x ≡ true
same_self x =
    let p = same_whole x.a x.a in let q = same_whole x.b x.b in let r = same_whole x.c x.c in let s = same_whole x.d x.d in
    both_true (p && q && r) s (both_true (p && q) r (both_true p q (same_whole_self x.a) (same_whole_self x.b)) (same_whole_self x.c)) (same_whole_self x.d)

pub same_if : (x y : Element) → x ≡ y → same x y ≡ true
same_if x y e = ap (same x) (sym e) ∙ same_self x

-- ---- unitary gates

both_products : (g : Gate) → is_unitary g ≡ true → (r c : ℕ) → r < 2 ^ g.arity → c < 2 ^ g.arity → has_products g r c ≡ true
unfolding is_unitary
both_products g e r c h l = below (2 ^ g.arity) (has_products g r) (below (2 ^ g.arity) (λ i. each_below (2 ^ g.arity) (has_products g i)) e r h) c l

pub unitary_if : (g : Gate) → is_unitary g ≡ true → IsUnitary g
unitary_if g e = record {
  rows = λ r c i j. same_is (gram_entry g r c) (identity_entry g r c)
      (and_left (same (gram_entry g r c) (identity_entry g r c)) (same (cogram_entry g r c) (identity_entry g r c)) (both_products g e r c i j));
  columns = λ r c i j. same_is (cogram_entry g r c) (identity_entry g r c)
      (and_right (same (gram_entry g r c) (identity_entry g r c)) (same (cogram_entry g r c) (identity_entry g r c)) (both_products g e r c i j));
}

pub tested_if : (g : Gate) → IsUnitary g → is_unitary g ≡ true
unfolding is_unitary
tested_if g u = all_below (2 ^ g.arity) (λ row. each_below (2 ^ g.arity) (has_products g row)) (λ r i. all_below (2 ^ g.arity) (has_products g r) (λ c j.
    both_true (same (gram_entry g r c) (identity_entry g r c)) (same (cogram_entry g r c) (identity_entry g r c))
    (same_if (gram_entry g r c) (identity_entry g r c) (u.rows r c i j)) (same_if (cogram_entry g r c) (identity_entry g r c) (u.columns r c i j))))

-- ---- small entries

-- every coefficient is 2 at most
abbrev pub is_small : Element → Bool
is_small z = nat_lt (nat_abs z.a) 3 && nat_lt (nat_abs z.b) 3 && nat_lt (nat_abs z.c) 3 && nat_lt (nat_abs z.d) 3

abbrev pub has_small : ℕ → (ℕ → ℕ → Element) → Bool
has_small n entry = each_below n (λ row. each_below n (λ column. is_small (entry row column)))

within : (z : Element) → is_small z ≡ true → IsWithin 2 z
within z e =
    let p = nat_lt (nat_abs z.a) 3 in let q = nat_lt (nat_abs z.b) 3 in let r = nat_lt (nat_abs z.c) 3 in let s = nat_lt (nat_abs z.d) 3 in
    let pqr = and_left (p && q && r) s e in
    let pq = and_left (p && q) r pqr in
    let f : nat_abs z.a < 3 = ltb-true (nat_abs z.a) 3 (and_left p q pq) in
    let g : nat_abs z.b < 3 = ltb-true (nat_abs z.b) 3 (and_right p q pq) in
    let h : nat_abs z.c < 3 = ltb-true (nat_abs z.c) 3 (and_right (p && q) r pqr) in
    let i : nat_abs z.d < 3 = ltb-true (nat_abs z.d) 3 (and_right (p && q && r) s e) in
    record { a = omega (arith, f); b = omega (arith, g); c = omega (arith, h); d = omega (arith, i) }

pub small_if : (n : ℕ) (entry : ℕ → ℕ → Element) → has_small n entry ≡ true → (r c : ℕ) → r < n → c < n → IsWithin 2 (entry r c)
small_if n entry e r c i j =
    within (entry r c) (below n (λ t. is_small (entry r t)) (below n (λ s. each_below n (λ t. is_small (entry s t))) e r i) c j)
