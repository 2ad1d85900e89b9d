-- Numerators over √2^m, and their norms.
use Rattle.std.proofs.Common.{◌≡◌, refl, sym, ◌∙◌, ap, ℕ, zero, suc, ◌+◌, ◌-◌, ◌*◌, ◌^◌, ◌<◌, ◌≤◌, List, [], ◌∷◌, length, get_or, drop, max, add-one, drop-cons, arith}
use Rattle.std.specs.Prelude.{ℤ, ◌+ℤ◌, ◌-ℤ◌, nat_abs, nat_le, Bool, true, false, ◌&&◌}
use Rattle.std.proofs.lemmas.Bool.{leb-true, leb-false}
use Rattle.std.specs.List.{fold}
use Rattle.std.proofs.Math.Nat.{mul-le-mul}
use Rattle.std.proofs.Math.IntN.{+ℤ_comm}
use Rattle.qvm_ring.specs.Ring.{Element, root_two, times, square, norm_whole}
use Rattle.qvm_ring.specs.Views.{at, wide_element}
use Rattle.qvm_ring.specs.Multiply.{IsWithin}
use Rattle.qvm_ring.proofs.RingLemmas.{parallelogram, and_left, and_right}
use Rattle.qvm_ring.proofs.Associative.{times_assoc}
use Rattle.quil_value.specs.declared.value.RingNumber.{RingNumber}
use Rattle.quil_value.proofs.RootTwos.{times_root_two}
use Rattle.quil_value.proofs.Powers.{times_comm, times_unit_right}
use Rattle.quil_code.specs.Controls.{root_two_to}
use Rattle.quil_gate.specs.Definitions.{Entry, numerators}
use Rattle.quil_gate.specs.Reading.{entries_of, is_moderate, HasGreat}

-- ---- norms

greater_square : (n x : ℕ) → n < x → n * n < x * x
greater_square n x h = let l : suc n ≤ x = omega arith in omega (arith, mul-le-mul l l)

great_square : (x : ℤ) → 2 ^ 20 < nat_abs x → 2 ^ 40 < square x
great_square x h = omega (arith, greater_square (2 ^ 20) (nat_abs x) h)

pub within_if_small : (z : Element) → is_moderate z ≡ true → IsWithin (2 ^ 20) z
within_if_small z e =
    let p = nat_le (nat_abs z.a) (2 ^ 20) in let q = nat_le (nat_abs z.b) (2 ^ 20) in let r = nat_le (nat_abs z.c) (2 ^ 20) in let s = nat_le (nat_abs z.d) (2 ^ 20) in
    let pqr = and_left (p && q && r) s e in
    let pq = and_left (p && q) r pqr in
    record {
      a = leb-true (nat_abs z.a) (2 ^ 20) (and_left p q pq);
      b = leb-true (nat_abs z.b) (2 ^ 20) (and_right p q pq);
      c = leb-true (nat_abs z.c) (2 ^ 20) (and_right (p && q) r pqr);
      d = leb-true (nat_abs z.d) (2 ^ 20) (and_right (p && q && r) s e);
    }

great_part : (p q : Bool) (x : ℤ) (n : ℕ) → (p ≡ false → 2 ^ 40 < n) → square x ≤ n → q ≡ nat_le (nat_abs x) (2 ^ 20) → (p && q) ≡ false → 2 ^ 40 < n
great_part false q x n h l e f = h refl
great_part true q x n h l e f = omega (arith, great_square x (leb-false (nat_abs x) (2 ^ 20) (sym e ∙ f)), l)

pub great_unless_small : (z : Element) → is_moderate z ≡ false → 2 ^ 40 < norm_whole z
great_unless_small z e =
    let p = nat_le (nat_abs z.a) (2 ^ 20) in let q = nat_le (nat_abs z.b) (2 ^ 20) in let r = nat_le (nat_abs z.c) (2 ^ 20) in let s = nat_le (nat_abs z.d) (2 ^ 20) in
    great_part (p && q && r) s z.d (norm_whole z)
    (great_part (p && q) r z.c (norm_whole z) (great_part p q z.b (norm_whole z) (great_part true p z.a (norm_whole z) (λ f. absurd (cc)) (omega arith) refl) (omega arith) refl) (omega arith) refl)
    (omega arith) refl e

-- √2 doubles the norm
norm_rooted : (z : Element) → norm_whole (times root_two z) ≡ 2 * norm_whole z
norm_rooted z =
    let e : norm_whole (times root_two z) ≡ square (z.b -ℤ z.d) + square (z.a +ℤ z.c) + square (z.b +ℤ z.d) + square (z.c -ℤ z.a) = ap norm_whole (times_root_two z) in
    let f : square (z.c +ℤ z.a) ≡ square (z.a +ℤ z.c) = ap square (+ℤ_comm z.c z.a) in
    omega (arith, e, f, parallelogram z.b z.d, parallelogram z.c z.a)

-- a factor √2 of the power goes to the number
root_moved : (z p : Element) → times (times root_two z) p ≡ times z (times root_two p)
root_moved z p = ap (λ w. times w p) (times_comm root_two z) ∙ times_assoc z root_two p

norm_raised : (j : ℕ) (z : Element) → norm_whole z ≤ norm_whole (times z (root_two_to j))
norm_raised zero z = omega (arith, ap norm_whole (times_unit_right z))
norm_raised (suc j) z =
    let more : norm_whole (times root_two z) ≤ norm_whole (times (times root_two z) (root_two_to j)) = norm_raised j (times root_two z) in
    omega (arith, more, norm_rooted z, ap norm_whole (root_moved z (root_two_to j)))

-- ---- the power of √2 so far, and what is left of it

pub raised_first : (k : ℕ) (z : Element) → times z (root_two_to (k - 0)) ≡ times z (root_two_to k)
raised_first k z = ap (λ (n : ℕ). times z (root_two_to n)) (let e : k - 0 ≡ k = omega arith in e)

pub raised_next : (k i : ℕ) (z y w : Element) → i < k → y ≡ times root_two z → times z (root_two_to (k - i)) ≡ w → times y (root_two_to (k - (i + 1))) ≡ w
raised_next k i z y w h e so_far =
    let left : suc (k - (i + 1)) ≡ k - i = omega arith in
    ap (λ x. times x (root_two_to (k - (i + 1)))) e ∙ root_moved z (root_two_to (k - (i + 1))) ∙ ap (λ (n : ℕ). times z (root_two_to n)) left ∙ so_far

pub raised_last : (k i : ℕ) (z w : Element) → k ≤ i → times z (root_two_to (k - i)) ≡ w → z ≡ w
raised_last k i z w h so_far =
    let none : 0 ≡ k - i = omega arith in
    sym (times_unit_right z) ∙ ap (λ (n : ℕ). times z (root_two_to n)) none ∙ so_far

pub raised_great : (k i : ℕ) (z w : Element) → 2 ^ 40 < norm_whole z → times z (root_two_to (k - i)) ≡ w → 2 ^ 40 < norm_whole w
raised_great k i z w h so_far = omega (arith, h, norm_raised (k - i) z, ap norm_whole so_far)

-- ---- lists of entries

pub greatest_next : (rs : List RingNumber) (i : ℕ) (d : RingNumber) (n m w : ℕ) → i < length rs → m ≡ max n (get_or rs i d).m →
    fold (λ g (e : Entry). max g e.1) n (entries_of (drop i rs)) ≡ w → fold (λ g (e : Entry). max g e.1) m (entries_of (drop (i + 1) rs)) ≡ w
greatest_next rs i d n m w h e so_far =
    let split : drop i rs ≡ get_or rs i d ∷ drop (i + 1) rs = rw (add-one i) (drop-cons rs i d h) in
    ap (λ (g : ℕ). fold (λ g (e : Entry). max g e.1) g (entries_of (drop (i + 1) rs))) e
    ∙ ap (λ (l : List RingNumber). fold (λ g (e : Entry). max g e.1) n (entries_of l)) (sym split) ∙ so_far

numerator_at : (m : ℕ) (rs : List RingNumber) (i : ℕ) (d : RingNumber) → i < length rs →
    at (numerators m (entries_of rs)) i ≡ times (wide_element (get_or rs i d).num) (root_two_to (m - (get_or rs i d).m))
numerator_at m [] i d h = absurd (omega arith)
numerator_at m (r ∷ rs) zero d h = refl
numerator_at m (r ∷ rs) (suc i) d h = numerator_at m rs i d (omega arith)

pub numerators_length : (m : ℕ) (rs : List RingNumber) → length (numerators m (entries_of rs)) ≡ length rs
numerators_length m [] = refl
numerators_length m (r ∷ rs) = ap suc (numerators_length m rs)

pub has_great : (m : ℕ) (rs : List RingNumber) (i : ℕ) (d : RingNumber) → i < length rs →
    2 ^ 40 < norm_whole (times (wide_element (get_or rs i d).num) (root_two_to (m - (get_or rs i d).m))) → HasGreat (numerators m (entries_of rs))
has_great m rs i d h great = record {
  place = i;
  within = omega (arith, numerators_length m rs, h);
  great = omega (arith, great, ap norm_whole (numerator_at m rs i d h));
}
