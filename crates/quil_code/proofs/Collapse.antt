-- The product of a controlled or forked gate is its block's product.
use Rattle.std.proofs.Common.{◌≡◌, ◌≢◌, refl, sym, ◌∙◌, ap, ℕ, suc, ◌+◌, ◌-◌, ◌*◌, ◌^◌, ◌<◌, ◌≤◌, ◌==◌, ◌⊎◌, inl, inr, Bool, true, false, List, [], ◌∷◌, ◌++◌, length, arith, length-append}
use Rattle.std.specs.Prelude.{if◌then◌else◌, nat_lt, None}
use Rattle.std.proofs.lemmas.Bool.Decides.{nat_tests}
use Rattle.qvm_ring.specs.Ring.{Element, nought, plus, times}
use Rattle.qvm_ring.specs.Ray.{Ray, amplitude_at}
use Rattle.qvm_ring.specs.Gate.{Gate, bit_of, with_bit, local_state, with_local, summed, product_at}
use Rattle.quil_code.specs.Controls.{root_two_to, idle, forked, first_half, second_half, under, block_at, block_product, IsFamily}
use Rattle.qvm_ring.proofs.Elements.{plus_nought, nought_plus, times_nought}
use Rattle.qvm_ring.proofs.Bits.{bit_of_below, with_own_bit, bit_of_with_other}
use Rattle.qvm_ring.proofs.LocalStates.{IsOther, AreDifferent, other_head, other_tail, different_head, different_tail, two_values, doubled, local_below, top_bit, with_local_more, with_own_local}
use Rattle.qvm_ring.proofs.Summed.{sum_same, sum_nought, sum_lone}
use Rattle.quil_code.proofs.SplitSums.{sum_split}

pub bit_cases : (x q : ℕ) → (bit_of x q ≡ 0) ⊎ (bit_of x q ≡ 1)
bit_cases x q = two_values (bit_of x q) (bit_of_below x q)

pub with_local_other : (qs : List ℕ) (q k x : ℕ) → IsOther q qs → bit_of (with_local qs k x) q ≡ bit_of x q
with_local_other [] q k x o = refl
with_local_other (p ∷ qs) q k x o =
    bit_of_with_other (with_local qs k x) p (bit_of k (length qs)) q (other_head q p qs o) (bit_of_below k (length qs))
    ∙ with_local_other qs q k x (other_tail q p qs o)

-- ---- entries

pub if_true : (b : Bool) (x y : Element) → b ≡ true → (if b then x else y) ≡ x
if_true b x y e = ap (λ (t : Bool). if t then x else y) e

pub if_false : (b : Bool) (x y : Element) → b ≡ false → (if b then x else y) ≡ y
if_false b x y e = ap (λ (t : Bool). if t then x else y) e

pub is_less : (m n : ℕ) → m < n → nat_lt m n ≡ true
is_less m n h = grind (arith, nat_tests)

pub isnt_less : (m n : ℕ) → n ≤ m → nat_lt m n ≡ false
isnt_less m n h = grind (arith, nat_tests)

module _ (g h : Gate) (r c : ℕ) where
  low_row : r < 2 ^ g.arity → (forked g h).entry r c ≡ (if nat_lt c (2 ^ g.arity) then g.entry r c else nought)
  low_row l = if_true (nat_lt r (2 ^ g.arity)) _ _ (is_less r (2 ^ g.arity) l)

  high_row : 2 ^ g.arity ≤ r → (forked g h).entry r c ≡ (if nat_lt c (2 ^ g.arity) then nought else h.entry (r - 2 ^ g.arity) (c - 2 ^ g.arity))
  high_row l = if_false (nat_lt r (2 ^ g.arity)) _ _ (isnt_less r (2 ^ g.arity) l)

  pub low_low : r < 2 ^ g.arity → c < 2 ^ g.arity → (forked g h).entry r c ≡ g.entry r c
  low_low l k = low_row l ∙ if_true (nat_lt c (2 ^ g.arity)) _ _ (is_less c (2 ^ g.arity) k)

  pub low_high : r < 2 ^ g.arity → 2 ^ g.arity ≤ c → (forked g h).entry r c ≡ nought
  low_high l k = low_row l ∙ if_false (nat_lt c (2 ^ g.arity)) _ _ (isnt_less c (2 ^ g.arity) k)

  pub high_low : 2 ^ g.arity ≤ r → c < 2 ^ g.arity → (forked g h).entry r c ≡ nought
  high_low l k = high_row l ∙ if_true (nat_lt c (2 ^ g.arity)) _ _ (is_less c (2 ^ g.arity) k)

  pub high_high : 2 ^ g.arity ≤ r → 2 ^ g.arity ≤ c → (forked g h).entry r c ≡ h.entry (r - 2 ^ g.arity) (c - 2 ^ g.arity)
  high_high l k = high_row l ∙ if_false (nat_lt c (2 ^ g.arity)) _ _ (isnt_less c (2 ^ g.arity) k)

-- ---- products

term : Gate → List ℕ → Ray → ℕ → ℕ → Element
term g qs ray x k = times (g.entry (local_state qs x) k) (amplitude_at ray (with_local qs k x))

pub both : (ray : Ray) (a a' : Element) (y y' : ℕ) → a ≡ a' → y ≡ y' → times a (amplitude_at ray y) ≡ times a' (amplitude_at ray y')
both ray a a' y y' e f = ap (λ (z : Element). times z (amplitude_at ray y)) e ∙ ap (λ (x : ℕ). times a' (amplitude_at ray x)) f

pub none : (ray : Ray) (a : Element) (y : ℕ) → a ≡ nought → times a (amplitude_at ray y) ≡ nought
none ray a y e = ap (λ (z : Element). times z (amplitude_at ray y)) e ∙ times_nought (amplitude_at ray y)

module _ (g h : Gate) (q : ℕ) (qs : List ℕ) (ray : Ray) (x : ℕ) (size : 2 ^ g.arity ≡ 2 ^ length qs) (other : IsOther q qs) where
  halves : product_at (forked g h) (q ∷ qs) ray x ≡ plus (summed (2 ^ length qs) (term (forked g h) (q ∷ qs) ray x)) (summed (2 ^ length qs) (λ k. term (forked g h) (q ∷ qs) ray x (2 ^ length qs + k)))
  unfolding term
  halves = ap (λ (n : ℕ). summed n (term (forked g h) (q ∷ qs) ray x)) (doubled (length qs)) ∙ sum_split (2 ^ length qs) (2 ^ length qs) (term (forked g h) (q ∷ qs) ray x)

  row_is : (b : ℕ) → bit_of x q ≡ b → local_state (q ∷ qs) x ≡ b * 2 ^ length qs + local_state qs x
  row_is b e = ap (λ (t : ℕ). t * 2 ^ length qs + local_state qs x) e

  -- the same state, where the qubit has its own value
  place_is : (k b : ℕ) → bit_of x q ≡ b → bit_of k (length qs) ≡ b → with_local (q ∷ qs) k x ≡ with_local qs k x
  place_is k b e f = ap (with_bit (with_local qs k x) q) (f ∙ sym e ∙ sym (with_local_other qs q k x other)) ∙ with_own_bit (with_local qs k x) q

  none_more : (k : ℕ) → k ≡ 0 * 2 ^ length qs + k
  none_more k = omega arith

  low_bit : (k : ℕ) → k < 2 ^ length qs → bit_of k (length qs) ≡ 0
  low_bit k l = ap (λ (j : ℕ). bit_of j (length qs)) (none_more k) ∙ top_bit 0 (length qs) k (omega arith) l

  one_more : (k : ℕ) → 2 ^ length qs + k ≡ 1 * 2 ^ length qs + k
  one_more k = omega arith

  high_bit : (k : ℕ) → k < 2 ^ length qs → bit_of (2 ^ length qs + k) (length qs) ≡ 1
  high_bit k l = ap (λ (j : ℕ). bit_of j (length qs)) (one_more k) ∙ top_bit 1 (length qs) k (omega arith) l

  high_place : (k : ℕ) → with_local qs (2 ^ length qs + k) x ≡ with_local qs k x
  high_place k = ap (λ (j : ℕ). with_local qs j x) (let e : 2 ^ length qs + k ≡ k + 1 * 2 ^ length qs = omega arith in e) ∙ with_local_more qs k 1 x

  forked_low : bit_of x q ≡ 0 → product_at (forked g h) (q ∷ qs) ray x ≡ product_at g qs ray x
  unfolding term
  forked_low e =
      let row : local_state (q ∷ qs) x ≡ local_state qs x = row_is 0 e ∙ (let z : 0 * 2 ^ length qs + local_state qs x ≡ local_state qs x = omega arith in z) in
      let below = local_below qs x in
      halves
      ∙ ap (plus (summed (2 ^ length qs) (term (forked g h) (q ∷ qs) ray x)))
      (sum_nought (2 ^ length qs) (λ k. term (forked g h) (q ∷ qs) ray x (2 ^ length qs + k)) (λ k l.
      none ray _ _ (ap (λ (r : ℕ). (forked g h).entry r (2 ^ length qs + k)) row ∙ low_high g h (local_state qs x) (2 ^ length qs + k) (omega (arith, size, below)) (omega (arith, size, l)))))
      ∙ plus_nought (summed (2 ^ length qs) (term (forked g h) (q ∷ qs) ray x))
      ∙ sum_same (2 ^ length qs) (term (forked g h) (q ∷ qs) ray x) (term g qs ray x) (λ k l.
      both ray _ _ _ _ (ap (λ (r : ℕ). (forked g h).entry r k) row ∙ low_low g h (local_state qs x) k (omega (arith, size, below)) (omega (arith, size, l)))
      (place_is k 0 e (low_bit k l)))

  forked_high : bit_of x q ≡ 1 → product_at (forked g h) (q ∷ qs) ray x ≡ product_at h qs ray x
  unfolding term
  forked_high e =
      let row : local_state (q ∷ qs) x ≡ 2 ^ length qs + local_state qs x = row_is 1 e ∙ sym (one_more (local_state qs x)) in
      let less : (j : ℕ) → 2 ^ length qs + j - 2 ^ g.arity ≡ j = λ j. omega (arith, size) in
      halves
      ∙ ap (λ (z : Element). plus z (summed (2 ^ length qs) (λ k. term (forked g h) (q ∷ qs) ray x (2 ^ length qs + k))))
      (sum_nought (2 ^ length qs) (term (forked g h) (q ∷ qs) ray x) (λ k l.
      none ray _ _ (ap (λ (r : ℕ). (forked g h).entry r k) row ∙ high_low g h (2 ^ length qs + local_state qs x) k (omega (arith, size)) (omega (arith, size, l)))))
      ∙ nought_plus (summed (2 ^ length qs) (λ k. term (forked g h) (q ∷ qs) ray x (2 ^ length qs + k)))
      ∙ sum_same (2 ^ length qs) (λ k. term (forked g h) (q ∷ qs) ray x (2 ^ length qs + k)) (term h qs ray x) (λ k l.
      both ray _ _ _ _
      (ap (λ (r : ℕ). (forked g h).entry r (2 ^ length qs + k)) row
      ∙ high_high g h (2 ^ length qs + local_state qs x) (2 ^ length qs + k) (omega (arith, size)) (omega (arith, size))
      ∙ ap (λ (r : ℕ). h.entry r (2 ^ length qs + k - 2 ^ g.arity)) (less (local_state qs x)) ∙ ap (h.entry (local_state qs x)) (less k))
      (place_is (2 ^ length qs + k) 1 e (high_bit k l) ∙ high_place k))

pub isnt_same : (m n : ℕ) → m ≢ n → (m == n) ≡ false
isnt_same m n h = grind (arith, nat_tests)

pub is_same : (m : ℕ) → (m == m) ≡ true
is_same m = grind (arith, nat_tests)

-- the identity over √2^m
idle_product : (g : Gate) (qs : List ℕ) (ray : Ray) (x : ℕ) → product_at (idle g) qs ray x ≡ times (root_two_to g.root_twos) (amplitude_at ray x)
unfolding term
idle_product g qs ray x =
    let i = local_state qs x in
    sum_lone (2 ^ length qs) i (term (idle g) qs ray x) (local_below qs x)
    (λ k l o. none ray _ _ (if_false (i == k) _ _ (isnt_same i k (λ e. o (sym e)))))
    ∙ both ray _ _ _ _ (if_true (i == i) _ _ (is_same i)) (with_own_local qs x)

-- ---- any controls

pub arity_under : (cs : List Bool) (n m : ℕ) (f : List ℕ → Gate) → IsFamily n m f → (xs : List ℕ) → (under cs f xs).arity ≡ length cs + n
arity_under [] n m f h xs = h.arity xs ∙ (let e : n ≡ 0 + n = omega arith in e)
arity_under (true ∷ cs) n m f h xs = ap suc (arity_under cs n m f h xs) ∙ (let e : suc (length cs + n) ≡ suc (length cs) + n = omega arith in e)
arity_under (false ∷ cs) n m f h xs = ap suc (arity_under cs n m f h (first_half xs)) ∙ (let e : suc (length cs + n) ≡ suc (length cs) + n = omega arith in e)

pub root_twos_under : (cs : List Bool) (n m : ℕ) (f : List ℕ → Gate) → IsFamily n m f → (xs : List ℕ) → (under cs f xs).root_twos ≡ m
root_twos_under [] n m f h xs = h.root_twos xs
root_twos_under (true ∷ cs) n m f h xs = root_twos_under cs n m f h xs
root_twos_under (false ∷ cs) n m f h xs = root_twos_under cs n m f h (first_half xs)

length_both : (ds qs : List ℕ) → length (ds ++ qs) ≡ length ds + length qs
length_both ds qs = length-append ds qs

-- the product under controls_of is the chosen block's
pub collapse : (cs : List Bool) (n m : ℕ) (f : List ℕ → Gate) → IsFamily n m f → (xs : List ℕ) (ds qs : List ℕ) (ray : Ray) (x : ℕ) →
    length ds ≡ length cs → length qs ≡ n → AreDifferent (ds ++ qs) →
    product_at (under cs f xs) (ds ++ qs) ray x ≡ block_product (block_at cs ds x xs) m f qs ray x
collapse [] n m f h xs [] qs ray x e k d = refl
collapse [] n m f h xs (q ∷ ds) qs ray x e k d = absurd (omega (arith, e))
collapse (c ∷ cs) n m f h xs [] qs ray x e k d = absurd (omega (arith, e))
collapse (true ∷ cs) n m f h xs (q ∷ ds) qs ray x e k d =
    let g = under cs f xs in
    let l : length ds ≡ length cs = omega (arith, e) in
    let size : 2 ^ g.arity ≡ 2 ^ length (ds ++ qs) = ap (λ (i : ℕ). 2 ^ i) (arity_under cs n m f h xs ∙ sym (length_both ds qs ∙ (let s : length ds + length qs ≡ length cs + n = omega (arith, l, k) in s))) in
    let choice : ℕ → Element = λ t. block_product (if t == 0 then None else block_at cs ds x xs) m f qs ray x in
    elim (bit_cases x q) [
      | inl b ↦ forked_low (idle g) g q (ds ++ qs) ray x size (different_head q (ds ++ qs) d) b ∙ idle_product g (ds ++ qs) ray x
          ∙ ap (λ (i : ℕ). times (root_two_to i) (amplitude_at ray x)) (root_twos_under cs n m f h xs) ∙ sym (ap choice b)
      | inr b ↦ forked_high (idle g) g q (ds ++ qs) ray x size (different_head q (ds ++ qs) d) b ∙ collapse cs n m f h xs ds qs ray x l k (different_tail q (ds ++ qs) d) ∙ sym (ap choice b)
    ]
collapse (false ∷ cs) n m f h xs (q ∷ ds) qs ray x e k d =
    let g = under cs f (first_half xs) in
    let g' = under cs f (second_half xs) in
    let l : length ds ≡ length cs = omega (arith, e) in
    let size : 2 ^ g.arity ≡ 2 ^ length (ds ++ qs) = ap (λ (i : ℕ). 2 ^ i) (arity_under cs n m f h (first_half xs) ∙ sym (length_both ds qs ∙ (let s : length ds + length qs ≡ length cs + n = omega (arith, l, k) in s))) in
    let choice : ℕ → Element = λ t. block_product (if t == 0 then block_at cs ds x (first_half xs) else block_at cs ds x (second_half xs)) m f qs ray x in
    elim (bit_cases x q) [
      | inl b ↦ forked_low g g' q (ds ++ qs) ray x size (different_head q (ds ++ qs) d) b ∙ collapse cs n m f h (first_half xs) ds qs ray x l k (different_tail q (ds ++ qs) d) ∙ sym (ap choice b)
      | inr b ↦ forked_high g g' q (ds ++ qs) ray x size (different_head q (ds ++ qs) d) b ∙ collapse cs n m f h (second_half xs) ds qs ray x l k (different_tail q (ds ++ qs) d) ∙ sym (ap choice b)
    ]
