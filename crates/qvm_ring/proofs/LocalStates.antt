-- The gate's own bits of a basis state, set and read back.
use Rattle.std.proofs.Common.{◌≡◌, ◌≢◌, refl, sym, ◌∙◌, ap, subst, ℕ, zero, suc, ◌+◌, ◌-◌, ◌*◌, ◌/◌, ◌%◌, ◌^◌, ◌<◌, ◌≤◌, ◌⊎◌, inl, inr, List, [], ◌∷◌, length, All, AllPairs, arith}
use Rattle.std.proofs.Math.Pow.{split}
use Rattle.std.proofs.Math.Nat.{mod-lt, div-lt_iff_lt-mul, add-mul-div_right}
use Rattle.std.proofs.lemmas.Nat.{div-mul-add}
use Rattle.qvm_ring.specs.Gate.{bit_of, with_bit, local_state, with_local}
use Rattle.qvm_ring.proofs.Bits.{power_positive, bit_of_below, with_own_bit, bit_of_with_bit, with_bit_twice, with_bit_below, bit_of_with_other}

-- ---- qubits of a list

-- q is none of the qubits
abbrev pub IsOther : ℕ → List ℕ → Type 0
IsOther q qs = All (λ p. q ≢ p) qs

-- no qubit stands twice
abbrev pub AreDifferent : List ℕ → Type 0
AreDifferent qs = AllPairs (λ p q. p ≢ q) qs

pub other_head : (q p : ℕ) (qs : List ℕ) → IsOther q (p ∷ qs) → q ≢ p
other_head q p qs h = h 0 p (omega arith)

pub other_tail : (q p : ℕ) (qs : List ℕ) → IsOther q (p ∷ qs) → IsOther q qs
other_tail q p qs h = λ k d l. h (suc k) d (omega arith)

pub different_head : (q : ℕ) (qs : List ℕ) → AreDifferent (q ∷ qs) → IsOther q qs
different_head q qs h = λ k d l. h 0 (suc k) d (omega arith) (omega arith)

pub different_tail : (q : ℕ) (qs : List ℕ) → AreDifferent (q ∷ qs) → AreDifferent qs
different_tail q qs h = λ i j d k l. h (suc i) (suc j) d (omega arith) (omega arith)

-- ---- bits of the gate's own number

pub two_values : (n : ℕ) → n < 2 → (n ≡ 0) ⊎ (n ≡ 1)
two_values zero h = inl refl
two_values (suc zero) h = inr refl
two_values (suc (suc n)) h = absurd (omega arith)

pub doubled : (n : ℕ) → 2 ^ suc n ≡ 2 ^ n + 2 ^ n
doubled n = omega arith

sum_below : (b p r : ℕ) → b < 2 → r < p → b * p + r < p + p
sum_below b p r h l = elim (two_values b h) [
  | inl e ↦ rw e (omega arith)
  | inr e ↦ rw e (omega arith)
]

pub local_below : (qs : List ℕ) (x : ℕ) → local_state qs x < 2 ^ length qs
local_below [] x = omega arith
local_below (q ∷ qs) x =
    let h = sum_below (bit_of x q) (2 ^ length qs) (local_state qs x) (bit_of_below x q) (local_below qs x) in
    subst (λ (m : ℕ). local_state (q ∷ qs) x < m) (sym (doubled (length qs))) h

pub top_bit : (b n r : ℕ) → b < 2 → r < 2 ^ n → bit_of (b * 2 ^ n + r) n ≡ b
top_bit b n r h l = ap (λ (k : ℕ). k % 2) (div-mul-add b (2 ^ n) r l) ∙ (let e : b % 2 ≡ b = omega arith in e)

even_added : (n m : ℕ) → (n + m * 2) % 2 ≡ n % 2
even_added n m = omega arith

bit_of_more : (k m n : ℕ) → bit_of (k + m * 2 * 2 ^ n) n ≡ bit_of k n
bit_of_more k m n = ap (λ (i : ℕ). i % 2) (add-mul-div_right k (m * 2) (power_positive n)) ∙ even_added (k / 2 ^ n) m

regroup : (k m p : ℕ) → k + m * (p + p) ≡ k + m * 2 * p
regroup k m p = omega arith

-- the gate's own number counts by its lower bits only
pub with_local_more : (qs : List ℕ) (k m x : ℕ) → with_local qs (k + m * 2 ^ length qs) x ≡ with_local qs k x
with_local_more [] k m x = refl
with_local_more (q ∷ qs) k m x =
    let e : k + m * 2 ^ suc (length qs) ≡ k + m * 2 * 2 ^ length qs = ap (λ (p : ℕ). k + m * p) (doubled (length qs)) ∙ regroup k m (2 ^ length qs) in
    ap (λ (j : ℕ). with_bit (with_local qs j x) q (bit_of j (length qs))) e
    ∙ ap (λ (y : ℕ). with_bit y q (bit_of (k + m * 2 * 2 ^ length qs) (length qs))) (with_local_more qs k (m * 2) x)
    ∙ ap (with_bit (with_local qs k x) q) (bit_of_more k m (length qs))

swapped : (b p r : ℕ) → b * p + r ≡ r + b * p
swapped b p r = omega arith

-- the state with its own bits is itself
pub with_own_local : (qs : List ℕ) (x : ℕ) → with_local qs (local_state qs x) x ≡ x
with_own_local [] x = refl
with_own_local (q ∷ qs) x =
    let b = bit_of x q in let n = length qs in let r = local_state qs x in
    ap (with_bit (with_local qs (b * 2 ^ n + r) x) q) (top_bit b n r (bit_of_below x q) (local_below qs x))
    ∙ ap (λ (k : ℕ). with_bit (with_local qs k x) q b) (swapped b (2 ^ n) r)
    ∙ ap (λ (y : ℕ). with_bit y q b) (with_local_more qs r b x ∙ with_own_local qs x)
    ∙ with_own_bit x q

pub with_local_below : (n : ℕ) (qs : List ℕ) (k x : ℕ) → All (λ q. q < n) qs → x < 2 ^ n → with_local qs k x < 2 ^ n
with_local_below n [] k x h l = l
with_local_below n (q ∷ qs) k x h l =
    with_bit_below (with_local qs k x) q (bit_of k (length qs)) n
    (with_local_below n qs k x (λ i d j. h (suc i) d (omega arith)) l) (h 0 q (omega arith)) (bit_of_below k (length qs))

-- ---- two own numbers, one after the other

bit_within : (x q : ℕ) → bit_of x q * 2 ^ q ≤ x
bit_within x q = omega (arith, with_own_bit x q)

-- two amounts taken from x one after the other
taken : (x s t b c : ℕ) → s ≤ x → t ≤ x - s + 0 → x - s + b - t + c ≡ x - t + c - s + b
taken x s t b c h k = omega arith

within_both : (x q p : ℕ) → p ≢ q → bit_of x p * 2 ^ p ≤ x - bit_of x q * 2 ^ q + 0
within_both x q p h =
    let e : bit_of (with_bit x q 0) p ≡ bit_of x p = bit_of_with_other x q 0 p h (omega arith) in
    let f : bit_of (with_bit x q 0) p * 2 ^ p ≡ bit_of x p * 2 ^ p = ap (λ (n : ℕ). n * 2 ^ p) e in
    let g : bit_of (with_bit x q 0) p * 2 ^ p ≤ with_bit x q 0 = bit_within (with_bit x q 0) p in
    let z : 0 * 2 ^ q ≡ 0 = omega arith in
    omega (arith, f, g, z)

with_bit_commutes : (x q b p c : ℕ) → p ≢ q → b < 2 → c < 2 → with_bit (with_bit x q b) p c ≡ with_bit (with_bit x p c) q b
with_bit_commutes x q b p c h k l =
    ap (λ (t : ℕ). with_bit x q b - t * 2 ^ p + c * 2 ^ p) (bit_of_with_other x q b p h k)
    ∙ taken x (bit_of x q * 2 ^ q) (bit_of x p * 2 ^ p) (b * 2 ^ q) (c * 2 ^ p) (bit_within x q) (within_both x q p h)
    ∙ sym (ap (λ (t : ℕ). with_bit x p c - t * 2 ^ q + b * 2 ^ q) (bit_of_with_other x p c q (λ e. h (sym e)) l))

with_local_bit : (qs : List ℕ) (q b k x : ℕ) → IsOther q qs → b < 2 → with_local qs k (with_bit x q b) ≡ with_bit (with_local qs k x) q b
with_local_bit [] q b k x o h = refl
with_local_bit (p ∷ qs) q b k x o h =
    ap (λ (y : ℕ). with_bit y p (bit_of k (length qs))) (with_local_bit qs q b k x (other_tail q p qs o) h)
    ∙ with_bit_commutes (with_local qs k x) q b p (bit_of k (length qs)) (λ e. other_head q p qs o (sym e)) h (bit_of_below k (length qs))

pub with_local_twice : (qs : List ℕ) (k r x : ℕ) → AreDifferent qs → with_local qs k (with_local qs r x) ≡ with_local qs k x
with_local_twice [] k r x d = refl
with_local_twice (q ∷ qs) k r x d =
    let b = bit_of r (length qs) in let c = bit_of k (length qs) in
    ap (λ (y : ℕ). with_bit y q c) (with_local_bit qs q b k (with_local qs r x) (different_head q qs d) (bit_of_below r (length qs)))
    ∙ with_bit_twice (with_local qs k (with_local qs r x)) q b c (bit_of_below r (length qs))
    ∙ ap (λ (y : ℕ). with_bit y q c) (with_local_twice qs k r x (different_tail q qs d))

local_state_bit : (qs : List ℕ) (q b x : ℕ) → IsOther q qs → b < 2 → local_state qs (with_bit x q b) ≡ local_state qs x
local_state_bit [] q b x o h = refl
local_state_bit (p ∷ qs) q b x o h =
    ap (λ (t : ℕ). t * 2 ^ length qs + local_state qs (with_bit x q b)) (bit_of_with_other x q b p (λ e. other_head q p qs o (sym e)) h)
    ∙ ap (λ (t : ℕ). bit_of x p * 2 ^ length qs + t) (local_state_bit qs q b x (other_tail q p qs o) h)

halves : (r n : ℕ) → r < 2 ^ suc n → bit_of r n * 2 ^ n + r % 2 ^ n ≡ r
halves r n h =
    let s : r / 2 ^ n * 2 ^ n + r % 2 ^ n ≡ r = split r n in
    let l : r / 2 ^ n < 2 = (div-lt_iff_lt-mul (power_positive n)).1 (let m : r < 2 * 2 ^ n = omega (arith, h) in m) in
    let e : r / 2 ^ n % 2 ≡ r / 2 ^ n = omega (arith, l) in
    ap (λ (t : ℕ). t * 2 ^ n + r % 2 ^ n) e ∙ s

pub local_of_with : (qs : List ℕ) (r x : ℕ) → AreDifferent qs → r < 2 ^ length qs → local_state qs (with_local qs r x) ≡ r
local_of_with [] r x d h = omega (arith, h)
local_of_with (q ∷ qs) r x d h =
    let n = length qs in let b = bit_of r n in let low = r % 2 ^ n in
    let e : r ≡ low + b * 2 ^ n = sym (halves r n h) ∙ swapped b (2 ^ n) low in
    ap (λ (t : ℕ). t * 2 ^ n + local_state qs (with_local (q ∷ qs) r x)) (bit_of_with_bit (with_local qs r x) q b (bit_of_below r n))
    ∙ ap (λ (t : ℕ). b * 2 ^ n + t) (local_state_bit qs q b (with_local qs r x) (different_head q qs d) (bit_of_below r n)
    ∙ ap (λ (k : ℕ). local_state qs (with_local qs k x)) e ∙ ap (local_state qs) (with_local_more qs low b x) ∙ local_of_with qs low x (different_tail q qs d) (mod-lt r (power_positive n)))
    ∙ halves r n h
