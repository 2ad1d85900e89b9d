-- The gate's own bits, qubit by qubit.
use Rattle.std.proofs.Common.{◌≡◌, sym, ◌∙◌, ap, ℕ, suc, ◌+◌, ◌-◌, ◌*◌, ◌^◌, ◌<◌, ◌≤◌, List, ◌∷◌, length, get_or, drop, length-drop, All, arith}
use Rattle.std.proofs.Math.Seq.{drop-cons}
use Rattle.std.proofs.lemmas.List.{drop_all}
use Rattle.std.proofs.lemmas.List.Elements.{All-drop}
use Rattle.qvm_ring.specs.Gate.{bit_of, with_bit, local_state, with_local}
use Rattle.qvm_ring.proofs.LocalStates.{with_local_below}

-- ---- reading them from the first qubit on: what has been read stands above what is to come

abbrev pub read_so_far : List ℕ → ℕ → ℕ → ℕ → ℕ
read_so_far qs x i state = state * 2 ^ length (drop i qs) + local_state (drop i qs) x

one_more : (s b p r : ℕ) → s * (2 * p) + (b * p + r) ≡ (2 * s + b) * p + r
one_more s b p r = omega arith

power_suc : (n : ℕ) → 2 ^ suc n ≡ 2 * 2 ^ n
power_suc n = omega arith

-- one more bit
pub bits_more : (i state bit : ℕ) → state < 2 ^ i → bit < 2 → 2 * state + bit < 2 ^ (i + 1)
bits_more i state bit h l = let e : i + 1 ≡ suc i = omega arith in omega (arith, h, l, power_suc i, ap (λ (k : ℕ). 2 ^ k) e)

pub local_step : (qs : List ℕ) (x i state d : ℕ) → i < length qs → read_so_far qs x (i + 1) (2 * state + bit_of x (get_or qs i d)) ≡ read_so_far qs x i state
local_step qs x i state d h =
    let e : drop i qs ≡ get_or qs i d ∷ drop (suc i) qs = drop-cons qs i d h in
    let s : i + 1 ≡ suc i = omega arith in
    let rest = drop (suc i) qs in
    ap (λ (k : ℕ). read_so_far qs x k (2 * state + bit_of x (get_or qs i d))) s
    ∙ sym (one_more state (bit_of x (get_or qs i d)) (2 ^ length rest) (local_state rest x))
    ∙ sym (ap (λ (p : ℕ). state * p + (bit_of x (get_or qs i d) * 2 ^ length rest + local_state rest x)) (power_suc (length rest)))
    ∙ sym (ap (λ (r : List ℕ). state * 2 ^ length r + local_state r x) e)

pub local_done : (qs : List ℕ) (x i state : ℕ) → length qs ≤ i → read_so_far qs x i state ≡ state
local_done qs x i state h = ap (λ (r : List ℕ). state * 2 ^ length r + local_state r x) (drop_all i qs h) ∙ (let e : state * 1 + 0 ≡ state = omega arith in e)

pub local_begun : (qs : List ℕ) (x : ℕ) → read_so_far qs x 0 0 ≡ local_state qs x
local_begun qs x = let e : 0 * 2 ^ length qs + local_state qs x ≡ local_state qs x = omega arith in e

-- ---- setting them from the last qubit on

abbrev pub set_so_far : List ℕ → ℕ → ℕ → ℕ → ℕ
set_so_far qs k x i = with_local (drop (length qs - i) qs) k x

pub with_local_step : (qs : List ℕ) (k x i d : ℕ) → i < length qs → set_so_far qs k x (i + 1) ≡ with_bit (set_so_far qs k x i) (get_or qs (length qs - 1 - i) d) (bit_of k i)
with_local_step qs k x i d h =
    let j = length qs - suc i in
    let e : drop j qs ≡ get_or qs j d ∷ drop (suc j) qs = drop-cons qs j d (omega arith) in
    let p : length qs - (i + 1) ≡ j = omega arith in
    let q : length qs - 1 - i ≡ j = omega arith in
    let r : suc j ≡ length qs - i = omega arith in
    let l : length (drop (suc j) qs) ≡ i = omega (arith, length-drop (suc j) qs) in
    ap (λ (n : ℕ). with_local (drop n qs) k x) p ∙ ap (λ (s : List ℕ). with_local s k x) e
    ∙ ap (λ (n : ℕ). with_bit (with_local (drop (suc j) qs) k x) (get_or qs j d) (bit_of k n)) l
    ∙ ap (λ (n : ℕ). with_bit (with_local (drop n qs) k x) (get_or qs j d) (bit_of k i)) r
    ∙ ap (λ (n : ℕ). with_bit (set_so_far qs k x i) (get_or qs n d) (bit_of k i)) (sym q)

pub with_local_begun : (qs : List ℕ) (k x : ℕ) → set_so_far qs k x 0 ≡ x
with_local_begun qs k x = ap (λ (s : List ℕ). with_local s k x) (drop_all (length qs - 0) qs (omega arith))

pub with_local_done : (qs : List ℕ) (k x i : ℕ) → length qs ≤ i → set_so_far qs k x i ≡ with_local qs k x
with_local_done qs k x i h = ap (λ (n : ℕ). with_local (drop n qs) k x) (let e : length qs - i ≡ 0 = omega arith in e)

pub set_below : (qs : List ℕ) (k x i : ℕ) → All (λ q. q < 16) qs → x < 2 ^ 16 → set_so_far qs k x i < 2 ^ 16
set_below qs k x i h l = with_local_below 16 (drop (length qs - i) qs) k x (All-drop (λ q. q < 16) (length qs - i) qs h) l
