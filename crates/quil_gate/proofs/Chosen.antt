-- The entries of a gate under controls, by the patterns of its control bits.
use Rattle.std.proofs.Common.{◌≡◌, ◌≢◌, refl, sym, ◌∙◌, ap, subst, ℕ, zero, suc, ◌+◌, ◌-◌, ◌*◌, ◌/◌, ◌%◌, ◌^◌, ◌<◌, ◌≤◌, ◌==◌, ◌⊎◌, inl, inr, true, false, List, [], ◌∷◌, length, map, arith}
use Rattle.std.specs.Prelude.{nat_lt, Bool, Option, Some, None, if◌then◌else◌}
use Rattle.std.proofs.lemmas.List.{length-map}
use Rattle.std.proofs.Math.Nat.{mul-le-mul_right}
use Rattle.std.proofs.lemmas.Nat.{pow-add, row_fits, div-mul-add}
use Rattle.qvm_ring.specs.Ring.{Element, nought}
use Rattle.qvm_ring.specs.Gate.{Gate}
use Rattle.qvm_ring.proofs.LocalStates.{doubled}
use Rattle.quil_code.specs.declared.gate_code.Control.{Control}
use Rattle.quil_code.specs.declared.gate_code.Control.TheVariants.{Controlled, Forked}
use Rattle.quil_code.specs.Controls.{root_two_to, idle, forked, under, first_half, second_half, IsFamily}
use Rattle.quil_code.specs.GateCodes.{is_controlled}
use Rattle.quil_code.proofs.Collapse.{if_true, if_false, is_less, isnt_less, is_same, isnt_same, low_low, low_high, high_low, high_high, arity_under, root_twos_under}
use Rattle.quil_code.proofs.KeptUnitary.{same_or_not, same_shift}
use Rattle.quil_gate.specs.Pieces.{chosen}

-- ---- choices

choice : {A : Type 0} (b : Bool) (x y : A) → b ≡ true → (if b then x else y) ≡ x
choice b x y e = ap (λ (t : Bool). if t then x else y) e

other_choice : {A : Type 0} (b : Bool) (x y : A) → b ≡ false → (if b then x else y) ≡ y
other_choice b x y e = ap (λ (t : Bool). if t then x else y) e

pub low_choice : {A : Type 0} (p n : ℕ) (x y : A) → p < n → (if nat_lt p n then x else y) ≡ x
low_choice p n x y h = choice (nat_lt p n) x y (is_less p n h)

pub high_choice : {A : Type 0} (p n : ℕ) (x y : A) → n ≤ p → (if nat_lt p n then x else y) ≡ y
high_choice p n x y h = other_choice (nat_lt p n) x y (isnt_less p n h)

pub low_or_high : (p n : ℕ) → (p < n) ⊎ (n ≤ p)
low_or_high p n = grind arith

-- ---- places in rows of N

at_zero : (p i n : ℕ) → p < 1 → p * n + i ≡ i
at_zero zero i n h = omega arith
at_zero (suc p) i n h = absurd (omega (arith, h))

low_place : (p i k n : ℕ) → p < k → i < n → p * n + i < k * n
low_place p i k n h l = omega (arith, row_fits p n k n h (let r : n ≤ n = omega arith in r), l)

high_place : (p i k n : ℕ) → k ≤ p → k * n ≤ p * n + i
high_place p i k n h = omega (arith, mul-le-mul_right n h)

less_rows : (d k n i : ℕ) → (d + k) * n + i - k * n ≡ d * n + i
less_rows d k n i = omega arith

less_place : (p i k n : ℕ) → k ≤ p → p * n + i - k * n ≡ (p - k) * n + i
less_place p i k n h = ap (λ (t : ℕ). t * n + i - k * n) (let e : p ≡ (p - k) + k = omega (arith, h) in e) ∙ less_rows (p - k) k n i

other_rows : (p q i j n : ℕ) → p ≢ q → i < n → j < n → p * n + i ≢ q * n + j
other_rows p q i j n d h l e = d (sym (div-mul-add p n i h) ∙ ap (λ (t : ℕ). t / n) e ∙ div-mul-add q n j l)

same_row : (p q i j n : ℕ) → p ≡ q → i ≢ j → p * n + i ≢ q * n + j
same_row p q i j n e d f = d (let g : p * n + i ≡ p * n + j = f ∙ ap (λ (t : ℕ). t * n + j) (sym e) in omega (arith, g))

-- ---- blocks

-- the block of these numbers, or the identity over √2^m
abbrev pub block : ℕ → (List ℕ → Gate) → Option (List ℕ) → ℕ → ℕ → Element
block m f None i j = if i == j then root_two_to m else nought
block m f (Some xs) i j = (f xs).entry i j

-- z where the patterns are the same
abbrev pub where_same : ℕ → ℕ → Element → Element
where_same p q z = if p == q then z else nought

where_other : (p q : ℕ) (z : Element) → p ≢ q → where_same p q z ≡ nought
where_other p q z d = if_false (p == q) z nought (isnt_same p q d)

where_equal : (p q : ℕ) (z : Element) → p ≡ q → where_same p q z ≡ z
where_equal p q z e = if_true (p == q) z nought (ap (λ (t : ℕ). t == q) e ∙ is_same q)

idle_entry : (p q i j n : ℕ) (s : Element) → i < n → j < n → (if p * n + i == q * n + j then s else nought) ≡ where_same p q (if i == j then s else nought)
idle_entry p q i j n s h l = elim (same_or_not p q) [
  | inl e ↦ elim (same_or_not i j) [
    | inl f ↦
        if_true (p * n + i == q * n + j) s nought (ap (λ (t : ℕ). t == q * n + j) (ap (λ (t : ℕ). t * n + i) e ∙ ap (λ (t : ℕ). q * n + t) f) ∙ is_same (q * n + j))
        ∙ sym (where_equal p q _ e ∙ if_true (i == j) s nought (ap (λ (t : ℕ). t == j) f ∙ is_same j))
    | inr f ↦ if_false (p * n + i == q * n + j) s nought (isnt_same _ _ (same_row p q i j n e f)) ∙ sym (where_equal p q _ e ∙ if_false (i == j) s nought (isnt_same i j f))
  ]
  | inr d ↦ if_false (p * n + i == q * n + j) s nought (isnt_same _ _ (other_rows p q i j n d h l)) ∙ sym (where_other p q _ d)
]

-- ---- the two halves of a gate under one more control

module _ (g h : Gate) (k n : ℕ) (size : 2 ^ g.arity ≡ k * n) (p q i j : ℕ) (b : i < n) (c : j < n) where
  low : (t u : ℕ) → t < k → u < n → t * n + u < 2 ^ g.arity
  low t u l m = omega (arith, size, low_place t u k n l m)

  high : (t u : ℕ) → k ≤ t → 2 ^ g.arity ≤ t * n + u
  high t u l = omega (arith, size, high_place t u k n l)

  both_low : p < k → q < k → (forked g h).entry (p * n + i) (q * n + j) ≡ g.entry (p * n + i) (q * n + j)
  both_low l m = low_low g h _ _ (low p i l b) (low q j m c)

  apart : (p < k) → (k ≤ q) → (forked g h).entry (p * n + i) (q * n + j) ≡ nought
  apart l m = low_high g h _ _ (low p i l b) (high q j m)

  apart_back : (k ≤ p) → (q < k) → (forked g h).entry (p * n + i) (q * n + j) ≡ nought
  apart_back l m = high_low g h _ _ (high p i l) (low q j m c)

  both_high : k ≤ p → k ≤ q → (forked g h).entry (p * n + i) (q * n + j) ≡ h.entry ((p - k) * n + i) ((q - k) * n + j)
  both_high l m =
      high_high g h _ _ (high p i l) (high q j m)
      ∙ ap (λ (r : ℕ). h.entry r (q * n + j - 2 ^ g.arity)) (ap (λ (t : ℕ). p * n + i - t) size ∙ less_place p i k n l)
      ∙ ap (h.entry ((p - k) * n + i)) (ap (λ (t : ℕ). q * n + j - t) size ∙ less_place q j k n m)

-- ---- the entries by patterns

pub size_under : (cs : List Control) (n m : ℕ) (f : List ℕ → Gate) → IsFamily n m f → (xs : List ℕ) → 2 ^ (under (map is_controlled cs) f xs).arity ≡ 2 ^ length cs * 2 ^ n
size_under cs n m f w xs = ap (λ (a : ℕ). 2 ^ a) (arity_under (map is_controlled cs) n m f w xs ∙ ap (λ (t : ℕ). t + n) (length-map cs is_controlled)) ∙ pow-add 2 (length cs) n

pub under_entry : (cs : List Control) (n m : ℕ) (f : List ℕ → Gate) → IsFamily n m f → (xs : List ℕ) (p q i j : ℕ) → p < 2 ^ length cs → q < 2 ^ length cs → i < 2 ^ n → j < 2 ^ n →
    (under (map is_controlled cs) f xs).entry (p * 2 ^ n + i) (q * 2 ^ n + j) ≡ where_same p q (block m f (chosen cs p xs) i j)
under_entry [] n m f w xs p q i j hp hq hi hj =
    ap (λ (r : ℕ). (f xs).entry r (q * 2 ^ n + j)) (at_zero p i (2 ^ n) hp) ∙ ap ((f xs).entry i) (at_zero q j (2 ^ n) hq)
    ∙ sym (where_equal p q _ (let e : p ≡ q = omega (arith, hp, hq) in e))
under_entry (Controlled ∷ cs) n m f w xs p q i j hp hq hi hj =
    let g = under (map is_controlled cs) f xs in
    let k = 2 ^ length cs in
    let d : 2 ^ suc (length cs) ≡ k + k = doubled (length cs) in
    let size = size_under cs n m f w xs in
    elim (low_or_high p k) [
      | inl a ↦ elim (low_or_high q k) [
        | inl b ↦
            both_low (idle g) g k (2 ^ n) size p q i j hi hj a b
            ∙ ap (λ (t : ℕ). if p * 2 ^ n + i == q * 2 ^ n + j then root_two_to t else nought) (root_twos_under (map is_controlled cs) n m f w xs)
            ∙ idle_entry p q i j (2 ^ n) (root_two_to m) hi hj
            ∙ ap (λ (o : Option (List ℕ)). where_same p q (block m f o i j)) (sym (low_choice p k None (chosen cs (p - k) xs) a))
        | inr b ↦ apart (idle g) g k (2 ^ n) size p q i j hi hj a b ∙ sym (where_other p q _ (λ e. omega (arith, e, a, b)))
      ]
      | inr a ↦ elim (low_or_high q k) [
        | inl b ↦ apart_back (idle g) g k (2 ^ n) size p q i j hi hj a b ∙ sym (where_other p q _ (λ e. omega (arith, e, a, b)))
        | inr b ↦
            both_high (idle g) g k (2 ^ n) size p q i j hi hj a b
            ∙ under_entry cs n m f w xs (p - k) (q - k) i j (omega (arith, hp, d, a)) (omega (arith, hq, d, b)) hi hj
            ∙ ap (λ (t : Bool). if t then block m f (chosen cs (p - k) xs) i j else nought) (same_shift p q k a b)
            ∙ ap (λ (o : Option (List ℕ)). where_same p q (block m f o i j)) (sym (high_choice p k None (chosen cs (p - k) xs) a))
      ]
    ]
under_entry (Forked ∷ cs) n m f w xs p q i j hp hq hi hj =
    let g = under (map is_controlled cs) f (first_half xs) in
    let h = under (map is_controlled cs) f (second_half xs) in
    let k = 2 ^ length cs in
    let d : 2 ^ suc (length cs) ≡ k + k = doubled (length cs) in
    let size = size_under cs n m f w (first_half xs) in
    let low = chosen cs p (first_half xs) in
    let high = chosen cs (p - k) (second_half xs) in
    elim (low_or_high p k) [
      | inl a ↦ elim (low_or_high q k) [
        | inl b ↦
            both_low g h k (2 ^ n) size p q i j hi hj a b
            ∙ under_entry cs n m f w (first_half xs) p q i j a b hi hj
            ∙ ap (λ (o : Option (List ℕ)). where_same p q (block m f o i j)) (sym (low_choice p k low high a))
        | inr b ↦ apart g h k (2 ^ n) size p q i j hi hj a b ∙ sym (where_other p q _ (λ e. omega (arith, e, a, b)))
      ]
      | inr a ↦ elim (low_or_high q k) [
        | inl b ↦ apart_back g h k (2 ^ n) size p q i j hi hj a b ∙ sym (where_other p q _ (λ e. omega (arith, e, a, b)))
        | inr b ↦
            both_high g h k (2 ^ n) size p q i j hi hj a b
            ∙ under_entry cs n m f w (second_half xs) (p - k) (q - k) i j (omega (arith, hp, d, a)) (omega (arith, hq, d, b)) hi hj
            ∙ ap (λ (t : Bool). if t then block m f high i j else nought) (same_shift p q k a b)
            ∙ ap (λ (o : Option (List ℕ)). where_same p q (block m f o i j)) (sym (high_choice p k low high a))
      ]
    ]
