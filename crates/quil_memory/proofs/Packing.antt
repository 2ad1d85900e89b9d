-- Bits that stand eight to a byte.
use Rattle.std.proofs.Common.{◌≡◌, ◌≢◌, refl, sym, ◌∙◌, ap, ℕ, zero, suc, ◌+◌, ◌*◌, ◌/◌, ◌%◌, ◌<◌, ◌≤◌, ◌==◌, nat_lt, inl, inr, Bool, true, false, List, ◌∷◌, ◌++◌, length, take, drop, set, get_or, replicate, slice_get, Some, arith, if◌then◌else◌}
use Rattle.std.specs.Int.{bit_at}
use Rattle.std.proofs.lemmas.List.{get_or-set_same, get_or-set_other, get_or-replicate, get_or_past, length-replicate}
use Rattle.std.proofs.lemmas.Option.{slice_get-get_or}
use Rattle.std.proofs.lemmas.Nat.Bits.{bit_at-zero}
use Rattle.std.proofs.lemmas.Bool.{ltb-true, ltb-false}
use Rattle.std.proofs.lemmas.Bool.Decides.{eqb_tells}
use Rattle.quil_memory.specs.Packed.{packed_bit, bits_by_place, unpacked}

length-bits_by_place : (f : ℕ → Bool) (a n : ℕ) → length (bits_by_place f a n) ≡ n
length-bits_by_place f a zero = refl
length-bits_by_place f a (suc n) = ap suc (length-bits_by_place f (suc a) n)

pub length-unpacked : (count : ℕ) (bytes : List ℕ) → length (unpacked count bytes) ≡ count
length-unpacked count bytes = length-bits_by_place (packed_bit bytes) 0 count

bits_by_place_at : (f : ℕ → Bool) (a n i j : ℕ) → i < n → a + i ≡ j → get_or (bits_by_place f a n) i false ≡ f j
bits_by_place_at f a zero i j h e = absurd (omega arith)
bits_by_place_at f a (suc n) zero j h e = ap f (omega arith)
bits_by_place_at f a (suc n) (suc i) j h e = bits_by_place_at f (suc a) n i j (omega arith) (omega arith)

pub unpacked_at : (count place : ℕ) (bytes : List ℕ) → place < count → slice_get (unpacked count bytes) place ≡ Some (packed_bit bytes place)
unpacked_at count place bytes h =
    slice_get-get_or (unpacked count bytes) place false (omega (arith, length-unpacked count bytes))
    ∙ ap Some (bits_by_place_at (packed_bit bytes) 0 count place place h (omega arith))

-- one place of a list that is given by places
module _ (f g : ℕ → Bool) (b : Bool) where
  after : (a n : ℕ) → ((i : ℕ) → a ≤ i → g i ≡ f i) → bits_by_place g a n ≡ bits_by_place f a n
  after a zero same = refl
  after a (suc n) same = ap (λ x. x ∷ bits_by_place g (suc a) n) (same a (omega arith)) ∙ ap (λ xs. f a ∷ xs) (after (suc a) n (λ i h. same i (omega arith)))

  pub written : (a n k place : ℕ) → k < n → place ≡ a + k → g place ≡ b → ((i : ℕ) → i ≢ place → g i ≡ f i) → bits_by_place g a n ≡ take k (bits_by_place f a n) ++ b ∷ drop (suc k) (bits_by_place f a n)
  written a zero k place h at here same = absurd (omega arith)
  written a (suc n) zero place h at here same =
      let first : a ≡ place = omega arith in
      ap (λ x. x ∷ bits_by_place g (suc a) n) (ap g first ∙ here) ∙ ap (λ xs. b ∷ xs) (after (suc a) n (λ i h. same i (λ e. absurd (omega arith))))
  written a (suc n) (suc k) place h at here same =
      ap (λ x. x ∷ bits_by_place g (suc a) n) (same a (λ e. absurd (omega arith)))
      ∙ ap (λ xs. f a ∷ xs) (written (suc a) n k place (omega arith) (omega arith) here same)

test : (b : Bool) → ((if b then 1 else 0) == 1) ≡ b
test true = refl
test false = refl

-- the bit at a place of a byte that is changed, and the others
module _ (count place byte : ℕ) (b : Bool) (bytes : List ℕ) where
  here_is : place / 8 < length bytes → bit_at byte (place % 8) ≡ (if b then 1 else 0) → packed_bit (set bytes (place / 8) byte) place ≡ b
  here_is inside here = ap (λ n. bit_at n (place % 8) == 1) (get_or-set_same bytes (place / 8) byte 0 inside) ∙ ap (λ n. n == 1) here ∙ test b

  elsewhere : place / 8 < length bytes → ((other : ℕ) → other < 8 → other ≢ place % 8 → bit_at byte other ≡ bit_at (get_or bytes (place / 8) 0) other)
      → (i : ℕ) → i ≢ place → packed_bit (set bytes (place / 8) byte) i ≡ packed_bit bytes i
  elsewhere inside others i e = elim (eqb_tells (i / 8) (place / 8)) as (λ _. packed_bit (set bytes (place / 8) byte) i ≡ packed_bit bytes i) [
    | inl s ↦ ap (λ n. bit_at (get_or (set bytes (place / 8) byte) n 0) (i % 8) == 1) s.1 ∙ ap (λ n. bit_at n (i % 8) == 1) (get_or-set_same bytes (place / 8) byte 0 inside)
        ∙ ap (λ n. n == 1) (others (i % 8) (omega arith) (λ d. e (omega (arith, s.1, d)))) ∙ ap (λ n. bit_at (get_or bytes n 0) (i % 8) == 1) (sym s.1)
    | inr s ↦ ap (λ n. bit_at n (i % 8) == 1) (get_or-set_other bytes (place / 8) (i / 8) byte 0 s.1)
  ]

  pub unpacked_with : count ≤ length bytes * 8 → place < count → bit_at byte (place % 8) ≡ (if b then 1 else 0)
      → ((other : ℕ) → other < 8 → other ≢ place % 8 → bit_at byte other ≡ bit_at (get_or bytes (place / 8) 0) other)
      → unpacked count (set bytes (place / 8) byte) ≡ take place (unpacked count bytes) ++ b ∷ drop (place + 1) (unpacked count bytes)
  unpacked_with room h here others =
      let inside : place / 8 < length bytes = omega arith in
      let next : suc place ≡ place + 1 = omega arith in
      written (packed_bit bytes) (packed_bit (set bytes (place / 8) byte)) b 0 count place place h (omega arith) (here_is inside here) (elsewhere inside others)
      ∙ ap (λ n. take place (unpacked count bytes) ++ b ∷ drop n (unpacked count bytes)) next

zero_at : (size i : ℕ) → ◌≡◌ {A = ℕ} (get_or (replicate size 0) i 0) 0
zero_at size i = by (nat_lt i size) refl
  where
    by : (b : Bool) → nat_lt i size ≡ b → ◌≡◌ {A = ℕ} (get_or (replicate size 0) i 0) 0
    by true e = get_or-replicate size i 0 0 (ltb-true i size e)
    by false e = get_or_past (replicate size 0) i 0 (omega (arith, ltb-false i size e, length-replicate {A = ℕ} size 0))

same_everywhere : (f : ℕ → Bool) (a n : ℕ) → ((i : ℕ) → f i ≡ false) → bits_by_place f a n ≡ replicate n false
same_everywhere f a zero h = refl
same_everywhere f a (suc n) h = ap (λ x. x ∷ bits_by_place f (suc a) n) (h a) ∙ ap (λ xs. false ∷ xs) (same_everywhere f (suc a) n h)

pub unpacked_zeros : (count size : ℕ) → unpacked count (replicate size 0) ≡ replicate count false
unpacked_zeros count size =
    same_everywhere (packed_bit (replicate size 0)) 0 count (λ i. ap (λ n. bit_at n (i % 8) == 1) (zero_at size (i / 8)) ∙ ap (λ n. n == 1) (bit_at-zero (i % 8)))
