-- Cells as runs of bits.
use Rattle.std.proofs.Common.{◌≡◌, refl, sym, ◌∙◌, ap, ℕ, zero, suc, ◌+◌, ◌-◌, ◌*◌, ◌/◌, ◌%◌, ◌^◌, ◌<◌, ◌≤◌, ◌==◌, Bool, true, false, List, [], ◌∷◌, ◌++◌, length, take, drop, slice_get, Some, append_assoc, arith, if◌then◌else◌}
use Rattle.std.proofs.Math.Seq.{drop-cons, drop-append_seam, take-append_seam, drop-append-add}
use Rattle.std.proofs.lemmas.List.{drop-drop, drop-take, drop-append-le, take-append-le, take-take, length-take-le, length-drop, length-append, take-append-drop}
use Rattle.std.proofs.lemmas.Bool.{eqb-true, eqb-false}
use Rattle.std.proofs.lemmas.Nat.{pow_pos}
use Rattle.std.proofs.Math.Pow.{pow_mono}
use Rattle.std.proofs.lemmas.Option.{slice_get_within, get_or_from_slice_get}
use Rattle.quil_memory.specs.Cells.{number_of, bits_of}
use mir.Val.{bool_byte}

-- bits, with so many of a number from a place on
abbrev pub with_bits : ℕ → ℕ → ℕ → List Bool → List Bool
with_bits first count n bits = take first bits ++ bits_of count n ++ drop (first + count) bits

doubled : (n m : ℕ) (b : Bool) → n < 2 ^ m → (if b then 1 else 0) + 2 * n < 2 ^ suc m
doubled n m true h = omega (arith, h)
doubled n m false h = omega (arith, h)

pub number_of-lt : (count : ℕ) (bits : List Bool) → number_of (take count bits) < 2 ^ count
number_of-lt zero bits = omega arith
number_of-lt (suc count) [] = pow_pos (suc count)
number_of-lt (suc count) (b ∷ bits) = doubled (number_of (take count bits)) count b (number_of-lt count bits)

-- one more bit of a run in front
pub number_more : (count place : ℕ) (b : Bool) (bits : List Bool) → slice_get bits place ≡ Some b
    → number_of (take (suc count) (drop place bits)) ≡ number_of (take count (drop (suc place) bits)) * 2 + (if b then 1 else 0)
number_more count place b bits e =
    ap (λ bs. number_of (take (suc count) bs)) (drop-cons bits place false (slice_get_within bits place b e) ∙ ap (λ x. x ∷ drop (suc place) bits) (get_or_from_slice_get bits place b false e))
    ∙ swapped (number_of (take count (drop (suc place) bits))) (if b then 1 else 0)
  where
    swapped : (n m : ℕ) → m + 2 * n ≡ n * 2 + m
    swapped n m = omega arith

-- the number of a run that is read from its end
pub number_before : (size left first word : ℕ) (b : Bool) (bits : List Bool) → 0 < left → left ≤ size → slice_get bits (first + (left - 1)) ≡ Some b
    → word ≡ number_of (take (size - left) (drop (first + left) bits)) → word * 2 + (if b then 1 else 0) ≡ number_of (take (size - (left - 1)) (drop (first + (left - 1)) bits))
number_before size left first word b bits h k e is =
    let count : suc (size - left) ≡ size - (left - 1) = omega arith in
    let place : first + left ≡ suc (first + (left - 1)) = omega arith in
    ap (λ n. n * 2 + (if b then 1 else 0)) (is ∙ ap (λ j. number_of (take (size - left) (drop j bits))) place)
    ∙ sym (number_more (size - left) (first + (left - 1)) b bits e)
    ∙ ap (λ j. number_of (take j (drop (first + (left - 1)) bits))) count

-- a number of fewer bits than a cell has, doubled, and with one bit more
pub word_small : (size left word : ℕ) (bits : List Bool) → size ≤ 64 → 0 < left → left ≤ size → word ≡ number_of (take (size - left) bits) → word < 2 ^ 63
word_small size left word bits s h k e = omega (arith, e, number_of-lt (size - left) bits, pow_mono {i = size - left} {j = 63} (omega arith))

-- behind and before a place that is written
behind : (b : Bool) (first : ℕ) (bits rest : List Bool) → first < length bits → drop (suc first) (take first bits ++ b ∷ rest) ≡ rest
behind b first [] rest h = absurd (omega arith)
behind b zero (x ∷ bits) rest h = refl
behind b (suc first) (x ∷ bits) rest h = behind b first bits rest (omega arith)

before : (b : Bool) (first : ℕ) (bits rest more : List Bool) → first < length bits → take (suc first) (take first bits ++ b ∷ rest) ++ more ≡ take first bits ++ b ∷ more
before b first [] rest more h = absurd (omega arith)
before b zero (x ∷ bits) rest more h = refl
before b (suc first) (x ∷ bits) rest more h = ap (λ xs. x ∷ xs) (before b first bits rest more (omega arith))

pub length_written : (b : Bool) (place : ℕ) (bits new : List Bool) → place < length bits → new ≡ take place bits ++ b ∷ drop (place + 1) bits → length new ≡ length bits
length_written b place bits new h e =
    ap (length {A = Bool}) e ∙ length-append (take place bits) (b ∷ drop (place + 1) bits) ∙ omega (arith, length-take-le place bits (omega arith), length-drop (place + 1) bits)

-- the first bit is written, then the others
pub with_bits_from : (first count n : ℕ) (bits new : List Bool) → first < length bits → new ≡ take first bits ++ (n % 2 == 1) ∷ drop (first + 1) bits
    → with_bits (first + 1) count (n / 2) new ≡ with_bits first (suc count) n bits
with_bits_from first count n bits new h e =
    let one : first + 1 ≡ suc first = omega arith in
    let is : new ≡ take first bits ++ (n % 2 == 1) ∷ drop (suc first) bits = e ∙ ap (λ k. take first bits ++ (n % 2 == 1) ∷ drop k bits) one in
    let more : suc first + count ≡ first + suc count = omega arith in
    let rest : drop (suc first + count) new ≡ drop (first + suc count) bits
    = sym (drop-drop count (suc first) new) ∙ ap (λ xs. drop count (drop (suc first) xs)) is ∙ ap (drop count) (behind (n % 2 == 1) first bits (drop (suc first) bits) h)
    ∙ drop-drop count (suc first) bits ∙ ap (λ k. drop k bits) more in
    let tail = drop (first + suc count) bits in
    ap (λ k. take k new ++ bits_of count (n / 2) ++ drop (k + count) new) one
    ∙ ap (λ xs. take (suc first) new ++ bits_of count (n / 2) ++ xs) rest
    ∙ append_assoc (take (suc first) new) (bits_of count (n / 2)) tail
    ∙ ap (λ xs. take (suc first) xs ++ (bits_of count (n / 2) ++ tail)) is
    ∙ before (n % 2 == 1) first bits (drop (suc first) bits) (bits_of count (n / 2) ++ tail) h
    ∙ sym (append_assoc (take first bits) (bits_of (suc count) n) tail)

pub with_no_bits : (first n : ℕ) (bits : List Bool) → with_bits first 0 n bits ≡ bits
with_no_bits first n bits =
    let none : first + 0 ≡ first = omega arith in
    append_assoc (take first bits) [] (drop (first + 0) bits) ∙ ap (λ k. take first bits ++ drop k bits) none ∙ take-append-drop first bits

pub length-bits_of : (count n : ℕ) → length (bits_of count n) ≡ count
length-bits_of zero n = refl
length-bits_of (suc count) n = ap suc (length-bits_of count (n / 2))

low : (b : Bool) (n : ℕ) → (n % 2 == 1) ≡ b → (if b then 1 else 0) + 2 * (n / 2) ≡ n
low true n e = omega (arith, eqb-true (n % 2) 1 e)
low false n e = omega (arith, eqb-false (n % 2) 1 e)

pub number_of-bits_of : (count n : ℕ) → n < 2 ^ count → number_of (bits_of count n) ≡ n
number_of-bits_of zero n h = omega (arith, h)
number_of-bits_of (suc count) n h = ap (λ k. (if n % 2 == 1 then 1 else 0) + 2 * k) (number_of-bits_of count (n / 2) (omega (arith, h))) ∙ low (n % 2 == 1) n refl

-- the bits, in three parts
parts : (first count n : ℕ) (bits : List Bool) → with_bits first count n bits ≡ take first bits ++ (bits_of count n ++ drop (first + count) bits)
parts first count n bits = append_assoc (take first bits) (bits_of count n) (drop (first + count) bits)

-- the run that was written
pub run_written : (first count n : ℕ) (bits : List Bool) → first + count ≤ length bits → take count (drop first (with_bits first count n bits)) ≡ bits_of count n
run_written first count n bits h =
    let before : length (take first bits) ≡ first = length-take-le first bits (omega arith) in
    let rest = drop (first + count) bits in
    ap (λ xs. take count (drop first xs)) (parts first count n bits)
    ∙ ap (λ k. take count (drop k (take first bits ++ (bits_of count n ++ rest)))) (sym before)
    ∙ ap (take count) (drop-append_seam (take first bits) (bits_of count n ++ rest))
    ∙ ap (λ k. take k (bits_of count n ++ rest)) (sym (length-bits_of count n))
    ∙ take-append_seam (bits_of count n) rest

-- a run without a common bit
pub run_below : (first count second size n : ℕ) (bits : List Bool) → first + count ≤ length bits → second + size ≤ first → take size (drop second (with_bits first count n bits)) ≡ take size (drop second bits)
run_below first count second size n bits h k =
    let before : length (take first bits) ≡ first = length-take-le first bits (omega arith) in
    let rest = bits_of count n ++ drop (first + count) bits in
    let gap : first ≡ second + (first - second) = omega arith in
    let same : drop second (take first bits) ≡ take (first - second) (drop second bits) = ap (λ j. drop second (take j bits)) gap ∙ drop-take second (first - second) bits in
    let room : length (drop second (take first bits)) ≡ first - second = length-drop second (take first bits) ∙ ap (λ j. j - second) before in
    ap (λ xs. take size (drop second xs)) (parts first count n bits)
    ∙ ap (take size) (drop-append-le second (take first bits) rest (omega (arith, before)))
    ∙ take-append-le size (drop second (take first bits)) rest (omega (arith, room))
    ∙ ap (take size) same
    ∙ take-take size (first - second) (drop second bits) (omega arith)

pub run_above : (first count second size n : ℕ) (bits : List Bool) → first + count ≤ length bits → first + count ≤ second → take size (drop second (with_bits first count n bits)) ≡ take size (drop second bits)
run_above first count second size n bits h k =
    let front = take first bits ++ bits_of count n in
    let rest = drop (first + count) bits in
    let before : length front ≡ first + count = length-append (take first bits) (bits_of count n) ∙ omega (arith, length-take-le first bits (omega arith), length-bits_of count n) in
    let gap = second - (first + count) in
    let far : second ≡ length front + gap = omega (arith, before) in
    let back : first + count + gap ≡ second = omega arith in
    ap (λ j. take size (drop j (front ++ rest))) far
    ∙ ap (take size) (drop-append-add front rest gap)
    ∙ ap (take size) (drop-drop gap (first + count) bits)
    ∙ ap (λ j. take size (drop j bits)) back

pub with_bits_next : (place end n : ℕ) (bits new : List Bool) → place < end → end ≤ length bits → new ≡ take place bits ++ (n % 2 == 1) ∷ drop (place + 1) bits
    → with_bits (place + 1) (end - (place + 1)) (n / 2) new ≡ with_bits place (end - place) n bits
with_bits_next place end n bits new h k e =
    let count : suc (end - (place + 1)) ≡ end - place = omega arith in
    with_bits_from place (end - (place + 1)) n bits new (omega arith) e ∙ ap (λ j. with_bits place j n bits) count

-- a bit as a number
pub bit_number : (b : Bool) → bool_byte b ≡ (if b then 1 else 0)
bit_number true = refl
bit_number false = refl

pub bit_small : (b : Bool) → bool_byte b ≤ 1
bit_small true = omega arith
bit_small false = omega arith

pub length_with_bits : (first count n : ℕ) (bits : List Bool) → first + count ≤ length bits → length (with_bits first count n bits) ≡ length bits
length_with_bits first count n bits h =
    length-append (take first bits ++ bits_of count n) (drop (first + count) bits)
    ∙ omega (arith, length-append (take first bits) (bits_of count n), length-take-le first bits (omega arith), length-bits_of count n, length-drop (first + count) bits)
