-- Fives in the number that digits write, from the last digit on.
use Rattle.std.proofs.Common.{◌≡◌, ℕ, suc, ◌+◌, ◌-◌, ◌*◌, ◌/◌, ◌%◌, ◌^◌, ◌<◌, ◌≤◌, inl, inr, Bool, false, List, [], ◌∷◌, ◌++◌, length, take, drop, get_or, reverse, refl, sym, ◌∙◌, ap, ap₂, subst, arith, le_refl}
use Rattle.std.specs.Prelude.{◌==◌}
use Rattle.std.specs.Int.{◌∣◌}
use Rattle.std.specs.List.{prefix_len}
use Rattle.std.proofs.lemmas.Bool.{cases_lt, cases_Bool}
use Rattle.std.proofs.lemmas.Bool.Decides.{Decides-eqb}
use Rattle.std.proofs.lemmas.Nat.{pow-add}
use Rattle.std.proofs.lemmas.Nat.Gcd.{dvd_trans, mod-eq-zero_of_dvd}
use Rattle.std.proofs.lemmas.List.{append-nil, nil_from_length, reverse-append, reverse-reverse, drop_more, drop_all, take_more, get_or_past}
use Rattle.std.proofs.Math.Nat.{dvd-mul_right, one-le-pow, dvd_of_mul-dvd-mul_left, mul-le-mul}
use Rattle.quil_number.specs.Decimal.{digits, behind_digits, fraction_digits, number, without_zeros, has_binary_end}
use Rattle.quil_number.specs.Divisor.{divides}
use Rattle.quil_number.proofs.Divisors.{divides_is}
use Rattle.quil_number.proofs.Numerals.{number_behind-append}
use Rattle.quil_number.proofs.Roots.{unequal}

-- ---- one digit after another, from the last on

-- the number of the digits in front of the last k, where the digits come from the last on
abbrev pub front : List ℕ → ℕ → ℕ
front rs k = number (reverse (drop k rs))

number_turned : (r : ℕ) (rs : List ℕ) → number (reverse (r ∷ rs)) ≡ number (reverse rs) * 10 + (r - 48)
number_turned r rs = ap number (reverse-append (r ∷ []) rs) ∙ number_behind-append 0 (reverse rs) (r ∷ [])

front_step : (rs : List ℕ) (k : ℕ) → front rs k ≡ front rs (k + 1) * 10 + (get_or rs k 48 - 48)
front_step rs k = elim (cases_lt k (length rs)) [
  | inl within ↦ ap (λ l. number (reverse l)) (drop_more rs k 48 within) ∙ number_turned (get_or rs k 48) (drop (k + 1) rs)
  | inr past ↦
      let here : drop k rs ≡ [] = drop_all k rs past in
      let next : drop (k + 1) rs ≡ [] = drop_all (k + 1) rs (omega arith) in
      let none : get_or rs k 48 ≡ 48 = get_or_past rs k 48 past in
      rw (here, next, none) refl
]

-- ---- the fives

-- n is 5^k (v 2^k + r), where v is the number of the digits in front
pub record IsWalked (n : ℕ) (rs : List ℕ) (k power rest : ℕ) : Type 0 where
  pub twos : power ≡ 2 ^ k
  pub small : rest ≤ 255 * power
  pub same : n ≡ 5 ^ k * (power * front rs k + rest)

pub walk_begins : (ds : List ℕ) → IsWalked (number ds) (reverse ds) 0 1 0
walk_begins ds = record { twos = refl; small = omega arith; same = ap number (sym (reverse-reverse ds)) ∙ once (number (reverse (reverse ds))) }
  where
    once : (v : ℕ) → v ≡ 5 ^ 0 * (1 * v + 0)
    once v = omega arith

pub walk_sum : (n : ℕ) (rs : List ℕ) (k power rest d : ℕ) → IsWalked n rs k power rest → d ≡ get_or rs k 48 - 48 → n ≡ 5 ^ k * (10 * power * front rs (k + 1) + (d * power + rest))
walk_sum n rs k power rest d h e = h.same ∙ ap (λ v. 5 ^ k * (power * v + rest)) (front_step rs k ∙ ap (λ i. front rs (k + 1) * 10 + i) (sym e)) ∙ regroup (5 ^ k) power (front rs (k + 1)) d rest
  where
    regroup : (t w v d r : ℕ) → t * (w * (v * 10 + d) + r) ≡ t * (10 * w * v + (d * w + r))
    regroup t w v d r = omega arith

pub walk_goes_on : (n : ℕ) (rs : List ℕ) (k power rest d s : ℕ) → IsWalked n rs k power rest → d ≡ get_or rs k 48 - 48 → d ≤ 255 → s ≡ d * power + rest → s % 5 ≡ 0 → IsWalked n rs (k + 1) (power * 2) (s / 5)
walk_goes_on n rs k power rest d s h e small f whole =
    let twice : 2 ^ (k + 1) ≡ 2 ^ k * 2 = pow-add 2 k 1 in
    let fives : 5 ^ (k + 1) ≡ 5 ^ k * 5 = pow-add 5 k 1 in
    let times : d * power ≤ 255 * power = mul-le-mul small (le_refl power) in
    let low : rest ≤ 255 * power = h.small in
    let p : power ≡ 2 ^ k = h.twos in
    record {
      twos = omega (arith, twice, p);
      small = omega (arith, times, low, f);
      same = walk_sum n rs k power rest d h e ∙ ap (λ i. 5 ^ k * (10 * power * front rs (k + 1) + i)) (sym f ∙ exact s whole) ∙ regroup (5 ^ k) power (front rs (k + 1)) (s / 5) (5 ^ (k + 1)) fives;
    }
  where
    exact : (s : ℕ) → s % 5 ≡ 0 → s ≡ 5 * (s / 5)
    exact s h = omega arith

    regroup : (t w v r u : ℕ) → u ≡ t * 5 → t * (10 * w * v + 5 * r) ≡ u * (w * 2 * v + r)
    regroup t w v r u e = rw e (omega arith)

power_divides : (k m : ℕ) → k < m → 5 ^ k * 5 ∣ 5 ^ m
power_divides k m h =
    let split : 5 ^ m ≡ 5 ^ (k + 1) * 5 ^ (m - (k + 1)) = ap (λ i. 5 ^ i) (let e : m ≡ k + 1 + (m - (k + 1)) = omega arith in e) ∙ pow-add 5 (k + 1) (m - (k + 1)) in
    let first : 5 ^ (k + 1) ≡ 5 ^ k * 5 = pow-add 5 k 1 in
    subst (λ i. 5 ^ k * 5 ∣ i) (sym (split ∙ ap (λ i. i * 5 ^ (m - (k + 1))) first)) (dvd-mul_right (5 ^ k * 5) (5 ^ (m - (k + 1))))

pub walk_stops : (n : ℕ) (rs : List ℕ) (k power rest d s : ℕ) → IsWalked n rs k power rest → d ≡ get_or rs k 48 - 48 → s ≡ d * power + rest → (s % 5 ≡ 0 → ⊥) → k < 63 → false ≡ divides (5 ^ 63) n
walk_stops n rs k power rest d s h e f other low = sym (elim (cases_Bool (divides (5 ^ 63) n)) [
  | inl holds ↦
      let sum : n ≡ 5 ^ k * (10 * power * front rs (k + 1) + s) = walk_sum n rs k power rest d h e ∙ ap (λ i. 5 ^ k * (10 * power * front rs (k + 1) + i)) (sym f) in
      let all : 5 ^ k * 5 ∣ 5 ^ k * (10 * power * front rs (k + 1) + s) = subst (λ i. 5 ^ k * 5 ∣ i) sum (dvd_trans (5 ^ k * 5) (power_divides k 63 low) (divides_is (5 ^ 63) n holds)) in
      let one : 5 ∣ 10 * power * front rs (k + 1) + s = dvd_of_mul-dvd-mul_left 5 (one-le-pow k 5 (omega arith)) all in
      let z : (10 * power * front rs (k + 1) + s) % 5 ≡ 0 = mod-eq-zero_of_dvd 5 one in
      absurd (other (rest_of (power * front rs (k + 1)) s (subst (λ i. (i + s) % 5 ≡ 0) (turned power (front rs (k + 1))) z)))
  | inr fails ↦ fails
])
  where
    turned : (w v : ℕ) → 10 * w * v ≡ 10 * (w * v)
    turned w v = omega arith

    rest_of : (x s : ℕ) → (10 * x + s) % 5 ≡ 0 → s % 5 ≡ 0
    rest_of x s h = omega arith

-- ---- zeros at the end

abbrev is_nought : ℕ → Bool
is_nought b = b == 48

-- the digits from the last on without the zeros that come first
abbrev without_first : List ℕ → List ℕ
without_first rs = drop (prefix_len is_nought rs) rs

first_zero : (rs : List ℕ) → without_first (48 ∷ rs) ≡ without_first rs
first_zero rs = ap (λ n. drop n (48 ∷ rs)) (let e : 1 + prefix_len is_nought rs ≡ suc (prefix_len is_nought rs) = omega arith in e)

first_other : (r : ℕ) (rs : List ℕ) → is_nought r ≡ false → without_first (r ∷ rs) ≡ r ∷ rs
first_other r rs e = rw e refl

none_first : (rs ss : List ℕ) → without_first rs ≡ [] → without_first (rs ++ ss) ≡ without_first ss
none_first [] ss e = refl
none_first (r ∷ rs) ss e = elim (cases_Bool (is_nought r)) [
  | inl holds ↦ let h : r ≡ 48 = (Decides-eqb r 48).0 holds in
      ap (λ x. without_first (x ∷ (rs ++ ss))) h ∙ first_zero (rs ++ ss) ∙ none_first rs ss (sym (first_zero rs) ∙ ap (λ x. without_first (x ∷ rs)) (sym h) ∙ e)
  | inr fails ↦ let f : r ∷ rs ≡ [] = sym (first_other r rs fails) ∙ e in cc f
]

some_first : (rs ss : List ℕ) (x : ℕ) (xs : List ℕ) → without_first rs ≡ x ∷ xs → without_first (rs ++ ss) ≡ (x ∷ xs) ++ ss
some_first [] ss x xs e = cc e
some_first (r ∷ rs) ss x xs e = elim (cases_Bool (is_nought r)) [
  | inl holds ↦ let h : r ≡ 48 = (Decides-eqb r 48).0 holds in
      ap (λ y. without_first (y ∷ (rs ++ ss))) h ∙ first_zero (rs ++ ss) ∙ some_first rs ss x xs (sym (first_zero rs) ∙ ap (λ y. without_first (y ∷ rs)) (sym h) ∙ e)
  | inr fails ↦ first_other r (rs ++ ss) fails ∙ ap (λ l. l ++ ss) (sym (first_other r rs fails) ∙ e)
]

turned_append : (ws fs : List ℕ) → without_zeros (ws ++ fs) ≡ reverse (without_first (reverse fs ++ reverse ws))
turned_append ws fs = ap (λ l. reverse (without_first l)) (reverse-append ws fs)

pub all_zeros_behind : (ws fs : List ℕ) → without_zeros fs ≡ [] → without_zeros ws ≡ without_zeros (ws ++ fs)
all_zeros_behind ws fs e =
    let none : without_first (reverse fs) ≡ [] = sym (reverse-reverse (without_first (reverse fs))) ∙ ap reverse e in
    sym (turned_append ws fs ∙ ap reverse (none_first (reverse fs) (reverse ws) none))

pub some_digit_behind : (ws fs : List ℕ) → 0 < length (without_zeros fs) → ws ++ without_zeros fs ≡ without_zeros (ws ++ fs)
some_digit_behind ws fs some =
    elim (without_first (reverse fs)) as (λ l. without_first (reverse fs) ≡ l → ws ++ without_zeros fs ≡ without_zeros (ws ++ fs)) [
      | [] ↦ λ e. let z : length (without_zeros fs) ≡ 0 = ap (λ l. length (reverse l)) e in absurd (omega (arith, z, some))
      | x ∷ xs ↦ λ e.
          sym (turned_append ws fs ∙ ap reverse (some_first (reverse fs) (reverse ws) x xs e ∙ ap (λ l. l ++ reverse ws) (sym e))
          ∙ reverse-append (without_first (reverse fs)) (reverse ws) ∙ ap (λ l. l ++ without_zeros fs) (reverse-reverse ws))
    ] refl

last_taken : (ds : List ℕ) (i : ℕ) → 0 < i → i ≤ length ds → reverse (take i ds) ≡ get_or ds (i - 1) 0 ∷ reverse (take (i - 1) ds)
last_taken ds i some h =
    let e : i ≡ i - 1 + 1 = omega arith in
    ap (λ n. reverse (take n ds)) e ∙ ap reverse (take_more ds (i - 1) 0 (omega arith)) ∙ reverse-append (take (i - 1) ds) (get_or ds (i - 1) 0 ∷ [])

pub zero_last : (ds : List ℕ) (i : ℕ) → 0 < i → i ≤ length ds → get_or ds (i - 1) 0 ≡ 48 → without_zeros (take i ds) ≡ without_zeros (take (i - 1) ds)
zero_last ds i some h e = ap (λ l. reverse (without_first l)) (last_taken ds i some h ∙ ap (λ x. x ∷ reverse (take (i - 1) ds)) e) ∙ ap reverse (first_zero (reverse (take (i - 1) ds)))

pub other_last : (ds : List ℕ) (i : ℕ) → 0 < i → i ≤ length ds → (get_or ds (i - 1) 0 ≡ 48 → ⊥) → without_zeros (take i ds) ≡ take i ds
other_last ds i some h other =
    ap (λ l. reverse (without_first l)) (last_taken ds i some h)
    ∙ ap reverse (first_other (get_or ds (i - 1) 0) (reverse (take (i - 1) ds)) (unequal (get_or ds (i - 1) 0) 48 other) ∙ sym (last_taken ds i some h))
    ∙ reverse-reverse (take i ds)

-- ---- the literal

end_is : (text whole rest places ds : List ℕ) (r : Bool) → whole ≡ digits text → rest ≡ behind_digits text → places ≡ fraction_digits rest → ds ≡ without_zeros (whole ++ places) → r ≡ divides (5 ^ 63) (number ds) → r ≡ has_binary_end text
end_is text whole rest places ds r a b c e h = h ∙ ap (λ l. divides (5 ^ 63) (number l)) (e ∙ ap without_zeros (ap₂ (λ (x y : List ℕ). x ++ y) a (c ∙ ap fraction_digits b)))

pub end_in_whole : (text whole rest places front back : List ℕ) (r : Bool) → whole ≡ digits text → rest ≡ behind_digits text → places ≡ fraction_digits rest → back ≡ without_zeros places → length back ≡ 0 → front ≡ without_zeros whole → r ≡ divides (5 ^ 63) (number (front ++ [])) → r ≡ has_binary_end text
end_in_whole text whole rest places front back r a b c e none f h =
    end_is text whole rest places front r a b c (f ∙ all_zeros_behind whole places (nil_from_length (without_zeros places) (ap length (sym e) ∙ none))) (h ∙ ap (λ l. divides (5 ^ 63) (number l)) (append-nil front))

pub end_in_places : (text whole rest places back : List ℕ) (r : Bool) → whole ≡ digits text → rest ≡ behind_digits text → places ≡ fraction_digits rest → back ≡ without_zeros places → 0 < length back → r ≡ divides (5 ^ 63) (number (whole ++ back)) → r ≡ has_binary_end text
end_in_places text whole rest places back r a b c e some h =
    end_is text whole rest places (whole ++ back) r a b c (ap (λ l. whole ++ l) e ∙ some_digit_behind whole places (subst (λ l. 0 < length l) e some)) h
