-- Modifiers keep gates unitary.
use Rattle.std.proofs.Common.{◌≡◌, ◌≢◌, refl, sym, ◌∙◌, ap, subst, ℕ, zero, suc, ◌+◌, ◌-◌, ◌*◌, ◌^◌, ◌<◌, ◌≤◌, ◌==◌, ◌⊎◌, inl, inr, Bool, true, false, List, [], ◌∷◌, arith}
use Rattle.std.specs.Prelude.{if◌then◌else◌}
use Rattle.std.proofs.lemmas.Int.{ints}
use Rattle.std.proofs.lemmas.Bool.{eqb-true}
use Rattle.std.proofs.lemmas.Bool.Decides.{nat_tests}
use Rattle.std.proofs.Math.IntN.{*ℤ_comm}
use borrow.Author.Differences.{same_in}
use Rattle.qvm_ring.specs.Ring.{Element, nought, root_two, whole_number, plus, times, conjugate}
use Rattle.qvm_ring.specs.Gate.{Gate, summed, gram_entry, cogram_entry, identity_entry, IsUnitary}
use Rattle.qvm_ring.proofs.RingLemmas.{same_element}
use Rattle.qvm_ring.proofs.Elements.{plus_nought, nought_plus, times_nought}
use Rattle.qvm_ring.proofs.Associative.{times_assoc, times_zero}
use Rattle.qvm_ring.proofs.LocalStates.{doubled}
use Rattle.qvm_ring.proofs.Summed.{sum_same, sum_nought, sum_lone}
use Rattle.quil_code.specs.Controls.{root_two_to, idle, daggered, forked, Modification, modified, controls_of, is_dagger_of, daggered_if, under, first_half, second_half, IsFamily}
use Rattle.quil_code.proofs.SplitSums.{sum_split}
use Rattle.quil_code.proofs.Modifications.{conjugate_twice, conjugate_root_two_to, daggered_idle, daggered_forked, modified_is_under}
use Rattle.quil_code.proofs.Collapse.{if_true, if_false, is_same, isnt_same, low_low, low_high, high_low, high_high, arity_under, root_twos_under}
use Rattle.quil_code.proofs.Blocks.{same_arity, same_root_twos}

-- ---- powers of √2

pub times_comm : (x y : Element) → times x y ≡ times y x
times_comm x y =
    let aa = *ℤ_comm x.a y.a in let ab = *ℤ_comm x.a y.b in let ac = *ℤ_comm x.a y.c in let ad = *ℤ_comm x.a y.d in
    let ba = *ℤ_comm x.b y.a in let bb = *ℤ_comm x.b y.b in let bc = *ℤ_comm x.b y.c in let bd = *ℤ_comm x.b y.d in
    let ca = *ℤ_comm x.c y.a in let cb = *ℤ_comm x.c y.b in let cc' = *ℤ_comm x.c y.c in let cd = *ℤ_comm x.c y.d in
    let da = *ℤ_comm x.d y.a in let db = *ℤ_comm x.d y.b in let dc = *ℤ_comm x.d y.c in let dd = *ℤ_comm x.d y.d in
    same_element (times x y) (times y x)
    (same_in _ _ (omega (arith, ints, aa, bd, cc', db)))
    (same_in _ _ (omega (arith, ints, ab, ba, cd, dc)))
    (same_in _ _ (omega (arith, ints, ac, bb, ca, dd)))
    (same_in _ _ (omega (arith, ints, ad, bc, cb, da)))

twice_whole : (n : ℕ) → times (whole_number 2) (whole_number n) ≡ whole_number (2 * n)
twice_whole n = same_element _ _ (same_in _ _ (omega (arith, ints))) (same_in _ _ (omega (arith, ints))) (same_in _ _ (omega (arith, ints))) (same_in _ _ (omega (arith, ints)))

twice : (m : ℕ) → 2 ^ suc m ≡ 2 * 2 ^ m
twice m = omega arith

squared : (m : ℕ) → times (root_two_to m) (root_two_to m) ≡ whole_number (2 ^ m)
squared zero = refl
squared (suc m) =
    let s = root_two_to m in
    let step : times (root_two_to (suc m)) (root_two_to (suc m)) ≡ times (times root_two s) (times root_two s) = refl in
    step
    ∙ times_assoc root_two s (times root_two s)
    ∙ ap (λ (z : Element). times root_two (times s z)) (times_comm root_two s)
    ∙ ap (times root_two) (sym (times_assoc s s root_two))
    ∙ ap (λ (z : Element). times root_two (times z root_two)) (squared m)
    ∙ ap (times root_two) (times_comm (whole_number (2 ^ m)) root_two)
    ∙ sym (times_assoc root_two root_two (whole_number (2 ^ m)))
    ∙ twice_whole (2 ^ m)
    ∙ ap whole_number (sym (twice m))

-- ---- the conjugate transpose

gram_daggered : (g : Gate) (r c : ℕ) → gram_entry (daggered g) r c ≡ cogram_entry g r c
gram_daggered g r c =
    sum_same (2 ^ g.arity) (λ k. times (conjugate (g.entry k r)) (conjugate (conjugate (g.entry k c)))) (λ k. times (conjugate (g.entry k r)) (g.entry k c))
    (λ k l. ap (times (conjugate (g.entry k r))) (conjugate_twice (g.entry k c)))

cogram_daggered : (g : Gate) (r c : ℕ) → cogram_entry (daggered g) r c ≡ gram_entry g r c
cogram_daggered g r c =
    sum_same (2 ^ g.arity) (λ k. times (conjugate (conjugate (g.entry r k))) (conjugate (g.entry c k))) (λ k. times (g.entry r k) (conjugate (g.entry c k)))
    (λ k l. ap (λ (z : Element). times z (conjugate (g.entry c k))) (conjugate_twice (g.entry r k)))

pub unitary_daggered : (g : Gate) → IsUnitary g → IsUnitary (daggered g)
unitary_daggered g u = record {
  rows = λ r c i j. gram_daggered g r c ∙ u.columns r c i j;
  columns = λ r c i j. cogram_daggered g r c ∙ u.rows r c i j;
}

abbrev pub RowsOf : Gate → Type 0
RowsOf g = (r c : ℕ) → r < 2 ^ g.arity → c < 2 ^ g.arity → gram_entry g r c ≡ identity_entry g r c

-- one product is enough, if the conjugate transpose has it too
pub unitary_by_rows : (g : Gate) → RowsOf g → RowsOf (daggered g) → IsUnitary g
unitary_by_rows g u v = record { rows = u; columns = λ r c i j. sym (gram_daggered g r c) ∙ v r c i j }

-- ---- two gates side by side

pub products : (x y x' y' : Element) → x ≡ x' → y ≡ y' → times x (conjugate y) ≡ times x' (conjugate y')
products x y x' y' e f = ap (λ (z : Element). times z (conjugate y)) e ∙ ap (λ (z : Element). times x' (conjugate z)) f

pub no_left : (x y : Element) → x ≡ nought → times x (conjugate y) ≡ nought
no_left x y e = ap (λ (z : Element). times z (conjugate y)) e ∙ times_nought (conjugate y)

pub no_right : (x y : Element) → y ≡ nought → times x (conjugate y) ≡ nought
no_right x y e = ap (λ (z : Element). times x (conjugate z)) e ∙ times_zero x

low_or_high : (r n : ℕ) → (r < n) ⊎ (n ≤ r)
low_or_high r n = grind arith

pub same_shift : (r c n : ℕ) → n ≤ r → n ≤ c → (r - n == c - n) ≡ (r == c)
same_shift r c n h l = grind (arith, nat_tests)

module _ (g h : Gate) (size : g.arity ≡ h.arity) (root : g.root_twos ≡ h.root_twos) (u : RowsOf g) (v : RowsOf h) where
  part : ℕ → ℕ → ℕ → Element
  part r c k = times ((forked g h).entry r k) (conjugate ((forked g h).entry c k))

  halves : (r c : ℕ) → gram_entry (forked g h) r c ≡ plus (summed (2 ^ g.arity) (part r c)) (summed (2 ^ g.arity) (λ k. part r c (2 ^ g.arity + k)))
  unfolding part
  halves r c = ap (λ (n : ℕ). summed n (part r c)) (doubled g.arity) ∙ sum_split (2 ^ g.arity) (2 ^ g.arity) (part r c)

  -- a half without a part, by its row and by its column
  no_rows : (r c : ℕ) (at : ℕ → ℕ) → ((k : ℕ) → k < 2 ^ g.arity → (forked g h).entry r (at k) ≡ nought) → summed (2 ^ g.arity) (λ k. part r c (at k)) ≡ nought
  unfolding part
  no_rows r c at e = sum_nought (2 ^ g.arity) (λ k. part r c (at k)) (λ k l. no_left ((forked g h).entry r (at k)) ((forked g h).entry c (at k)) (e k l))

  no_columns : (r c : ℕ) (at : ℕ → ℕ) → ((k : ℕ) → k < 2 ^ g.arity → (forked g h).entry c (at k) ≡ nought) → summed (2 ^ g.arity) (λ k. part r c (at k)) ≡ nought
  unfolding part
  no_columns r c at e = sum_nought (2 ^ g.arity) (λ k. part r c (at k)) (λ k l. no_right ((forked g h).entry r (at k)) ((forked g h).entry c (at k)) (e k l))

  rows_forked : RowsOf (forked g h)
  unfolding part
  rows_forked r c i j =
      let n = 2 ^ g.arity in
      let f = forked g h in
      let d : 2 ^ suc g.arity ≡ n + n = doubled g.arity in
      let low : ℕ → Element = part r c in
      let high : ℕ → Element = λ k. part r c (n + k) in
      elim (low_or_high r n) [
        | inl a ↦ elim (low_or_high c n) [
          | inl b ↦ halves r c
              ∙ ap (plus (summed n low)) (no_rows r c (λ k. n + k) (λ k l. low_high g h r (n + k) a (omega arith)))
              ∙ plus_nought (summed n low)
              ∙ sum_same n low (λ k. times (g.entry r k) (conjugate (g.entry c k))) (λ k l. products (f.entry r k) (f.entry c k) (g.entry r k) (g.entry c k) (low_low g h r k a l) (low_low g h c k b l))
              ∙ u r c a b
          | inr b ↦ halves r c
              ∙ ap (plus (summed n low)) (no_rows r c (λ k. n + k) (λ k l. low_high g h r (n + k) a (omega arith)))
              ∙ plus_nought (summed n low)
              ∙ no_columns r c (λ k. k) (λ k l. high_low g h c k b l)
              ∙ sym (if_false (r == c) (whole_number (2 ^ f.root_twos)) nought (isnt_same r c (λ e. omega (arith, e, a, b))))
        ]
        | inr a ↦ elim (low_or_high c n) [
          | inl b ↦ halves r c
              ∙ ap (λ (z : Element). plus z (summed n high)) (no_rows r c (λ k. k) (λ k l. high_low g h r k a l))
              ∙ nought_plus (summed n high)
              ∙ no_columns r c (λ k. n + k) (λ k l. low_high g h c (n + k) b (omega arith))
              ∙ sym (if_false (r == c) (whole_number (2 ^ f.root_twos)) nought (isnt_same r c (λ e. omega (arith, e, a, b))))
          | inr b ↦
              let less : (k : ℕ) → n + k - n ≡ k = λ k. omega arith in
              let width : 2 ^ h.arity ≡ n = ap (λ (t : ℕ). 2 ^ t) (sym size) in
              halves r c
              ∙ ap (λ (z : Element). plus z (summed n high)) (no_rows r c (λ k. k) (λ k l. high_low g h r k a l))
              ∙ nought_plus (summed n high)
              ∙ sum_same n high (λ k. times (h.entry (r - n) k) (conjugate (h.entry (c - n) k))) (λ k l.
              products (f.entry r (n + k)) (f.entry c (n + k)) (h.entry (r - n) k) (h.entry (c - n) k)
              (high_high g h r (n + k) a (omega arith) ∙ ap (h.entry (r - n)) (less k))
              (high_high g h c (n + k) b (omega arith) ∙ ap (h.entry (c - n)) (less k)))
              ∙ ap (λ (t : ℕ). summed t (λ k. times (h.entry (r - n) k) (conjugate (h.entry (c - n) k)))) (sym width)
              ∙ v (r - n) (c - n) (omega (arith, width, d, i)) (omega (arith, width, d, j))
              ∙ ap (λ (t : Bool). if t then whole_number (2 ^ h.root_twos) else nought) (same_shift r c n a b)
              ∙ ap (λ (t : ℕ). if r == c then whole_number (2 ^ t) else nought) (sym root)
        ]
      ]

unitary_forked : (g h : Gate) → g.arity ≡ h.arity → g.root_twos ≡ h.root_twos → IsUnitary g → IsUnitary h → IsUnitary (forked g h)
unitary_forked g h size root u v =
    unitary_by_rows (forked g h) (rows_forked g h size root u.rows v.rows)
    (subst RowsOf (sym (daggered_forked g h)) (rows_forked (daggered g) (daggered h) size root (unitary_daggered g u).rows (unitary_daggered h v).rows))

-- ---- the identity over √2^m

pub same_or_not : (r c : ℕ) → (r ≡ c) ⊎ (r ≢ c)
same_or_not r c = elim (r == c) as (λ b. (r == c) ≡ b → (r ≡ c) ⊎ (r ≢ c)) [
  | true ↦ λ e. inl (eqb-true r c e)
  | false ↦ λ e. inr (λ f. absurd (grind (arith, nat_tests)))
] refl

rows_idle : (g : Gate) → RowsOf (idle g)
rows_idle g r c i j =
    let n = 2 ^ g.arity in
    let s = root_two_to g.root_twos in
    let entry : ℕ → ℕ → Element = (idle g).entry in
    let part : ℕ → Element = λ k. times (entry r k) (conjugate (entry c k)) in
    elim (same_or_not r c) [
      | inl e ↦
          sum_lone n r part i (λ k l o. no_left (entry r k) (entry c k) (if_false (r == k) s nought (isnt_same r k (λ f. o (sym f)))))
          ∙ products (entry r r) (entry c r) s s (if_true (r == r) s nought (is_same r)) (ap (λ (t : ℕ). if c == t then s else nought) e ∙ if_true (c == c) s nought (is_same c))
          ∙ ap (times s) (conjugate_root_two_to g.root_twos)
          ∙ squared g.root_twos
          ∙ sym (ap (λ (t : ℕ). if r == t then whole_number (2 ^ g.root_twos) else nought) (sym e) ∙ if_true (r == r) (whole_number (2 ^ g.root_twos)) nought (is_same r))
      | inr e ↦
          sum_nought n part (λ k l. elim (same_or_not r k) [
            | inl f ↦ no_right (entry r k) (entry c k) (if_false (c == k) s nought (isnt_same c k (λ t. e (f ∙ sym t))))
            | inr f ↦ no_left (entry r k) (entry c k) (if_false (r == k) s nought (isnt_same r k f))
          ])
          ∙ sym (if_false (r == c) (whole_number (2 ^ g.root_twos)) nought (isnt_same r c e))
    ]

pub unitary_idle : (g : Gate) → IsUnitary (idle g)
unitary_idle g = unitary_by_rows (idle g) (rows_idle g) (subst RowsOf (sym (daggered_idle g)) (rows_idle (daggered g)))

-- ---- controls and modifiers

unitary_under : (cs : List Bool) (n m : ℕ) (f : List ℕ → Gate) → IsFamily n m f → ((xs : List ℕ) → IsUnitary (f xs)) → (xs : List ℕ) → IsUnitary (under cs f xs)
unitary_under [] n m f h u xs = u xs
unitary_under (true ∷ cs) n m f h u xs =
    let g = under cs f xs in unitary_forked (idle g) g refl refl (unitary_idle g) (unitary_under cs n m f h u xs)
unitary_under (false ∷ cs) n m f h u xs =
    let ys = first_half xs in let zs = second_half xs in
    unitary_forked (under cs f ys) (under cs f zs)
    (arity_under cs n m f h ys ∙ sym (arity_under cs n m f h zs))
    (root_twos_under cs n m f h ys ∙ sym (root_twos_under cs n m f h zs))
    (unitary_under cs n m f h u ys) (unitary_under cs n m f h u zs)

unitary_if_daggered : (b : Bool) (g : Gate) → IsUnitary g → IsUnitary (daggered_if b g)
unitary_if_daggered true g u = unitary_daggered g u
unitary_if_daggered false g u = u

pub modified_unitary : (ms : List Modification) (n m : ℕ) (f : List ℕ → Gate) → IsFamily n m f → ((xs : List ℕ) → IsUnitary (f xs)) → (xs : List ℕ) → IsUnitary (modified ms f xs)
modified_unitary ms n m f h u xs =
    let base : List ℕ → Gate = λ ys. daggered_if (is_dagger_of ms) (f ys) in
    let family : IsFamily n m base = record { arity = λ ys. same_arity (is_dagger_of ms) (f ys) ∙ h.arity ys; root_twos = λ ys. same_root_twos (is_dagger_of ms) (f ys) ∙ h.root_twos ys } in
    subst IsUnitary (sym (modified_is_under ms f xs)) (unitary_under (controls_of ms) n m base family (λ ys. unitary_if_daggered (is_dagger_of ms) (f ys) (u ys)) xs)
