-- The product of an act is that of the block at the basis state's control bits.
use Rattle.std.proofs.Common.{◌≡◌, ◌≢◌, refl, sym, ◌∙◌, ap, ℕ, zero, suc, ◌+◌, ◌*◌, ◌/◌, ◌%◌, ◌^◌, ◌<◌, ◌==◌, List, [], ◌∷◌, ◌++◌, length, arith, rules, length-append}
use Rattle.std.proofs.Math.Nat.{mul_comm, div-div-eq-div-mul}
use Rattle.std.specs.Prelude.{if◌then◌else◌, Option, Some, None}
use Rattle.std.proofs.lemmas.Nat.{div-mul-add, mod-mul-add, pow-add}
use Rattle.qvm_ring.specs.Ring.{Element, nought, plus, times}
use Rattle.qvm_ring.specs.Ray.{Ray, amplitude_at}
use Rattle.qvm_ring.specs.Gate.{bit_of, with_bit, local_state, with_local, summed, product_at}
use Rattle.qvm_ring.proofs.Elements.{times_nought}
use Rattle.qvm_ring.proofs.LocalStates.{IsOther, AreDifferent, other_tail, different_head, different_tail, local_below, with_local_more, with_own_local}
use Rattle.qvm_ring.proofs.Summed.{sum_same, sum_nought, sum_lone}
use Rattle.quil_code.specs.Controls.{root_two_to}
use Rattle.quil_code.specs.Matrices.{Matrix}
use Rattle.quil_code.specs.Acts.{Act, qubits_of, act_gate, matrix_at, block_entry, piece_product}
use Rattle.quil_code.proofs.SplitSums.{sum_split}
use Rattle.quil_code.proofs.Collapse.{if_true, if_false, is_same, isnt_same, with_local_other}

-- ---- control bits and target bits

spread : (b p q r s : ℕ) → b * (p * q) + (r * q + s) ≡ (b * p + r) * q + s
spread b p q r s = search rules

no_controls : (n r : ℕ) → r ≡ 0 * n + r
no_controls n r = omega arith

pub local_of_both : (ds qs : List ℕ) (x : ℕ) → local_state (ds ++ qs) x ≡ local_state ds x * 2 ^ length qs + local_state qs x
local_of_both [] qs x = no_controls (2 ^ length qs) (local_state qs x)
local_of_both (d ∷ ds) qs x =
    ap (λ (n : ℕ). bit_of x d * 2 ^ n + local_state (ds ++ qs) x) (length-append ds qs)
    ∙ ap (λ (n : ℕ). bit_of x d * n + local_state (ds ++ qs) x) (pow-add 2 (length ds) (length qs))
    ∙ ap (λ (n : ℕ). bit_of x d * (2 ^ length ds * 2 ^ length qs) + n) (local_of_both ds qs x)
    ∙ spread (bit_of x d) (2 ^ length ds) (2 ^ length qs) (local_state ds x) (local_state qs x)

-- a bit of the control bits
high_bit : (c t m n : ℕ) → t < 2 ^ n → bit_of (c * 2 ^ n + t) (m + n) ≡ bit_of c m
high_bit c t m n h =
    ap (λ (i : ℕ). (c * 2 ^ n + t) / i % 2) (pow-add 2 m n ∙ mul_comm (2 ^ m) (2 ^ n))
    ∙ ap (λ (i : ℕ). i % 2) (sym (div-div-eq-div-mul (c * 2 ^ n + t) (2 ^ n) (2 ^ m)))
    ∙ ap (λ (i : ℕ). i / 2 ^ m % 2) (div-mul-add c (2 ^ n) t h)

turned : (c p t : ℕ) → c * p + t ≡ t + c * p
turned c p t = omega arith

with_local_both : (ds qs : List ℕ) (c t x : ℕ) → t < 2 ^ length qs → with_local (ds ++ qs) (c * 2 ^ length qs + t) x ≡ with_local ds c (with_local qs t x)
with_local_both [] qs c t x h = ap (λ (k : ℕ). with_local qs k x) (turned c (2 ^ length qs) t) ∙ with_local_more qs t c x
with_local_both (d ∷ ds) qs c t x h =
    let k = c * 2 ^ length qs + t in
    ap (λ (n : ℕ). with_bit (with_local (ds ++ qs) k x) d (bit_of k n)) (length-append ds qs)
    ∙ ap (with_bit (with_local (ds ++ qs) k x) d) (high_bit c t (length ds) (length qs) h)
    ∙ ap (λ (y : ℕ). with_bit y d (bit_of c (length ds))) (with_local_both ds qs c t x h)

other_behind : (d : ℕ) (ds qs : List ℕ) → IsOther d (ds ++ qs) → IsOther d qs
other_behind d [] qs h = h
other_behind d (e ∷ ds) qs h = other_behind d ds qs (other_tail d e (ds ++ qs) h)

-- target bits don't touch the control bits
local_kept : (ds qs : List ℕ) (t x : ℕ) → AreDifferent (ds ++ qs) → local_state ds (with_local qs t x) ≡ local_state ds x
local_kept [] qs t x h = refl
local_kept (d ∷ ds) qs t x h =
    ap (λ (b : ℕ). b * 2 ^ length ds + local_state ds (with_local qs t x)) (with_local_other qs d t x (other_behind d ds qs (different_head d (ds ++ qs) h)))
    ∙ ap (λ (r : ℕ). bit_of x d * 2 ^ length ds + r) (local_kept ds qs t x (different_tail d (ds ++ qs) h))

own_controls : (ds qs : List ℕ) (t x : ℕ) → AreDifferent (ds ++ qs) → with_local ds (local_state ds x) (with_local qs t x) ≡ with_local qs t x
own_controls ds qs t x h = ap (λ (c : ℕ). with_local ds c (with_local qs t x)) (sym (local_kept ds qs t x h)) ∙ with_own_local ds (with_local qs t x)

-- ---- a sum in blocks

one_block_more : (m n : ℕ) → suc m * n ≡ m * n + n
one_block_more m n = search rules

pub in_blocks : (m n : ℕ) (f : ℕ → Element) → summed (m * n) f ≡ summed m (λ j. summed n (λ t. f (j * n + t)))
in_blocks zero n f = ap (λ (k : ℕ). summed k f) (let e : 0 * n ≡ 0 = omega arith in e)
in_blocks (suc m) n f = ap (λ (k : ℕ). summed k f) (one_block_more m n) ∙ sum_split (m * n) n f
    ∙ ap (λ (z : Element). plus z (summed n (λ t. f (m * n + t)))) (in_blocks m n f)

-- ---- the block at a basis state

module _ (a : Act) (ray : Ray) (x : ℕ) (different : AreDifferent (qubits_of a)) where
  ds : List ℕ
  ds = a.controls

  qs : List ℕ
  qs = a.targets

  term : ℕ → Element
  term k = times ((act_gate a).entry (local_state (ds ++ qs) x) k) (amplitude_at ray (with_local (ds ++ qs) k x))

  block : Option Matrix → ℕ → Element
  block o t = times (block_entry a.root_twos o (local_state qs x) t) (amplitude_at ray (with_local qs t x))

  row_pattern : local_state (ds ++ qs) x / 2 ^ length qs ≡ local_state ds x
  unfolding ds qs
  row_pattern = ap (λ (k : ℕ). k / 2 ^ length qs) (local_of_both ds qs x) ∙ div-mul-add (local_state ds x) (2 ^ length qs) (local_state qs x) (local_below qs x)

  row_place : local_state (ds ++ qs) x % 2 ^ length qs ≡ local_state qs x
  unfolding ds qs
  row_place = ap (λ (k : ℕ). k % 2 ^ length qs) (local_of_both ds qs x) ∙ mod-mul-add (local_state ds x) (2 ^ length qs) (local_state qs x) (local_below qs x)

  -- other blocks have no part
  other_block : (j t : ℕ) → t < 2 ^ length qs → j ≢ local_state ds x → term (j * 2 ^ length qs + t) ≡ nought
  unfolding term ds qs
  other_block j t h o =
      let n = 2 ^ length qs in
      let k = j * n + t in
      let row = local_state (ds ++ qs) x in
      ap (λ (z : Element). times z (amplitude_at ray (with_local (ds ++ qs) k x)))
      (if_false (row / n == k / n) (block_entry a.root_twos (matrix_at a.pieces (row / n)) (row % n) (k % n)) nought
      (isnt_same (row / n) (k / n) (λ e. o (sym (div-mul-add j n t h) ∙ sym e ∙ row_pattern))))
      ∙ times_nought (amplitude_at ray (with_local (ds ++ qs) k x))

  own_block : (t : ℕ) → t < 2 ^ length qs → term (local_state ds x * 2 ^ length qs + t) ≡ block (matrix_at a.pieces (local_state ds x)) t
  unfolding term block ds qs
  own_block t h =
      let n = 2 ^ length qs in
      let c = local_state ds x in
      let k = c * n + t in
      let row = local_state (ds ++ qs) x in
      let entry : ℕ → ℕ → ℕ → Element = λ p i j. block_entry a.root_twos (matrix_at a.pieces p) i j in
      let column : k / n ≡ c = div-mul-add c n t h in
      ap (λ (z : Element). times z (amplitude_at ray (with_local (ds ++ qs) k x)))
      (ap (λ (p : ℕ). if row / n == p then entry (row / n) (row % n) (k % n) else nought) (column ∙ sym row_pattern)
      ∙ if_true (row / n == row / n) (entry (row / n) (row % n) (k % n)) nought (is_same (row / n))
      ∙ ap (λ (p : ℕ). entry p (row % n) (k % n)) row_pattern
      ∙ ap (λ (i : ℕ). entry c i (k % n)) row_place
      ∙ ap (entry c (local_state qs x)) (mod-mul-add c n t h))
      ∙ ap (λ (y : ℕ). times (entry c (local_state qs x) t) (amplitude_at ray y)) (with_local_both ds qs c t x h ∙ own_controls ds qs t x different)

  block_is : (o : Option Matrix) → summed (2 ^ length qs) (block o) ≡ piece_product a.root_twos o qs ray x
  unfolding block ds qs
  block_is None =
      let r = local_state qs x in
      sum_lone (2 ^ length qs) r (block None) (local_below qs x)
      (λ t l o. ap (λ (z : Element). times z (amplitude_at ray (with_local qs t x))) (if_false (r == t) (root_two_to a.root_twos) nought (isnt_same r t (λ e. o (sym e)))) ∙ times_nought (amplitude_at ray (with_local qs t x)))
      ∙ ap (λ (z : Element). times z (amplitude_at ray (with_local qs r x))) (if_true (r == r) (root_two_to a.root_twos) nought (is_same r))
      ∙ ap (λ (y : ℕ). times (root_two_to a.root_twos) (amplitude_at ray y)) (with_own_local qs x)
  block_is (Some y) = refl

  pub product_of_act : product_at (act_gate a) (qubits_of a) ray x ≡ piece_product a.root_twos (matrix_at a.pieces (local_state a.controls x)) a.targets ray x
  unfolding term ds qs
  product_of_act =
      let m = 2 ^ length ds in
      let n = 2 ^ length qs in
      let c = local_state ds x in
      let inner : ℕ → Element = λ j. summed n (λ t. term (j * n + t)) in
      ap (λ (k : ℕ). summed (2 ^ k) term) (length-append ds qs)
      ∙ ap (λ (k : ℕ). summed k term) (pow-add 2 (length ds) (length qs))
      ∙ in_blocks m n term
      ∙ sum_lone m c inner (local_below ds x) (λ j l o. sum_nought n (λ t. term (j * n + t)) (λ t h. other_block j t h o))
      ∙ sum_same n (λ t. term (c * n + t)) (block (matrix_at a.pieces c)) (λ t h. own_block t h)
      ∙ block_is (matrix_at a.pieces c)
