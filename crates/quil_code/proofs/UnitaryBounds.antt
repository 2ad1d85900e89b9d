-- The entries of a unitary gate are small: the norms along a row sum to 2^m.
use Rattle.std.proofs.Common.{◌≡◌, refl, sym, ◌∙◌, ap, ℕ, zero, suc, ◌+◌, ◌*◌, ◌^◌, ◌<◌, ◌≤◌, ◌⊎◌, inl, inr, arith}
use Rattle.std.specs.Prelude.{ℤ, pos, ◌+ℤ◌, nat_abs, if◌then◌else◌}
use Rattle.std.proofs.Math.Nat.{mul-le-mul}
use Rattle.std.proofs.Math.Pow.{pow_mono}
use Rattle.std.proofs.lemmas.Bool.{eq-eqb}
use Rattle.qvm_ring.specs.Ring.{Element, nought, whole_number, times, conjugate, square, norm_whole}
use Rattle.qvm_ring.specs.Gate.{Gate, IsUnitary, summed, identity_entry}
use Rattle.qvm_ring.specs.Multiply.{IsWithin}
use Rattle.qvm_ring.proofs.RingLemmas.{times_conjugate}

-- the sum of f below n
total : ℕ → (ℕ → ℕ) → ℕ
total zero f = 0
total (suc n) f = total n f + f n

first_total : (n : ℕ) (f : ℕ → Element) → (summed n (λ k. times (f k) (conjugate (f k)))).a ≡ pos (total n (λ k. norm_whole (f k)))
unfolding total
first_total zero f = refl
first_total (suc n) f =
    ap (λ (z : ℤ). z +ℤ (times (f n) (conjugate (f n))).a) (first_total n f)
    ∙ ap (λ (z : Element). pos (total n (λ k. norm_whole (f k))) +ℤ z.a) (times_conjugate (f n))

before_or_last : (k n : ℕ) → k < suc n → (k < n) ⊎ (k ≡ n)
before_or_last k n h = grind arith

part_of_total : (n : ℕ) (f : ℕ → ℕ) (k : ℕ) → k < n → f k ≤ total n f
unfolding total
part_of_total zero f k h = absurd (omega arith)
part_of_total (suc n) f k h = elim (before_or_last k n h) [
  | inl b ↦ omega (arith, part_of_total n f k b)
  | inr e ↦ omega (arith, ap f e)
]

either_way : (x n : ℕ) → (x ≤ n) ⊎ (suc n ≤ x)
either_way x n = grind arith

-- a square of at most n² is that of a number of at most n
root_within : (x n : ℕ) → x * x ≤ n * n → x ≤ n
root_within x n h = elim (either_way x n) [
  | inl l ↦ l
  | inr l ↦ absurd (omega (arith, mul-le-mul l l, h))
]

coordinate_within : (x : ℤ) (n : ℕ) → square x ≤ n → n ≤ 2 ^ 40 → nat_abs x ≤ 2 ^ 20
coordinate_within x n h l = root_within (nat_abs x) (2 ^ 20) (omega (arith, h, l))

norm_within : (z : Element) (n : ℕ) → norm_whole z ≤ n → n ≤ 2 ^ 40 → IsWithin (2 ^ 20) z
norm_within z n h l = record {
  a = coordinate_within z.a n (omega (arith, h)) l;
  b = coordinate_within z.b n (omega (arith, h)) l;
  c = coordinate_within z.c n (omega (arith, h)) l;
  d = coordinate_within z.d n (omega (arith, h)) l;
}

diagonal : (g : Gate) (r : ℕ) → identity_entry g r r ≡ whole_number (2 ^ g.root_twos)
diagonal g r = ap (λ b. if b then whole_number (2 ^ g.root_twos) else nought) (eq-eqb r r refl)

row_total : (g : Gate) → IsUnitary g → (r : ℕ) → r < 2 ^ g.arity → pos (total (2 ^ g.arity) (λ k. norm_whole (g.entry r k))) ≡ pos (2 ^ g.root_twos)
row_total g u r h = sym (first_total (2 ^ g.arity) (g.entry r)) ∙ ap (λ (z : Element). z.a) (u.rows r r h h ∙ diagonal g r)

pub unitary_norm : (g : Gate) → IsUnitary g → g.root_twos ≤ 40 → (r c : ℕ) → r < 2 ^ g.arity → c < 2 ^ g.arity → norm_whole (g.entry r c) ≤ 2 ^ 40
unitary_norm g u m r c h l =
    let e : total (2 ^ g.arity) (λ k. norm_whole (g.entry r k)) ≡ 2 ^ g.root_twos = ap nat_abs (row_total g u r h) in
    let f : norm_whole (g.entry r c) ≤ total (2 ^ g.arity) (λ k. norm_whole (g.entry r k)) = part_of_total (2 ^ g.arity) (λ k. norm_whole (g.entry r k)) c l in
    let n : 2 ^ g.root_twos ≤ 2 ^ 40 = pow_mono {i = g.root_twos} {j = 40} m in
    omega arith

pub unitary_within : (g : Gate) → IsUnitary g → g.root_twos ≤ 40 → (r c : ℕ) → r < 2 ^ g.arity → c < 2 ^ g.arity → IsWithin (2 ^ 20) (g.entry r c)
unitary_within g u m r c h l = norm_within (g.entry r c) (2 ^ 40) (unitary_norm g u m r c h l) (let k : 2 ^ 40 ≤ 2 ^ 40 = omega arith in k)
