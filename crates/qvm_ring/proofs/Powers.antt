-- The number of qubits of a list of amplitudes.
use Rattle.std.proofs.Common.{◌≡◌, sym, ◌∙◌, ap, ℕ, suc, ◌+◌, ◌^◌, ◌<◌, ◌≤◌, inl, inr, arith}
use Rattle.std.proofs.Math.Nat.{pow-le-pow_right}
use Rattle.qvm_ring.proofs.FiniteMaps.{order_of}
use Rattle.qvm_ring.proofs.Bits.{power_positive}

power_less : (a b : ℕ) → 2 ^ a < 2 ^ b → a < b
power_less a b h = elim (order_of a b) [
  | inl l ↦ l
  | inr (inl e) ↦ absurd (let p : 2 ^ a ≡ 2 ^ b = ap (λ (n : ℕ). 2 ^ n) e in omega arith)
  | inr (inr l) ↦ absurd (let p : 2 ^ b ≤ 2 ^ a = pow-le-pow_right {n = 2} (omega arith) (omega arith) in omega arith)
]

-- the first power of 2 that isn't below a power of 2 is that power
pub first_power : (count qubits n : ℕ) → count ≡ 2 ^ n → ((k : ℕ) → k < qubits → 2 ^ k < count) → count ≤ 2 ^ qubits → count ≡ 2 ^ qubits
first_power count qubits n e below h = elim (order_of qubits n) [
  | inl l ↦ absurd (let p : 2 ^ suc qubits ≤ 2 ^ n = pow-le-pow_right {n = 2} (omega arith) l in let q : 0 < 2 ^ qubits = power_positive qubits in omega arith)
  | inr (inl p) ↦ e ∙ ap (λ (k : ℕ). 2 ^ k) (sym p)
  | inr (inr l) ↦ absurd (let p : 2 ^ n < count = below n l in omega arith)
]

pub still_few : (count qubits n : ℕ) → count ≡ 2 ^ n → n ≤ 16 → 2 ^ qubits < count → qubits + 1 ≤ 16
still_few count qubits n e h l = let p : qubits < n = power_less qubits n (omega arith) in omega arith

pub below_next : (count qubits : ℕ) → ((k : ℕ) → k < qubits → 2 ^ k < count) → 2 ^ qubits < count → (k : ℕ) → k < qubits + 1 → 2 ^ k < count
below_next count qubits f h k l = elim (order_of k qubits) [
  | inl m ↦ f k m
  | inr (inl e) ↦ let p : 2 ^ k ≡ 2 ^ qubits = ap (λ (n : ℕ). 2 ^ n) e in omega arith
  | inr (inr m) ↦ absurd (omega arith)
]
