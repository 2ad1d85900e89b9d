-- Each standard gate at each angle is unitary, and the code's sums of phases are the table's: a computation a row.
use Rattle.std.proofs.Common.{◌≡◌, refl, ℕ, ◌+◌, ◌<◌, true}
use Rattle.qvm_ring.specs.Ring.{plus, times}
use Rattle.qvm_ring.specs.Gate.{IsUnitary}
use Rattle.quil_code.specs.declared.standard_gate.StandardGate.{StandardGate}
use Rattle.quil_code.specs.declared.standard_gate.StandardGate.TheVariants as gate
use Rattle.quil_code.specs.StandardGates.{standard, phase, minus, upper, lower}
use Rattle.quil_code.specs.Entries.{up, down}
use Rattle.quil_code.specs.Unitary.{same, is_unitary}
use Rattle.quil_code.proofs.Computed.{at_16, same_is, unitary_if}

passes : (g : StandardGate) (k : ℕ) → k < 16 → is_unitary (standard g k) ≡ true
unfolding is_unitary
passes gate.I k h = refl
passes gate.X k h = refl
passes gate.Y k h = refl
passes gate.Z k h = refl
passes gate.H k h = refl
passes gate.S k h = refl
passes gate.T k h = refl
passes gate.Phase k h = at_16 (λ i. is_unitary (standard gate.Phase i)) refl k h
passes gate.Rx k h = at_16 (λ i. is_unitary (standard gate.Rx i)) refl k h
passes gate.Ry k h = at_16 (λ i. is_unitary (standard gate.Ry i)) refl k h
passes gate.Rz k h = at_16 (λ i. is_unitary (standard gate.Rz i)) refl k h
passes gate.Cz k h = refl
passes gate.Cphase00 k h = at_16 (λ i. is_unitary (standard gate.Cphase00 i)) refl k h
passes gate.Cphase01 k h = at_16 (λ i. is_unitary (standard gate.Cphase01 i)) refl k h
passes gate.Cphase10 k h = at_16 (λ i. is_unitary (standard gate.Cphase10 i)) refl k h
passes gate.Cphase k h = at_16 (λ i. is_unitary (standard gate.Cphase i)) refl k h
passes gate.Cnot k h = refl
passes gate.Ccnot k h = refl
passes gate.Swap k h = refl
passes gate.Cswap k h = refl
passes gate.Iswap k h = refl
passes gate.Pswap k h = at_16 (λ i. is_unitary (standard gate.Pswap i)) refl k h

pub standard_unitary : (g : StandardGate) (k : ℕ) → k < 16 → IsUnitary (standard g k)
standard_unitary g k h = unitary_if (standard g k) (passes g k h)

-- ---- the entries of RX, RY and RZ by phases, as the code has them

pub cosines : (k : ℕ) → k < 16 → plus (upper k) (lower k) ≡ plus (phase (up k)) (phase (down k))
cosines k h = same_is _ _ (at_16 (λ i. same (plus (upper i) (lower i)) (plus (phase (up i)) (phase (down i)))) refl k h)

pub imaginary_sines : (k : ℕ) → k < 16 → minus (lower k) (upper k) ≡ plus (phase (down k)) (phase (up k + 4))
imaginary_sines k h = same_is _ _ (at_16 (λ i. same (minus (lower i) (upper i)) (plus (phase (down i)) (phase (up i + 4)))) refl k h)

pub sines : (k : ℕ) → k < 16 → times (phase 6) (minus (upper k) (lower k)) ≡ plus (phase (up k + 6)) (phase (down k + 2))
sines k h = same_is _ _ (at_16 (λ i. same (times (phase 6) (minus (upper i) (lower i))) (plus (phase (up i + 6)) (phase (down i + 2)))) refl k h)

pub negated_sines : (k : ℕ) → k < 16 → times (phase 2) (minus (upper k) (lower k)) ≡ plus (phase (up k + 2)) (phase (down k + 6))
negated_sines k h = same_is _ _ (at_16 (λ i. same (times (phase 2) (minus (upper i) (lower i))) (plus (phase (up i + 2)) (phase (down i + 6)))) refl k h)

pub lower_is : (k : ℕ) → k < 16 → lower k ≡ phase (down k)
lower_is k h = same_is _ _ (at_16 (λ i. same (lower i) (phase (down i))) refl k h)

pub upper_is : (k : ℕ) → k < 16 → upper k ≡ phase (up k)
upper_is k h = same_is _ _ (at_16 (λ i. same (upper i) (phase (up i))) refl k h)
