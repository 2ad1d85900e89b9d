-- The entries of the table are small: a computation a row.
use Rattle.std.proofs.Common.{◌≡◌, refl, ℕ, ◌<◌, ◌^◌, true}
use Rattle.qvm_ring.specs.Multiply.{IsWithin}
use Rattle.quil_code.specs.declared.standard_gate.StandardGate.{StandardGate}
use Rattle.quil_code.specs.declared.standard_gate.StandardGate.TheVariants as gate
use Rattle.quil_code.specs.StandardGates.{form_of, entry_of}
use Rattle.quil_code.proofs.Computed.{at_16, has_small, small_if}

all_small : (g : StandardGate) (k : ℕ) → k < 16 → has_small (2 ^ (form_of g).arity) (entry_of g k) ≡ true
all_small gate.I k h = refl
all_small gate.X k h = refl
all_small gate.Y k h = refl
all_small gate.Z k h = refl
all_small gate.H k h = refl
all_small gate.S k h = refl
all_small gate.T k h = refl
all_small gate.Phase k h = at_16 (λ i. has_small (2 ^ (form_of gate.Phase).arity) (entry_of gate.Phase i)) refl k h
all_small gate.Rx k h = at_16 (λ i. has_small (2 ^ (form_of gate.Rx).arity) (entry_of gate.Rx i)) refl k h
all_small gate.Ry k h = at_16 (λ i. has_small (2 ^ (form_of gate.Ry).arity) (entry_of gate.Ry i)) refl k h
all_small gate.Rz k h = at_16 (λ i. has_small (2 ^ (form_of gate.Rz).arity) (entry_of gate.Rz i)) refl k h
all_small gate.Cz k h = refl
all_small gate.Cphase00 k h = at_16 (λ i. has_small (2 ^ (form_of gate.Cphase00).arity) (entry_of gate.Cphase00 i)) refl k h
all_small gate.Cphase01 k h = at_16 (λ i. has_small (2 ^ (form_of gate.Cphase01).arity) (entry_of gate.Cphase01 i)) refl k h
all_small gate.Cphase10 k h = at_16 (λ i. has_small (2 ^ (form_of gate.Cphase10).arity) (entry_of gate.Cphase10 i)) refl k h
all_small gate.Cphase k h = at_16 (λ i. has_small (2 ^ (form_of gate.Cphase).arity) (entry_of gate.Cphase i)) refl k h
all_small gate.Cnot k h = refl
all_small gate.Ccnot k h = refl
all_small gate.Swap k h = refl
all_small gate.Cswap k h = refl
all_small gate.Iswap k h = refl
all_small gate.Pswap k h = at_16 (λ i. has_small (2 ^ (form_of gate.Pswap).arity) (entry_of gate.Pswap i)) refl k h

pub entries_within : (g : StandardGate) (k r c : ℕ) → k < 16 → r < 2 ^ (form_of g).arity → c < 2 ^ (form_of g).arity → IsWithin 2 (entry_of g k r c)
entries_within g k r c h i j = small_if (2 ^ (form_of g).arity) (entry_of g k) (all_small g k h) r c i j
