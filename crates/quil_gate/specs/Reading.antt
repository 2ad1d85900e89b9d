-- What private functions say of entries, and of memory that runs out. Nobody has to believe these: they tell private functions
-- apart.
use Rattle.std.specs.Prelude.{ℕ, ◌≡◌, ◌⊎◌, ◌<◌, ◌^◌, Bool, ◌&&◌, nat_le, nat_abs, List, length, map, min}
use Rattle.qvm_ring.specs.Ring.{Element, norm_whole}
use Rattle.qvm_ring.specs.Views.{at, wide_element}
use Rattle.quil_number.specs.Decimal.{number}
use Rattle.quil_value.specs.declared.value.RingNumber.{RingNumber}
use Rattle.quil_gate.specs.declared.gate_fault.GateFault.{GateFault}
use Rattle.quil_gate.specs.declared.gate_fault.GateFault.TheVariants as fault
use Rattle.quil_gate.specs.Definitions.{Entry}

-- this, or memory ran out
abbrev pub OrWantsMemory : GateFault → Type 0 → Type 0
OrWantsMemory f P = (f ≡ fault.OutOfMemory) ⊎ P

abbrev pub number_entry : RingNumber → Entry
number_entry x = (wide_element x.num, x.m)

abbrev pub entries_of : List RingNumber → List Entry
entries_of xs = map number_entry xs

-- no coefficient is above 2^20
abbrev pub is_moderate : Element → Bool
is_moderate z = nat_le (nat_abs z.a) (2 ^ 20) && nat_le (nat_abs z.b) (2 ^ 20) && nat_le (nat_abs z.c) (2 ^ 20) && nat_le (nat_abs z.d) (2 ^ 20)

-- one of the numerators is no entry of a unitary matrix over √2^40 or less
pub record HasGreat (zs : List Element) : Type 0 where
  pub place : ℕ
  pub within : place < length zs
  pub great : 2 ^ 40 < norm_whole (at zs place)

-- a number, or 8 where it is above that
abbrev pub up_to_eight : List ℕ → ℕ
up_to_eight text = min (number text) 8
