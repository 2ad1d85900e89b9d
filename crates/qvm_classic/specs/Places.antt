-- Classical instructions at places of a program, and what an answer of the code says of one.
use Rattle.std.specs.Prelude.{◌≡◌, ℕ, Bool, List, Option, Some, None, Result, Ok, Err, slice_get}
use Rattle.quil_code.specs.declared.instruction.Instruction.TheVariants as instruction
use Rattle.quil_code.specs.declared.instruction.Line.{Line}
use Rattle.quil_code.specs.declared.classic.Classic.{Classic}
use Rattle.quil_code.specs.declared.fault.ClassicFault.{ClassicFault}
use Rattle.quil_code.specs.Classic.{Effect}
use Rattle.quil_code.specs.Program.{Program}

-- a classical instruction with its line in the text
abbrev pub classic_in : Option Line → Option (ℕ × Classic)
classic_in None = None
classic_in (Some l) = elim l.instruction [
  | instruction.Passive ↦ None
  | instruction.Nop ↦ None
  | instruction.Wait ↦ None
  | instruction.Halt ↦ None
  | instruction.X q ↦ None
  | instruction.H q ↦ None
  | instruction.Cnot control target ↦ None
  | instruction.Measure q cell ↦ None
  | instruction.Reset q ↦ None
  | instruction.Classic c ↦ Some (l.number, c)
]

abbrev pub classic_at : Program → ℕ → Option (ℕ × Classic)
classic_at program at = classic_in (slice_get program.lines at)

-- memory is as the instruction makes it; or it is as it was, and the fault is the instruction's
abbrev pub Does : Result (Unit {0}) ClassicFault → Effect → List Bool → List Bool → Type 0
Does (Ok done) e old new = e ≡ Ok new
Does (Err f) e old new = (e ≡ Err f) × (new ≡ old)
