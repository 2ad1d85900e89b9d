-- The qubits of a program: those that some line uses, numbered in rising order.
use Rattle.std.specs.Prelude.{ℕ, nat_eq, nat_lt, ◌==◌, Bool, false, ◌||◌, List, map, filter, length, position, unwrap_or, Some, None, Result, Ok, Err, if◌then◌else◌}
use Rattle.std.specs.List.{list_any, range_with_len}
use Rattle.quil_memory.specs.Layout.{Regions}
use Rattle.quil_code.specs.declared.instruction.Instruction.{Instruction}
use Rattle.quil_code.specs.declared.instruction.Instruction.TheVariants as instruction
use Rattle.quil_code.specs.declared.instruction.Line.{Line}
use Rattle.quil_code.specs.declared.load_fault.LoadFault.{LoadFault}
use Rattle.quil_code.specs.declared.load_fault.LoadFault.TheVariants as fault
use Rattle.quil_code.specs.Program.{Program, most_qubits}
use Rattle.quil_link.specs.Built.{qubit_limit}

abbrev pub is_on : ℕ → Instruction → Bool
is_on q instruction.Passive = false
is_on q instruction.Nop = false
is_on q instruction.Wait = false
is_on q instruction.Halt = false
is_on q (instruction.X p) = nat_eq p q
is_on q (instruction.H p) = nat_eq p q
is_on q (instruction.Cnot c t) = nat_eq c q || nat_eq t q
is_on q (instruction.Measure p b) = nat_eq p q
is_on q (instruction.Reset None) = false
is_on q (instruction.Reset (Some p)) = nat_eq p q
is_on q (instruction.Classic c) = false

abbrev pub is_used : List Line → ℕ → Bool
is_used lines q = list_any (λ l. is_on q l.instruction) lines

abbrev pub qubits_below : ℕ → List Line → List ℕ
qubits_below n lines = filter (is_used lines) (range_with_len 0 n)

unfoldable pub qubits_of : List Line → List ℕ
qubits_of lines = qubits_below qubit_limit lines

-- the number of a qubit in a program: its place among those qubits
abbrev pub qubit_place : List ℕ → ℕ → ℕ
qubit_place qs q = unwrap_or (position (λ p. p == q) qs) 0

abbrev pub renumbered : List ℕ → Instruction → Instruction
renumbered qs instruction.Passive = instruction.Passive
renumbered qs instruction.Nop = instruction.Nop
renumbered qs instruction.Wait = instruction.Wait
renumbered qs instruction.Halt = instruction.Halt
renumbered qs (instruction.X q) = instruction.X (qubit_place qs q)
renumbered qs (instruction.H q) = instruction.H (qubit_place qs q)
renumbered qs (instruction.Cnot c t) = instruction.Cnot (qubit_place qs c) (qubit_place qs t)
renumbered qs (instruction.Measure q b) = instruction.Measure (qubit_place qs q) b
renumbered qs (instruction.Reset None) = instruction.Reset None
renumbered qs (instruction.Reset (Some q)) = instruction.Reset (Some (qubit_place qs q))
renumbered qs (instruction.Classic c) = instruction.Classic c

abbrev pub numbered_line : List ℕ → Line → Line
numbered_line qs l = record l { instruction = renumbered qs l.instruction }

abbrev pub with_qubits : Regions → List Line → List ℕ → Result Program LoadFault
with_qubits layout lines qs =
    if nat_lt most_qubits (length qs) then Err (fault.TooManyQubits (length qs))
    else Ok (record { layout = layout; qubits = qs; lines = map (numbered_line qs) lines })

abbrev pub numbered : Regions → List Line → Result Program LoadFault
numbered layout lines = with_qubits layout lines (qubits_of lines)
