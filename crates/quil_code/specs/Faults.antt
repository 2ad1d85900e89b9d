-- What faults and refusals say: a row for each.
use Rattle.std.specs.Prelude.{ℕ, ℤ, pos, List, [], ◌∷◌, codes}
use Rattle.qvm_diagnostic.specs.Report.{Number, Word, Report}
use Rattle.quil_memory.specs.declared.fault.LayoutFault.{LayoutFault}
use Rattle.quil_memory.specs.declared.fault.LayoutFault.TheVariants as layout
use Rattle.quil_code.specs.declared.fault.ClassicFault.{ClassicFault}
use Rattle.quil_code.specs.declared.fault.ClassicFault.TheVariants as classic
use Rattle.quil_code.specs.declared.fault.Fault.{Fault}
use Rattle.quil_code.specs.declared.fault.Fault.TheVariants as fault
use Rattle.quil_code.specs.declared.load_fault.LoadFault.{LoadFault}
use Rattle.quil_code.specs.declared.load_fault.LoadFault.TheVariants as load

-- a fault of a classical instruction, as one of a step
abbrev pub fault_of : ClassicFault → Fault
fault_of (classic.OutOfRange line region index size) = fault.OutOfRange line region index size
fault_of (classic.Overflow line) = fault.Overflow line
fault_of (classic.ZeroDivide line) = fault.ZeroDivide line

-- a fault of the declarations, as one of the program
abbrev pub load_fault_of : LayoutFault → LoadFault
load_fault_of (layout.Redeclared word) = load.Redeclared word
load_fault_of (layout.UnknownRegion word) = load.UnknownRegion word
load_fault_of (layout.ShareOutside word) = load.ShareOutside word
load_fault_of (layout.Misaligned word) = load.Misaligned word
load_fault_of (layout.MemoryTooLarge bits) = load.MemoryTooLarge bits
load_fault_of layout.OutOfMemory = load.OutOfMemory

-- ---- reports of one form: a code and a name, with details

abbrev pub number_report : ℕ → List ℕ → List ℕ → ℕ → Report
number_report code name key n = record { code = code; name = name; details = (key, Number (pos n)) ∷ [] }

abbrev pub line_report : ℕ → List ℕ → ℕ → Report
line_report code name line = number_report code name (codes "line") line

abbrev pub place_report : ℕ → List ℕ → ℕ → ℕ → Report
place_report code name line column =
    record { code = code; name = name; details = (codes "column", Number (pos column)) ∷ (codes "line", Number (pos line)) ∷ [] }

abbrev pub word_report : ℕ → List ℕ → List ℕ → Report
word_report code name word = record { code = code; name = name; details = (codes "word", Word word) ∷ [] }

abbrev pub line_word_report : ℕ → List ℕ → ℕ → List ℕ → Report
line_word_report code name line word =
    record { code = code; name = name; details = (codes "line", Number (pos line)) ∷ (codes "word", Word word) ∷ [] }

abbrev pub angle_report : ℕ → ℤ → Report
angle_report line eighths =
    record { code = 17; name = codes "AngleInexact"; details = (codes "eighths", Number eighths) ∷ (codes "line", Number (pos line)) ∷ [] }

-- a cell that a region hasn't: at a step, and in a program
abbrev pub index_report : ℕ → ℕ → ℤ → ℕ → Report
index_report line region index size = record {
  code = 14;
  name = codes "OutOfRange";
  details = (codes "index", Number index) ∷ (codes "length", Number (pos size)) ∷ (codes "line", Number (pos line)) ∷ (codes "region", Number (pos region)) ∷ [];
}

abbrev pub cell_report : ℕ → ℕ → List ℕ → Report
cell_report index size word = record {
  code = 14;
  name = codes "OutOfRange";
  details = (codes "index", Number (pos index)) ∷ (codes "length", Number (pos size)) ∷ (codes "word", Word word) ∷ [];
}

-- ---- the rows

abbrev pub fault_report : Fault → Report
fault_report (fault.NotExact line) = line_report 2 (codes "NotExact") line
fault_report (fault.OutOfRange line region index size) = index_report line region index size
fault_report (fault.AngleInexact line eighths) = angle_report line eighths
fault_report (fault.AmplitudeLimit line) = line_report 28 (codes "AmplitudeLimit") line
fault_report (fault.Overflow line) = line_report 29 (codes "Overflow") line
fault_report (fault.ZeroDivide line) = line_report 30 (codes "ZeroDivide") line

abbrev pub load_report : LoadFault → Report
load_report (load.NotExact line column) = place_report 2 (codes "NotExact") line column
load_report (load.ZeroDivisor line column) = place_report 3 (codes "ZeroDivisor") line column
load_report (load.NumberTooWide line column) = place_report 4 (codes "NumberTooWide") line column
load_report (load.BadToken line column) = place_report 5 (codes "BadToken") line column
load_report (load.Unexpected line column) = place_report 6 (codes "Unexpected") line column
load_report (load.TextTooLong size) = number_report 7 (codes "TextTooLong") (codes "length") size
load_report (load.LeftOut line word) = line_word_report 8 (codes "LeftOut") line word
load_report (load.Redeclared word) = word_report 9 (codes "Redeclared") word
load_report (load.UnknownRegion word) = word_report 10 (codes "UnknownRegion") word
load_report (load.ShareOutside word) = word_report 11 (codes "ShareOutside") word
load_report (load.Misaligned word) = word_report 12 (codes "Misaligned") word
load_report (load.MemoryTooLarge bits) = number_report 13 (codes "MemoryTooLarge") (codes "bits") bits
load_report (load.OutOfRange index size word) = cell_report index size word
load_report (load.NotUnitary word) = word_report 16 (codes "NotUnitary") word
load_report (load.AngleInexact line eighths) = angle_report line eighths
load_report (load.Arity line) = line_report 18 (codes "Arity") line
load_report (load.RepeatedQubit line) = line_report 19 (codes "RepeatedQubit") line
load_report (load.UnknownGate line word) = line_word_report 20 (codes "UnknownGate") line word
load_report (load.EntryTooLarge word) = word_report 21 (codes "EntryTooLarge") word
load_report (load.CircuitDepth line) = line_report 22 (codes "CircuitDepth") line
load_report (load.TooManyInstructions count) = number_report 23 (codes "TooManyInstructions") (codes "count") count
load_report (load.UnknownLabel line word) = line_word_report 24 (codes "UnknownLabel") line word
load_report (load.RepeatedLabel line word) = line_word_report 25 (codes "RepeatedLabel") line word
load_report (load.TypeClash line) = line_report 26 (codes "TypeClash") line
load_report (load.TooManyQubits count) = number_report 27 (codes "TooManyQubits") (codes "count") count
load_report (load.NotBuilt line) = line_report 57 (codes "NotBuilt") line
load_report load.OutOfMemory = record { code = 37; name = codes "OutOfMemory"; details = [] }
