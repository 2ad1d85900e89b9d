-- What `qvm run` writes and the status that it ends with, for each text.
use Rattle.std.specs.Prelude.{◌≡◌, ℕ, ℤ, Bool, List, [], ◌++◌, map, codes, Result, Ok, Err}
use Rattle.std.specs.List.{flat_map, range_with_len}
use Rattle.std.specs.Fmt.{signed_decimal}
use Rattle.qvm_diagnostic.specs.Report.{Report, text_of}
use Rattle.quil_memory.specs.declared.cell_type.CellType.{CellType}
use Rattle.quil_memory.specs.declared.cell_type.CellType.TheVariants as cell_type
use Rattle.quil_memory.specs.declared.region.Region.{Region}
use Rattle.quil_memory.specs.Cells.{value_at}
use Rattle.quil_memory.specs.EighthsText.{eighths_text}
use Rattle.quil_memory.specs.Layout.{Regions, first_bit}
use Rattle.quil_code.specs.declared.load_fault.LoadFault.{LoadFault}
use Rattle.quil_code.specs.Faults.{fault_report, load_report}
use Rattle.quil_code.specs.Program.{Program}
use Rattle.quil_link.specs.Load.{IsLoaded}
use Rattle.qvm_step.specs.Run.{End, Halted, Waiting, StepLimit, Fault, Finished, finished, start}

-- the bytes written, and the status
pub record Reply : Type 0 where
  pub output : List ℕ
  pub status : ℕ

-- ---- memory

-- a cell of REAL is a multiple of pi, and any other a number
abbrev pub cell_text : CellType → ℤ → List ℕ
cell_text cell_type.Bit z = signed_decimal z
cell_text cell_type.Octet z = signed_decimal z
cell_text cell_type.Integer z = signed_decimal z
cell_text cell_type.Real z = eighths_text z

-- a region's values, in the order of its cells
abbrev pub cell_values : List Bool → Region → List ℤ
cell_values bits r = map (λ index. value_at r.kind (first_bit r index) bits) (range_with_len 0 r.length)

-- a blank before each value
abbrev pub values_text : CellType → List ℤ → List ℕ
values_text kind values = flat_map (λ z. codes " " ++ cell_text kind z) values

-- a region's line: its name, a colon, and its values
abbrev pub region_text : List Bool → Region → List ℕ
region_text bits r = r.name ++ codes ":" ++ values_text r.kind (cell_values bits r) ++ codes "\n"

-- a line for each region, in order of declaration
abbrev pub memory_text : List Bool → Regions → List ℕ
memory_text bits layout = flat_map (region_text bits) layout.regions

-- ---- how a run ends

-- a report in a line, behind some words
abbrev pub report_line : List ℕ → Report → List ℕ
report_line front r = front ++ text_of r ++ codes "\n"

-- the further line of a run that didn't halt
abbrev pub end_text : End → List ℕ
end_text Halted = []
end_text Waiting = codes "waiting\n"
end_text StepLimit = codes "step limit\n"
end_text (Fault f) = report_line (codes "fault: ") (fault_report f)

abbrev pub end_status : End → ℕ
end_status Halted = 0
end_status Waiting = 3
end_status StepLimit = 5
end_status (Fault f) = 4

-- memory at the end, and the further line
abbrev pub finished_reply : Regions → Finished → Reply
finished_reply layout f = record { output = memory_text f.machine.memory layout ++ end_text f.end; status = end_status f.end }

-- ---- the reply to a text

-- a refusal is told
abbrev pub refused_reply : LoadFault → Reply
refused_reply f = record { output = report_line (codes "error: ") (load_report f); status = 1 }

-- a program is run from its start with the words of a seed
abbrev pub reply_of : ℕ → List ℕ → Result Program LoadFault → Reply
reply_of limit seed (Ok program) = finished_reply program.layout (finished limit program seed (start program) 0)
reply_of limit seed (Err f) = refused_reply f

-- the text is loaded, and run for at most so many steps with the words of the seed
pub record IsReplyTo (limit : ℕ) (seed text : List ℕ) (reply : Reply) : Type 0 where
  pub loaded : Result Program LoadFault
  pub is_loaded : IsLoaded text loaded
  pub is : reply ≡ reply_of limit seed loaded
