-- Loading: which program a text is, or the first fault in the order of these passes.
use Rattle.std.specs.Prelude.{◌≡◌, ◌≢◌, ◌⊎◌, ℕ, List, Result, Err}
use Rattle.quil_tree.specs.declared.item.Item.{Item}
use Rattle.quil_grammar.specs.declared.fault.ReadFault.{ReadFault}
use Rattle.quil_grammar.specs.declared.fault.ReadFault.TheVariants as reading
use Rattle.quil_parse.specs.Program.{IsTreeOf, IsFaultOf}
use Rattle.quil_code.specs.declared.load_fault.LoadFault.{LoadFault}
use Rattle.quil_code.specs.declared.load_fault.LoadFault.TheVariants as fault
use Rattle.quil_code.specs.Program.{Program}
use Rattle.quil_value.specs.Results.{and_then, each}
use Rattle.quil_link.specs.Passes.{unless, first_of}
use Rattle.quil_link.specs.Built.{not_built}
use Rattle.quil_link.specs.Layout.{layout_of}
use Rattle.quil_link.specs.Counted.{counted}
use Rattle.quil_link.specs.Linked.{linked}
use Rattle.quil_link.specs.Numbered.{numbered}

-- what isn't built; the regions; the counts of statements and of qubits; the lines; the qubits of the program
abbrev pub load_tree : List Item → Result Program LoadFault
load_tree items =
    unless (first_of not_built items) (
    and_then (layout_of items) (λ layout.
    unless (counted 0 items) (
    and_then (each (linked layout) items) (λ lines.
    numbered layout lines))))

-- the refusal of a text that is no program
abbrev pub of_reading : ReadFault → LoadFault
of_reading (reading.NumberTooWide line column) = fault.NumberTooWide line column
of_reading (reading.BadToken line column) = fault.BadToken line column
of_reading (reading.Unexpected line column) = fault.Unexpected line column
of_reading (reading.LeftOut line word) = fault.LeftOut line word
of_reading (reading.TextTooLong length) = fault.TextTooLong length
of_reading reading.OutOfMemory = fault.OutOfMemory

pub record IsReadingRefused (text : List ℕ) (r : Result Program LoadFault) : Type 0 where
  pub reason : ReadFault
  pub has_memory : reason ≢ reading.OutOfMemory
  pub is_fault : IsFaultOf text reason
  pub is_refusal : r ≡ Err (of_reading reason)

pub record IsTreeLoaded (text : List ℕ) (r : Result Program LoadFault) : Type 0 where
  pub tree : List Item
  pub is_tree : IsTreeOf text tree
  pub is_loaded : r ≡ load_tree tree

-- the text is refused when it is read, or its tree is loaded so
abbrev pub IsLoaded : List ℕ → Result Program LoadFault → Type 0
IsLoaded text r = IsReadingRefused text r ⊎ IsTreeLoaded text r
