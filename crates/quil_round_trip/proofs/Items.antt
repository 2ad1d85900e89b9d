-- Declarations and headers that were read are printed and read again.
use Rattle.std.proofs.Common.{ℕ, List, ◌++◌, codes}
use Rattle.std.specs.List.{flat_map}
use Rattle.quil_tree.specs.declared.item.GateDefinition.{GateDefinition}
use Rattle.quil_tree.specs.declared.item.CircuitDefinition.{CircuitDefinition}
use Rattle.quil_tree.specs.declared.item.Item.{Item}
use Rattle.quil_tree.specs.declared.item.Item.TheVariants as item
use Rattle.quil_tree.specs.Names.{texts_of}
use Rattle.quil_tree.specs.Printed.{listed, form_text, statement_text, declaration_text}
use Rattle.quil_round_trip.specs.Unplaced.{bare_item}
use Rattle.quil_statement.specs.Meaning.{item_of}
use Rattle.quil_round_trip.proofs.Reread.{Sense}

-- the first line of an item
abbrev pub gate_header_text : GateDefinition → List ℕ
gate_header_text d = codes "DEFGATE " ++ d.name.text ++ listed (texts_of d.parameters) ++ form_text d.form ++ codes ":"

abbrev pub circuit_header_text : CircuitDefinition → List ℕ
circuit_header_text d = codes "DEFCIRCUIT " ++ d.name.text ++ listed (texts_of d.parameters) ++ flat_map (λ q. codes " " ++ q.text) d.qubits ++ codes ":"

abbrev pub header_text : List (List ℕ) → Item → List ℕ
header_text names (item.Declare d) = declaration_text d
header_text names (item.DefGate d) = gate_header_text d
header_text names (item.DefCircuit d) = circuit_header_text d
header_text names (item.Plain l) = statement_text names l.statement

abbrev pub items : Sense Item
items = record { meaning = item_of; bare = bare_item; text = header_text }
