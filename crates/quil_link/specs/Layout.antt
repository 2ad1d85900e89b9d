-- The regions that a program declares.
use Rattle.std.specs.Prelude.{List, map, Option, Some, None, Result, Ok, Err, filter_map, option_map}
use Rattle.quil_tree.specs.declared.item.TypeName.{TypeName}
use Rattle.quil_tree.specs.declared.item.TypeName.TheVariants as type_name
use Rattle.quil_tree.specs.declared.item.Offset.{Offset as WrittenOffset}
use Rattle.quil_tree.specs.declared.item.Sharing.{Sharing}
use Rattle.quil_tree.specs.declared.item.Declaration.{Declaration}
use Rattle.quil_tree.specs.declared.item.Item.{Item}
use Rattle.quil_tree.specs.declared.item.Item.TheVariants as item
use Rattle.quil_memory.specs.declared.cell_type.CellType.{CellType}
use Rattle.quil_memory.specs.declared.cell_type.CellType.TheVariants as cell_type
use Rattle.quil_memory.specs.declared.claim.Offset.{Offset}
use Rattle.quil_memory.specs.declared.claim.Share.{Share}
use Rattle.quil_memory.specs.declared.claim.Claim.{Claim}
use Rattle.quil_memory.specs.declared.fault.LayoutFault.{LayoutFault}
use Rattle.quil_memory.specs.Layout.{Regions, no_regions, with_claims}
use Rattle.quil_code.specs.declared.load_fault.LoadFault.{LoadFault}
use Rattle.quil_code.specs.Faults.{load_fault_of}

-- a declaration as a claim to memory
abbrev pub cell_type_of : TypeName → CellType
cell_type_of type_name.Bit = cell_type.Bit
cell_type_of type_name.Octet = cell_type.Octet
cell_type_of type_name.Integer = cell_type.Integer
cell_type_of type_name.Real = cell_type.Real

abbrev pub offset_of : WrittenOffset → Offset
offset_of o = record { count = o.count.value; kind = cell_type_of o.kind }

abbrev pub share_of : Sharing → Share
share_of s = record { base = s.base.text; offsets = map offset_of s.offsets }

abbrev pub claim_of : Declaration → Claim
claim_of d = record { name = d.name.text; kind = cell_type_of d.kind; length = d.length.value; share = option_map share_of d.sharing; line = d.place.line }

abbrev pub item_claim : Item → Option Claim
item_claim (item.Declare d) = Some (claim_of d)
item_claim (item.DefGate d) = None
item_claim (item.DefCircuit d) = None
item_claim (item.Plain l) = None

abbrev pub claims_of : List Item → List Claim
claims_of items = filter_map item_claim items

abbrev pub as_load : Result Regions LayoutFault → Result Regions LoadFault
as_load (Ok l) = Ok l
as_load (Err f) = Err (load_fault_of f)

-- the layout of the declarations
abbrev pub layout_of : List Item → Result Regions LoadFault
layout_of items = as_load (with_claims no_regions (claims_of items))
