-- The cells and regions that the operands of an instruction name, and the numbers and values that they are.
use Rattle.std.specs.Prelude.{ℕ, ◌+◌, ◌*◌, nat_lt, List, Option, Some, None, Result, Ok, Err, ℤ, pos, neg_ℤ, [], ◌∷◌, bytes_eq, position, slice_get, option_map, option_and_then, ok_or, if◌then◌else◌}
use Rattle.quil_tree.specs.declared.expr.Sign.{Sign}
use Rattle.quil_tree.specs.declared.expr.Sign.TheVariants as sign
use Rattle.quil_tree.specs.declared.statement.Reference.{Reference}
use Rattle.quil_tree.specs.declared.statement.Formula.{Formula}
use Rattle.quil_tree.specs.declared.statement.Operand.{Operand}
use Rattle.quil_tree.specs.declared.statement.Operand.TheVariants as operand
use Rattle.quil_memory.specs.declared.region.Region.{Region}
use Rattle.quil_memory.specs.CellTypes.{size}
use Rattle.quil_memory.specs.Layout.{Regions}
use Rattle.quil_code.specs.declared.load_fault.LoadFault.{LoadFault}
use Rattle.quil_code.specs.declared.load_fault.LoadFault.TheVariants as fault
use Rattle.quil_link.specs.declared.operand.TypedCell.{TypedCell}
use Rattle.quil_link.specs.declared.operand.TypedSpan.{TypedSpan}
use Rattle.quil_link.specs.declared.operand.SecondOperand.{SecondOperand}
use Rattle.quil_link.specs.declared.operand.SecondOperand.TheVariants as second
use Rattle.quil_tree.specs.Expression.{trees}
use Rattle.quil_value.specs.declared.lack.Lack.TheVariants.{NotExact}
use Rattle.quil_value.specs.declared.stop.Stop.{Stop}
use Rattle.quil_value.specs.declared.stop.Stop.TheVariants.{Whole}
use Rattle.quil_value.specs.Results.{and_then}
use Rattle.quil_value.specs.Exact.{Exact}
use Rattle.quil_value.specs.Worked.{value}

-- the region of a number
abbrev pub region_span : ℕ → Region → TypedSpan
region_span number r = record { kind = r.kind; span = record { region = number; first = r.first; length = r.length } }

abbrev pub numbered_span : List Region → ℕ → Option TypedSpan
numbered_span regions number = option_map (region_span number) (slice_get regions number)

-- the region of a name
abbrev pub found_span : List Region → List ℕ → Option TypedSpan
found_span regions name = option_and_then (numbered_span regions) (position (λ r. bytes_eq name r.name) regions)

abbrev pub span_named : Regions → List ℕ → Result TypedSpan LoadFault
span_named layout name = ok_or (found_span layout.regions name) (fault.UnknownRegion name)

-- the cell of a region with this index
abbrev pub cell_of : TypedSpan → ℕ → TypedCell
cell_of s index = record { kind = s.kind; cell = record { first = s.span.first + index * size s.kind } }

abbrev pub cell_in : Reference → TypedSpan → Result TypedCell LoadFault
cell_in a s =
    if nat_lt a.address.index.value s.span.length then Ok (cell_of s a.address.index.value)
    else Err (fault.OutOfRange a.address.index.value s.span.length a.address.region)

-- the cell of an address
abbrev pub cell_at : Regions → Reference → Result TypedCell LoadFault
cell_at layout a = and_then (span_named layout a.address.region) (cell_in a)

abbrev pub literal_value : Option Sign → ℕ → ℤ
literal_value None n = pos n
literal_value (Some sign.Plus) n = pos n
literal_value (Some sign.Minus) n = neg_ℤ (pos n)

-- what an expression without parameters comes to: the value of the tree whose steps these are
abbrev pub formula_value : Formula → Result Exact Stop
formula_value f = elim (trees f.expr []) [
  | [] ↦ Err (Whole NotExact)
  | e ∷ es ↦ value [] e
]

-- a second operand
abbrev pub operand_at : Regions → Operand → Result SecondOperand LoadFault
operand_at layout (operand.Reference a) = and_then (cell_at layout a) (λ c. Ok (second.Cell c))
operand_at layout (operand.Literal p s w) = Ok (second.Number (literal_value s w.value))
operand_at layout (operand.Formula f) = Ok (second.Formula f.place (formula_value f))
