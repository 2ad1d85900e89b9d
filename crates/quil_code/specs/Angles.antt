-- The angles that the parameters of a gate have in a memory, in eighths of a turn.
use Rattle.std.specs.Prelude.{ℕ, ◌%◌, ◌==◌, ◌&&◌, All, ℤ, pos, ◌+ℤ◌, ◌*ℤ◌, nat_abs, int_div, Bool, List, [], ◌∷◌, Option, Some, None, option_map, option_and_then, if◌then◌else◌}
use Rattle.std.specs.List.{fold}
use Rattle.quil_memory.specs.declared.cell_type.CellType.TheVariants.{Real}
use Rattle.quil_memory.specs.CellTypes.{in_type}
use Rattle.quil_memory.specs.Cells.{value_at}
use Rattle.quil_code.specs.Program.{CellFits}
use Rattle.quil_code.specs.declared.angle.AngleTerm.{AngleTerm}
use Rattle.quil_code.specs.declared.angle.Angle.{Angle}
use Rattle.quil_code.specs.declared.angle.Angle.TheVariants.{Whole, Outside, Linear}

abbrev pub sum_at : List Bool → List AngleTerm → ℤ
sum_at bits terms = fold (λ z t. z +ℤ t.factor *ℤ value_at Real t.cell.first bits) (pos 0) terms

-- z/n, where that is a whole number that 64 bits hold
abbrev pub whole_quotient : ℤ → ℕ → Option ℤ
whole_quotient z n = let k = int_div z (pos n) in if nat_abs z % n == 0 && in_type Real k then Some k else None

abbrev pub angle_at : List Bool → Angle → Option ℤ
angle_at bits (Whole k) = Some k
angle_at bits Outside = None
angle_at bits (Linear a) = whole_quotient (sum_at bits a.terms +ℤ a.own) a.common

-- all of them, where each has one
abbrev pub angles_at : List Bool → List Angle → Option (List ℤ)
angles_at bits [] = Some []
angles_at bits (a ∷ rest) = option_and_then (λ k. option_map (λ ks. k ∷ ks) (angles_at bits rest)) (angle_at bits a)

-- its cells lie within so many bits
abbrev pub AngleFits : Angle → ℕ → Type 0
AngleFits (Whole k) bits = Unit {0}
AngleFits Outside bits = Unit {0}
AngleFits (Linear a) bits = All (λ t. CellFits Real t.cell bits) a.terms
