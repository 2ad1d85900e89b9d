-- The matrix that a definition of a gate gives for values of its parameters (DEFGATE of the Quil specification), or its first
-- fault: its shape, then its entries in the order of the text, then the power of √2 below them, then that it isn't unitary.
use Rattle.std.specs.Prelude.{ℕ, ◌-◌, ◌*◌, ◌/◌, ◌%◌, ◌==◌, ◌≡◌, ◌⊎◌, max, nat_lt, Bool, List, [], ◌∷◌, ◌++◌, length, map, replicate, slice_index, Option, Some, None, Result, Ok, Err, if◌then◌else◌}
use Rattle.std.specs.List.{list_all, fold, flat_map, range_with_len}
use Rattle.qvm_ring.specs.Ring.{Element, nought, unit, times}
use Rattle.quil_number.specs.Decimal.{number}
use Rattle.quil_tree.specs.Expression.{trees}
use Rattle.quil_tree.specs.declared.place.Place.{Place}
use Rattle.quil_tree.specs.declared.statement.Formula.{Formula}
use Rattle.quil_tree.specs.declared.item.Form.TheVariants as form
use Rattle.quil_tree.specs.declared.item.GateDefinition.{GateDefinition}
use Rattle.quil_value.specs.declared.lack.Lack.TheVariants.{NotExact}
use Rattle.quil_value.specs.declared.stop.Stop.{Stop}
use Rattle.quil_value.specs.declared.stop.Stop.TheVariants.{At, Whole}
use Rattle.quil_value.specs.declared.worked.Worked.TheVariants.{Plain}
use Rattle.quil_value.specs.Exact.{Exact, Ring, Rational, Pi, ImagPi}
use Rattle.quil_value.specs.Results.{and_then, each}
use Rattle.quil_value.specs.Worked.{value}
use Rattle.quil_code.specs.Controls.{root_two_to}
use Rattle.quil_code.specs.Matrices.{Matrix, matrix_gate}
use Rattle.quil_code.specs.Unitary.{is_unitary}
use Rattle.quil_gate.specs.declared.gate_fault.GateFault.{GateFault}
use Rattle.quil_gate.specs.declared.gate_fault.GateFault.TheVariants as fault

-- ---- entries

-- a number z/√2^m
abbrev pub Entry : Type 0
Entry = Element × ℕ

abbrev pub lack_of : Place → Stop → GateFault
lack_of p (At q e) = fault.Lack q e
lack_of p (Whole e) = fault.Lack p e

-- an entry is a ring number
abbrev pub entry_of_value : Place → Exact → Result Entry GateFault
entry_of_value p (Ring z m) = Ok (z, m)
entry_of_value p (Rational x) = Err (fault.Lack p NotExact)
entry_of_value p (Pi x) = Err (fault.Lack p NotExact)
entry_of_value p (ImagPi x) = Err (fault.Lack p NotExact)

abbrev pub entry_if : Place → Result Exact Stop → Result Entry GateFault
entry_if p (Ok x) = entry_of_value p x
entry_if p (Err s) = Err (lack_of p s)

-- what an expression comes to under these values of its parameters: the value of the tree whose steps these are
abbrev pub formula_value : List Exact → Formula → Result Exact Stop
formula_value values f = elim (trees f.expr []) [
  | [] ↦ Err (Whole NotExact)
  | e ∷ es ↦ value (map (λ x. Ok (Plain x)) values) e
]

abbrev pub entry_at : List Exact → Formula → Result Entry GateFault
entry_at values f = entry_if f.place (formula_value values f)

-- ---- matrices

-- the k with 2^k rows, where there are 2, 4 or 8
abbrev pub arity_of_rows : ℕ → Option ℕ
arity_of_rows n = if n == 2 then Some 1 else (if n == 4 then Some 2 else (if n == 8 then Some 3 else None))

abbrev pub greatest_power : List Entry → ℕ
greatest_power es = fold (λ m e. max m e.1) 0 es

abbrev pub most_root_twos : ℕ
most_root_twos = 40

-- the numerators over √2^m
abbrev pub numerators : ℕ → List Entry → List Element
numerators m es = map (λ e. times e.0 (root_two_to (m - e.1))) es

-- a matrix has room for 8 rows of 8 entries; behind its own stand zeros
abbrev pub padded : List Element → List Element
padded zs = zs ++ replicate (64 - length zs) nought

abbrev pub if_unitary : Matrix → Result Matrix GateFault
if_unitary x = if is_unitary (matrix_gate x) then Ok x else Err fault.NotUnitary

abbrev pub matrix_of_entries : ℕ → List Entry → Result Matrix GateFault
matrix_of_entries arity es =
    let m = greatest_power es in
    if nat_lt most_root_twos m then Err fault.EntryTooLarge
    else if_unitary (record { arity = arity; root_twos = m; entries = padded (numerators m es) })

-- as many entries in each row as there are rows
abbrev pub is_square : List (List Formula) → Bool
is_square rows = list_all (λ r. length r == length rows) rows

-- the entries of all rows, in the order of the text
abbrev pub entries_of_rows : List Exact → List (List Formula) → Result (List Entry) GateFault
entries_of_rows values rows = each (entry_at values) (flat_map (λ r. r) rows)

abbrev pub matrix_of_square : List Exact → List (List Formula) → ℕ → Result Matrix GateFault
matrix_of_square values rows arity =
    if is_square rows then and_then (entries_of_rows values rows) (matrix_of_entries arity) else Err fault.Arity

abbrev pub matrix_of_rows : List Exact → List (List Formula) → Result Matrix GateFault
matrix_of_rows values rows = elim (arity_of_rows (length rows)) [
  | None ↦ Err fault.Arity
  | Some k ↦ matrix_of_square values rows k
]

-- ---- permutations

-- column k of a permutation has its one 1 in row p_k; it is unitary where no number stands twice and each is below their count
abbrev pub permutation_entry : List ℕ → ℕ → ℕ → Element
permutation_entry ps row column = if slice_index ps column == row then unit else nought

-- row by row
abbrev pub permutation_entries : List ℕ → List Element
permutation_entries ps = map (λ i. permutation_entry ps (i / length ps) (i % length ps)) (range_with_len 0 (length ps * length ps))

abbrev pub matrix_of_permutation : List ℕ → Result Matrix GateFault
matrix_of_permutation ps = elim (arity_of_rows (length ps)) [
  | None ↦ Err fault.Arity
  | Some k ↦ if_unitary (record { arity = k; root_twos = 0; entries = padded (permutation_entries ps) })
]

-- ---- definitions

-- a definition, for values of its parameters
abbrev pub defined : GateDefinition → List Exact → Result Matrix GateFault
defined d values = elim d.form [
  | form.Matrix rows ↦ matrix_of_rows values rows
  | form.Permutation numbers ↦ matrix_of_permutation (map number numbers)
]

-- the answer is this, or memory ran out
abbrev pub Defines : Result Matrix GateFault → Result Matrix GateFault → Type 0
Defines answer want = (answer ≡ want) ⊎ (answer ≡ Err fault.OutOfMemory)
