-- Gates under CONTROLLED, DAGGER and FORKED (the modifiers of the Quil specification), outermost first. A gate depends on a list of
-- parameters, which FORKED halves.
use Rattle.std.specs.Prelude.{ℕ, zero, suc, ◌≡◌, ◌-◌, ◌/◌, ◌^◌, ◌==◌, nat_lt, Bool, true, false, not, if◌then◌else◌, List, [], ◌∷◌, length, take, drop, Option, Some, None}
use Rattle.qvm_ring.specs.Ring.{Element, nought, unit, root_two, times, conjugate}
use Rattle.qvm_ring.specs.Ray.{Ray, amplitude_at}
use Rattle.qvm_ring.specs.Gate.{Gate, bit_of, product_at}

-- ---- gates of gates

-- √2 to the power n
abbrev pub root_two_to : ℕ → Element
root_two_to zero = unit
root_two_to (suc n) = times root_two (root_two_to n)

-- the identity on as many qubits as g, over g's √2^m
abbrev pub idle : Gate → Gate
idle g = record { arity = g.arity; root_twos = g.root_twos; entry = λ row column. if row == column then root_two_to g.root_twos else nought }

-- the conjugate transpose
abbrev pub daggered : Gate → Gate
daggered g = record { arity = g.arity; root_twos = g.root_twos; entry = λ row column. conjugate (g.entry column row) }

-- diag(g, h): the new qubit is the most significant bit of row and column
abbrev pub forked : Gate → Gate → Gate
forked g h = record {
  arity = suc g.arity;
  root_twos = g.root_twos;
  entry = λ row column.
      if nat_lt row (2 ^ g.arity)
      then (if nat_lt column (2 ^ g.arity) then g.entry row column else nought)
      else (if nat_lt column (2 ^ g.arity) then nought else h.entry (row - 2 ^ g.arity) (column - 2 ^ g.arity));
}

-- diag(1, g)
abbrev pub controlled : Gate → Gate
controlled g = forked (idle g) g

-- ---- lists of modifiers

pub data Modification : Type 0 where
  Controlled : Modification
  Daggered : Modification
  Forked : Modification

abbrev pub first_half : List ℕ → List ℕ
first_half xs = take (length xs / 2) xs

abbrev pub second_half : List ℕ → List ℕ
second_half xs = drop (length xs / 2) xs

-- the gate of the modifiers over a gate with parameters
abbrev pub modified : List Modification → (List ℕ → Gate) → List ℕ → Gate
modified [] f xs = f xs
modified (Controlled ∷ ms) f xs = controlled (modified ms f xs)
modified (Daggered ∷ ms) f xs = daggered (modified ms f xs)
modified (Forked ∷ ms) f xs = forked (modified ms f (first_half xs)) (modified ms f (second_half xs))

-- ---- the same gate as controls alone, over the gate or its conjugate transpose

-- the controls of the modifiers: true is CONTROLLED, false is FORKED
abbrev pub controls_of : List Modification → List Bool
controls_of [] = []
controls_of (Controlled ∷ ms) = true ∷ controls_of ms
controls_of (Daggered ∷ ms) = controls_of ms
controls_of (Forked ∷ ms) = false ∷ controls_of ms

-- whether the number of DAGGERs is odd
abbrev pub is_dagger_of : List Modification → Bool
is_dagger_of [] = false
is_dagger_of (Controlled ∷ ms) = is_dagger_of ms
is_dagger_of (Daggered ∷ ms) = not (is_dagger_of ms)
is_dagger_of (Forked ∷ ms) = is_dagger_of ms

abbrev pub daggered_if : Bool → Gate → Gate
daggered_if b g = if b then daggered g else g

abbrev pub under : List Bool → (List ℕ → Gate) → List ℕ → Gate
under [] f xs = f xs
under (true ∷ cs) f xs = controlled (under cs f xs)
under (false ∷ cs) f xs = forked (under cs f (first_half xs)) (under cs f (second_half xs))

-- a gate with parameters of one arity, over one √2^m
pub record IsFamily (n m : ℕ) (f : List ℕ → Gate) : Type 0 where
  pub arity : (xs : List ℕ) → (f xs).arity ≡ n
  pub root_twos : (xs : List ℕ) → (f xs).root_twos ≡ m

-- ---- what is left of a gate under controls at one basis state

-- The parameters of the block that the control qubits of basis state x choose. There is none where one of CONTROLLED is 0.
abbrev pub block_at : List Bool → List ℕ → ℕ → List ℕ → Option (List ℕ)
block_at [] qs x xs = Some xs
block_at (c ∷ cs) [] x xs = None
block_at (true ∷ cs) (q ∷ qs) x xs = if bit_of x q == 0 then None else block_at cs qs x xs
block_at (false ∷ cs) (q ∷ qs) x xs = if bit_of x q == 0 then block_at cs qs x (first_half xs) else block_at cs qs x (second_half xs)

-- the amplitude over √2^m after the block, or after nothing
abbrev pub block_product : Option (List ℕ) → ℕ → (List ℕ → Gate) → List ℕ → Ray → ℕ → Element
block_product None m f qs ray x = times (root_two_to m) (amplitude_at ray x)
block_product (Some xs) m f qs ray x = product_at (f xs) qs ray x
