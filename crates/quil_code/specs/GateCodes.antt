-- Gates as programs keep them, and the gate that one is at given angles.
use Rattle.std.specs.Prelude.{ℕ, suc, ◌≡◌, ◌≢◌, ◌+◌, ◌-◌, ◌*◌, ◌%◌, ◌^◌, ◌≤◌, ◌==◌, ℤ, pos, negsuc, nat_abs, nat_eq, Bool, true, false, not, ◌&&◌, List, [], ◌∷◌, length, map, slice_index_or, All, AllPairs, Option, None, if◌then◌else◌}
use Rattle.std.specs.List.{find, range_with_len}
use Rattle.qvm_ring.specs.Gate.{Gate}
use Rattle.quil_code.specs.declared.standard_gate.StandardGate.{StandardGate}
use Rattle.quil_code.specs.declared.standard_gate.StandardGate.TheVariants as gate
use Rattle.quil_code.specs.declared.angle.Angle.{Angle}
use Rattle.quil_code.specs.declared.gate_code.Control.{Control}
use Rattle.quil_code.specs.declared.gate_code.Control.TheVariants.{Controlled, Forked}
use Rattle.quil_code.specs.declared.gate_code.Base.{Base}
use Rattle.quil_code.specs.declared.gate_code.Base.TheVariants.{Standard, Defined}
use Rattle.quil_code.specs.StandardGates.{form_of, standard}
use Rattle.quil_code.specs.Controls.{daggered_if, under}
use Rattle.quil_code.specs.Matrices.{Matrix, matrix_gate}

-- the controls, the outermost first; whether the DAGGERs are odd in number; the qubits, those of the controls first
pub record GateCode : Type 0 where
  pub base : Base
  pub controls : List Control
  pub is_dagger : Bool
  pub angles : List Angle
  pub qubits : List ℕ

abbrev pub is_controlled : Control → Bool
is_controlled Controlled = true
is_controlled Forked = false

-- how many controls are FORKED
abbrev pub forks : List Control → ℕ
forks [] = 0
forks (Controlled ∷ cs) = forks cs
forks (Forked ∷ cs) = suc (forks cs)

-- ---- the gate at given angles

-- k modulo 16, from 0 to 15
abbrev pub by_16 : ℤ → ℕ
by_16 (pos n) = n % 16
by_16 (negsuc n) = 15 - n % 16

-- the gate of one of the matrices, by its number
abbrev pub defined_gate : List Matrix → ℕ → Gate
defined_gate [] k = standard gate.I 0
defined_gate (m ∷ ms) k = matrix_gate (slice_index_or (m ∷ ms) k m)

-- the gate of one list of numbers that FORKED makes: it has one number or none
abbrev pub base_gate : Base → List ℕ → Gate
base_gate (Standard g) xs = standard g (slice_index_or xs 0 0)
base_gate (Defined ms) xs = defined_gate ms (slice_index_or xs 0 0)

-- the numbers that FORKED halves: the angles of a standard gate, the numbers of the matrices of a defined one
abbrev pub base_numbers : Base → List ℤ → List ℕ
base_numbers (Standard g) ks = map by_16 ks
base_numbers (Defined ms) ks = range_with_len 0 (length ms)

abbrev pub gate_at : GateCode → List ℤ → Gate
gate_at g ks = under (map is_controlled g.controls) (λ xs. daggered_if g.is_dagger (base_gate g.base xs)) (base_numbers g.base ks)

-- ---- angles that a gate can't take

-- the gates over half of their angle
abbrev pub is_over_half : StandardGate → Bool
is_over_half gate.Rx = true
is_over_half gate.Ry = true
is_over_half gate.Rz = true
is_over_half g = false

abbrev pub is_base_over_half : Base → Bool
is_base_over_half (Standard g) = is_over_half g
is_base_over_half (Defined ms) = false

abbrev pub is_odd : ℤ → Bool
is_odd k = nat_abs k % 2 == 1

-- the first angle of RX, RY or RZ under CONTROLLED or FORKED that is an odd number of eighths
abbrev pub inexact_angle : GateCode → List ℤ → Option ℤ
inexact_angle g ks = if is_base_over_half g.base && not (nat_eq (length g.controls) 0) then find is_odd ks else None

-- ---- the form of a gate

abbrev pub base_arity : Base → ℕ
base_arity (Standard g) = (form_of g).arity
base_arity (Defined []) = 0
base_arity (Defined (m ∷ ms)) = m.arity

abbrev pub base_root_twos : Base → ℕ
base_root_twos (Standard g) = (form_of g).root_twos
base_root_twos (Defined []) = 0
base_root_twos (Defined (m ∷ ms)) = m.root_twos

abbrev pub base_angles : Base → ℕ
base_angles (Standard g) = (form_of g).angles
base_angles (Defined ms) = 0

-- matrices on the same number of qubits, over the same √2^m
pub record AreAlike (base : Base) (ms : List Matrix) : Type 0 where
  pub arity : All (λ m. m.arity ≡ base_arity base) ms
  pub root_twos : All (λ m. m.root_twos ≡ base_root_twos base) ms

-- one matrix for each list that FORKED makes
abbrev pub AreMatrices : Base → ℕ → Type 0
AreMatrices (Standard g) n = Unit {0}
AreMatrices (Defined ms) n = (length ms ≡ n) × AreAlike (Defined ms) ms

-- what each gate of a program keeps
pub record IsGateCode (g : GateCode) : Type 0 where
  pub few_forks : forks g.controls ≤ 4
  pub angles : length g.angles ≡ base_angles g.base * 2 ^ forks g.controls
  pub qubits : length g.qubits ≡ length g.controls + base_arity g.base
  pub different : AllPairs (λ p q. p ≢ q) g.qubits
  pub matrices : AreMatrices g.base (2 ^ forks g.controls)
