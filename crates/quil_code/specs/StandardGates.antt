-- The standard gates of the Quil specification as matrices. An angle θ is a number k of eighths of a turn, by its remainder by 16,
-- since half angles have period 16.
use Rattle.std.specs.Prelude.{ℕ, ◌-◌, ◌/◌, ◌%◌, ◌==◌, pos, if◌then◌else◌, List, [], ◌∷◌, Option, Some, None, codes, bytes_eq, get_or}
use Rattle.qvm_ring.specs.Ring.{Element, nought, unit, plus, negated, times}
use Rattle.qvm_ring.specs.Gate.{Gate}
use Rattle.quil_code.specs.declared.standard_gate.StandardGate.{StandardGate}
use Rattle.quil_code.specs.declared.standard_gate.StandardGate.TheVariants as gate

-- ---- phases

-- 1, ω, ω² and ω³
abbrev pub first_phases : List Element
first_phases =
    unit ∷ record { a = pos 0; b = pos 1; c = pos 0; d = pos 0 } ∷ record { a = pos 0; b = pos 0; c = pos 1; d = pos 0 }
    ∷ record { a = pos 0; b = pos 0; c = pos 0; d = pos 1 } ∷ []

-- e^{ikπ/4}, which is ω^k
abbrev pub phase : ℕ → Element
phase k = let z = get_or first_phases (k % 4) nought in if k % 8 / 4 == 0 then z else negated z

abbrev pub minus : Element → Element → Element
minus x y = plus x (negated y)

-- e^{iθ/2} and e^{-iθ/2}. Where θ is an odd number of eighths, both are taken times e^{iθ/2}, which changes no state.
abbrev pub upper : ℕ → Element
upper k = if k % 2 == 0 then phase (k / 2) else phase k

abbrev pub lower : ℕ → Element
lower k = if k % 2 == 0 then phase (8 - k / 2) else unit

-- ---- shapes of matrices, by row and column

-- [p, q / r, s]
abbrev pub square_of : Element → Element → Element → Element → ℕ → ℕ → Element
square_of p q r s row column = if row == 0 then (if column == 0 then p else q) else (if column == 0 then r else s)

-- z at one place of the diagonal, 1 at the others
abbrev pub diagonal_with : ℕ → Element → ℕ → ℕ → Element
diagonal_with place z row column = if row == column then (if row == place then z else unit) else nought

-- p and q exchanged
abbrev pub other_of : ℕ → ℕ → ℕ → ℕ
other_of p q row = if row == p then q else (if row == q then p else row)

-- places p and q exchanged with a factor, the others kept
abbrev pub exchange_of : ℕ → ℕ → Element → ℕ → ℕ → Element
exchange_of p q z row column = if column == other_of p q row then (if row == column then unit else z) else nought

-- ---- the table

-- how many qubits and angles a gate has, and over which power of √2 its entries are
pub record Form : Type 0 where
  pub arity : ℕ
  pub angles : ℕ
  pub root_twos : ℕ

abbrev pub form_of : StandardGate → Form
form_of gate.I = record { arity = 1; angles = 0; root_twos = 0 }
form_of gate.X = record { arity = 1; angles = 0; root_twos = 0 }
form_of gate.Y = record { arity = 1; angles = 0; root_twos = 0 }
form_of gate.Z = record { arity = 1; angles = 0; root_twos = 0 }
form_of gate.H = record { arity = 1; angles = 0; root_twos = 1 }
form_of gate.S = record { arity = 1; angles = 0; root_twos = 0 }
form_of gate.T = record { arity = 1; angles = 0; root_twos = 0 }
form_of gate.Phase = record { arity = 1; angles = 1; root_twos = 0 }
form_of gate.Rx = record { arity = 1; angles = 1; root_twos = 2 }
form_of gate.Ry = record { arity = 1; angles = 1; root_twos = 2 }
form_of gate.Rz = record { arity = 1; angles = 1; root_twos = 0 }
form_of gate.Cz = record { arity = 2; angles = 0; root_twos = 0 }
form_of gate.Cphase00 = record { arity = 2; angles = 1; root_twos = 0 }
form_of gate.Cphase01 = record { arity = 2; angles = 1; root_twos = 0 }
form_of gate.Cphase10 = record { arity = 2; angles = 1; root_twos = 0 }
form_of gate.Cphase = record { arity = 2; angles = 1; root_twos = 0 }
form_of gate.Cnot = record { arity = 2; angles = 0; root_twos = 0 }
form_of gate.Ccnot = record { arity = 3; angles = 0; root_twos = 0 }
form_of gate.Swap = record { arity = 2; angles = 0; root_twos = 0 }
form_of gate.Cswap = record { arity = 3; angles = 0; root_twos = 0 }
form_of gate.Iswap = record { arity = 2; angles = 0; root_twos = 0 }
form_of gate.Pswap = record { arity = 2; angles = 1; root_twos = 0 }

-- The entries, as numerators: the gate, its angle, row and column. With c = cos θ/2 and s = sin θ/2, RX(θ) is [c, -is / -is, c],
-- RY(θ) is [c, -s / s, c] and RZ(θ) is [c - is, 0 / 0, c + is].
abbrev pub entry_of : StandardGate → ℕ → ℕ → ℕ → Element
entry_of gate.I k = square_of unit nought nought unit
entry_of gate.X k = square_of nought unit unit nought
entry_of gate.Y k = square_of nought (phase 6) (phase 2) nought
entry_of gate.Z k = diagonal_with 1 (phase 4)
entry_of gate.H k = square_of unit unit unit (phase 4)
entry_of gate.S k = diagonal_with 1 (phase 2)
entry_of gate.T k = diagonal_with 1 (phase 1)
entry_of gate.Phase k = diagonal_with 1 (phase k)
entry_of gate.Rx k = square_of (plus (upper k) (lower k)) (minus (lower k) (upper k)) (minus (lower k) (upper k)) (plus (upper k) (lower k))
entry_of gate.Ry k = square_of (plus (upper k) (lower k)) (times (phase 2) (minus (upper k) (lower k))) (times (phase 6) (minus (upper k) (lower k))) (plus (upper k) (lower k))
entry_of gate.Rz k = square_of (lower k) nought nought (upper k)
entry_of gate.Cz k = diagonal_with 3 (phase 4)
entry_of gate.Cphase00 k = diagonal_with 0 (phase k)
entry_of gate.Cphase01 k = diagonal_with 1 (phase k)
entry_of gate.Cphase10 k = diagonal_with 2 (phase k)
entry_of gate.Cphase k = diagonal_with 3 (phase k)
entry_of gate.Cnot k = exchange_of 2 3 unit
entry_of gate.Ccnot k = exchange_of 6 7 unit
entry_of gate.Swap k = exchange_of 1 2 unit
entry_of gate.Cswap k = exchange_of 5 6 unit
entry_of gate.Iswap k = exchange_of 1 2 (phase 2)
entry_of gate.Pswap k = exchange_of 1 2 (phase k)

-- a gate at an angle of k eighths
abbrev pub standard : StandardGate → ℕ → Gate
standard g k = record { arity = (form_of g).arity; root_twos = (form_of g).root_twos; entry = entry_of g k }

-- ---- words

abbrev pub gate_words : List (List ℕ × StandardGate)
gate_words =
    (codes "I", gate.I) ∷ (codes "X", gate.X) ∷ (codes "Y", gate.Y) ∷ (codes "Z", gate.Z) ∷ (codes "H", gate.H) ∷ (codes "S", gate.S)
    ∷ (codes "T", gate.T) ∷ (codes "PHASE", gate.Phase) ∷ (codes "RX", gate.Rx) ∷ (codes "RY", gate.Ry) ∷ (codes "RZ", gate.Rz)
    ∷ (codes "CZ", gate.Cz) ∷ (codes "CPHASE00", gate.Cphase00) ∷ (codes "CPHASE01", gate.Cphase01) ∷ (codes "CPHASE10", gate.Cphase10)
    ∷ (codes "CPHASE", gate.Cphase) ∷ (codes "CNOT", gate.Cnot) ∷ (codes "CCNOT", gate.Ccnot) ∷ (codes "SWAP", gate.Swap)
    ∷ (codes "CSWAP", gate.Cswap) ∷ (codes "ISWAP", gate.Iswap) ∷ (codes "PSWAP", gate.Pswap) ∷ []

abbrev pub gate_among : List (List ℕ × StandardGate) → List ℕ → Option StandardGate
gate_among [] word = None
gate_among (e ∷ es) word = if bytes_eq e.0 word then Some e.1 else gate_among es word

unfoldable pub standard_named : List ℕ → Option StandardGate
standard_named word = gate_among gate_words word
