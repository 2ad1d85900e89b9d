-- What the program keeps of a ray: an amplitude for each basis state. Clauses of private functions cite this.
use Rattle.std.specs.Prelude.{ℕ, ◌≡◌, ◌^◌, List, length}
use Rattle.qvm_ring.specs.Ring.{Element}
use Rattle.qvm_ring.specs.Ray.{IsState}
use Rattle.qvm_ring.specs.Views.{map_of}

-- 2^qubits amplitudes, whose map is a state
pub record IsVector (qubits : ℕ) (zs : List Element) : Type 0 where
  pub size : length zs ≡ 2 ^ qubits
  pub state : IsState (record { qubits = qubits; amplitudes = map_of zs })
