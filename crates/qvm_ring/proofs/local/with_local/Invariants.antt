use Rattle.std.proofs.Common.{◌≡◌}
use Rattle.qvm_ring.proofs.LocalLoops.{set_so_far}
use Rattle.qvm_ring.proofs.local.with_local.Given as goal

-- the last qubits so far are set
abbrev pub invariant-loop-place : goal.invariant-loop-place
invariant-loop-place l = l.state ≡ set_so_far l.qubits l.local l.basis l.place
