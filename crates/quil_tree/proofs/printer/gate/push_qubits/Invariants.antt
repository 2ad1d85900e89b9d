use Rattle.std.proofs.Common.{◌≡◌, ◌++◌, length, codes}
use Rattle.std.specs.List.{flat_map}
use Rattle.quil_tree.specs.Printed.{qubit_text}
use Rattle.quil_tree.proofs.printer.gate.push_qubits.Given as goal

abbrev pub invariant-loop-qubits : goal.invariant-loop-qubits
invariant-loop-qubits l = l.text.items ++ flat_map (λ q. codes " " ++ qubit_text q) l.qubits ≡ l.initial.text.items ++ flat_map (λ q. codes " " ++ qubit_text q) l.initial.qubits

abbrev pub decreases-loop-qubits : goal.decreases-loop-qubits
decreases-loop-qubits l = length l.qubits
