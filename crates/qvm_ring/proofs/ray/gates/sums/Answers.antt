use Rattle.qvm_ring.specs.Views.{elements_of}
use Rattle.qvm_ring.proofs.Applied.{small_amplitudes, sums_are, sums_some}
use Rattle.qvm_ring.proofs.ray.gates.sums.Goals as goal

pub product-requires-clause-light : goal.product-requires-clause-light
product-requires-clause-light c = small_amplitudes c.args.amplitudes.now c.requires.vector.state.light

pub returns-clause-value : goal.returns-clause-value
returns-clause-value c = sums_are c.args.gate c.table_of-table.result c.args.width c.args.qubits.now (elements_of c.args.amplitudes.now) c.in_ok-sums.sums.items
    c.table_of-table.ensures.gate c.requires.arity c.in_ok-sums.ensures.value

pub returns-clause-some : goal.returns-clause-some
returns-clause-some c = sums_some c.args.gate c.table_of-table.result c.args.width c.args.qubits.now (elements_of c.args.amplitudes.now) c.in_ok-sums.sums.items
    c.table_of-table.ensures.gate c.requires.arity c.in_ok-sums.ensures.value c.requires.vector c.requires.below c.requires.apart
