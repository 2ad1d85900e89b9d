use Rattle.std.proofs.Common.{◌∙◌, ap, ℕ, ◌+◌, ◌*◌}
use Rattle.qvm_ring.proofs.LocalLoops.{read_so_far, local_step, bits_more}
use Rattle.qvm_ring.proofs.local.local_state.Goals as goal

pub loop-qubit-preserved : goal.loop-qubit-preserved
loop-qubit-preserved c =
    let i = c.loop-qubit.qubit-index in (
      ap (λ (b : ℕ). read_so_far c.args.qubits.now c.args.basis (i + 1) (2 * c.loop-qubit.state + b)) c.bit_of.ensures.value
          ∙ local_step c.args.qubits.now c.args.basis i c.loop-qubit.state _ c.loop-qubit-test.true ∙ c.loop-qubit.invariant.0,
      bits_more i c.loop-qubit.state c.bit_of.result c.loop-qubit.invariant.1 c.bit_of.ensures.bound,
    )
