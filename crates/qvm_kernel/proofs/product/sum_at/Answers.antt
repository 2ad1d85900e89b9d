use Rattle.std.proofs.Common.{sym, ◌∙◌, ap, ℕ, List, length, arith}
use Rattle.std.specs.Prelude.{Some, None}
use Rattle.qvm_ring.specs.Ring.{Element, times}
use Rattle.qvm_ring.specs.Gate.{product_at}
use Rattle.qvm_ring.specs.Views.{element_of, wide_element}
use Rattle.quil_code.specs.Controls.{root_two_to}
use Rattle.quil_code.specs.Matrices.{matrix_gate}
use Rattle.qvm_kernel.proofs.Pieces.{matrix_fits, targets_below, pattern_fits, of_piece}
use Rattle.qvm_kernel.proofs.product.sum_at.Goals as goal

pub overflow_cast-pattern : goal.overflow_cast-pattern
overflow_cast-pattern c =
    omega (arith, pattern_fits c.args.act.now c.args.controls.now c.local_state-pattern.result c.requires.act c.requires.controls c.local_state-pattern.ensures.bound)

pub row_sum-requires-clause-arity : goal.row_sum-requires-clause-arity
row_sum-requires-clause-arity c = matrix_fits c.args.act.now c.local_state-pattern.result c.in-Some.matrix.now c.requires.act c.in-Some.ensures ∙ sym (ap length c.targets.ensures.value)

pub row_sum-requires-clause-qubits : goal.row_sum-requires-clause-qubits
row_sum-requires-clause-qubits c = targets_below c.args.ray.now.qubits c.args.act.now c.targets.result.now c.targets.ensures.value c.requires.qubits

pub returns-in-None-clause-value : goal.returns-in-None-clause-value
returns-in-None-clause-value c =
    of_piece c.args.act.now c.args.ray.now.amplitudes c.args.basis c.local_state-pattern.result c.args.controls.now None (wide_element c.term.result) c.requires.act c.requires.controls
    c.local_state-pattern.ensures.value c.in-None.ensures
    (c.term.ensures.value
    ∙ ap (λ (z : Element). times z (element_of c.amplitude_at.result)) (c.root_two_to.ensures.value ∙ ap root_two_to c.root_twos.ensures)
    ∙ ap (times (root_two_to c.args.act.now.root_twos)) c.amplitude_at.ensures.value)

pub returns-in-Some-clause-value : goal.returns-in-Some-clause-value
returns-in-Some-clause-value c =
    of_piece c.args.act.now c.args.ray.now.amplitudes c.args.basis c.local_state-pattern.result c.args.controls.now (Some c.in-Some.matrix.now) (wide_element c.row_sum.result) c.requires.act
    c.requires.controls c.local_state-pattern.ensures.value c.in-Some.ensures
    (c.row_sum.ensures.value ∙ ap (λ (qs : List ℕ). product_at (matrix_gate c.in-Some.matrix.now) qs c.args.ray.now.amplitudes c.args.basis) c.targets.ensures.value)
