use Rattle.std.proofs.Common.{ap, ℕ, ◌+◌, ◌*◌, ◌^◌, ◌∙◌, arith}
use Rattle.qvm_ring.specs.Gate.{with_local}
use Rattle.qvm_ring.specs.Views.{wide_element}
use Rattle.qvm_ring.proofs.Products.{sum_more}
use Rattle.qvm_ring.proofs.ProductBounds.{within_more}
use Rattle.quil_code.specs.Matrices.{matrix_gate}
use Rattle.qvm_kernel.proofs.product.row_sum.Goals as goal

pub loop-column-preserved : goal.loop-column-preserved
loop-column-preserved c =
    let k = c.loop-column.column in (
      c.plus_product-so_far.ensures.value
          ∙ sum_more (matrix_gate c.args.matrix.now) c.args.ray.now.amplitudes c.args.qubits.now c.args.basis k c.local_state-row.result c.with_local-other.result _ _ _
          c.loop-column.invariant.0 c.local_state-row.ensures.value (c.with_local-other.ensures.value ∙ ap (λ (j : ℕ). with_local c.args.qubits.now j c.args.basis) c.from.ensures) c.entry.ensures.value c.amplitude_at-amplitude.ensures.value,
      within_more (k * 2 ^ 71 + 2 ^ 71) ((k + 1) * 2 ^ 71) (wide_element c.plus_product-so_far.result) (omega arith) (c.plus_product-so_far.ensures.bound (k * 2 ^ 71) c.loop-column.invariant.1),
    )
