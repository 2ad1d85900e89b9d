use Rattle.std.proofs.Common.{◌+◌, ◌*◌, ◌^◌, ℕ, ap, ◌∙◌, arith}
use Rattle.qvm_ring.specs.Table.{table_gate}
use Rattle.qvm_ring.specs.Views.{wide_element, elements_of, map_of}
use Rattle.qvm_ring.proofs.LocalStates.{local_below, with_local_below}
use Rattle.qvm_ring.proofs.Products.{sum_more}
use Rattle.qvm_ring.proofs.ProductBounds.{within_more}
use Rattle.qvm_ring.proofs.product.row_sum.Goals as goal

pub amplitude_at-amplitude-requires : goal.amplitude_at-amplitude-requires
amplitude_at-amplitude-requires c = omega (
  arith,
  c.with_local-other.ensures.value,
  c.requires.count,
  with_local_below c.args.width c.args.qubits.now c.loop-column.column c.args.basis c.requires.qubits c.requires.basis,
)

pub entry-requires-clause-row : goal.entry-requires-clause-row
entry-requires-clause-row c = omega (arith, c.local_state-row.ensures.value, local_below c.args.qubits.now c.args.basis, ap (λ (n : ℕ). 2 ^ n) c.requires.arity)

pub loop-column-preserved : goal.loop-column-preserved
loop-column-preserved c =
    let k = c.loop-column.column in (
      c.plus_product-so_far.ensures.value
          ∙ sum_more (table_gate c.args.table.now) (map_of (elements_of c.args.amplitudes.now)) c.args.qubits.now c.args.basis k c.local_state-row.result c.with_local-other.result _ _ _
          c.loop-column.invariant.0 c.local_state-row.ensures.value c.with_local-other.ensures.value c.entry.ensures.value c.amplitude_at-amplitude.ensures.value,
      within_more (k * 2 ^ 71 + 2 ^ 71) ((k + 1) * 2 ^ 71) (wide_element c.plus_product-so_far.result) (omega arith) (c.plus_product-so_far.ensures.bound (k * 2 ^ 71) c.loop-column.invariant.1),
    )
