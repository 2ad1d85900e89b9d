use Rattle.std.proofs.Common.{arith, ◌∙◌}
use Rattle.qvm_io.proofs.Fronts.{Appends-take-add}
use Rattle.qvm_io.proofs.transfer.write_all.Goals as goal

pub loop-written-preserved : goal.loop-written-preserved
loop-written-preserved g c = record {
  within = omega (arith, c.in_ok-written.ensures.within, c.split_at.ensures.back_len);
  bytes = Appends-take-add _ _ _ c.args.piece.now c.loop-written.written c.in_ok-written.field-0
      c.loop-written.invariant.bytes (rw c.split_at.ensures.back at c.in_ok-written.ensures.bytes);
  steady = c.in_ok-written.ensures.steady ∙ c.loop-written.invariant.steady;
}
