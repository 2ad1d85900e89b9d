use Rattle.qvm.proofs.Texts.{regions_step, append_part}
use Rattle.qvm.proofs.text.memory_text.Goals as goal

pub loop-number-preserved : goal.loop-number-preserved
loop-number-preserved c = append_part _ _ _ _ _ _ (regions_step _ c.args.layout.now.regions _ _ c.region.ensures.region) c.in_ok-push_region.ensures c.loop-number.invariant
