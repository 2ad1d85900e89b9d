use Rattle.std.proofs.Common.{length, arith}
use Rattle.quil_gate.proofs.Added.{few_controls}
use Rattle.quil_gate.proofs.acts.raised.Goals as goal

pub overflow_cast-result : goal.overflow_cast-result
overflow_cast-result c = let few = few_controls c.args.pattern (length c.args.controls.now) c.requires in omega (arith, few)

pub overflow_shl-result : goal.overflow_shl-result
overflow_shl-result c = let few = few_controls c.args.pattern (length c.args.controls.now) c.requires in omega (arith, few)
