use Rattle.std.proofs.Common.{rules}
use Rattle.qvm_measure.proofs.Signs.{decided}
use Rattle.qvm_measure.proofs.sign.exceeds.Goals as goal

pub returns : goal.returns
returns c = decided c.args.one.u c.args.one.v c.args.all.u c.args.all.v c.args.word c.scaled_difference-u.result c.scaled_difference-v.result c.is_positive.result c.requires.part.not_negative c.requires.whole.not_negative
    (search rules) (search rules) (search rules)
