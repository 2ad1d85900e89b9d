use Rattle.qvm_classic.proofs.Lengths.{kept}
use Rattle.qvm_classic.proofs.Lines.{classic_fits}
use Rattle.qvm_classic.proofs.place.classic.Goals as goal

pub apply-requires-clause-few : goal.apply-requires-clause-few
apply-requires-clause-few c = rw c.requires.bits c.line-line.ensures.kept.few_bits

pub apply-requires-clause-fits : goal.apply-requires-clause-fits
apply-requires-clause-fits c = classic_fits c.args.code.now c.args.at c.line-line.result c.in-Classic.instruction _ c.line-line.ensures.kept c.line-line.ensures.all c.in-Classic.is c.requires.bits

pub returns-in-Classic-clause-kept : goal.returns-in-Classic-clause-kept
returns-in-Classic-clause-kept c =
    let fits = classic_fits c.args.code.now c.args.at c.line-line.result c.in-Classic.instruction _ c.line-line.ensures.kept c.line-line.ensures.all c.in-Classic.is c.requires.bits in
    kept c.apply.result c.line-line.result.number c.in-Classic.instruction c.args.memory.now c.apply.new.memory fits c.apply.ensures
