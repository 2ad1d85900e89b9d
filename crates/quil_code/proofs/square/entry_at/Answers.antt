use Rattle.std.proofs.Common.{◌∙◌, ap}
use Rattle.qvm_ring.specs.Views.{at, elements_of}
use Rattle.quil_code.proofs.Matrices.{at_or_zero}
use Rattle.quil_code.proofs.square.entry_at.Goals as goal

pub returns-clause-value : goal.returns-clause-value
returns-clause-value c = at_or_zero c.args.square.now.entries c.place_of.result ∙ ap (at (elements_of c.args.square.now.entries)) c.place_of.ensures.value
