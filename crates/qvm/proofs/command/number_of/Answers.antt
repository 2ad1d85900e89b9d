use Rattle.qvm.proofs.Values.{parsed_number}
use Rattle.qvm.proofs.command.number_of.Goals as goal

pub returns : goal.returns
returns c = parsed_number c.args.digits.now c.parse.result c.ok.result c.requires c.parse.ensures.value.0 c.ok.ensures.value
