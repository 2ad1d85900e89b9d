use Rattle.quil_lex.proofs.Apart.{stands_apart}
use Rattle.quil_lex.proofs.scan.tokens_stand_apart.Goals as goal

pub returns : goal.returns
returns c = stands_apart
