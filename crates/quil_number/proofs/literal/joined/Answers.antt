use Rattle.std.proofs.Common.{subst, sym}
use Rattle.quil_number.specs.Places.{Are}
use Rattle.quil_number.proofs.Values.{joined_fine}
use Rattle.quil_number.proofs.literal.joined.Goals as goal

pub returns-in-TooFine : goal.returns-in-TooFine
returns-in-TooFine c ls rs e h = sym (joined_fine ls rs (subst (λ x. Are rs x) c.in-TooFine.is h))
