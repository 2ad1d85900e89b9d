use Rattle.std.proofs.Common.{[], ◌∷◌, subst}
use Rattle.quil_number.specs.Places.{Are}
use Rattle.quil_number.proofs.Tenths.{too_fine_behind}
use Rattle.quil_number.proofs.places.Places.behind_one.Goals as goal

pub returns-in-TooFine : goal.returns-in-TooFine
returns-in-TooFine c ds h = too_fine_behind (c.args.digit ∷ []) ds (subst (λ x. Are ds x) c.in-TooFine.is h)
