use Rattle.quil_number.proofs.Meanings.{lowest_terms}
use Rattle.quil_number.proofs.laws.lowest_terms.Goals as goal

pub returns : goal.returns
returns c = lowest_terms
