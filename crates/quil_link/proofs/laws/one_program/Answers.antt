use Rattle.quil_link.proofs.Loads.{one_loaded}
use Rattle.quil_link.proofs.laws.one_program.Goals as goal

pub returns : goal.returns
returns c = one_loaded c.one_tree.ensures.tree c.one_tree.ensures.fault c.one_tree.ensures.not_both
