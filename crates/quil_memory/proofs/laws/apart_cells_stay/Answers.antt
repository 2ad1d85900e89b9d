use Rattle.quil_memory.proofs.Written.{apart}
use Rattle.quil_memory.proofs.laws.apart_cells_stay.Goals as goal

pub returns : goal.returns
returns c = apart
