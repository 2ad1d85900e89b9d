use Rattle.quil_memory.proofs.Written.{reads_back}
use Rattle.quil_memory.proofs.laws.written_cell_reads_back.Goals as goal

pub returns : goal.returns
returns c = reads_back
