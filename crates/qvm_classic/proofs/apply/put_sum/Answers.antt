use Rattle.std.proofs.Common.{to_z-of_z}
use Rattle.quil_code.specs.Classic.{sum_of}
use Rattle.qvm_classic.proofs.Fits.{put_result}
use Rattle.qvm_classic.proofs.apply.put_sum.Goals as goal

pub returns : goal.returns
returns c = put_result c.put.result c.args.line c.args.kind c.cell_type.result c.args.target c.sum_of.result (sum_of c.args.operation c.args.x c.args.y) c.args.memory.now c.put.new.memory c.put.ensures c.cell_type.ensures (rw (to_z-of_z c.ranges.x, to_z-of_z c.ranges.y) at c.sum_of.ensures)
