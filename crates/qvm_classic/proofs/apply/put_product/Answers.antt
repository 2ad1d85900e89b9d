use Rattle.std.proofs.Common.{to_z-of_z, refl, ◌*ℤ◌}
use Rattle.quil_memory.specs.declared.cell_type.CellType.TheVariants as cell_type
use Rattle.quil_code.specs.declared.classic.Arithmetic.TheVariants.{Integer}
use Rattle.qvm_classic.proofs.Fits.{put_result}
use Rattle.qvm_classic.proofs.apply.put_product.Goals as goal

pub returns : goal.returns
returns c = put_result c.put.result c.args.line Integer cell_type.Integer c.args.target c.product_of.result (c.args.x *ℤ c.args.y) c.args.memory.now c.put.new.memory c.put.ensures refl (rw (to_z-of_z c.ranges.x, to_z-of_z c.ranges.y) at c.product_of.ensures)
