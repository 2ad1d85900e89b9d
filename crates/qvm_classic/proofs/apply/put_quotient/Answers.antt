use Rattle.std.proofs.Common.{to_z-of_z, of_z, w64, ap, refl}
use Rattle.std.specs.Prelude.{int_div}
use Rattle.quil_memory.specs.declared.cell_type.CellType.TheVariants as cell_type
use Rattle.quil_code.specs.declared.classic.Arithmetic.TheVariants.{Integer}
use Rattle.qvm_classic.proofs.Fits.{put_result, not_zero}
use Rattle.qvm_classic.proofs.apply.put_quotient.Goals as goal

pub returns : goal.returns
returns c = rw (not_zero c.args.y (λ e. c.if-y-eq0.false (ap (of_z w64) e))) (put_result c.put.result c.args.line Integer cell_type.Integer c.args.target c.quotient_of.result (int_div c.args.x c.args.y) c.args.memory.now c.put.new.memory c.put.ensures refl (rw (to_z-of_z c.ranges.x, to_z-of_z c.ranges.y) at c.quotient_of.ensures))
