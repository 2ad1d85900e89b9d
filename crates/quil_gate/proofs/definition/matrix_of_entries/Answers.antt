use Rattle.std.proofs.Common.{refl, length, arith}
use Rattle.quil_gate.proofs.Matrices.{room_for, too_great}
use Rattle.quil_gate.proofs.definition.matrix_of_entries.Goals as goal

pub numerators-requires : goal.numerators-requires
numerators-requires c = room_for c.args.arity (length c.args.entries.now) c.requires.few c.requires.all

pub returns-in-None : goal.returns-in-None
returns-in-None c =
    too_great c.args.arity c.greatest_power-root_twos.result c.args.entries.now c.greatest_power-root_twos.ensures (omega (arith, c.if-root_twos-gt-MOST_ROOT_TWOS.false)) c.requires.all (c.in-None.ensures.none refl)
