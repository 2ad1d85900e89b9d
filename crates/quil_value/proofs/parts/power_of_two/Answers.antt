use Rattle.std.proofs.Common.{◌≤◌, ◌^◌, arith}
use Rattle.std.proofs.Math.Pow.{pow_mono}
use Rattle.quil_value.proofs.parts.power_of_two.Goals as goal

pub returns-clause-bound : goal.returns-clause-bound
returns-clause-bound c = let small : 2 ^ c.args.k ≤ 2 ^ 62 = pow_mono c.requires in omega (arith, small)
